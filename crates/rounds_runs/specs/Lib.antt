pub mod FirstRenders
pub mod RoundMarks
pub mod Rounds
pub mod Tables
pub mod Rerenders
pub mod RunLaws
