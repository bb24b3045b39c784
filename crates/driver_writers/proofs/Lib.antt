pub mod TasksDone
pub mod Counting
