pub mod Asked
pub mod Tables
pub mod Steps
