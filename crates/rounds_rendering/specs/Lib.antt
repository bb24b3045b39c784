pub mod AfterRounds
pub mod CitesOfTable
pub mod Gathered
