pub mod Faults
pub mod Reads
pub mod Words
pub mod Tables
pub mod Names
