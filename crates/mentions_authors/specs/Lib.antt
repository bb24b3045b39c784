pub mod Repeated
pub mod Names
pub mod Substitution
