pub mod Keys
pub mod Progress
pub mod Ways
