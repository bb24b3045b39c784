pub mod Tests
pub mod Wholes
pub mod Stepping
pub mod Members
