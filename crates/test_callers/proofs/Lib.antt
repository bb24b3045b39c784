pub mod Found
pub mod Together
