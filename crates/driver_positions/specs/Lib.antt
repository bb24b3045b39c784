pub mod FirstProperties
pub mod Seen
pub mod FinalProperties
pub mod FinalSteps
