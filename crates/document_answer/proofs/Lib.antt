pub mod Consumed
pub mod Refusals
pub mod Written
pub mod LimitSteps
pub mod Resolved
pub mod Reading
