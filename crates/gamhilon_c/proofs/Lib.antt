pub mod Calls
pub mod Rings
pub mod Faults
pub mod Limited
pub mod DrivenCalls
pub mod TextCalls
