pub mod Notes
pub mod Known
pub mod Requests
pub mod Repeats
pub mod Noted
