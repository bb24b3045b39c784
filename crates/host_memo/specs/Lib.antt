pub mod HostStyle
pub mod Keys
pub mod Written
pub mod Memo
