pub mod Content
pub mod HeldText
pub mod Stack
pub mod Seq
