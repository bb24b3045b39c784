pub mod Driven
pub mod Table
pub mod TableEqual
