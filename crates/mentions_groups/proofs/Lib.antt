pub mod Classing
pub mod Reading
pub mod Suffixing
pub mod Numbering
pub mod Naming
pub mod Finding
