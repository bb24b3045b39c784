pub mod Address
pub mod Names
pub mod Nesting
pub mod Page
pub mod Reading
pub mod Shown
pub mod Text
