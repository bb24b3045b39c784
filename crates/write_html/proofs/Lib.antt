pub mod Appended
pub mod Bases
pub mod Links
pub mod Pushed
pub mod Streams
pub mod Texts
