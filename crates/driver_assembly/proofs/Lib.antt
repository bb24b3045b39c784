pub mod Joined
pub mod Taken
pub mod Equal
pub mod Asked
pub mod Seen
pub mod Paired
