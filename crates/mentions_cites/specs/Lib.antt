pub mod Mentions
pub mod NotedNames
pub mod Requests
pub mod ByPlaces
pub mod Cites
pub mod ToldView
pub mod Arranging
pub mod Repeats
