pub mod Counted
pub mod Tasks
pub mod TaskView
pub mod Writing
pub mod Desk
