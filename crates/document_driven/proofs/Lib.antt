pub mod DrivenMembers
pub mod Absent
pub mod JobOf
pub mod Tasks
pub mod DrivenRead
