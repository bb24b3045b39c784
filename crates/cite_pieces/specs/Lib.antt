pub mod Joints
pub mod Levels
pub mod Marked
pub mod Nesting
