pub mod Ordering
pub mod Walking
