pub mod Knowing
pub mod Noting
