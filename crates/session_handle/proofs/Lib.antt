pub mod LooseValues
pub mod Values
