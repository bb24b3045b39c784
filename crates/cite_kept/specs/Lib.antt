pub mod KeptValues
pub mod Known
