pub mod Pairs
pub mod Nesting
pub mod Plain
pub mod Tables
pub mod Fields
pub mod ReadBack
