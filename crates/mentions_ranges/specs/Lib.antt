pub mod Stretches
pub mod NumberRanges
pub mod SuffixStretches
pub mod Links
pub mod ReadBack
