pub mod Pairs
pub mod Growing
pub mod SuffixLaws
pub mod Ambiguous
pub mod Shown
pub mod TellingLaws
