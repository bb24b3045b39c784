-- The proofs of this crate.
pub mod Trees
pub mod Accepted
pub mod Compare
pub mod Joining
pub mod Simplifying
pub mod SimplifyLaws
pub mod LastTextSteps
pub mod FirstNamesSteps
pub mod Nested
pub mod FirstPlace
pub mod LastTextLaws
pub mod FirstNamesLaws
pub mod Lent
pub mod EqualTrees
