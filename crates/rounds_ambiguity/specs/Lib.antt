pub mod Members
pub mod Ambiguity
pub mod ChooseMarks
pub mod SuffixMarks
pub mod InRange
pub mod ClassesSoFar
pub mod FirstCites
pub mod MarkLaws
