pub mod Assembly
pub mod LastTree
pub mod CitationTree
pub mod ShownView
pub mod ChildOf
pub mod BibliographyItems
pub mod WithoutEmpty
pub mod ByMeans
