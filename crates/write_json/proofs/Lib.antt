pub mod AnswerObjects
pub mod Closing
pub mod Escaped
pub mod Items
pub mod Kids
pub mod Objects
pub mod Injective
