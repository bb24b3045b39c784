pub mod Members
pub mod MetaData
pub mod TreeData
pub mod AnswerData
pub mod Pieces
