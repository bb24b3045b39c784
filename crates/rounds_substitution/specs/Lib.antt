pub mod Names
pub mod Rewriting
pub mod Rules
pub mod Substitution
pub mod ItemView
pub mod Changes
pub mod Laws
