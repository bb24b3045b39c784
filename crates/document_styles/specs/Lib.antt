pub mod Options
pub mod Elements
pub mod Locales
pub mod Styles
pub mod NamedStyleView
