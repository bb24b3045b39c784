pub mod Cuts
pub mod EtAl
pub mod NameForms
