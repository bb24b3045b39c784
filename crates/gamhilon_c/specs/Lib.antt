pub mod Called
pub mod Ring
pub mod FindsFault
pub mod KeepsLimits
pub mod CalledDriven
pub mod OfTexts
pub mod OfSessions
