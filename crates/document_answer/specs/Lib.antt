pub mod Status
pub mod Print
pub mod Run
pub mod Filled
pub mod DocumentView
pub mod FaultText
pub mod TellsFault
pub mod Limited
