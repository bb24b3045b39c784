pub mod Steps
pub mod Quotes
pub mod Cuts
pub mod OpenFrames
pub mod Edits
pub mod WritingState
pub mod Wording
pub mod ContextView
