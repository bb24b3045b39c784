pub mod DrivenStyles
pub mod DrivenForm
pub mod Drive
pub mod DrivenView
