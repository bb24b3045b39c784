pub mod Asking
pub mod Changing
pub mod Walking
pub mod Groups
pub mod Joined
pub mod Mapped
