-- What the contracts of several crates cite.
pub mod Places
