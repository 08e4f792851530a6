-- Values and constants.
pub mod Value
