-- The limits of files.
pub mod Limits
