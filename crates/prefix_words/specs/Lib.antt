-- A prefix as it stands in a file.
pub mod Prefix
