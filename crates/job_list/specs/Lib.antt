-- Document 02's job list.
pub mod Find
pub mod JobList
pub mod ListLine
