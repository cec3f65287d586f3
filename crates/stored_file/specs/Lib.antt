-- The sets of a stored file's clauses.
pub mod Sets
pub mod Stored
pub mod Opened
