-- Clauses as they stand in a file.
pub mod Clauses
