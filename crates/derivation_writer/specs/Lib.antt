-- How the writer carries what it has written, which the code alone needs.
pub mod Line
pub mod Sets
pub mod Writer
