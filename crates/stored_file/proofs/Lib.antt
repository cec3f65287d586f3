-- Laws of the pass over the clauses of a stored file, and of what such a file holds.
pub mod StoredLaws
pub mod FileLaws
