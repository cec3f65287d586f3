-- Laws of clauses as they stand in a file.
pub mod ClauseLaws
