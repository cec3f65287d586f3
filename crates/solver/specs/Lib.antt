-- What the operations alone need: what the search is lent of a file, and the tables of a prefix.
pub mod FileTables
pub mod Table
