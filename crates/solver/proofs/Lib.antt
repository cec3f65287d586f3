-- Laws of the operations: of the tables of a prefix, and of what the search is lent of a file and answers of it.
pub mod TableLaws
pub mod AnswerLaws
