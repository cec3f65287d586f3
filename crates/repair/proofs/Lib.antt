-- The definitions, computed; laws of repaired clauses, of what they mean, of the pass over a clause, of a rule file
-- from its parts, of what is held after each clause, of the answer and of the pass over a stored file; then the theorems
-- over them.
pub mod Examples
pub mod ListLaws
pub mod MeaningLaws
pub mod ScanLaws
pub mod FormulaWords
pub mod ReadBack
pub mod HeldLaws
pub mod AnswerLaws
pub mod PassLaws
pub mod RepairLaws
pub mod Theorems
