-- Laws of the program's results, and the theorem on its counts.
pub mod ResultsLaws
