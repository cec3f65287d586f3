-- Laws of the tally, and its theorem.
pub mod TallyLaws
