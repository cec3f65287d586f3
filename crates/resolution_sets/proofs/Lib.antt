-- Laws that the proofs of this crate, and of those above it, cite.
pub mod SetLaws
pub mod OccurrencesLaws
pub mod BlockingLaws
pub mod DenominatorLaws
