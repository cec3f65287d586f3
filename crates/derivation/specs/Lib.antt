-- Derivation files: what stands in them, and the check's answer.
pub mod DerivationFile
pub mod Check
pub mod WellFormed
pub mod Derives
