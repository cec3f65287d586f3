-- Laws of the derivation file's definitions, and the theorems about the check's answer.
pub mod LineLaws
pub mod CheckLaws
pub mod Theorems
pub mod Figure
