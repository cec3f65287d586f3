-- What the quantifiers of the code mean.
pub mod Quantifiers
