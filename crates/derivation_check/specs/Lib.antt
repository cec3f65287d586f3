-- What the check of a derivation keeps and is given.
pub mod Parent
pub mod Starts
pub mod Judging
