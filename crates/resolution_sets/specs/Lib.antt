-- Tables over a rule file that S-resolution's tests read.
pub mod Occurrences
pub mod Denominators
