-- What the program ssat_derive prints for a rule file.
pub mod DeriveReport
