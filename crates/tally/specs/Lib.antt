-- What the tally takes in, and its five counts.
pub mod Tally
