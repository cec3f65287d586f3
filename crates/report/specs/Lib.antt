-- The text that the program prints for a rule file.
pub mod Report
