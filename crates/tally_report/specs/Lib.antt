-- What the program ssat_tally prints.
pub mod TallyReport
