-- What the program ssat_repair prints for a rule file.
pub mod RepairReport
