-- Rule files: what stands in one, the limits in which readers differ, the readers' answers, what an accepted file
-- holds, what is claimed of two readers, and the clauses as masks.
pub mod RuleFile
pub mod ReaderLimits
pub mod Reader
pub mod Checks
pub mod Accepted
pub mod Opened
pub mod TwoReaders
pub mod Masks
