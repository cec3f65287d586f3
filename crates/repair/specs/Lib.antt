-- The repair of a rule file: its clauses over lists, a rule file from its parts, the operation's answer, how far the
-- code has written, and what is claimed of a repaired file.
pub mod Clauses
pub mod File
pub mod Repair
pub mod Progress
pub mod Claims
