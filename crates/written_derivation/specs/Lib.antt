-- Derivations written for a rule file: the walk over lists, the file as bytes, the writer's answer, and what is claimed
-- of what is written.
pub mod Writing
pub mod File
pub mod Derive
pub mod Claims
