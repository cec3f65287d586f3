-- The amount of a formula, from the rests of its clauses: what a search computes, and what its answers tell.
pub mod Rests
pub mod Amount
pub mod Levels
pub mod Window
