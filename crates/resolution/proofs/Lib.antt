-- The check of a derivation is the rules of S-resolution, the rules are sound, and R.2 and R.3 are 004's.
pub mod Others
pub mod Check
pub mod Levels
pub mod Soundness
pub mod Implied
pub mod Bounds
pub mod Derivations
