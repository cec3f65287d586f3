-- What the search for a copy is given of clauses in a file, and sets in chains.
pub mod Copies
pub mod Chains
