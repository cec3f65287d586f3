-- Laws of the search for a copy: of sets in chains, by sets, clause by clause, and pair by pair.
pub mod ChainLaws
pub mod SetLaws
pub mod NoCopyLaws
pub mod PairLaws
