-- The meaning of a stochastic formula, over lists: statuses, tests over lists, readings of literals and the statuses
-- under them, document 01's literals and clauses, the documents' words for a node, levels, document 01's quantifiers, the
-- tree of assignments; and graded literals and quantifiers.
pub mod Status
pub mod Lists
pub mod Literals
pub mod Formula
pub mod Nodes
pub mod LevelRules
pub mod Quantifier
pub mod Tree
pub mod Graded
