-- Laws of the limits, of lines as they are written, of sets of clauses, of levels, of sets as clauses, of the walk at a
-- node, of what it leaves there and of the answer.
pub mod LimitLaws
pub mod LineLaws
pub mod ClauseSetLaws
pub mod LevelLaws
pub mod SetClauses
pub mod WalkNode
pub mod Outcomes
pub mod DeriveLaws
