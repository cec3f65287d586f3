-- Laws of the rests of clauses, of the level rules and of the amount, and of what an answer tells; the numbers over the
-- tree as amounts.
pub mod Examples
pub mod RestLaws
pub mod LevelLaws
pub mod GoalLaws
pub mod AmountLaws
pub mod SettleLaws
pub mod FigureAmount
pub mod ExcludeLaws
pub mod UnitAmount
pub mod CutAmount
pub mod WindowLaws
