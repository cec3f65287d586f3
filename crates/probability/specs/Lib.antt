-- The maximum probability of satisfaction of a stochastic Boolean formula: fractions, propositional formulas, Pr.
pub mod Fraction
pub mod Probability
