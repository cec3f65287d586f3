-- That the figure out of the denominator is the maximum probability of satisfaction.
pub mod FractionLaws
pub mod Truth
pub mod Figure
