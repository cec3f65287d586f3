-- What the figure, the verdict and the cut answer; and demand 3 over their answers.
pub mod Value
pub mod Cut
pub mod Demand3Files
