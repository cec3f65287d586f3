-- Laws of the answers of the figure, the verdict and the cut: that the figure answered is Pr, and demand 3.
pub mod ValueLaws
pub mod FigureIsPr
pub mod CutAnswer
pub mod Demand3Files
