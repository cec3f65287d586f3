-- What the marks and the point of a cut answer, and what is claimed of them.
pub mod Points
pub mod Plotted
pub mod Claims
