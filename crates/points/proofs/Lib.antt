-- Shares by computing, their laws, the answers of marks and point case by case, and what is claimed of them.
pub mod Examples
pub mod ShareLaws
pub mod PointsAnswer
pub mod Theorems
