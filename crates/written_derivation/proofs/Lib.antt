-- Laws of a path's opposites, of lines, of the walk, of the file and of the writer's answer; then the theorems over
-- them.
pub mod Leaving
pub mod PathOppositesLaws
pub mod LinesLaws
pub mod JoinLaws
pub mod WalkLaws
pub mod AnyLines
pub mod NodeSteps
pub mod ReadLaws
pub mod FileLaws
pub mod Derives
pub mod DeriveLaws
pub mod Theorems
