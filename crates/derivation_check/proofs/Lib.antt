-- Laws of what the check keeps, looks up and judges.
pub mod LineSteps
pub mod StartsLaws
pub mod StartsWalked
pub mod FilesLaws
pub mod ParentLaws
pub mod JudgeLaws
pub mod ResolventLaws
pub mod ClosingLaws
