-- Laws of the job list: where its texts end, and a line in document 02's words.
pub mod SplitLaws
pub mod LimitLaws
pub mod LineLaws
pub mod ListLaws
pub mod ListLineLaws
