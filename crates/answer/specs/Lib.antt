-- What an operation answers, and what a lent buffer then holds.
pub mod Answer
