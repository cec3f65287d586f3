-- What an answer that is no refusal has passed.
pub mod AnswerLaws
