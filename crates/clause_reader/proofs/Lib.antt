-- Laws of the clause reader's definitions.
pub mod CursorLaws
pub mod ReaderLaws
