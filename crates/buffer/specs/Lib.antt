-- Texts as bytes, and a buffer that they are put into.
pub mod Text
