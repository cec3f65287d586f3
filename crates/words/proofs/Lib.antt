-- The first copy, computed; laws of walks, of the first copy, of words and parts of a file, of words as bytes and put
-- into a buffer, and that words are read back from their bytes.
pub mod Examples
pub mod WalkLaws
pub mod FirstCopyLaws
pub mod WordsLaws
pub mod BytesLaws
pub mod PutLaws
pub mod WordsBack
