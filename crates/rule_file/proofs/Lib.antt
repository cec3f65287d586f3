-- Laws of the reader's definitions and of what an accepted file holds, which the proofs of this crate and of those
-- above it cite.
pub mod ReaderLaws
pub mod AcceptedLaws
pub mod TwoReaders
pub mod FileLaws
