-- Elements that stand one after another in a file, its words and parts, and words as bytes.
pub mod Walk
pub mod Words
pub mod Bytes
