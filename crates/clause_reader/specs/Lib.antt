-- The clause reader over bytes.
pub mod Cursor
