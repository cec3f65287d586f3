-- Laws of what is put into a buffer.
pub mod TextLaws
pub mod DecimalLaws
