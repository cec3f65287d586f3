-- Sets of small numbers as the bits of one number.
pub mod BitSet
