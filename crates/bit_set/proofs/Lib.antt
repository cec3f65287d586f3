-- Laws of bit operations, of sets made of bits, of single numbers and pairs, and of a set's members as a list.
pub mod BitLaws
pub mod BitSetLaws
pub mod DigitLaws
pub mod PartLaws
pub mod PairLaws
pub mod MemberLaws
