-- Laws of quantifiers by their weights, and of a part of a prefix.
pub mod PrefixLaws
