-- The text of a tally, computed.
pub mod ExampleSheet
