-- A notice, computed.
pub mod ExampleNotice
