-- The claims over the samples, and the program's text for the example.
pub mod Claim
pub mod PointClaim
pub mod ExampleText
