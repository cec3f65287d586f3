-- The documents' proved samples.
pub mod Samples
pub mod PointSamples
