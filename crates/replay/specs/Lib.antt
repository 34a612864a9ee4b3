-- The sample.
pub mod Results
