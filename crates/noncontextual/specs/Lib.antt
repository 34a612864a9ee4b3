-- The non-contextual pass.
pub mod NonContextual
pub mod Work
