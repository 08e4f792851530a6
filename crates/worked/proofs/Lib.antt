-- The worked examples, proved.
pub mod Examples
