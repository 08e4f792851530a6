-- The worked examples, as a table of what the definitions say and what FORMAT §12 says.
pub mod Said
pub mod Table
