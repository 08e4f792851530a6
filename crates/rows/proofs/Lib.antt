-- Laws of the layout, of parts of a row table, and of operands on a stack, for the crates above.
pub mod Laws
pub mod Numbers
pub mod Parts
pub mod StackedOperands
