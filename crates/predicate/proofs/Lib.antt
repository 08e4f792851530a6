-- Laws of predicates, for the crates above: which class a kind has, the tree at a row and a row whose shape is known, rows read in order, and what
-- accepted rows are.
pub mod Classes
pub mod Trees
pub mod Shapes
pub mod Stacks
pub mod CheckLoop
pub mod Accepted
pub mod RowsOfTree
