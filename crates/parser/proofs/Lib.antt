-- What the inner functions give is what `parse` promises; and what an accepted parse writes is one whole tree.
pub mod PromiseKept
pub mod RowsAreOneTree
