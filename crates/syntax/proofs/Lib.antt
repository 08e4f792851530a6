-- Laws of syntax rows: how long they are, and that a tree's rows are read back as that tree.
pub mod Lengths
pub mod RowsReadBack
