-- The rules of reading, as definitions, over the trees of `syntax` and the operators of `operators`. Atom: what an atom starts with.
-- Rules: how tokens are read. Memory is the same rules for the functions, with the row table passed along.
pub mod Atom
pub mod Rules
pub mod Memory
