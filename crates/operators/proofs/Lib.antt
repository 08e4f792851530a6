-- Laws of the definitions that the functions' proofs, here and in the crates above, cite.
pub mod Among
