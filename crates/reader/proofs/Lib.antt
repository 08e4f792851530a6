-- Laws of the shortcuts: what the functions' proofs cite.
pub mod SingleToken
