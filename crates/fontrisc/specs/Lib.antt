-- What the C functions hand out.
pub mod Face
