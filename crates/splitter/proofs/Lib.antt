-- The answers of `split`.
pub mod Answers
