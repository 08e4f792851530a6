-- What is promised of `lookup` and `value_at`: read Cell and Meaning, then Answer. Which clauses are lookups is said in `columns`, what a value is in `values`.
pub mod Cell
pub mod Meaning
pub mod Answer
pub mod ByNumber
