-- Laws of chains and their heads, and that a predicate's clauses are prepended and written.
pub mod Chains
pub mod PrependedClauses
pub mod PrependLoop
pub mod WrittenClauses
