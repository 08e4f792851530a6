-- What the clauses of a predicate are: read Clause for the clause list, and Kleene for what it means. Source and Size say where they come from and
-- how many they are.
pub mod Clause
pub mod Kleene
pub mod Source
pub mod Size
