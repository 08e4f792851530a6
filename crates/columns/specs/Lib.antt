-- Which clauses are lookups on a column, and their values: Lookup. Partial is how the functions find that out.
pub mod Lookup
pub mod Partial
