-- How listing goes about it: read Chain for clauses as chains of cells, Heads for what is done with their heads, and Listing for the whole.
pub mod Chain
pub mod Heads
pub mod Listing
