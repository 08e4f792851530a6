-- What `split` promises, as a definition. The clause list and what it means are those of `cnf`.
pub mod Split
