-- What this program promises of the fields of a line.
pub mod Fields
