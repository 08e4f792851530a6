-- Laws of tests and of the lookups that they make, for the crate above.
pub mod TestsByShape
pub mod PartialLookups
