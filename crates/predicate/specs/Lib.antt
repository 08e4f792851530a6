-- What the contracts of `predicate` say, as definitions: read Kind and Row for what a row may be, then Tree, then Read for which rows are a predicate.
pub mod Kind
pub mod Row
pub mod Tree
pub mod Read
pub mod Check
