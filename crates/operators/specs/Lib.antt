-- What the contracts of `operators` say, as definitions.
pub mod Operator
