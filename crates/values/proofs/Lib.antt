-- Laws of values, of their patterns and of their constants.
pub mod NanPatterns
pub mod SignedPatterns
pub mod ConstantsReadBack
