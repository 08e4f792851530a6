-- What the contracts of `numbers` say, as definitions: read Number.
pub mod Number
pub mod Run
