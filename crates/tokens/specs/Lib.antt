-- What the contracts of `tokens` say, as definitions: read Kind for the numbers, then Token.
pub mod Kind
pub mod Token
