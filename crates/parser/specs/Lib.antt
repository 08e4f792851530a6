-- What the contracts of `parser` say, as definitions. Promise: what `parse` answers, by the rules of `grammar`. Inner: what its parts promise each
-- other.
pub mod Promise
pub mod Inner
