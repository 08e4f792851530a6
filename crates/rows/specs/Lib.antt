-- What the contracts of `rows` say, as definitions: the layout of a row table, what a row says of itself, and rows in post-order.
pub mod Layout
pub mod Label
pub mod PostOrder
