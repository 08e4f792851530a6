-- Laws of clause lists: joining them crosswise, their sizes, which rows they come from, counting them, and what they mean.
pub mod Crossing
pub mod Sizes
pub mod Sources
pub mod Counting
pub mod Meaning
