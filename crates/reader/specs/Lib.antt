-- What the contracts of `reader` say beside the rules of `grammar`. No entry's promise names these files.
pub mod Level
pub mod Shortcut
