-- Syntax rows: Kind has their kinds, Tree the trees and the rows of a tree, Read the rows read back as a tree.
pub mod Kind
pub mod Tree
pub mod Read
