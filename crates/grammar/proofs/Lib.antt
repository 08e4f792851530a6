-- Laws of the rules: what the functions' proofs cite, that rules in memory are the rules of trees, and the theorems about reading.
pub mod Answers
pub mod Loops
pub mod RuleCases
pub mod InTokens
pub mod Reached
pub mod CursorAdvances
pub mod RowWritten
pub mod LaidOut
pub mod MemoryFollowsTrees
pub mod Readings
pub mod OperatorRowsFit
pub mod ReadingAdvances
pub mod TurnsSuffice
pub mod SmallerTable
pub mod RoomForEveryToken
