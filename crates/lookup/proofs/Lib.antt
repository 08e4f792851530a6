-- `LookupMatches` has the theorem: a lookup keeps exactly the right cells. `ChoiceOfCells` says that it and the theorem of `split` speak of the same values.
pub mod HeldCounts
pub mod ClauseOfJoined
pub mod EqualSymmetric
pub mod LookupMatches
pub mod ChoiceOfCells
pub mod AnswerOfClause
pub mod LookupMeans
