-- The number of each refusal (FORMAT §11), and a refusal at a place.
use Rattle.std.specs.Prelude.{ℕ}
use Rattle.refusals.specs.declared.Refusal.{Refusal}
use Rattle.refusals.specs.declared.Refused.{Refused}
use Rattle.refusals.specs.declared.Refusal.TheVariants.{TooLong, BadTable, End, NoAtom, NeedClose, NeedComma, NeedName, NeedNullOrNan}
use Rattle.refusals.specs.declared.Refusal.TheVariants.{LeftOver, BadNumber, TooDeep, NoRoom, BadTree, TooMany, NoList, NotLookup, NoSuch}

abbrev pub refusal_number : Refusal → ℕ
refusal_number TooLong = 1
refusal_number BadTable = 2
refusal_number End = 3
refusal_number NoAtom = 4
refusal_number NeedClose = 5
refusal_number NeedComma = 5
refusal_number NeedName = 5
refusal_number NeedNullOrNan = 5
refusal_number LeftOver = 6
refusal_number BadNumber = 7
refusal_number TooDeep = 8
refusal_number NoRoom = 9
refusal_number BadTree = 10
refusal_number TooMany = 11
refusal_number NoList = 12
refusal_number NotLookup = 13
refusal_number NoSuch = 14

-- a refusal, and its place
abbrev pub refused : Refusal → ℕ → Refused
refused why place = record { why = why; place = place }
