-- What the C functions promise (FORMAT §11.8): the entry's own promise, of the answer whose numbers are returned and handed out. Which numbers an answer
-- is, the entry's crate says.
use Rattle.std.specs.Prelude.{◌≡◌, Result, ℕ, List, [], ◌∷◌}
use Rattle.limits.specs.Limits.{levels_max}
use Rattle.parser.specs.Promise.{Parses, parse_numbers}
use Rattle.refusals.specs.declared.Refused.{Refused}
use Rattle.splitter.specs.Split.{Splits, split_numbers}
use Rattle.splitter.specs.declared.Listed.{Listed}
use Rattle.lookup.specs.Answer.{LooksUp, looked_up_numbers, FindsValue, found_numbers}
use Rattle.lookup.specs.declared.ColumnLookup.{ColumnLookup}
use Rattle.values.specs.declared.Value.{Value}

-- r is returned, and `at` handed out
pub record ParsesTo (text tokens t u : List ℕ) (r at : ℕ) : Type 0 where
  pub answer : Result ℕ Refused
  pub parses : Parses levels_max text tokens t answer u
  pub numbers : r ∷ at ∷ [] ≡ parse_numbers answer

-- r is returned, `clauses` and `total` are handed out
pub record SplitsTo (text rows a d b e : List ℕ) (r clauses total : ℕ) : Type 0 where
  pub answer : Result Listed Refused
  pub splits : Splits text rows a d answer b e
  pub numbers : r ∷ clauses ∷ total ∷ [] ≡ split_numbers answer

-- r is returned, `column` and `count` are handed out
pub record LooksUpTo (text rows : List ℕ) (clause r column count : ℕ) : Type 0 where
  pub answer : Result ColumnLookup Refused
  pub looks : LooksUp text rows clause answer
  pub numbers : r ∷ column ∷ count ∷ [] ≡ looked_up_numbers answer

-- r is returned, and a constant's three numbers are handed out
pub record FindsValueTo (text rows : List ℕ) (clause n r kind x y : ℕ) : Type 0 where
  pub answer : Result Value Refused
  pub finds : FindsValue text rows clause n answer
  pub numbers : r ∷ kind ∷ x ∷ y ∷ [] ≡ found_numbers answer
