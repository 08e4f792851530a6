-- What `parse` answers, the numbers that the answer is for a C caller, and the row table as it leaves it: all are determined (FORMAT §4, §5 and §11).
use Rattle.std.specs.Prelude.{◌≡◌, Result, Ok, Err, ℕ, ◌*◌, List, [], ◌∷◌, ◌++◌, length, drop, replicate}
use Rattle.refusals.specs.Refusal.{refusal_number, refused}
use Rattle.refusals.specs.declared.Refused.{Refused}
use Rattle.tokens.specs.Token.{check_table}
use Rattle.rows.specs.Layout.{width, capacity}
use Rattle.syntax.specs.Tree.{size, rows_of}
use Rattle.grammar.specs.Rules.{Reading, done, refuse, whole_expression}

-- a reading, where the token table is good; else what its check refuses
abbrev pub after_check : Result ℕ Refused → Reading → Reading
after_check (Ok n) o = o
after_check (Err e) o = refuse e.why e.place

-- the token table's check, then all tokens as one expression, with so many rows and levels
unfoldable pub parsing : List ℕ → List ℕ → ℕ → ℕ → Reading
parsing text ts cap levels = after_check (check_table text ts) (whole_expression text ts cap levels)

-- ---- what a reading comes to

-- the number of rows, or the refusal
abbrev pub answer_of : Reading → Result ℕ Refused
answer_of (done at used x) = Ok (size x)
answer_of (refuse why at) = Err (refused why at)

-- the tree's rows, and after them what stood there before; or zeros
abbrev pub table_of : List ℕ → Reading → List ℕ
table_of t (done at used x) = rows_of 0 x ++ drop (size x * width) t
table_of t (refuse why at) = replicate (length t) 0

-- ---- the numbers that it is for a C caller (FORMAT §11.8): what is returned, and then what is handed out

-- of an answer: 0 and how many rows were written; or the refusal's number and its place
unfoldable pub parse_numbers : Result ℕ Refused → List ℕ
parse_numbers (Ok n) = 0 ∷ n ∷ []
parse_numbers (Err e) = refusal_number e.why ∷ e.place ∷ []

-- and of what a reading comes to
abbrev pub reading_numbers : Reading → List ℕ
reading_numbers (done at used x) = 0 ∷ size x ∷ []
reading_numbers (refuse why at) = refusal_number why ∷ at ∷ []

-- ---- the promise

-- over the table t, the answer r, its numbers and the table u are what the reading o says
pub record Answers (o : Reading) (t : List ℕ) (r : Result ℕ Refused) (u : List ℕ) : Type 0 where
  pub answer : r ≡ answer_of o
  pub table : u ≡ table_of t o
  pub numbers : parse_numbers r ≡ reading_numbers o

-- parsing with so many levels into the table t answers r and leaves the table u
abbrev pub Parses : ℕ → List ℕ → List ℕ → List ℕ → Result ℕ Refused → List ℕ → Type 0
Parses levels text ts t r u = Answers (parsing text ts (capacity t) levels) t r u
