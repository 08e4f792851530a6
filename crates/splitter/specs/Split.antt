-- What `split` answers and leaves in the lent lists (FORMAT §8 and §11), and that this means the predicate.
use Rattle.std.specs.Prelude.{Result, Ok, Err, ℕ, ◌≡◌, true, false, ◌||◌, List, [], ◌∷◌, ◌++◌, length, take, drop, ltb}
use Rattle.limits.specs.Limits.{clauses_max, literals_max}
use Rattle.refusals.specs.Refusal.{refusal_number, refused as refusal_at}
use Rattle.refusals.specs.declared.Refusal.TheVariants.{TooMany, NoList}
use Rattle.refusals.specs.declared.Refused.{Refused}
use Rattle.predicate.specs.Tree.{Tree}
use Rattle.predicate.specs.Read.{Reading, one, refused, read_rows}
use Rattle.cnf.specs.Clause.{Literal, clauses, total, literal_numbers, ends_from}
use Rattle.cnf.specs.Kleene.{read_back, Means}
use Rattle.splitter.specs.declared.Listed.{Listed}

-- c clauses with m literals in all
abbrev pub listed : ℕ → ℕ → Listed
listed c m = record { clauses = c; literals = m }

-- an answer, and what the lists hold then
pub record Split : Type 0 where
  pub answer : Result Listed Refused
  pub literals : List ℕ
  pub ends : List ℕ

-- a clause list, where the lent lists hold a and d: too many; then a list too short; else the numbers, with what stood after them
unfoldable pub list_of : List (List Literal) → List ℕ → List ℕ → Split
list_of cs a d =
    elim (ltb clauses_max (length cs) || ltb literals_max (total cs)) [
      | true ↦ record { answer = Err (refusal_at TooMany 0); literals = a; ends = d }
      | false ↦
          elim (ltb (length a) (total cs) || ltb (length d) (length cs)) [
            | true ↦ record { answer = Err (refusal_at NoList 0); literals = a; ends = d }
            | false ↦
                record {
                  answer = Ok (listed (length cs) (total cs));
                  literals = literal_numbers cs ++ drop (total cs) a;
                  ends = ends_from 0 cs ++ drop (length cs) d;
                }
          ]
    ]

-- what rows are read as: a refusal, or the clause list of a tree
unfoldable pub split_of : Reading → List ℕ → List ℕ → Split
split_of (refused why place) a d = record { answer = Err (refusal_at why place); literals = a; ends = d }
split_of (one t) a d = list_of (clauses false t) a d

-- v is answered, and the lists then hold b and e, as s has it
pub record Gives (s : Split) (v : Result Listed Refused) (b e : List ℕ) : Type 0 where
  pub answer : v ≡ s.answer
  pub literals : b ≡ s.literals
  pub ends : e ≡ s.ends

-- ---- the numbers that an answer is for a C caller (FORMAT §11.8): what is returned, and then what is handed out

-- 0, how many clauses there are, and how many literals; or the refusal's number, its place, and 0
unfoldable pub split_numbers : Result Listed Refused → List ℕ
split_numbers (Ok l) = 0 ∷ l.clauses ∷ l.literals ∷ []
split_numbers (Err e) = refusal_number e.why ∷ e.place ∷ 0 ∷ []

-- ---- the promise

-- What is answered and left is `split_of` of the rows, and so are the numbers for a C caller; and where clauses are answered, the numbers in the lists
-- mean the predicate
pub record Splits (text rows a d : List ℕ) (v : Result Listed Refused) (b e : List ℕ) : Type 0 where
  pub gives : Gives (split_of (read_rows text rows) a d) v b e
  pub numbers : split_numbers v ≡ split_numbers (split_of (read_rows text rows) a d).answer
  pub means : (t : Tree) (c m : ℕ) → read_rows text rows ≡ one t → v ≡ Ok (listed c m) → Means t (read_back b 0 (take c e))
