-- What the definitions say of an input, as numbers: 0 and the answer's numbers, or a refusal's number and its place.
use Rattle.std.specs.Prelude.{ℕ, ◌+◌, List, [], ◌∷◌, ◌++◌, false}
use Rattle.limits.specs.Limits.{rows_max, levels_max}
use Rattle.refusals.specs.Refusal.{refusal_number}
use Rattle.syntax.specs.Tree.{rows_of}
use Rattle.grammar.specs.Rules as rules
use Rattle.parser.specs.Promise.{parsing}
use Rattle.predicate.specs.Read.{Reading, one, refused, read_rows}
use Rattle.cnf.specs.Clause as clause
use Rattle.values.specs.Value.{constant_of, constant_numbers}
use Rattle.lookup.specs.Answer.{Lookup, on_column, refuse, lookup_of}
use Rattle.values.specs.declared.Value.{Value}

-- tokens of one byte each, from place i of a text on
unfoldable pub tokens : ℕ → List ℕ → List ℕ
tokens i [] = []
tokens i (k ∷ ks) = k ∷ i ∷ 1 ∷ tokens (i + 1) ks

-- a parse into a table of as many rows as there may be
unfoldable pub parsed : List ℕ → List ℕ → List ℕ
parsed text kinds = said (parsing text (tokens 0 kinds) rows_max levels_max)
  where
    said : rules.Reading → List ℕ
    said (rules.done at used x) = 0 ∷ rows_of 0 x
    said (rules.refuse why at) = refusal_number why ∷ at ∷ []

-- the clause list of a predicate: the literals, and after them the ends
unfoldable pub split : List ℕ → List ℕ
split rows = said (read_rows [] rows)
  where
    said : Reading → List ℕ
    said (one t) = 0 ∷ clause.literal_numbers (clause.clauses false t) ++ clause.ends_from 0 (clause.clauses false t)
    said (refused why place) = refusal_number why ∷ place ∷ []

-- a lookup's column and its values, each as a constant
unfoldable pub values : List Value → List ℕ
values [] = []
values (v ∷ vs) = constant_numbers (constant_of v) ++ values vs

unfoldable pub looked_up : List ℕ → ℕ → List ℕ
looked_up rows k = said (lookup_of (read_rows [] rows) k)
  where
    said : Lookup → List ℕ
    said (on_column c vs) = 0 ∷ c ∷ values vs
    said (refuse why place) = refusal_number why ∷ place ∷ []
