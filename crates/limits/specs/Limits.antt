-- How much there may be of anything (FORMAT §1).
use Rattle.std.specs.Prelude.{ℕ, ◌+◌}

-- bytes of a text
abbrev pub text_max : ℕ
text_max = 16_384

-- whole tokens of a table
abbrev pub tokens_max : ℕ
tokens_max = 4_096

-- rows of either family
abbrev pub rows_max : ℕ
rows_max = 2_048

-- levels of a reading
abbrev pub levels_max : ℕ
levels_max = 64

-- the value of an Integer that is read
abbrev pub integer_max : ℕ
integer_max = 9_223_372_036_854_775_807

-- the number of a column
abbrev pub column_max : ℕ
column_max = 65_535

-- clauses of a predicate, and the literals in all of them
abbrev pub clauses_max : ℕ
clauses_max = 1_024

abbrev pub literals_max : ℕ
literals_max = 8_192

-- one more than the most clauses: where counts stop
abbrev pub clauses_held : ℕ
clauses_held = clauses_max + 1
