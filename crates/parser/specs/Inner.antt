-- What the parts of `parse` promise each other; no public promise names this file.
use Rattle.std.specs.Prelude.{Result, Ok, Err, ℕ, List}
use Rattle.refusals.specs.declared.Refused.{Refused}
use Rattle.tokens.specs.Token.{check_table}
use Rattle.grammar.specs.Memory.{Out, refuse, whole_expression}

-- what `o` is, where the token table is good; else what its check refuses
abbrev pub out_after_check : Result ℕ Refused → Out → Out
out_after_check (Ok n) o = o
out_after_check (Err e) o = refuse e.why e.place

-- the token table's check, then all tokens as one expression, with so many levels, into the table t
unfoldable pub parsing_out : List ℕ → List ℕ → ℕ → List ℕ → Out
parsing_out text ts levels t = out_after_check (check_table text ts) (whole_expression text ts levels t)
