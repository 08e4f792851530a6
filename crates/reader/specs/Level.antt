-- The rules of one level, given the reader of expressions with `rest` levels: what the readers of `reader` promise.
use Rattle.std.specs.Prelude.{ℕ, List}
use Rattle.tokens.specs.Token.{kind_at}
use Rattle.grammar.specs.Atom.{start_of}
use Rattle.grammar.specs.Memory as rules
use Rattle.grammar.specs.Memory.{Out, expression, fuel}
use Rattle.grammar.specs.declared.Cursor.{Cursor}

module _ (text ts : List ℕ) (rest : ℕ) where
  abbrev pub operand : ℕ → Cursor → List ℕ → Out
  operand m c t = rules.operand text ts (expression text ts rest) m c t

  abbrev pub atom : Cursor → List ℕ → Out
  atom c t = rules.atom text ts (expression text ts rest) (start_of (kind_at ts c.at)) c t

  abbrev pub group : Cursor → List ℕ → Out
  group c t = rules.group text ts (expression text ts rest) c t

  abbrev pub named : Cursor → List ℕ → Out
  named c t = rules.named text ts (expression text ts rest) c t

  -- all arguments of the function that token f names
  abbrev pub arguments : ℕ → Cursor → List ℕ → Out
  arguments f c t = rules.arguments text ts (expression text ts rest) f 0 (fuel ts) c t

  -- the argument after n others
  abbrev pub argument : ℕ → Cursor → List ℕ → Out
  argument n c t = rules.argument text ts (expression text ts rest) n c t

  abbrev pub infixes : ℕ → Cursor → List ℕ → Out
  infixes m c t = rules.infixes text ts (expression text ts rest) m c t

  abbrev pub infixed : Cursor → List ℕ → Out
  infixed c t = rules.infixed text ts (expression text ts rest) c t
