-- What an atom starts with, by the kind of its token (FORMAT §4.5).
use Rattle.std.specs.Prelude.{ℕ, List, [], ◌∷◌}
use Rattle.tokens.specs.Kind as kind
use Rattle.syntax.specs.Kind as row
use Rattle.operators.specs.Operator.{among}
use Rattle.grammar.specs.declared.Start.{Start}
use Rattle.grammar.specs.declared.Start.TheVariants.{Nothing, Number, Text, Name, Paren, Plain, Other}

-- Plain is a whole atom, with its row's kind and x
abbrev pub start_table : List (ℕ × Start)
start_table =
    ((kind.none, Nothing)
    ∷ (kind.number, Number)
    ∷ (kind.string, Text)
    ∷ (kind.ident, Name)
    ∷ (kind.asterisk, Plain row.all 0)
    ∷ (kind.NULL, Plain row.null 0)
    ∷ (kind.NAN, Plain row.nan 0)
    ∷ (kind.TRUE, Plain row.boolean 1)
    ∷ (kind.FALSE, Plain row.boolean 0)
    ∷ (kind.INFINITY, Plain row.infinity 0)
    ∷ (kind.open_paren, Paren)
    ∷ [])

unfoldable pub start_of : ℕ → Start
start_of k = among k Other start_table
