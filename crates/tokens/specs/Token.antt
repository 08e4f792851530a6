-- The table of tokens, its check, and the bytes of a token (FORMAT §2).
use Rattle.std.specs.Prelude.{Result, Ok, Err, ℕ, zero, suc, ◌+◌, ◌*◌, ◌/◌, ◌%◌, Bool, true, false, ◌&&◌, ◌||◌, List, length, get_or, take, drop, leb, ltb, eqb}
use Rattle.limits.specs.Limits.{text_max, tokens_max}
use Rattle.tokens.specs.Kind as kind
use Rattle.refusals.specs.Refusal.{refused}
use Rattle.refusals.specs.declared.Refusal.TheVariants.{TooLong, BadTable}
use Rattle.refusals.specs.declared.Refused.{Refused}
use Rattle.tokens.specs.declared.table.Token.{Token}
use Rattle.tokens.specs.declared.table.Span.{Span}

-- numbers per token
abbrev pub token_width : ℕ
token_width = 3

-- how many whole tokens there are
abbrev pub token_count : List ℕ → ℕ
token_count ts = length ts / token_width

-- token n; past the last one, kind `none` and an empty span
unfoldable pub token_at : List ℕ → ℕ → Token
token_at ts n =
    elim (ltb n (token_count ts)) [
      | true ↦ record { kind = get_or ts (n * token_width) 0; start = get_or ts (n * token_width + 1) 0; length = get_or ts (n * token_width + 2) 0 }
      | false ↦ record { kind = kind.none; start = 0; length = 0 }
    ]

-- the kind of token n
unfoldable pub kind_at : List ℕ → ℕ → ℕ
kind_at ts n = (token_at ts n).kind

-- a kind that the table may have
unfoldable pub known : ℕ → Bool
known k = leb 1 k && leb k kind.last

-- the span lies in the text
unfoldable pub fits : List ℕ → Token → Bool
fits text t = leb (t.start + t.length) (length text)

-- the table's check, from token n on, with so many tokens left
unfoldable pub check_from : List ℕ → List ℕ → ℕ → ℕ → Result ℕ Refused
check_from text ts n zero = Ok n
check_from text ts n (suc left) =
    elim (known (kind_at ts n) && fits text (token_at ts n)) [
      | true ↦ check_from text ts (n + 1) left
      | false ↦ Err (refused BadTable n)
    ]

-- how many tokens a good table has, or the refusal: a text or a table that is too long, then a length that is no multiple of a token's, then the
-- first token of unknown kind or with a span outside the text
unfoldable pub check_table : List ℕ → List ℕ → Result ℕ Refused
check_table text ts =
    elim (ltb text_max (length text) || ltb tokens_max (token_count ts)) [
      | true ↦ Err (refused TooLong 0)
      | false ↦
          elim (eqb (length ts % token_width) 0) [
            | true ↦ check_from text ts 0 (token_count ts)
            | false ↦ Err (refused BadTable (token_count ts))
          ]
    ]

-- a token's span, or the empty one at the start where that is not in the text
unfoldable pub span_of : List ℕ → Token → Span
span_of text t =
    elim (fits text t) [
      | true ↦ record { start = t.start; length = t.length }
      | false ↦ record { start = 0; length = 0 }
    ]

-- where the bytes of token n lie; of no token, the empty span at the start
unfoldable pub span_at : List ℕ → List ℕ → ℕ → Span
span_at text ts n = span_of text (token_at ts n)

-- those bytes
unfoldable pub spelled : List ℕ → List ℕ → ℕ → List ℕ
spelled text ts n = take (span_at text ts n).length (drop (span_at text ts n).start text)
