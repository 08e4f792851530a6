-- The examples that FORMAT §12 marks as proved: what the definitions say of each input, beside what FORMAT says. Tokens are of one byte each. In a parse
-- the answer is 0 and the tree's rows, or the refusal's number and place; in a split 0, the literals and the ends; in a lookup 0, the column and the values'
-- constants. Letters in predicates are the columns 0 to 3.
use Rattle.std.specs.Prelude.{ℕ, List, [], ◌∷◌}
use Rattle.tokens.specs.Kind as kind
use Rattle.worked.specs.Said.{parsed, split, looked_up}

unfoldable pub cases : List (List ℕ × List ℕ)
cases =
    -- 2 ^ 3 ^ 2 - 4 * 3
    (
      parsed (50 ∷ 94 ∷ 51 ∷ 94 ∷ 50 ∷ 45 ∷ 52 ∷ 42 ∷ 51 ∷ [])
          (kind.number ∷ kind.caret ∷ kind.number ∷ kind.caret ∷ kind.number ∷ kind.minus ∷ kind.number ∷ kind.asterisk ∷ kind.number ∷ []),
      0 ∷ 2 ∷ 2 ∷ 0 ∷ 2 ∷ 3 ∷ 0 ∷ 2 ∷ 2 ∷ 0 ∷ 31 ∷ 1 ∷ 2 ∷ 31 ∷ 0 ∷ 3 ∷ 2 ∷ 4 ∷ 0 ∷ 2 ∷ 3 ∷ 0 ∷ 28 ∷ 5 ∷ 6 ∷ 27 ∷ 4 ∷ 7 ∷ [],
    )
    -- -1! is (-1)!
    ∷ (
      parsed (45 ∷ 49 ∷ 33 ∷ []) (kind.minus ∷ kind.number ∷ kind.exclamation ∷ []),
      0 ∷ 2 ∷ 1 ∷ 0 ∷ 13 ∷ 0 ∷ 0 ∷ 15 ∷ 1 ∷ 0 ∷ [],
    )
    -- 1 + NULL IS NULL is (1 + NULL) IS NULL
    ∷ (
      parsed (49 ∷ 43 ∷ 78 ∷ 73 ∷ 78 ∷ []) (kind.number ∷ kind.plus ∷ kind.NULL ∷ kind.IS ∷ kind.NULL ∷ []),
      0 ∷ 2 ∷ 1 ∷ 0 ∷ 8 ∷ 0 ∷ 0 ∷ 26 ∷ 0 ∷ 1 ∷ 16 ∷ 2 ∷ 0 ∷ [],
    )
    -- a = b < c is a = (b < c)
    ∷ (
      parsed (97 ∷ 61 ∷ 98 ∷ 60 ∷ 99 ∷ []) (kind.ident ∷ kind.equal ∷ kind.ident ∷ kind.less_than ∷ kind.ident ∷ []),
      0 ∷ 9 ∷ 0 ∷ 0 ∷ 9 ∷ 2 ∷ 0 ∷ 9 ∷ 4 ∷ 0 ∷ 23 ∷ 1 ∷ 2 ∷ 19 ∷ 0 ∷ 3 ∷ [],
    )
    ∷ (parsed (49 ∷ 43 ∷ 78 ∷ 51 ∷ []) (kind.number ∷ kind.plus ∷ kind.NOT ∷ kind.number ∷ []), 4 ∷ 2 ∷ [])  -- 1 + NOT 3: NO_ATOM at 2
    -- 1 + 2 IS NULL AND TRUE: LEFT_OVER at 5
    ∷ (
      parsed (49 ∷ 43 ∷ 50 ∷ 73 ∷ 78 ∷ 65 ∷ 84 ∷ [])
          (kind.number ∷ kind.plus ∷ kind.number ∷ kind.IS ∷ kind.NULL ∷ kind.AND ∷ kind.TRUE ∷ []),
      6 ∷ 5 ∷ [],
    )
    -- f(1,): NO_ATOM at 4
    ∷ (
      parsed (102 ∷ 40 ∷ 49 ∷ 44 ∷ 41 ∷ []) (kind.ident ∷ kind.open_paren ∷ kind.number ∷ kind.comma ∷ kind.close_paren ∷ []),
      4 ∷ 4 ∷ [],
    )
    ∷ (parsed [] [], 3 ∷ 0 ∷ [])  -- no tokens: END at 0
    -- (a AND b) OR (c AND d): a c; a d; b c; b d
    ∷ (
      split (6 ∷ 0 ∷ 0 ∷ 6 ∷ 1 ∷ 0 ∷ 7 ∷ 0 ∷ 1 ∷ 6 ∷ 2 ∷ 0 ∷ 6 ∷ 3 ∷ 0 ∷ 7 ∷ 3 ∷ 4 ∷ 8 ∷ 2 ∷ 5 ∷ []),
      0 ∷ 0 ∷ 6 ∷ 0 ∷ 8 ∷ 2 ∷ 6 ∷ 2 ∷ 8 ∷ 2 ∷ 4 ∷ 6 ∷ 8 ∷ [],
    )
    -- NOT NOT NOT (a AND b): one clause, both negated
    ∷ (
      split (6 ∷ 0 ∷ 0 ∷ 6 ∷ 1 ∷ 0 ∷ 7 ∷ 0 ∷ 1 ∷ 9 ∷ 2 ∷ 0 ∷ 9 ∷ 3 ∷ 0 ∷ 9 ∷ 4 ∷ 0 ∷ []),
      0 ∷ 1 ∷ 3 ∷ 2 ∷ [],
    )
    -- ((a AND b) OR c) OR d: a c d; b c d
    ∷ (
      split (6 ∷ 0 ∷ 0 ∷ 6 ∷ 1 ∷ 0 ∷ 7 ∷ 0 ∷ 1 ∷ 6 ∷ 2 ∷ 0 ∷ 8 ∷ 2 ∷ 3 ∷ 6 ∷ 3 ∷ 0 ∷ 8 ∷ 4 ∷ 5 ∷ []),
      0 ∷ 0 ∷ 6 ∷ 10 ∷ 2 ∷ 6 ∷ 10 ∷ 3 ∷ 6 ∷ [],
    )
    -- c = 1 OR c IS NULL OR 2 = c, c being column 4: 1, NULL, 2
    ∷ (
      looked_up (6 ∷ 4 ∷ 0 ∷ 3 ∷ 1 ∷ 0 ∷ 10 ∷ 0 ∷ 1 ∷ 6 ∷ 4 ∷ 0 ∷ 13 ∷ 3 ∷ 0 ∷ 8 ∷ 2 ∷ 4 ∷ 3 ∷ 2 ∷ 0 ∷ 6 ∷ 4 ∷ 0 ∷ 10 ∷ 6 ∷ 7 ∷ 8 ∷ 5 ∷ 8 ∷ []) 0,
      0 ∷ 4 ∷ 3 ∷ 1 ∷ 0 ∷ 1 ∷ 0 ∷ 0 ∷ 3 ∷ 2 ∷ 0 ∷ [],
    )
    ∷ (looked_up (6 ∷ 4 ∷ 0 ∷ 1 ∷ 0 ∷ 0 ∷ 10 ∷ 0 ∷ 1 ∷ []) 0, 0 ∷ 4 ∷ [])  -- c = NULL: a lookup with no values
    ∷ []
