-- What a run of digits is worth while it is read. No entry's promise names this file.
use Rattle.std.specs.Prelude.{Option, Some, None, ℕ, true, false, List, [], ◌∷◌, leb}
use Rattle.limits.specs.Limits.{integer_max}
use Rattle.numbers.specs.Number.{digit}

-- a whole number, up to the largest Integer
unfoldable pub small : ℕ → Option ℕ
small n = elim (leb n integer_max) [ true ↦ Some n | false ↦ None ]

-- the digits that s begins with
unfoldable pub leading : List ℕ → List ℕ
leading [] = []
leading (b ∷ s) = elim (digit b) [ true ↦ b ∷ leading s | false ↦ [] ]
