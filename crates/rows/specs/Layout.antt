-- The layout of a row table (FORMAT §5 and §6): rows of so many numbers each, one after the other.
use Rattle.std.specs.Prelude.{ℕ, ◌+◌, ◌*◌, ◌/◌, ◌%◌, min, Bool, List, [], ◌∷◌, length, get_or, eqb}
use Rattle.limits.specs.Limits.{rows_max}
use Rattle.rows.specs.declared.Row.{Row}

-- numbers per row
abbrev pub width : ℕ
width = 3

-- the numbers of a row, in order
abbrev pub numbers : Row → List ℕ
numbers r = r.kind ∷ r.x ∷ r.y ∷ []

-- how many whole rows a table has
abbrev pub row_count : List ℕ → ℕ
row_count t = length t / width

-- a table has no number that is in no whole row
abbrev pub only_whole : List ℕ → Bool
only_whole t = eqb (length t % width) 0

-- how many rows a table takes (FORMAT §1)
abbrev pub capacity : List ℕ → ℕ
capacity t = min (row_count t) rows_max

-- row n
abbrev pub row_at : List ℕ → ℕ → Row
row_at t n = record { kind = get_or t (n * width) 0; x = get_or t (n * width + 1) 0; y = get_or t (n * width + 2) 0 }
