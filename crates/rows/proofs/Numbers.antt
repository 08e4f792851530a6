-- A row's numbers, where they stand in a table, are that row (`row_of_numbers`).
-- Assumes nothing.
use mathlib.Core.Path.{◌≡◌, sym, ap, ◌∙◌}
use mathlib.Core.List.{List}
use Prim.Native.Nat.{ℕ, ◌+◌, ◌*◌, ◌<◌}
use native.Mathlib.Nat.{add-zero}
use native.Mathlib.Omega.{arith}
use lib.ListN.{get_or, take, drop}
use lib.Seq.{get_or-take, get_or-drop}
use Rattle.rows.specs.Layout.{width, numbers, row_at}
use Rattle.rows.specs.declared.Row.{Row}
use Rattle.rows.proofs.Laws.{same_row}

pub row_of_numbers : (t : List ℕ) (n : ℕ) (r : Row) → take width (drop (n * width) t) ≡ numbers r → row_at t n ≡ r
row_of_numbers t n r there =
    same_row (ap (λ (j : ℕ). get_or t j 0) (sym (add-zero (n * width))) ∙ number 0 (omega arith)) (number 1 (omega arith)) (number 2 (omega arith))
  where
    number : (j : ℕ) → j < width → get_or t (n * width + j) 0 ≡ get_or (numbers r) j 0
    number j lt =
        sym (get_or-drop (n * width) t j 0)
        ∙ sym (get_or-take width (drop (n * width) t) j 0 lt)
        ∙ ap (λ (z : List ℕ). get_or z j 0) there
