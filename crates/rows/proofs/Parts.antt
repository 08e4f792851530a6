-- Parts of a row table: two that follow each other are one (`parts_join`), a row's numbers are its part (`row_part`), no rows are none (`part_none`),
-- and all rows are the table (`part_all`).
-- Assumes nothing.
use mathlib.Core.Path.{◌≡◌, sym, ap, ap₂, ◌∙◌}
use mathlib.Core.List.{List, [], ◌∷◌, ◌++◌}
use Prim.Native.Nat.{ℕ, suc, ◌+◌, ◌*◌, ◌-◌, ◌≤◌, ◌<◌}
use native.Mathlib.Omega.{arith}
use lib.ListN.{length, take, drop, get_or}
use lib.Seq.{slice, slice-cons, slice_empty, take-add, take_all, drop-append-le, drop_at, length-take-le}
use Rattle.rows.specs.Layout.{width, numbers, row_count, row_at}
use Rattle.rows.proofs.Laws.{within}

-- rows f up to, and not with, row t
abbrev pub part_of : List ℕ → ℕ → ℕ → List ℕ
part_of l f t = slice (f * width) (t * width) l

slices_join : (l : List ℕ) (f m t : ℕ) → f ≤ m → m ≤ t → t ≤ length l → slice f m l ++ slice m t l ≡ slice f t l
slices_join l f m t a b c =
    let e : m + (t - m) ≡ t = omega arith in
    let all : take t l ≡ take m l ++ take (t - m) (drop m l) = ap (λ (n : ℕ). take n l) (sym e) ∙ take-add m (t - m) l in
    let long : length (take m l) ≡ m = length-take-le m l (omega arith) in
    ap (λ (z : List ℕ). slice f m l ++ z) (ap (drop m) all ∙ drop_at (take m l) (take (t - m) (drop m l)) m long)
    ∙ sym (ap (drop f) all ∙ drop-append-le f (take m l) (take (t - m) (drop m l)) (omega arith))

pub parts_join : (l : List ℕ) {f m t : ℕ} → f ≤ m → m ≤ t → t ≤ row_count l → part_of l f m ++ part_of l m t ≡ part_of l f t
parts_join l {f} {m} {t} a b c = slices_join l (f * width) (m * width) (t * width) (omega arith) (omega arith) (within l c)

pub part_none : (l : List ℕ) (r : ℕ) → part_of l r r ≡ []
part_none l r = slice_empty (r * width) l

pub row_part : (l : List ℕ) (r : ℕ) → r < row_count l → numbers (row_at l r) ≡ part_of l r (r + 1)
row_part l r h =
    let k : (r + 1) * width ≤ length l = within l (omega arith) in
    let e : suc (suc (suc (r * width))) ≡ (r + 1) * width = omega arith in
    let one : suc (r * width) ≡ r * width + 1 = omega arith in
    let two : suc (suc (r * width)) ≡ r * width + 2 = omega arith in
    sym
    (slice-cons (r * width) ((r + 1) * width) l 0 (omega arith) k
    ∙ ap (λ (z : List ℕ). get_or l (r * width) 0 ∷ z)
    (slice-cons (suc (r * width)) ((r + 1) * width) l 0 (omega arith) k
    ∙ ap₂ (λ (n : ℕ) (z : List ℕ). get_or l n 0 ∷ z) one
    (slice-cons (suc (suc (r * width))) ((r + 1) * width) l 0 (omega arith) k
    ∙ ap₂ (λ (n : ℕ) (z : List ℕ). get_or l n 0 ∷ z) two
    (ap (λ (n : ℕ). slice n ((r + 1) * width) l) e ∙ slice_empty ((r + 1) * width) l))))

pub part_all : (l : List ℕ) → length l ≡ row_count l * width → part_of l 0 (row_count l) ≡ l
part_all l e = take_all (row_count l * width) l (omega arith)
