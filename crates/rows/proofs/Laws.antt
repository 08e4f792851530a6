-- The layout of a row table. A row written is the row read back (`row_read_back`), every other row is as it was (`other_rows_stay`), a table keeps its
-- length and its capacity (`count_sets`, `capacity_sets`), runs of rows that follow each other are one run (`follows`), and a run of rows in
-- its place leaves what is before and after it (`laid_out`).
-- Assumes nothing.
use mathlib.Core.Path.{◌≡◌, refl, sym, ap, ◌∙◌}
use mathlib.Core.List.{List, [], ◌∷◌, ◌++◌}
use Prim.Native.Nat.{ℕ, zero, suc, ◌+◌, ◌*◌, ◌/◌, ◌≤◌, ◌<◌, min}
use native.Mathlib.Nat.{add-zero, div-mul-le_self}
use native.Mathlib.Omega.{arith}
use lib.ListN.{length, get_or, set, take, drop, length-set}
use lib.Seq.{sets, length-sets, sets-eq, get_or-set_same, get_or-set_other}
use Rattle.limits.specs.Limits.{rows_max}
use Rattle.rows.specs.Layout.{width, numbers, row_count, capacity, row_at}
use Rattle.rows.specs.declared.Row.{Row}

-- a row has `width` numbers
pub length_numbers : (r : Row) → length (numbers r) ≡ width
length_numbers r = refl

-- the rows of a table lie within it
pub within : (t : List ℕ) {k : ℕ} → k ≤ row_count t → k * width ≤ length t
within t le = omega (arith, div-mul-le_self (length t) width)

-- what is stored leaves the number of rows as it was
pub count_sets : (t : List ℕ) (i : ℕ) (vs : List ℕ) → row_count (sets t i vs) ≡ row_count t
count_sets t i vs = ap (λ (n : ℕ). n / width) (length-sets t i vs)

pub capacity_sets : (t : List ℕ) (i : ℕ) (vs : List ℕ) → capacity (sets t i vs) ≡ capacity t
capacity_sets t i vs = ap (λ (n : ℕ). min n rows_max) (count_sets t i vs)

-- no more rows than there are, and no more than the maximum
pub capacity_count : (t : List ℕ) → capacity t ≤ row_count t
capacity_count t = omega arith

pub capacity_max : (t : List ℕ) → capacity t ≤ rows_max
capacity_max t = omega arith

-- one run of stores after another
pub sets_append : (t : List ℕ) (i : ℕ) (a b : List ℕ) → sets (sets t i a) (i + length a) b ≡ sets t i (a ++ b)
sets_append t i [] b = ap (λ (j : ℕ). sets t j b) (add-zero i)
sets_append t i (x ∷ a) b =
    let e : i + suc (length a) ≡ suc i + length a = omega arith in
    ap (λ (j : ℕ). sets (sets (set t i x) (suc i) a) j b) e ∙ sets_append (set t i x) (suc i) a b

-- the same by rows: the second run begins at row k, where the first, from row n on, ends
pub follows : (t : List ℕ) (n k : ℕ) (a b : List ℕ) → k * width ≡ n * width + length a → sets (sets t (n * width) a) (k * width) b ≡ sets t (n * width) (a ++ b)
follows t n k a b e = ap (λ (j : ℕ). sets (sets t (n * width) a) j b) e ∙ sets_append t (n * width) a b

-- k rows from row n on: what is before and after them is as it was
pub laid_out : (t rows : List ℕ) (n k : ℕ) → length rows ≡ k * width → n + k ≤ row_count t
    → sets t (n * width) rows ≡ take (n * width) t ++ rows ++ drop ((n + k) * width) t
laid_out t rows n k many le =
    let e : n * width + length rows ≡ (n + k) * width = omega arith in
    sets-eq rows t (n * width) (omega (arith, within t le)) ∙ ap (λ (j : ℕ). take (n * width) t ++ rows ++ drop j t) e

-- a number that no store meets
get_d_sets_other : (vs t : List ℕ) (i j : ℕ) → ((k : ℕ) → k < length vs → j ≡ i + k → ⊥) → get_or (sets t i vs) j 0 ≡ get_or t j 0
get_d_sets_other [] t i j far = refl
get_d_sets_other (v ∷ vs) t i j far =
    get_d_sets_other vs (set t i v) (suc i) j (λ k lt e. far (suc k) (omega arith) (omega arith))
    ∙ get_or-set_other t i j v 0 (λ e. far 0 (omega arith) (omega arith))

-- and one that a store meets
get_d_sets_same : (vs t : List ℕ) (i k : ℕ) → i + length vs ≤ length t → k < length vs → get_or (sets t i vs) (i + k) 0 ≡ get_or vs k 0
get_d_sets_same [] t i k le lt = absurd (omega arith)
get_d_sets_same (v ∷ vs) t i zero le lt =
    ap (λ (j : ℕ). get_or (sets (set t i v) (suc i) vs) j 0) (add-zero i)
    ∙ get_d_sets_other vs (set t i v) (suc i) i (λ k l e. omega arith)
    ∙ get_or-set_same t i v 0 (omega arith)
get_d_sets_same (v ∷ vs) t i (suc k) le lt =
    let e : i + suc k ≡ suc i + k = omega arith in
    ap (λ (j : ℕ). get_or (sets (set t i v) (suc i) vs) j 0) e
    ∙ get_d_sets_same vs (set t i v) (suc i) k (omega (arith, length-set t i v)) (omega arith)

-- two rows are equal whose numbers are
pub same_row : {r s : Row} → r.kind ≡ s.kind → r.x ≡ s.x → r.y ≡ s.y → r ≡ s
same_row k x y = rw (k, x, y)

-- a row written is read back
pub row_read_back : (t : List ℕ) (n : ℕ) (r : Row) → n < row_count t → row_at (sets t (n * width) (numbers r)) n ≡ r
row_read_back t n r lt = same_row (first ∙ at 0 (omega arith)) (at 1 (omega arith)) (at 2 (omega arith))
  where
    first : get_or (sets t (n * width) (numbers r)) (n * width) 0 ≡ get_or (sets t (n * width) (numbers r)) (n * width + 0) 0
    first = ap (λ (j : ℕ). get_or (sets t (n * width) (numbers r)) j 0) (sym (add-zero (n * width)))

    at : (k : ℕ) → k < width → get_or (sets t (n * width) (numbers r)) (n * width + k) 0 ≡ get_or (numbers r) k 0
    at k small = get_d_sets_same (numbers r) t (n * width) k (omega (arith, within t lt)) small

-- and every other row is as it was
pub other_rows_stay : (t : List ℕ) (n m : ℕ) (r : Row) → (m ≡ n → ⊥) → row_at (sets t (n * width) (numbers r)) m ≡ row_at t m
other_rows_stay t n m r other = same_row (sym (first (sets t (n * width) (numbers r))) ∙ at 0 (omega arith) ∙ first t) (at 1 (omega arith)) (at 2 (omega arith))
  where
    first : (l : List ℕ) → get_or l (m * width + 0) 0 ≡ get_or l (m * width) 0
    first l = ap (λ (j : ℕ). get_or l j 0) (add-zero (m * width))

    at : (k : ℕ) → k < width → get_or (sets t (n * width) (numbers r)) (m * width + k) 0 ≡ get_or t (m * width + k) 0
    at k small = get_d_sets_other (numbers r) t (n * width) (m * width + k) (λ j lt e. other (omega arith))
