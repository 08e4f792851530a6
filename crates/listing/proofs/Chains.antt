-- Chains of cells. A chain is its first cell and the chain after that (`chain_step`), and is as it was while only new cells are made (`chain_unchanged`),
-- as `prepend` makes them (`prepended_more`, `prepended_cells`).
-- Assumes nothing.
use Prim.Native.Nat.{ℕ, zero, suc, ◌+◌, ◌-◌, ◌<◌, ◌≤◌}
use mathlib.Core.Path.{◌≡◌, refl, sym, ap, ap₂, ◌∙◌}
use mathlib.Core.List.{List, [], ◌∷◌}
use native.Mathlib.Omega.{arith}
use native.Mathlib.Decide.{dec_lt}
use lib.ListN.{length, get_or, set}
use Rattle.std.proofs.lemmas.Grind.{common_steps}
use Rattle.listing.specs.Chain.{cell, cell_at, chain_to, chain_of, CellsMade, HeadsAt}
use Rattle.listing.specs.Heads.{Prepended}
use Rattle.listing.specs.declared.Cell.{Cell}

-- ---- chains

-- each cell up to h comes after its next one
abbrev pub Falling : List Cell → ℕ → Type 0
Falling u h = (k : ℕ) → 0 < k → k ≤ h → (cell_at u k).next < k

pub chain_none : (u : List Cell) → chain_of u 0 ≡ []
unfolding chain_of chain_to
chain_none u = refl

same_long : (u : List Cell) (f g h : ℕ) → Falling u h → h ≤ f → h ≤ g → chain_to u f h ≡ chain_to u g h
unfolding chain_to
same_long u zero zero h s p q = refl
same_long u zero (suc g) zero s p q = refl
same_long u zero (suc g) (suc h) s p q = absurd (omega arith)
same_long u (suc f) zero zero s p q = refl
same_long u (suc f) zero (suc h) s p q = absurd (omega arith)
same_long u (suc f) (suc g) zero s p q = refl
same_long u (suc f) (suc g) (suc h) s p q =
    let z = s (suc h) (omega arith) (omega arith) in
    ap (λ (c : List ℕ). (cell_at u (suc h)).literal ∷ c) (same_long u f g (cell_at u (suc h)).next (λ k a b. s k a (omega arith)) (omega arith) (omega arith))

pub chain_step : (u : List Cell) (h : ℕ) → Falling u h → 0 < h → chain_of u h ≡ (cell_at u h).literal ∷ chain_of u (cell_at u h).next
unfolding chain_of chain_to
chain_step u zero s p = absurd (omega arith)
chain_step u (suc h) s p =
    let z = s (suc h) (omega arith) (omega arith) in
    ap (λ (c : List ℕ). (cell_at u (suc h)).literal ∷ c)
    (same_long u h (cell_at u (suc h)).next (cell_at u (suc h)).next (λ k a b. s k a (omega arith)) (omega arith) (omega arith))

unchanged_to : (u v : List Cell) (n f h : ℕ) → CellsMade u n → ((i : ℕ) → 0 < i → i < n → cell_at v i ≡ cell_at u i) → h < n
    → chain_to v f h ≡ chain_to u f h
unfolding chain_to
unchanged_to u v n zero h c s p = refl
unchanged_to u v n (suc f) zero c s p = refl
unchanged_to u v n (suc f) (suc h) c s p =
    let z = c.falls (suc h) (omega arith) p in
    let y = s (suc h) (omega arith) p in
    ap₂ (λ (x : ℕ) (l : List ℕ). x ∷ l) (ap (λ (k : Cell). k.literal) y)
    (ap (λ (k : Cell). chain_to v f k.next) y ∙ unchanged_to u v n f (cell_at u (suc h)).next c s (omega arith))

pub chain_unchanged : (u v : List Cell) (n h : ℕ) → CellsMade u n → ((i : ℕ) → 0 < i → i < n → cell_at v i ≡ cell_at u i) → h < n
    → chain_of v h ≡ chain_of u h
unfolding chain_of
chain_unchanged u v n h c s p = unchanged_to u v n h h c s p

-- ---- `prepend`

-- one more: a cell for the chain whose head stands at place i, which becomes w, the number of that cell
pub prepended_more : {x : ℕ} {u v : List Cell} {d e : List ℕ} {first i n m w : ℕ} → Prepended x u v d e first (i - first) n m
    → first ≤ i → i < length e → m < length v → w ≡ m
    → Prepended x u (set v m (cell x (get_or e i 0))) d (set e i w) first (i + 1 - first) n (m + 1)
prepended_more {x} {u} {v} {d} {e} {first} {i} {n} {m} {w} p low within room is = record {
  used = omega (arith, p.used);
  elsewhere = record {
    more = omega (arith, p.used);
    cells = grind (arith, common_steps);
    heads = grind (arith, common_steps);
    old = grind (arith, common_steps);
    unused = grind (arith, common_steps);
    before = grind (arith, common_steps);
    after = grind (arith, common_steps);
  };
  heads = grind (arith, common_steps);
  here = grind (arith, common_steps);
}

-- the cells that `prepend` leaves are made
pub prepended_cells : {x : ℕ} {u v : List Cell} {d e : List ℕ} {first each n m : ℕ} → Prepended x u v d e first each n m → CellsMade u n
    → HeadsAt d n first each → CellsMade v m
prepended_cells {x} {u} {v} {d} {e} {first} {each} {n} {m} p c o = record {
  some = omega (arith, p.used, c.some);
  long = omega (arith, p.elsewhere.cells, c.long);
  falls = λ h a b. go h a b (dec_lt h n);
}
  where
    go : (h : ℕ) → 0 < h → h < m → Dec (h < n) → (cell_at v h).next < h
    go h a b (yes r) = omega (arith, ap (λ (k : Cell). k.next) (p.elsewhere.old h a r), c.falls h a r)
    go h a b (no r) =
        let j = h - n in
        let z : n + j ≡ h = omega arith in
        let y : j < each = omega (arith, p.used) in
        omega (arith, ap (λ (i : ℕ). (cell_at v i).next) (sym z), ap (λ (k : Cell). k.next) (p.here j y), o.below j y)
