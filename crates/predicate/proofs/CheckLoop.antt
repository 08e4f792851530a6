-- The row check's loop. After r good rows the reading stands before row r over some stack (`Reads`); a good row takes it on (`goes`), a bad one
-- ends it (`stops`), and after the last row there is no row (`no_rows`), one root (`one_root`) or several (`several_roots`). Before the first row
-- stand the tests of the lengths (`by_tests`, `in_turn`).
-- Assumes nothing.
use Prim.Native.Nat.{ℕ, suc, ◌+◌, ◌-◌, ◌<◌, ◌≤◌}
use mathlib.Core.Path.{◌≡◌, refl, sym, ap, ap₂, ◌∙◌}
use mathlib.Core.Bool.{Bool, true, false, ◌||◌}
use mathlib.Core.List.{List, [], ◌∷◌}
use native.Mathlib.Omega.{arith}
use lib.ListN.{length}
use lib.Dec.{ltb}
use borrow.Author.Tests.{le-ltb}
use Rattle.std.specs.Prelude.{Ok, Err}
use Rattle.limits.specs.Limits.{text_max, rows_max}
use Rattle.refusals.specs.Refusal.{refused as refusal_at}
use Rattle.refusals.specs.declared.Refusal.TheVariants.{TooLong, BadTree}
use Rattle.rows.specs.Layout.{row_count, only_whole}
use Rattle.rows.specs.PostOrder.{Subtree, Next, bad, on}
use Rattle.predicate.specs.Row.{shape_at, arity_of}
use Rattle.predicate.specs.Tree.{Tree, tree_at, first_at, Falls, Sound}
use Rattle.predicate.specs.Read.{Reading, one, refused, step_at, ended, and_then, read_from, read_rows, checked_of}
use Rattle.predicate.specs.Check.{SoundBefore, good_at}
use Rattle.predicate.proofs.Trees.{root_at}
use Rattle.predicate.proofs.Stacks.{Tiles, step_is}

pub record Reads (text l : List ℕ) (r : ℕ) : Type 0 where
  pub within : r ≤ row_count l
  pub falls : (q : ℕ) → q < r → Falls (arity_of (shape_at l q)) q
  pub stack : List (Subtree Tree)
  pub tiles : Tiles l r stack
  pub rest : (left : ℕ) → left + r ≡ row_count l → read_from text l left r stack ≡ read_from text l (row_count l) 0 []

pub begins : (text l : List ℕ) → Reads text l 0
begins text l = record {
  within = omega arith;
  falls = λ q h. absurd (omega arith);
  stack = [];
  tiles = refl;
  rest = λ left e. let z : left ≡ row_count l = omega arith in ap (λ (n : ℕ). read_from text l n 0 []) z;
}

module _ {text l : List ℕ} {r : ℕ} (p : Reads text l r) where
  pub below_of : r < row_count l → SoundBefore l r
  below_of h = record { there = h; falls = p.falls }

  pub sound_last : {q : ℕ} → q + 1 ≡ r → Sound l q
  sound_last e = record { there = omega (arith, p.within); falls = λ i h. p.falls i (omega arith) }

  module _ (h : r < row_count l) where
    read_on : (left : ℕ) (n : Next Tree) → step_at text l r p.stack ≡ n → read_from text l (suc left) r p.stack ≡ and_then r n (read_from text l left (r + 1))
    unfolding read_from
    read_on left n e = ap (λ (m : Next Tree). and_then r m (read_from text l left (r + 1))) e

    pub goes : good_at text l r ≡ true → Reads text l (r + 1)
    unfolding and_then
    goes e =
        let z = step_is text l r p.stack (below_of h) e p.tiles in
        record {
          within = omega arith;
          falls = λ q k. z.2.falls q (omega arith);
          stack = z.0;
          tiles = z.3;
          rest = λ left d. sym (read_on left (on z.0) z.1) ∙ p.rest (suc left) (omega arith);
        }

    pub stops : good_at text l r ≡ false → Err (refusal_at BadTree r) ≡ checked_of (read_from text l (row_count l) 0 [])
    unfolding and_then checked_of
    stops e =
        let left = row_count l - suc r in
        ap checked_of (sym (read_on left bad (step_is text l r p.stack (below_of h) e p.tiles)) ∙ p.rest (suc left) (omega arith))

pub no_rows : (text l : List ℕ) → row_count l ≡ 0 → Err (refusal_at BadTree 0) ≡ checked_of (read_from text l (row_count l) 0 [])
unfolding checked_of read_from ended
no_rows text l e = ap (λ (n : ℕ). checked_of (read_from text l n 0 [])) (sym e)

module _ {text l : List ℕ} {r : ℕ} (last : ℕ) (p : Reads text l r) (h : row_count l ≤ r) (e : last + 1 ≡ r) where
  is_all : ended r p.stack ≡ read_from text l (row_count l) 0 []
  unfolding read_from
  is_all = p.rest 0 (omega (arith, p.within))

  pub one_root : first_at l last ≡ 0 → Ok last ≡ checked_of (read_from text l (row_count l) 0 [])
  unfolding checked_of ended
  one_root z = ap Ok (sym (root_at l last)) ∙ ap checked_of (go p.stack p.tiles) ∙ ap checked_of is_all
    where
      go : (s : List (Subtree Tree)) → Tiles l r s → one (tree_at l last) ≡ ended r s
      go [] t = absurd (omega arith)
      go (w ∷ []) t = let q : last ≡ t.0 = omega (arith, t.1) in ap one (ap (tree_at l) q ∙ sym t.2)
      go (w ∷ v ∷ s) t = let q : last ≡ t.0 = omega (arith, t.1) in absurd (omega (arith, t.3, ap (first_at l) q, t.4.1))

  pub several_roots : (first_at l last ≡ 0 → ⊥) → Err (refusal_at BadTree last) ≡ checked_of (read_from text l (row_count l) 0 [])
  unfolding checked_of ended
  several_roots n = ap checked_of (go p.stack p.tiles) ∙ ap checked_of is_all
    where
      go : (s : List (Subtree Tree)) → Tiles l r s → refused BadTree last ≡ ended r s
      go [] t = absurd (omega arith)
      go (w ∷ []) t = let q : last ≡ t.0 = omega (arith, t.1) in absurd (n (ap (first_at l) q ∙ sym t.3 ∙ t.4))
      go (w ∷ v ∷ s) t = let q : last ≡ r - 1 = omega arith in ap (refused BadTree) q

-- the laws that `check_rows` goes by
pub ruleset row_steps = (begins, below_of, sound_last, goes, no_rows, one_root, several_roots)

-- ---- the tests before the rows are read

module _ (text l : List ℕ) where
  -- the reading, by its tests' outcomes: is something too long, and are there only whole rows?
  abbrev pub read_by : Bool → Bool → Reading
  read_by long whole =
      elim long [
        | true ↦ refused TooLong 0
        | false ↦
            elim whole [
              | true ↦ read_from text l (row_count l) 0 []
              | false ↦ refused BadTree (row_count l)
            ]
      ]

  pub by_tests : (b c : Bool) → (ltb text_max (length text) || ltb rows_max (row_count l)) ≡ b → only_whole l ≡ c
      → read_rows text l ≡ read_by b c
  unfolding read_rows
  by_tests b c e d = ap₂ read_by e d

  -- nothing is too long, and there are only whole rows
  pub in_turn : length text ≤ text_max → row_count l ≤ rows_max → only_whole l ≡ true → read_rows text l ≡ read_from text l (row_count l) 0 []
  in_turn h k e = by_tests false true (ap₂ ◌||◌ (le-ltb text_max (length text) h) (le-ltb rows_max (row_count l) k)) e
