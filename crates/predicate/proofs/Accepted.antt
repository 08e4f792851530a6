-- What accepted rows are (`Accepted`): every row is good, and the tree is the one at the last row. So the check keeps its promise (`checks`).
-- Assumes nothing.
use Prim.Native.Nat.{ℕ, zero, suc, ◌+◌, ◌*◌, ◌-◌, ◌%◌, ◌<◌, ◌≤◌}
use mathlib.Core.Path.{◌≡◌, refl, sym, ap, ap₂, ◌∙◌, subst}
use mathlib.Core.Bool.{Bool, true, false, ◌||◌}
use mathlib.Core.List.{List, [], ◌∷◌}
use native.Mathlib.Decide.{ℕ_discrete}
use native.Mathlib.Nat.{div-add-mod'}
use native.Mathlib.Omega.{arith}
use lib.ListN.{length}
use lib.Dec.{ltb}
use borrow.Author.Tests.{ltb-false, eqb-true}
use Rattle.std.proofs.lemmas.Bool.{or_parts}
use Rattle.std.specs.Prelude.{Result, Ok, Err}
use Rattle.limits.specs.Limits.{text_max, rows_max}
use Rattle.refusals.specs.Refusal.{refused as refusal_at}
use Rattle.refusals.specs.declared.Refusal.{Refusal}
use Rattle.refusals.specs.declared.Refused.{Refused}
use Rattle.rows.specs.Layout.{width, row_count, only_whole}
use Rattle.rows.specs.PostOrder.{Subtree, Next}
use Rattle.predicate.specs.Row.{shape_at, arity_of}
use Rattle.predicate.specs.Tree.{Tree, root_of, tree_at, first_at, Falls, Sound}
use Rattle.predicate.specs.Read.{Reading, one, refused, ended, and_then, read_from, read_rows, checked_of, Rooted, Checks}
use Rattle.predicate.specs.Check.{SoundBefore, good_at}
use Rattle.predicate.proofs.Trees.{root_at}
use Rattle.predicate.proofs.Stacks.{Tiles, step_is}
use Rattle.predicate.proofs.CheckLoop.{by_tests}

pub record Accepted (text l : List ℕ) (t : Tree) : Type 0 where
  pub some : 0 < row_count l
  pub small : row_count l ≤ rows_max
  pub even : length l ≡ row_count l * width
  pub good : (q : ℕ) → q < row_count l → good_at text l q ≡ true
  pub sound : Sound l (row_count l - 1)
  pub first : first_at l (row_count l - 1) ≡ 0
  pub tree : t ≡ tree_at l (row_count l - 1)

-- a refusal is no tree
never {ℓ} : {X : Type ℓ} {why : Refusal} {place : ℕ} {t : Tree} → refused why place ≡ one t → X
never e = let z : ◌≡◌ {A = ℕ} 0 1 = cc in absurd (omega arith)

-- ---- each row in turn

module _ (text l : List ℕ) (t : Tree) where
  -- the rows before r are good, and the stack before it is theirs
  record Passed (r : ℕ) (stack : List (Subtree Tree)) : Type 0 where
    good : (q : ℕ) → q < r → good_at text l q ≡ true
    falls : (q : ℕ) → q < r → Falls (arity_of (shape_at l q)) q
    tiles : Tiles l r stack

  -- what the last row says
  record Last (n : ℕ) : Type 0 where
    some : 0 < n
    good : (q : ℕ) → q < n → good_at text l q ≡ true
    falls : (q : ℕ) → q < n → Falls (arity_of (shape_at l q)) q
    first : first_at l (n - 1) ≡ 0
    tree : t ≡ tree_at l (n - 1)

  at_end : (r : ℕ) (stack : List (Subtree Tree)) → Passed r stack → ended r stack ≡ one t → Last r
  unfolding ended
  at_end r [] p e = never e
  at_end r (w ∷ []) p e =
      let s = p.tiles in
      let q : s.0 ≡ r - 1 = omega (arith, s.1) in
      let same : w.tree ≡ t = cc in
      record {
        some = omega (arith, s.1);
        good = p.good;
        falls = p.falls;
        first = sym (ap (first_at l) q) ∙ sym s.3 ∙ s.4;
        tree = sym same ∙ s.2 ∙ ap (tree_at l) q;
      }
  at_end r (w ∷ v ∷ stack) p e = never e

  each : (left r : ℕ) (stack : List (Subtree Tree)) → left + r ≡ row_count l → Passed r stack → read_from text l left r stack ≡ one t → Last (left + r)
  unfolding read_from and_then
  each zero r stack e p f = let z : r ≡ 0 + r = omega arith in subst Last z (at_end r stack p f)
  each (suc left) r stack e p f = go (λ next i d g. each left (r + 1) next i d g) (good_at text l r) refl
    where
      here : SoundBefore l r
      here = record { there = omega arith; falls = p.falls }

      more : (q : ℕ) → q < r + 1 → good_at text l r ≡ true → Dec (q ≡ r) → good_at text l q ≡ true
      more q k d (yes i) = ap (good_at text l) i ∙ d
      more q k d (no n) = p.good q (omega arith)

      go : ((next : List (Subtree Tree)) → left + (r + 1) ≡ row_count l → Passed (r + 1) next → read_from text l left (r + 1) next ≡ one t
          → Last (left + (r + 1)))
          → (b : Bool) → good_at text l r ≡ b → Last (suc left + r)
      go after true g =
          let z = step_is text l r stack here g p.tiles in
          let h : left + (r + 1) ≡ suc left + r = omega arith in
          subst Last h (after z.0 (omega arith)
          (record { good = λ q k. more q k g (ℕ_discrete q r); falls = λ q k. z.2.falls q (omega arith); tiles = z.3 })
          (sym (ap (λ (n : Next Tree). and_then r n (read_from text l left (r + 1))) z.1) ∙ f))
      go after false g = never (sym (ap (λ (n : Next Tree). and_then r n (read_from text l left (r + 1))) (step_is text l r stack here g p.tiles)) ∙ f)

  -- ---- the tests before that

  module _ (e : read_rows text l ≡ one t) where
    all_tests : (b c : Bool) → (ltb text_max (length text) || ltb rows_max (row_count l)) ≡ b → only_whole l ≡ c → Accepted text l t
    all_tests true c d f = never (sym (by_tests text l true c d f) ∙ e)
    all_tests false false d f = never (sym (by_tests text l false false d f) ∙ e)
    all_tests false true d f =
        let z : Last (row_count l) = subst Last (omega arith) (each (row_count l) 0 [] (omega arith)
        (record { good = λ q k. absurd (omega arith); falls = λ q k. absurd (omega arith); tiles = refl })
        (sym (by_tests text l false true d f) ∙ e)) in
        record {
          some = z.some;
          small = ltb-false rows_max (row_count l) (or_parts (ltb text_max (length text)) (ltb rows_max (row_count l)) d).1;
          even = omega (arith, eqb-true (length l % width) 0 f, div-add-mod' (length l) width);
          good = z.good;
          sound = record { there = omega (arith, z.some); falls = λ q k. z.falls q (omega (arith, z.some)) };
          first = z.first;
          tree = z.tree;
        }

    pub accepted : Accepted text l t
    accepted = all_tests (ltb text_max (length text) || ltb rows_max (row_count l)) (only_whole l) refl refl

-- ---- what the check's answer says of the rows

module _ (text l : List ℕ) where
  -- rows that are read are the tree at its root
  rooted : (t : Tree) → read_rows text l ≡ one t → Rooted text l (root_of t)
  rooted t e =
      let a : Accepted text l t = accepted text l t e in
      let root : row_count l - 1 ≡ root_of t = sym (ap root_of a.tree ∙ root_at l (row_count l - 1)) in
      record {
        reads = e ∙ ap one (a.tree ∙ ap (tree_at l) root);
        sound = subst (Sound l) root a.sound;
        low = omega (arith, a.some, a.small);
      }

  pub checks : {v : Result ℕ Refused} → v ≡ checked_of (read_rows text l) → Checks text l v
  unfolding checked_of
  checks {v} e = record { answer = e; good = λ root d. good (read_rows text l) root refl (sym e ∙ d); bad = λ why place d. bad (read_rows text l) (sym e ∙ d) }
    where
      good : (r : Reading) (root : ℕ) → read_rows text l ≡ r → checked_of r ≡ Ok root → Rooted text l root
      good (one t) root f d = let same : root_of t ≡ root = cc in subst (Rooted text l) same (rooted t f)
      good (refused why place) root f d = let z : ◌≡◌ {A = ℕ} 0 1 = cc in absurd (omega arith)

      bad : (r : Reading) {why : Refusal} {place : ℕ} → checked_of r ≡ Err (refusal_at why place) → r ≡ refused why place
      bad (one t) d = let z : ◌≡◌ {A = ℕ} 0 1 = cc in absurd (omega arith)
      bad (refused why' place') {why} {place} d =
          let same : refusal_at why' place' ≡ refusal_at why place = cc in
          ap₂ refused (ap (λ (w : Refused). w.why) same) (ap (λ (w : Refused). w.place) same)
