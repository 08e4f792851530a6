-- The loop of `prepend_clauses`. `PrependsLeft` is its invariant: the row that is left has clauses to be put before the heads there are now, and once they
-- are, those of the first row are put before the heads there were first. An atom ends it (`atom_done`); of two operands the right one's clauses are prepended
-- (`keep_asks`, `right_asks`, `restore_asks`), and the left one is left (`goes_left`).
-- Assumes nothing.
use Prim.Native.Nat.{ℕ, ◌+◌, ◌*◌, ◌-◌, ◌<◌, ◌≤◌}
use mathlib.Core.Path.{◌≡◌, refl, sym, ◌∙◌, subst}
use mathlib.Core.Bool.{Bool, true, false}
use mathlib.Core.List.{List}
use native.Mathlib.Omega.{arith}
use native.Mathlib.Decide.{dec_lt}
use lib.ListN.{length, get_or}
use lib.Seq.{ext_get_or}
use Rattle.limits.specs.Limits.{rows_max}
use Rattle.predicate.specs.Tree.{tree_at, Sound}
use Rattle.predicate.proofs.Trees.{sound_below}
use Rattle.cnf.specs.Clause.{Literal, literal, bit, join}
use Rattle.cnf.specs.Source.{clauses_at, source_at}
use Rattle.listing.specs.Chain.{CellsMade, HeadsAt}
use Rattle.listing.specs.Heads.{Prepended, Copied}
use Rattle.listing.specs.Listing.{RoomToPrepend, ClausesPrepended, Frontier}
use Rattle.cnf.specs.declared.SignedRow.{SignedRow}
use Rattle.cnf.specs.declared.Source.{Source}
use Rattle.cnf.specs.declared.Source.TheVariants.{Atom, Joined}
use Rattle.listing.specs.declared.Run.{Run}
use Rattle.listing.specs.declared.Cell.{Cell}
use Rattle.cnf.proofs.Sizes.{clauses_some}
use Rattle.cnf.proofs.Sources.{SourceIs, source_is, literal_number_at}
use Rattle.listing.proofs.PrependedClauses.{atom_prepended, append_saved, append_right, append_room, append_left, append_done, cross_right}
use Rattle.listing.proofs.PrependedClauses.{cross_left, cross_done}

-- ---- two lists joined, either way

-- how many heads are kept for the left one: none, where the lists are joined crosswise (true)
abbrev pub KeptFor : Bool → ℕ → ℕ → Type 0
KeptFor true each kept = kept ≡ 0
KeptFor false each kept = kept ≡ each

-- how many heads the left one's clauses are put before: those of the right one, from place `first` up to place `end`, or those that were kept
abbrev pub LeftFor : Bool → ℕ → ℕ → ℕ → ℕ → Type 0
LeftFor true end first kept each = each ≡ end - first
LeftFor false end first kept each = each ≡ kept

pub kept_none : {o : Bool} (each : ℕ) {kept : ℕ} → o ≡ true → kept ≡ 0 → KeptFor o each kept
kept_none each {kept} e k = subst (λ (b : Bool). KeptFor b each kept) (sym e) k

pub kept_all : {o : Bool} (each : ℕ) {kept : ℕ} → o ≡ false → kept ≡ each → KeptFor o each kept
kept_all each {kept} e k = subst (λ (b : Bool). KeptFor b each kept) (sym e) k

pub left_crosswise : {o : Bool} (end first kept : ℕ) → o ≡ true → LeftFor o end first kept (end - first)
left_crosswise end first kept e = subst (λ (b : Bool). LeftFor b end first kept (end - first)) (sym e) refl

pub left_kept : {o : Bool} (end first kept : ℕ) → o ≡ false → LeftFor o end first kept kept
left_kept end first kept e = subst (λ (b : Bool). LeftFor b end first kept kept) (sym e) refl

none_copied : {d e : List ℕ} {from to each : ℕ} → Copied d e from to each → each ≡ 0 → e ≡ d
none_copied {d} {e} {from} {to} s z = ext_get_or 0 e d s.long (λ i h. go i (dec_lt i to))
  where
    go : (i : ℕ) → Dec (i < to) → get_or e i 0 ≡ get_or d i 0
    go i (yes q) = s.before i q
    go i (no q) = s.after i (omega arith)

room_as : {xs : List (List Literal)} {v : List Cell} {a b : List ℕ} {spare i j m k n : ℕ} → a ≡ b → i ≡ j → m ≡ k → RoomToPrepend v b spare j k n xs
    → RoomToPrepend v a spare i m n xs
room_as e f g h = rw (e, f, g) h

prepended_as : {xs : List (List Literal)} {u v : List Cell} {a b d : List ℕ} {i j m k x y n : ℕ} {p : Frontier} → a ≡ b → i ≡ j → m ≡ k → x ≡ y
    → ClausesPrepended xs u v a d i m x n p → ClausesPrepended xs u v b d j k y n p
prepended_as e f g h q = rw (← e, ← f, ← g, ← h) q

module _ {cs : List (List Literal)} (xs ys : List (List Literal)) (px : 0 < length xs) (py : 0 < length ys) {u : List Cell} {d : List ℕ}
    {spare first each n : ℕ} (f : RoomToPrepend u d spare first each n cs) (kept : ℕ) where
  room_to_keep : (o : Bool) → cs ≡ join o xs ys → KeptFor o each kept → (first + kept ≤ length d) × (spare + kept ≤ length d)
  room_to_keep true c w = (omega (arith, f.heads.within, w), omega (arith, f.heads.within, f.space, w))
  room_to_keep false c w = (omega (arith, f.heads.within, w), omega (arith, append_saved xs ys c px py f, f.heads.within, w))

  module _ {d' : List ℕ} (s : Copied d d' first spare kept) where
    none_kept : kept ≡ 0 → d' ≡ d
    none_kept w = none_copied s w

    all_kept : kept ≡ each → Copied d d' first spare each
    all_kept w = subst (λ (k : ℕ). Copied d d' first spare k) w s

    right_join : (o : Bool) → cs ≡ join o xs ys → KeptFor o each kept → RoomToPrepend u d' (spare + kept) first each n ys
    right_join true c w =
        subst (λ (k : ℕ). RoomToPrepend u d' k first each n ys) (omega (arith, w)) (room_as (none_kept w) refl refl (cross_right xs ys c px f))
    right_join false c w = subst (λ (k : ℕ). RoomToPrepend u d' (spare + k) first each n ys) (sym w) (append_right xs ys c px py f (all_kept w))

    -- the right list's clauses are prepended
    module _ {v : List Cell} {e : List ℕ} {p : Frontier} (q : ClausesPrepended ys u v d' e (spare + kept) first each n p) where
      right_crosswise : kept ≡ 0 → ClausesPrepended ys u v d e spare first each n p
      right_crosswise w = prepended_as (none_kept w) (omega (arith, w)) refl refl q

      right_appended : kept ≡ each → ClausesPrepended ys u v d' e (spare + each) first each n p
      right_appended w = subst (λ (k : ℕ). ClausesPrepended ys u v d' e (spare + k) first each n p) w q

      room_to_restore : (o : Bool) → cs ≡ join o xs ys → KeptFor o each kept
          → (kept ≤ p.first) × (spare + kept ≤ length e) × (p.first - kept + kept ≤ length e)
      room_to_restore true c w =
          (omega (arith, w), omega (arith, w, f.space, f.heads.within, q.elsewhere.heads, s.long), omega (arith, w, q.heads.within))
      room_to_restore false c w =
          let r = append_room xs ys c px py f (all_kept w) (right_appended w) in
          (omega (arith, w, r), omega (arith, w, r, q.heads.within), omega (arith, w, r, q.heads.within))

      module _ {e' : List ℕ} {each' : ℕ} (b : Copied e e' spare (p.first - kept) kept) where
        left_join : (o : Bool) → cs ≡ join o xs ys → KeptFor o each kept → LeftFor o (first + each) (p.first - kept) kept each'
            → RoomToPrepend v e' spare (p.first - kept) each' p.free xs
        left_join true c w a = room_as (none_copied b w) (omega (arith, w)) (omega (arith, w, a)) (cross_left xs ys c px f (right_crosswise w))
        left_join false c w a =
            let z : Copied e e' spare (p.first - each) each = subst (λ (k : ℕ). Copied e e' spare (p.first - k) k) w b in
            room_as refl (omega (arith, w)) (omega (arith, w, a)) (append_left xs ys c px py f (all_kept w) (right_appended w) z)

        done_join : (o : Bool) → cs ≡ join o xs ys → KeptFor o each kept → LeftFor o (first + each) (p.first - kept) kept each'
            → {w : List Cell} {x : List ℕ} {z : Frontier} → ClausesPrepended xs v w e' x spare (p.first - kept) each' p.free z
            → ClausesPrepended cs u w d x spare first each n z
        done_join true c w a t =
            cross_done xs ys c px f (right_crosswise w) (prepended_as (none_copied b w) refl (omega (arith, w)) (omega (arith, w, a)) t)
        done_join false c w a t =
            let z : Copied e e' spare (p.first - each) each = subst (λ (k : ℕ). Copied e e' spare (p.first - k) k) w b in
            append_done xs ys c px py f (all_kept w) (right_appended w) z (prepended_as refl refl (omega (arith, w)) (omega (arith, w, a)) t)

-- ---- the loop

-- the heads that there were are `start`, and those that there are now are `run`; the cells from `used` on were free, and those from `free` on are now
pub record PrependsLeft (l : List ℕ) (u v : List Cell) (d e : List ℕ) (spare : ℕ) (start run : Run) (used free : ℕ) (root r : SignedRow) : Type 0 where
  pub sound : Sound l r.row
  pub under : r.row ≤ root.row
  pub fits : RoomToPrepend v e spare run.first run.each free (clauses_at l r)
  pub done : {w : List Cell} {b : List ℕ} {z : Frontier} → ClausesPrepended (clauses_at l r) v w e b spare run.first run.each free z
      → ClausesPrepended (clauses_at l root) u w d b spare start.first start.each used z
  pub cells : length v ≡ length u
  pub heads : length e ≡ length d

-- an atom
module _ {l : List ℕ} {u v : List Cell} {d e : List ℕ} {spare : ℕ} {start run : Run} {used free : ℕ} {root r atom : SignedRow} {w : Source}
    (low : root.row < rows_max) (p : PrependsLeft l u v d e spare start run used free root r) (i : w ≡ source_at l r) (c : w ≡ Atom atom) where
  one : SourceIs l r (Atom atom)
  one = source_is r p.sound i c

  pub atom_low : atom.row < rows_max
  atom_low = omega (arith, one.0, p.under)

  pub atom_asks : CellsMade v free × HeadsAt e free run.first run.each × (free + run.each ≤ length v)
  atom_asks = let y = subst (RoomToPrepend v e spare run.first run.each free) one.1 p.fits in (y.cells, y.heads, omega (arith, y.room))

  pub atom_done : {x : List Cell} {b : List ℕ} {n m : ℕ} → n ≡ 2 * atom.row + bit atom.negated → Prepended n v x e b run.first run.each free m
      → ClausesPrepended (clauses_at l root) u x d b spare start.first start.each used (record { free = m; first = run.first })
  atom_done y t =
      p.done (atom_prepended (literal atom.negated (tree_at l atom.row)) one.1 (y ∙ sym (literal_number_at l atom.row atom.negated)) t p.fits)

-- two operands
module _ {l : List ℕ} {u v : List Cell} {d e : List ℕ} {spare : ℕ} {start run : Run} {used free : ℕ} {root r left right : SignedRow} {o : Bool} {w : Source}
    (low : root.row < rows_max) (p : PrependsLeft l u v d e spare start run used free root r) (i : w ≡ source_at l r) (c : w ≡ Joined left right o) where
  two : SourceIs l r (Joined left right o)
  two = source_is r p.sound i c

  left_some : 0 < length (clauses_at l left)
  left_some = clauses_some left.negated (tree_at l left.row)

  right_some : 0 < length (clauses_at l right)
  right_some = clauses_some right.negated (tree_at l right.row)

  pub left_falls : left.row < r.row
  left_falls = two.0

  module _ (kept : ℕ) (k : KeptFor o run.each kept) where
    pub keep_asks : (run.first + kept ≤ length e) × (spare + kept ≤ length e)
    keep_asks = room_to_keep (clauses_at l left) (clauses_at l right) left_some right_some p.fits kept o two.2 k

    module _ {e₁ : List ℕ} (s : Copied e e₁ run.first spare kept) where
      pub right_asks : (right.row < root.row)
          × (Sound l right.row × (right.row < rows_max) × RoomToPrepend v e₁ (spare + kept) run.first run.each free (clauses_at l right))
      right_asks = (
        omega (arith, two.1, p.under),
        (
          sound_below right.row p.sound (omega (arith, two.1)),
          omega (arith, two.1, p.under),
          right_join (clauses_at l left) (clauses_at l right) left_some right_some p.fits kept s o two.2 k,
        ),
      )

      module _ {v₁ : List Cell} {e₂ : List ℕ} {t : Frontier}
          (q : ClausesPrepended (clauses_at l right) v v₁ e₁ e₂ (spare + kept) run.first run.each free t) where
        pub restore_asks : (kept ≤ t.first) × (spare + kept ≤ length e₂) × (t.first - kept + kept ≤ length e₂)
        restore_asks = room_to_restore (clauses_at l left) (clauses_at l right) left_some right_some p.fits kept s q o two.2 k

        pub goes_left : {e₃ : List ℕ} {each : ℕ} → Copied e₂ e₃ spare (t.first - kept) kept → LeftFor o (run.first + run.each) (t.first - kept) kept each
            → PrependsLeft l u v₁ d e₃ spare start (record { first = t.first - kept; each = each }) used t.free root left
        goes_left b a = record {
          sound = sound_below left.row p.sound (omega (arith, left_falls));
          under = omega (arith, left_falls, p.under);
          fits = left_join (clauses_at l left) (clauses_at l right) left_some right_some p.fits kept s q b o two.2 k a;
          done = λ x. p.done (done_join (clauses_at l left) (clauses_at l right) left_some right_some p.fits kept s q b o two.2 k a x);
          cells = q.elsewhere.cells ∙ p.cells;
          heads = b.long ∙ q.elsewhere.heads ∙ s.long ∙ p.heads;
        }
