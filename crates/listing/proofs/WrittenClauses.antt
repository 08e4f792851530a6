-- Chains written out: the loop of `write_chain` (`chain_goes`, `chain_written`) and that of `write_clauses`, which begins where all
-- clauses are prepended (`room_to_prepend`, `chains_spell`), writes one clause a turn (`turn_followable`, `turn_room`, `turn_goes`) and leaves what
-- stands after the written numbers (`all_written`).
-- Assumes nothing.
use Prim.Native.Nat.{ℕ, zero, suc, ◌+◌, ◌-◌, ◌<◌, ◌≤◌}
use mathlib.Core.Path.{◌≡◌, refl, sym, ap, ap₂, ◌∙◌, subst}
use mathlib.Core.List.{List, [], ◌∷◌, ◌++◌, map, append_assoc, append-nil}
use native.Mathlib.Omega.{arith}
use native.Mathlib.Nat.{zero-add, add_assoc, add-zero}
use native.Mathlib.Numerals.{add-one}
use lib.ListN.{length, get_or, set, take, drop, length-append, length-map, length-drop, length-set}
use lib.Seq.{sets, length-sets, take-suc, take-length, length-take-le, sets-eq, get_or-set_same, get_or-set_other, get_or-drop, get_or-append_right, ext_get_or}
use Rattle.rows.proofs.Laws.{sets_append}
use Rattle.limits.specs.Limits.{literals_max}
use Rattle.cnf.specs.Clause.{Literal, literal_number, total, literal_numbers, ends_from}
use Rattle.listing.specs.Chain.{cell, cell_at, chain_of, free_of, CellsMade, ChainsSpell, Followable, Wrote}
use Rattle.listing.specs.Listing.{RoomToPrepend, ClausesPrepended, RoomToWrite, Written, Frontier}
use Rattle.listing.specs.declared.Cell.{Cell}
use Rattle.cnf.proofs.Crossing.{cross_end}
use Rattle.cnf.proofs.Sizes.{total_append}
use Rattle.listing.proofs.Chains.{chain_step, chain_none}

-- ---- lists of numbers

literal_numbers_append : (xs ys : List (List Literal)) → literal_numbers (xs ++ ys) ≡ literal_numbers xs ++ literal_numbers ys
literal_numbers_append [] ys = refl
literal_numbers_append (c ∷ xs) ys = simp (literal_numbers_append xs ys, append_assoc)

pub length_literal_numbers : (xs : List (List Literal)) → length (literal_numbers xs) ≡ total xs
length_literal_numbers [] = refl
length_literal_numbers (c ∷ xs) = simp (length-append, length-map, length_literal_numbers xs)

pub length_ends : (at : ℕ) (xs : List (List Literal)) → length (ends_from at xs) ≡ length xs
length_ends at [] = refl
length_ends at (c ∷ xs) = ap suc (length_ends (at + length c) xs)

ends_append : (at : ℕ) (xs ys : List (List Literal)) → ends_from at (xs ++ ys) ≡ ends_from at xs ++ ends_from (at + total xs) ys
ends_append at [] ys = simp add-zero
ends_append at (c ∷ xs) ys =
    simp (ends_append (at + length c) xs ys, add_assoc)

total_take : (cs : List (List Literal)) (k : ℕ) → k < length cs → total (take k cs) + length (get_or cs k []) ≤ total cs
total_take [] k h = absurd (omega arith)
total_take (c ∷ cs) zero h = omega arith
total_take (c ∷ cs) (suc k) h = omega (arith, total_take cs k (omega arith))

-- what stands after the written ones is as it was
sets_front : (l vs : List ℕ) → length vs ≤ length l → sets l 0 vs ≡ vs ++ drop (length vs) l
sets_front l vs h = sets-eq vs l 0 (omega arith) ∙ ap (λ (n : ℕ). vs ++ drop n l) (zero-add (length vs))

-- and so is the next
next_unchanged : (l vs : List ℕ) (k : ℕ) → length vs ≡ k → k ≤ length l → get_or (sets l 0 vs) k 0 ≡ get_or l k 0
next_unchanged l vs k e h =
    let z = sets_front l vs (omega arith) in
    let y = get_or-append_right vs (drop (length vs) l) k 0 (omega arith) in
    let x = get_or-drop (length vs) l (k - length vs) 0 in
    grind arith

-- ---- `write_chain`

-- the chain from cell h on is left to be written from place `at` on, of the chain from `head` and place `start`
pub record ChainLeft (u : List Cell) (a b : List ℕ) (head start h at : ℕ) : Type 0 where
  pub followable : Followable u h
  pub wrote : sets b at (chain_of u h) ≡ sets a start (chain_of u head)
  pub next : at + length (chain_of u h) ≡ start + length (chain_of u head)
  pub same : length b ≡ length a

module _ {u : List Cell} {a b : List ℕ} {head start h at : ℕ} (p : ChainLeft u a b head start h at) where
  module _ (q : 0 < h) where
    step : chain_of u h ≡ (cell_at u h).literal ∷ chain_of u (cell_at u h).next
    step = chain_step u h p.followable.falls q

    pub chain_room : start + length (chain_of u head) ≤ length a → at < length b
    chain_room r = omega (arith, p.next, ap length step, p.same)

    pub chain_goes : {x y : ℕ} → x ≡ (cell_at u h).literal → y ≡ (cell_at u h).next → ChainLeft u a (set b at x) head start y (at + 1)
    chain_goes {x} {y} e f = record {
      followable = record {
        there = omega (arith, p.followable.falls h q (omega arith), p.followable.there);
        falls = λ k c d. p.followable.falls k c (omega (arith, p.followable.falls h q (omega arith)));
      };
      wrote =
          ap (λ (k : ℕ). sets (set b at x) (at + 1) (chain_of u k)) f
          ∙ ap₂ (λ (k : ℕ) (z : ℕ). sets (set b at z) k (chain_of u (cell_at u h).next)) (add-one at) e
          ∙ ap (sets b at) (sym step)
          ∙ p.wrote;
      next = omega (arith, ap (λ (k : ℕ). length (chain_of u k)) f, p.next, ap length step);
      same = length-set b at x ∙ p.same;
    }

  pub chain_written : h ≤ 0 → Wrote a b start at (chain_of u head)
  chain_written q =
      let z : h ≡ 0 = omega arith in
      let n : chain_of u h ≡ [] = ap (chain_of u) z ∙ chain_none u in
      record { wrote = sym (ap (sets b at) n) ∙ p.wrote; next = omega (arith, p.next, ap length n) }

-- ---- `write_clauses`: what is prepended

-- the chains of the n clauses cs can be written: their heads are the first of hs, and the literals and the ends fit the lists a and hs
pub record ChainsReady (cs : List (List Literal)) (v : List Cell) (a hs : List ℕ) (n : ℕ) : Type 0 where
  pub all : n ≡ length cs
  pub free : ℕ
  pub cells : CellsMade v free
  pub within : free ≤ length v
  pub below : (k : ℕ) → k < length cs → get_or hs k 0 < free
  pub spell : ChainsSpell v hs 0 cs
  pub literals : total cs ≤ length a
  pub ends : length cs ≤ length hs
  pub low : total cs ≤ literals_max

module _ (cs : List (List Literal)) {u : List Cell} {a d : List ℕ} (last : ℕ) (e : last + 1 ≡ length cs) (s : RoomToWrite u a d cs) where
  -- cell 0 says that the next free cell is the first
  abbrev first : Cell
  first = cell (cell_at u 0).literal 1

  one_free : free_of (set u 0 first) ≡ 1
  one_free = ap (λ (k : Cell). k.next) (get_or-set_same u 0 first (cell 0 0) (omega (arith, s.cells)))

  -- one head, of the empty chain
  pub room_to_prepend : RoomToPrepend (set u 0 first) (set d last 0) 0 last 1 (free_of (set u 0 first)) cs
  room_to_prepend = subst (λ (n : ℕ). RoomToPrepend (set u 0 first) (set d last 0) 0 last 1 n cs) (sym one_free) (record {
    cells = record { some = omega arith; long = omega (arith, length-set u 0 first, s.long); falls = λ h a b. absurd (omega arith) };
    heads = record {
      within = omega (arith, length-set d last 0, s.ends);
      below = λ i q.
          let y : last + i ≡ last = omega arith in
          omega (arith, ap (λ (j : ℕ). get_or (set d last 0) j 0) y, get_or-set_same d last 0 0 (omega (arith, s.ends)));
    };
    room = omega (arith, s.cells, length-set u 0 first);
    space = omega arith;
  })

  module _ {v : List Cell} {hs : List ℕ} {p : Frontier}
      (q' : ClausesPrepended cs (set u 0 first) v (set d last 0) hs 0 last 1 (free_of (set u 0 first)) p) where
    q : ClausesPrepended cs (set u 0 first) v (set d last 0) hs 0 last 1 1 p
    q = subst (λ (n : ℕ). ClausesPrepended cs (set u 0 first) v (set d last 0) hs 0 last 1 n p) one_free q'

    cells_within : p.free ≤ length v
    cells_within = omega (arith, q.used, q.elsewhere.cells, s.cells, length-set u 0 first)

    chains_spell : ChainsSpell v hs 0 cs
    chains_spell =
        let z : p.first ≡ 0 = omega (arith, q.end) in
        subst (λ (i : ℕ). ChainsSpell v hs i cs) z (subst (ChainsSpell v hs p.first) (cross_end cs) (q.spells ([] ∷ []) refl (record {
          chain = λ i h.
              let y : i ≡ 0 = omega arith in
              let x : last + i ≡ last = omega arith in
              ap (λ (j : ℕ). chain_of (set u 0 first) (get_or (set d last 0) j 0)) x
              ∙ ap (chain_of (set u 0 first)) (get_or-set_same d last 0 0 (omega (arith, s.ends)))
              ∙ chain_none (set u 0 first)
              ∙ ap (λ (j : ℕ). map literal_number (get_or ([] ∷ []) j [])) (sym y);
        })))

    heads_below : (k : ℕ) → k < length cs → get_or hs k 0 < p.free
    heads_below k h =
        let z : p.first + k ≡ k = omega (arith, q.end) in
        subst (λ (i : ℕ). get_or hs i 0 < p.free) z (q.heads.below k (omega arith))

    -- what stands after the heads
    pub rest_unchanged : drop (length cs) hs ≡ drop (length cs) d
    rest_unchanged = ext_get_or 0 (drop (length cs) hs) (drop (length cs) d)
        (length-drop (length cs) hs ∙ ap (λ (n : ℕ). n - length cs) (q.elsewhere.heads ∙ length-set d last 0) ∙ sym (length-drop (length cs) d))
        (λ i h.
        get_or-drop (length cs) hs i 0
        ∙ q.elsewhere.after (length cs + i) (omega arith)
        ∙ get_or-set_other d last (length cs + i) 0 0 (λ z. omega arith)
        ∙ sym (get_or-drop (length cs) d i 0))

    pub long_heads : length hs ≡ length d
    long_heads = q.elsewhere.heads ∙ length-set d last 0

    pub chains_ready : {n : ℕ} → n ≡ length cs → ChainsReady cs v a hs n
    chains_ready all = record {
      all = all;
      free = p.free;
      cells = q.cells;
      within = cells_within;
      below = heads_below;
      spell = chains_spell;
      literals = s.literals;
      ends = omega (arith, s.ends, long_heads);
      low = omega (arith, s.cells, s.long);
    }

-- ---- `write_clauses`: one clause a turn

-- the first k clauses are written: the literals over a, the ends over the heads hs
pub record FirstWritten (cs : List (List Literal)) (a b hs e : List ℕ) (at k : ℕ) : Type 0 where
  pub place : at ≡ total (take k cs)
  pub literals : b ≡ sets a 0 (literal_numbers (take k cs))
  pub ends : e ≡ sets hs 0 (ends_from 0 (take k cs))

pub none_written : (cs : List (List Literal)) (a hs : List ℕ) → FirstWritten cs a a hs hs 0 0
none_written cs a hs = record { place = refl; literals = refl; ends = refl }

module _ (cs : List (List Literal)) {a b hs e : List ℕ} {at k : ℕ} (p : FirstWritten cs a b hs e at k) where
  pub long_literals : length b ≡ length a
  long_literals = ap length p.literals ∙ length-sets a 0 (literal_numbers (take k cs))

  module _ {u : List Cell} {n : ℕ} (y : ChainsReady cs u a hs n) (less : k < n) {x : ℕ} (ex : x ≡ get_or e k 0) where
    h : k < length cs
    h = omega (arith, y.all)

    -- the head that is read is the one that was left there
    head_is : x ≡ get_or hs k 0
    head_is =
        ex ∙ ap (λ (m : List ℕ). get_or m k 0) p.ends
        ∙ next_unchanged hs (ends_from 0 (take k cs)) k (length_ends 0 (take k cs) ∙ length-take-le k cs (omega (arith, h))) (omega (arith, h, y.ends))

    pub turn_followable : Followable u x
    turn_followable = record {
      there = omega (arith, head_is, y.below k h, y.within);
      falls = λ i g j. y.cells.falls i g (omega (arith, head_is, y.below k h));
    }

    chain_is : chain_of u x ≡ map literal_number (get_or cs k [])
    chain_is = ap (chain_of u) (head_is ∙ ap (λ (i : ℕ). get_or hs i 0) (sym (zero-add k))) ∙ y.spell.chain k h

    pub turn_room : at + length (chain_of u x) ≤ length b
    turn_room =
        omega (arith, ap length chain_is, length-map (get_or cs k []) literal_number, total_take cs k h, p.place, long_literals, y.literals)

    pub turn_low : {b' : List ℕ} {at' : ℕ} → Wrote b b' at at' (chain_of u x) → at' ≤ literals_max
    turn_low w = omega (arith, w.next, ap length chain_is, length-map (get_or cs k []) literal_number, total_take cs k h, p.place, y.low)

    pub turn_goes : {b' : List ℕ} {at' v : ℕ} → Wrote b b' at at' (chain_of u x) → v ≡ at' → FirstWritten cs a b' hs (set e k v) at' (k + 1)
    turn_goes {b'} {at'} {v} w z =
        let t : take (k + 1) cs ≡ take k cs ++ (get_or cs k [] ∷ []) = ap (λ (i : ℕ). take i cs) (add-one k) ∙ take-suc cs k [] h in
        let c : List Literal = get_or cs k [] in
        let at-is : at' ≡ total (take k cs) + length c = w.next ∙ ap₂ ◌+◌ p.place (ap length chain_is ∙ length-map c literal_number) in
        record {
          place = at-is ∙ sym (ap total t ∙ total_append (take k cs) (c ∷ []) ∙ ap (λ (i : ℕ). total (take k cs) + i) (add-zero (length c)));
          literals =
              w.wrote
              ∙ ap (sets b at) chain_is
              ∙ ap₂ (λ (m : List ℕ) (i : ℕ). sets m i (map literal_number c)) p.literals
              (p.place ∙ sym (length_literal_numbers (take k cs)) ∙ sym (zero-add (length (literal_numbers (take k cs)))))
              ∙ sets_append a 0 (literal_numbers (take k cs)) (map literal_number c)
              ∙ ap (sets a 0)
              (ap (λ (m : List ℕ). literal_numbers (take k cs) ++ m) (sym (append-nil (map literal_number c)))
              ∙ sym (literal_numbers_append (take k cs) (c ∷ []))
              ∙ ap literal_numbers (sym t));
          ends =
              ap₂ (λ (m : List ℕ) (i : ℕ). set m i v) p.ends
              (sym (length-take-le k cs (omega (arith, h))) ∙ sym (length_ends 0 (take k cs)) ∙ sym (zero-add (length (ends_from 0 (take k cs)))))
              ∙ sets_append hs 0 (ends_from 0 (take k cs)) (v ∷ [])
              ∙ ap (λ (i : ℕ). sets hs 0 (ends_from 0 (take k cs) ++ (i ∷ []))) (z ∙ at-is ∙ ap (λ (i : ℕ). i + length c) (sym (zero-add (total (take k cs)))))
              ∙ ap (sets hs 0) (sym (ends_append 0 (take k cs) (c ∷ [])) ∙ ap (ends_from 0) (sym t));
        }

pub all_written : (cs : List (List Literal)) {a b d : List ℕ} {v : List Cell} {hs e : List ℕ} {at k n : ℕ} → FirstWritten cs a b hs e at k
    → ChainsReady cs v a hs n → k ≡ n → drop (length cs) hs ≡ drop (length cs) d → Written cs a b d e
all_written cs {a} {b} {d} {v} {hs} {e} {at} {k} p y z same =
    let t : take k cs ≡ cs = ap (λ (i : ℕ). take i cs) (z ∙ y.all) ∙ take-length cs in
    record {
      literals =
          p.literals
          ∙ ap (λ (xs : List (List Literal)). sets a 0 (literal_numbers xs)) t
          ∙ sets_front a (literal_numbers cs) (omega (arith, length_literal_numbers cs, y.literals))
          ∙ ap (λ (n : ℕ). literal_numbers cs ++ drop n a) (length_literal_numbers cs);
      ends =
          p.ends
          ∙ ap (λ (xs : List (List Literal)). sets hs 0 (ends_from 0 xs)) t
          ∙ sets_front hs (ends_from 0 cs) (omega (arith, length_ends 0 cs, y.ends))
          ∙ ap (λ (n : ℕ). ends_from 0 cs ++ drop n hs) (length_ends 0 cs)
          ∙ ap (λ (l : List ℕ). ends_from 0 cs ++ l) same;
    }
