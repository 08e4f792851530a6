-- Clauses put before chains: an atom's literal is put before each chain (`atom_prepended`); the clauses of one list after the other (`append-..`), with the
-- heads saved while those of the right list are prepended; and each with each (`cross-..`).
-- Assumes nothing.
use Prim.Native.Nat.{ℕ, ◌+◌, ◌*◌, ◌-◌, ◌<◌, ◌≤◌}
use mathlib.Core.Path.{◌≡◌, sym, ap, ap₂, ◌∙◌, subst}
use mathlib.Core.List.{List, [], ◌∷◌, ◌++◌, map}
use native.Mathlib.Omega.{arith}
use native.Mathlib.Decide.{dec_lt}
use native.Mathlib.Nat.{le-mul_of_pos_right}
use lib.ListN.{length, get_or, length-append, length-map, get_or-append}
use lib.Seq.{get_or-append-add}
use Rattle.cnf.specs.Clause.{Literal, literal_number, cross, total}
use Rattle.listing.specs.Chain.{chain_of, CellsMade, ChainsSpell}
use Rattle.listing.specs.Heads.{Prepended, Copied}
use Rattle.listing.specs.Listing.{RoomToPrepend, ClausesPrepended, Frontier}
use Rattle.listing.specs.declared.Cell.{Cell}
use Rattle.cnf.proofs.Crossing.{get_before, cross_append, cross_cross, cross_one}
use Rattle.cnf.proofs.Sizes.{length_cross, total_append, total_cross}
use Rattle.listing.proofs.Chains.{chain_step, chain_unchanged, prepended_cells}

-- ---- an atom

pub atom_prepended : (x : Literal) {cs : List (List Literal)} {n' : ℕ} {u v : List Cell} {d e : List ℕ} {spare first each n m : ℕ}
    → cs ≡ (x ∷ []) ∷ [] → n' ≡ literal_number x
    → Prepended n' u v d e first each n m → RoomToPrepend u d spare first each n cs
    → ClausesPrepended cs u v d e spare first each n (record { free = m; first = first })
atom_prepended x {cs} {n'} {u} {v} {d} {e} {spare} {first} {each} {n} {m} c ex p f' =
    subst (λ (zs : List (List Literal)). ClausesPrepended zs u v d e spare first each n (record { free = m; first = first })) (sym c) (record {
      end = omega arith;
      cells = made;
      heads = record { within = omega (arith, p.elsewhere.heads, f.heads.within); below = λ i q. omega (arith, p.heads i (omega arith), p.used) };
      used = omega (arith, p.used);
      elsewhere = record {
        more = p.elsewhere.more;
        cells = p.elsewhere.cells;
        heads = p.elsewhere.heads;
        old = p.elsewhere.old;
        unused = p.elsewhere.unused;
        before = λ i q. p.elsewhere.before i (omega (arith, f.space));
        after = p.elsewhere.after;
      };
      spells = λ ps l o. subst (ChainsSpell v e first) (sym (cross_one x ps)) (record {
        chain = λ i q.
            let y : i < length ps = omega (arith, length-map ps (λ (b : List Literal). (x ∷ []) ++ b)) in
            one ps l o i y ∙ ap (map literal_number) (sym (get_before (x ∷ []) ps i y));
      });
    })
  where
    f : RoomToPrepend u d spare first each n ((x ∷ []) ∷ [])
    f = subst (RoomToPrepend u d spare first each n) c f'

    made : CellsMade v m
    made = prepended_cells p f.cells f.heads

    one : (ps : List (List Literal)) → length ps ≡ each → ChainsSpell u d first ps → (i : ℕ) → i < length ps
        → chain_of v (get_or e (first + i) 0) ≡ literal_number x ∷ map literal_number (get_or ps i [])
    one ps l o i q =
        let y : i < each = omega arith in
        ap (chain_of v) (p.heads i y)
        ∙ chain_step v (n + i) (λ k a b. made.falls k a (omega (arith, p.used))) (omega (arith, f.cells.some))
        ∙ ap₂ (λ (z : ℕ) (t : List ℕ). z ∷ t) (ap (λ (k : Cell). k.literal) (p.here i y) ∙ ex)
        (ap (λ (k : Cell). chain_of v k.next) (p.here i y)
        ∙ chain_unchanged u v n (get_or d (first + i) 0) f.cells p.elsewhere.old (f.heads.below i y)
        ∙ o.chain i q)

-- ---- one list after the other

module _ {cs : List (List Literal)} (xs ys : List (List Literal)) (c : cs ≡ xs ++ ys) (px : 0 < length xs) (py : 0 < length ys)
    {u : List Cell} {d : List ℕ} {spare first each n : ℕ} (f : RoomToPrepend u d spare first each n cs) where
  all_literals : total cs * each ≡ total xs * each + total ys * each
  all_literals = ap (λ (k : ℕ). k * each) (ap total c ∙ total_append xs ys) ∙ omega arith

  all_clauses : length cs * each ≡ length xs * each + length ys * each
  all_clauses = ap (λ (k : ℕ). k * each) (ap length c ∙ length-append xs ys) ∙ omega arith

  -- the heads fit twice, and the place where they are saved is before them
  pub append_saved : spare + each ≤ first
  append_saved = omega (arith, f.space, all_clauses, le-mul_of_pos_right each px, le-mul_of_pos_right each py)

  module _ {d' : List ℕ} (s : Copied d d' first spare each) where
    pub append_right : RoomToPrepend u d' (spare + each) first each n ys
    append_right = record {
      cells = f.cells;
      heads = record {
        within = omega (arith, s.long, f.heads.within);
        below = λ i q. omega (arith, s.after (first + i) (omega (arith, append_saved)), f.heads.below i q);
      };
      room = omega (arith, f.room, all_literals);
      space = omega (arith, f.space, all_clauses, le-mul_of_pos_right each px);
    }

    module _ {v : List Cell} {e : List ℕ} {p : Frontier} (q : ClausesPrepended ys u v d' e (spare + each) first each n p) where
      pub append_room : spare + each ≤ p.first
      append_room = omega (arith, q.end, f.space, all_clauses, le-mul_of_pos_right each px)

      -- the heads are still saved
      saved : (i : ℕ) → i < each → get_or e (spare + i) 0 ≡ get_or d (first + i) 0
      saved i h = q.elsewhere.before (spare + i) (omega arith) ∙ s.copy i h

      module _ {e' : List ℕ} (b : Copied e e' spare (p.first - each) each) where
        -- the heads that were saved stand directly before those of the second list
        restored : (i : ℕ) → i < each → get_or e' (p.first - each + i) 0 ≡ get_or d (first + i) 0
        restored i h = b.copy i h ∙ saved i h

        pub append_left : RoomToPrepend v e' spare (p.first - each) each p.free xs
        append_left = record {
          cells = q.cells;
          heads = record {
            within = omega (arith, b.long, append_room, q.heads.within);
            below = λ i h. omega (arith, restored i h, f.heads.below i h, q.elsewhere.more);
          };
          room = omega (arith, f.room, all_literals, q.used, q.elsewhere.cells);
          space = omega (arith, f.space, all_clauses, q.end, append_room);
        }

        pub append_done : {w : List Cell} {a : List ℕ} {z : Frontier} → ClausesPrepended xs v w e' a spare (p.first - each) each p.free z
            → ClausesPrepended cs u w d a spare first each n z
        append_done {w} {a} {z} r = record {
          end = omega (arith, r.end, q.end, all_clauses, append_room);
          cells = r.cells;
          heads = record {
            within = omega (arith, after_all, f.heads.within, r.end, q.end, all_clauses, append_room);
            below = λ i h. heads_go i h (dec_lt i (length xs * each));
          };
          used = omega (arith, q.used, r.used, all_literals);
          elsewhere = record {
            more = omega (arith, q.elsewhere.more, r.elsewhere.more);
            cells = r.elsewhere.cells ∙ q.elsewhere.cells;
            heads = after_all;
            old = λ i g h. r.elsewhere.old i g (omega (arith, q.elsewhere.more)) ∙ q.elsewhere.old i g h;
            unused = λ g. r.elsewhere.unused (omega (arith, q.elsewhere.more)) ∙ q.elsewhere.unused g;
            before = λ i h. r.elsewhere.before i h ∙ b.before i (omega (arith, append_room)) ∙ q.elsewhere.before i (omega arith) ∙ s.before i h;
            after = λ i h.
                r.elsewhere.after i (omega (arith, q.end, append_room))
                ∙ b.after i (omega (arith, q.end, append_room))
                ∙ q.elsewhere.after i h
                ∙ s.after i (omega (arith, append_saved));
          };
          spells = λ ps l o. subst (λ (zs : List (List Literal)). ChainsSpell w a z.first (cross zs ps)) (sym c)
              (subst (ChainsSpell w a z.first) (sym (cross_append xs ys ps)) (both ps l o));
        }
          where
            after_all : length a ≡ length d
            after_all = r.elsewhere.heads ∙ b.long ∙ q.elsewhere.heads ∙ s.long

            -- the second list's heads are as they were
            right_unchanged : (i : ℕ) → get_or a (p.first + i) 0 ≡ get_or e (p.first + i) 0
            right_unchanged i = r.elsewhere.after (p.first + i) (omega (arith, append_room)) ∙ b.after (p.first + i) (omega (arith, append_room))

            heads_go : (i : ℕ) → i < length cs * each → Dec (i < length xs * each) → get_or a (z.first + i) 0 < z.free
            heads_go i h (yes g) = r.heads.below i g
            heads_go i h (no g) =
                let j = i - length xs * each in
                let y : z.first + i ≡ p.first + j = omega (arith, r.end, append_room) in
                omega (arith, ap (λ (k : ℕ). get_or a k 0) y, right_unchanged j, q.heads.below j (omega (arith, all_clauses)), r.elsewhere.more)

            left : (ps : List (List Literal)) → length ps ≡ each → ChainsSpell u d first ps → ChainsSpell w a z.first (cross xs ps)
            left ps l o = r.spells ps l (record {
              chain = λ i h.
                  let y : i < each = omega arith in
                  ap (chain_of v) (restored i y)
                  ∙ chain_unchanged u v n (get_or d (first + i) 0) f.cells q.elsewhere.old (f.heads.below i y)
                  ∙ o.chain i h;
            })

            right : (ps : List (List Literal)) → length ps ≡ each → ChainsSpell u d first ps → ChainsSpell v e p.first (cross ys ps)
            right ps l o = q.spells ps l (record { chain = λ i h. ap (chain_of u) (s.after (first + i) (omega (arith, append_saved))) ∙ o.chain i h })

            both : (ps : List (List Literal)) → length ps ≡ each → ChainsSpell u d first ps → ChainsSpell w a z.first (cross xs ps ++ cross ys ps)
            both ps l o = record { chain = λ i h. go i h (dec_lt i (length (cross xs ps))) }
              where
                lx : length (cross xs ps) ≡ length xs * each
                lx = length_cross xs ps ∙ ap (λ (j : ℕ). length xs * j) l

                ly : length (cross ys ps) ≡ length ys * each
                ly = length_cross ys ps ∙ ap (λ (j : ℕ). length ys * j) l

                go : (i : ℕ) → i < length (cross xs ps ++ cross ys ps) → Dec (i < length (cross xs ps))
                    → chain_of w (get_or a (z.first + i) 0) ≡ map literal_number (get_or (cross xs ps ++ cross ys ps) i [])
                go i h (yes g) = (left ps l o).chain i g ∙ ap (map literal_number) (sym (get_or-append (cross xs ps) (cross ys ps) [] i g))
                go i h (no g) =
                    let j = i - length (cross xs ps) in
                    let y : z.first + i ≡ p.first + j = omega (arith, r.end, lx, append_room) in
                    let x : length (cross xs ps) + j ≡ i = omega arith in
                    let k : j < length (cross ys ps) = omega (arith, length-append (cross xs ps) (cross ys ps)) in
                    ap (λ (m : ℕ). chain_of w (get_or a m 0)) y
                    ∙ ap (chain_of w) (right_unchanged j)
                    ∙ chain_unchanged v w p.free (get_or e (p.first + j) 0) q.cells r.elsewhere.old (q.heads.below j (omega (arith, ly)))
                    ∙ (right ps l o).chain j k
                    ∙ ap (map literal_number) (sym (get_or-append-add (cross xs ps) (cross ys ps) j []))
                    ∙ ap (λ (m : ℕ). map literal_number (get_or (cross xs ps ++ cross ys ps) m [])) x

-- ---- each with each

module _ {cs : List (List Literal)} (xs ys : List (List Literal)) (c : cs ≡ cross xs ys) (px : 0 < length xs)
    {u : List Cell} {d : List ℕ} {spare first each n : ℕ} (f : RoomToPrepend u d spare first each n cs) where
  every_literal : total cs * each ≡ total xs * (length ys * each) + length xs * (total ys * each)
  every_literal = ap (λ (k : ℕ). k * each) (ap total c ∙ total_cross xs ys) ∙ omega arith

  every_clause : length cs * each ≡ length xs * (length ys * each)
  every_clause = ap (λ (k : ℕ). k * each) (ap length c ∙ length_cross xs ys) ∙ omega arith

  pub cross_right : RoomToPrepend u d spare first each n ys
  cross_right = record {
    cells = f.cells;
    heads = f.heads;
    room = omega (arith, f.room, every_literal, le-mul_of_pos_right (total ys * each) px);
    space = omega (arith, f.space, every_clause, le-mul_of_pos_right (length ys * each) px);
  }

  module _ {v : List Cell} {e : List ℕ} {p : Frontier} (q : ClausesPrepended ys u v d e spare first each n p) where
    cross_each : first + each - p.first ≡ length ys * each
    cross_each = omega (arith, q.end)

    pub cross_left : RoomToPrepend v e spare p.first (first + each - p.first) p.free xs
    cross_left = subst (λ (k : ℕ). RoomToPrepend v e spare p.first k p.free xs) (sym cross_each) (record {
      cells = q.cells;
      heads = q.heads;
      room = omega (arith, f.room, every_literal, q.used, q.elsewhere.cells, le-mul_of_pos_right (total ys * each) px);
      space = omega (arith, f.space, every_clause, q.end);
    })

    pub cross_done : {w : List Cell} {a : List ℕ} {z : Frontier} → ClausesPrepended xs v w e a spare p.first (first + each - p.first) p.free z
        → ClausesPrepended cs u w d a spare first each n z
    cross_done {w} {a} {z} r' = record {
      end = omega (arith, r.end, q.end, every_clause);
      cells = r.cells;
      heads = record { within = omega (arith, r.heads.within, every_clause); below = λ i h. r.heads.below i (omega (arith, every_clause)) };
      used = omega (arith, every_literal, q.used, r.used, le-mul_of_pos_right (total ys * each) px);
      elsewhere = record {
        more = omega (arith, q.elsewhere.more, r.elsewhere.more);
        cells = r.elsewhere.cells ∙ q.elsewhere.cells;
        heads = r.elsewhere.heads ∙ q.elsewhere.heads;
        old = λ i g h. r.elsewhere.old i g (omega (arith, q.elsewhere.more)) ∙ q.elsewhere.old i g h;
        unused = λ g. r.elsewhere.unused (omega (arith, q.elsewhere.more)) ∙ q.elsewhere.unused g;
        before = λ i h. r.elsewhere.before i h ∙ q.elsewhere.before i h;
        after = λ i h. r.elsewhere.after i (omega (arith, q.end)) ∙ q.elsewhere.after i h;
      };
      spells = λ ps l o.
          subst (λ (zs : List (List Literal)). ChainsSpell w a z.first (cross zs ps)) (sym c)
          (subst (ChainsSpell w a z.first) (sym (cross_cross xs ys ps))
          (r.spells (cross ys ps) (length_cross ys ps ∙ ap (λ (k : ℕ). length ys * k) l) (q.spells ps l o)));
    }
      where
        r : ClausesPrepended xs v w e a spare p.first (length ys * each) p.free z
        r = subst (λ (k : ℕ). ClausesPrepended xs v w e a spare p.first k p.free z) cross_each r'
