-- The answers of `split`: a refusal (`splits_refused`), and the written lists otherwise (`splits_listed`), which mean the predicate (`split_means`).
-- Assumes nothing.
use Prim.Native.Nat.{ℕ}
use mathlib.Core.Path.{◌≡◌, refl, sym, ap, ap₂, ◌∙◌, subst}
use mathlib.Core.Bool.{Bool, true, false, ◌||◌}
use mathlib.Core.List.{List, ◌++◌}
use lib.ListN.{length, take, drop}
use lib.Dec.{ltb}
use lib.Seq.{take_at}
use Rattle.std.specs.Prelude.{Result, Ok, Err}
use Rattle.limits.specs.Limits.{clauses_max, literals_max}
use Rattle.refusals.specs.Refusal.{refused as refusal_at}
use Rattle.refusals.specs.declared.Refusal.{Refusal}
use Rattle.refusals.specs.declared.Refused.{Refused}
use Rattle.refusals.specs.declared.Refusal.TheVariants.{TooMany, NoList}
use Rattle.predicate.specs.Tree.{Tree}
use Rattle.predicate.specs.Read.{Reading, one, refused, read_rows}
use Rattle.cnf.specs.Clause.{Literal, clauses, total, literal_numbers, ends_from}
use Rattle.cnf.specs.Kleene.{read_back, Means}
use Rattle.splitter.specs.Split.{listed, Split, list_of, split_of, split_numbers, Gives, Splits}
use Rattle.splitter.specs.declared.Listed.{Listed}
use Rattle.listing.proofs.WrittenClauses.{length_ends}
use Rattle.cnf.proofs.Meaning.{numbered, read_back_lem, clauses_mean}

differ : {l : Listed} {e : Refused} → ◌≡◌ {A = Result Listed Refused} (Ok l) (Err e) → ⊥
differ e = cc

same : {l k : Listed} → ◌≡◌ {A = Result Listed Refused} (Ok l) (Ok k) → l ≡ k
same e = cc

-- ---- an answer of clauses is that of the last case

module _ (cs : List (List Literal)) (a d : List ℕ) where
  many : Bool
  many = ltb clauses_max (length cs) || ltb literals_max (total cs)

  short : Bool
  short = ltb (length a) (total cs) || ltb (length d) (length cs)

  -- what is listed, by the outcomes of the tests: are there too many, and is a list too short?
  abbrev listed_by : Bool → Bool → Split
  listed_by toomany tooshort =
      elim toomany [
        | true ↦ record { answer = Err (refusal_at TooMany 0); literals = a; ends = d }
        | false ↦
            elim tooshort [
              | true ↦ record { answer = Err (refusal_at NoList 0); literals = a; ends = d }
              | false ↦
                  record {
                    answer = Ok (listed (length cs) (total cs));
                    literals = literal_numbers cs ++ drop (total cs) a;
                    ends = ends_from 0 cs ++ drop (length cs) d;
                  }
            ]
      ]

  by_tests : (b c : Bool) → many ≡ b → short ≡ c → list_of cs a d ≡ listed_by b c
  unfolding list_of many short
  by_tests b c e f = ap₂ listed_by e f

  abbrev IsListed : ℕ → Split → Type 0
  IsListed c s = (c ≡ length cs) × (s.literals ≡ literal_numbers cs ++ drop (total cs) a) × (s.ends ≡ ends_from 0 cs ++ drop (length cs) d)

  only_the_last_is_listed : (p q : Bool) (c m : ℕ) → Ok (listed c m) ≡ (listed_by p q).answer → IsListed c (listed_by p q)
  only_the_last_is_listed true q c m e = absurd (differ e)
  only_the_last_is_listed false true c m e = absurd (differ e)
  only_the_last_is_listed false false c m e = (ap (λ (l : Listed). l.clauses) (same e), refl, refl)

  listed_is : {c m : ℕ} → Ok (listed c m) ≡ (list_of cs a d).answer → IsListed c (list_of cs a d)
  listed_is {c} {m} e =
      let by : list_of cs a d ≡ listed_by many short = by_tests many short refl refl in
      subst (IsListed c) (sym by) (only_the_last_is_listed many short c m (e ∙ ap (λ (s : Split). s.answer) by))

-- ---- what a caller gets

-- equal lists are listed alike
pub listed_as : (a d : List ℕ) {cs ds : List (List Literal)} {b x : List ℕ} {v : Result Listed Refused} → cs ≡ ds → Gives (list_of ds a d) v b x
    → Gives (list_of cs a d) v b x
listed_as a d {cs} {ds} {b} {x} {v} same h = subst (λ (es : List (List Literal)). Gives (list_of es a d) v b x) (sym same) h

module _ (text rows a d : List ℕ) where
  -- what is given, and what it means where clauses are answered, are the whole promise
  splits : {v : Result Listed Refused} {b x : List ℕ} → Gives (split_of (read_rows text rows) a d) v b x
      → ((t : Tree) (c m : ℕ) → read_rows text rows ≡ one t → v ≡ Ok (listed c m) → Means t (read_back b 0 (take c x)))
      → Splits text rows a d v b x
  splits p means = record {
    gives = p;
    numbers = ap split_numbers p.answer;
    means = means;
  }

  pub splits_refused : {why : Refusal} {place : ℕ} → read_rows text rows ≡ refused why place → Splits text rows a d (Err (refusal_at why place)) a d
  unfolding split_of
  splits_refused {why} {place} e =
      splits
      (subst (λ (r : Reading). Gives (split_of r a d) (Err (refusal_at why place)) a d) (sym e) (record { answer = refl; literals = refl; ends = refl }))
      (λ t c m f g. absurd (differ (sym g)))

  pub splits_listed : (t : Tree) {v : Result Listed Refused} {b x : List ℕ} → read_rows text rows ≡ one t → Gives (list_of (clauses false t) a d) v b x
      → Splits text rows a d v b x
  unfolding split_of
  splits_listed t {v} {b} {x} e p =
      splits
      (subst (λ (r : Reading). Gives (split_of r a d) v b x) (sym e) p)
      (λ t' c m f g. subst (λ (s : Tree). Means s (read_back b 0 (take c x))) (same_tree t' f) (clauses_mean t (back c m g)))
    where
      same_tree : (t' : Tree) → read_rows text rows ≡ one t' → t ≡ t'
      same_tree t' f = let g : one t ≡ one t' = sym e ∙ f in (cc)

      back : (c m : ℕ) → v ≡ Ok (listed c m) → read_back b 0 (take c x) ≡ numbered (clauses false t)
      back c m g =
          let z = listed_is (clauses false t) a d (sym g ∙ p.answer) in
          ap₂ (λ (l : List ℕ) (k : List ℕ). read_back l 0 (take c k)) (p.literals ∙ z.1) (p.ends ∙ z.2)
          ∙ ap (read_back (literal_numbers (clauses false t) ++ drop (total (clauses false t)) a) 0)
          (take_at (ends_from 0 (clauses false t)) (drop (length (clauses false t)) d) c (length_ends 0 (clauses false t) ∙ sym z.0))
          ∙ read_back_lem (drop (total (clauses false t)) a) (clauses false t)

-- the theorem alone: where the definition answers clauses, the numbers that it leaves in the lists mean the predicate
pub split_means : (text rows a d : List ℕ) (t : Tree) (c m : ℕ) → read_rows text rows ≡ one t → (split_of (read_rows text rows) a d).answer ≡ Ok (listed c m)
    → Means t (read_back (split_of (read_rows text rows) a d).literals 0 (take c (split_of (read_rows text rows) a d).ends))
unfolding split_of
split_means text rows a d t c m e f =
    subst (λ (r : Reading). Means t (read_back (split_of r a d).literals 0 (take c (split_of r a d).ends))) (sym e)
    ((splits_listed text rows a d t e (record { answer = refl; literals = refl; ends = refl })).means t c m e
    (ap (λ (r : Reading). (split_of r a d).answer) (sym e) ∙ f))
