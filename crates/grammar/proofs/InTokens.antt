-- A token that is something is one of the tokens: past them every kind is 0, and 0 is no operator and starts no atom.
-- Assumes nothing.
use mathlib.Core.Path.{◌≡◌, refl, sym, ap, ◌∙◌}
use mathlib.Core.Bool.{Bool, true, false, ◌&&◌}
use mathlib.Core.List.{List}
use Prim.Native.Nat.{ℕ, ◌<◌}
use native.Mathlib.Omega.{arith}
use lib.Dec.{leb, ltb}
use Rattle.tokens.specs.Token.{token_count, kind_at}
use Rattle.tokens.proofs.TokenTable.{kind_in}
use Rattle.operators.specs.Operator.{among, binds, infix_of, prefix_of, postfix_of}
use Rattle.grammar.specs.Atom.{start_of}
use Rattle.grammar.specs.declared.Start.{Start}
use Rattle.grammar.specs.declared.Start.TheVariants as start

-- no token starts an atom
abbrev pub nothing? : Start → Bool
nothing? start.Nothing = true
nothing? start.Number = false
nothing? start.Text = false
nothing? start.Name = false
nothing? start.Paren = false
nothing? (start.Plain kind x) = false
nothing? start.Other = false

module _ (ts : List ℕ) where
  -- a token of a kind that is not 0 is one of the tokens
  pub kind_is : (i k : ℕ) → 0 < k → kind_at ts i ≡ k → i < token_count ts
  kind_is i k pos e = kind_in ts i (λ z. let same : k ≡ 0 = sym e ∙ z in omega arith)

  -- and so is an operator that binds
  binds_in : (f : ℕ → ℕ) → f 0 ≡ 0 → (i m : ℕ) → binds (f (kind_at ts i)) m ≡ true → i < token_count ts
  unfolding binds
  binds_in f z i m e =
      kind_in ts i
      (λ k. let bad : false ≡ true = ap (λ (p : ℕ). ltb 0 p && leb m p) (sym z) ∙ ap (λ (j : ℕ). ltb 0 (f j) && leb m (f j)) (sym k) ∙ e in
      let no_way : ◌≡◌ {A = ℕ} 0 1 = cc in
      omega arith)

  pub prefix_in : (i m : ℕ) → binds (prefix_of (kind_at ts i)).precedence m ≡ true → i < token_count ts
  unfolding prefix_of among
  prefix_in = binds_in (λ k. (prefix_of k).precedence) refl

  pub infix_in : (i m : ℕ) → binds (infix_of (kind_at ts i)).precedence m ≡ true → i < token_count ts
  unfolding infix_of among
  infix_in = binds_in (λ k. (infix_of k).precedence) refl

  pub postfix_in : (i m : ℕ) → binds (postfix_of (kind_at ts i)) m ≡ true → i < token_count ts
  unfolding postfix_of among
  postfix_in = binds_in postfix_of refl

  -- and so is what an atom starts with
  pub start_in : (i : ℕ) (s : Start) → start_of (kind_at ts i) ≡ s → nothing? s ≡ false → i < token_count ts
  unfolding start_of among
  start_in i s e some =
      kind_in ts i (λ z. let bad : true ≡ false = ap (λ (k : ℕ). nothing? (start_of k)) (sym z) ∙ ap nothing? e ∙ some in
      let no_way : ◌≡◌ {A = ℕ} 0 1 = cc in
      omega arith)
