-- The rows of a well-formed tree, wherever they lie in a table, are read back as that tree: each row's operands stand directly before it
-- (`tree_read_back`). So a table that begins with them begins with one whole tree (`rows_read_back`).
-- Assumes nothing.
use mathlib.Core.Path.{◌≡◌, refl, sym, ap, ◌∙◌}
use mathlib.Core.List.{List, [], ◌∷◌, ◌++◌}
use Prim.Native.Nat.{ℕ, zero, suc, ◌+◌, ◌*◌, ◌<◌}
use native.Mathlib.Nat.{add-zero, zero-add}
use native.Mathlib.Numerals.{add-one}
use native.Mathlib.Omega.{arith}
use borrow.Author.Tests.{eq-eqb}
use lib.ListN.{length, take, drop, replicate, length-append}
use lib.Seq.{take-append_seam, drop-drop, take-take, take-add, drop_at}
use Rattle.rows.specs.Label.{Label, leaf_row, row_over_one, row_over_two, row_over_many, label_over_one, label_over_two, label_over_many}
use Rattle.rows.specs.Layout.{width, numbers, row_at}
use Rattle.rows.specs.PostOrder.{Subtree, at, any, Operands, found, stands_before, before, directly_before, Next, bad, on, push}
use Rattle.rows.specs.declared.Row.{Row}
use Rattle.rows.proofs.Numbers.{row_of_numbers}
use Rattle.rows.proofs.StackedOperands.{took}
use Rattle.syntax.specs.Tree.{Tree, leaf, unary, binary, call, Trees, none, more, size, sizes, many, root, rows_of, rows_all}
use Rattle.syntax.specs.Read.{Arity, nullary, one, two, counted, arity_of, operands_by, gather, over_one, over_two, node_by, step_at, and_then}
use Rattle.syntax.specs.Read.{read_from, Whole}
use Rattle.syntax.proofs.Lengths.{length_rows, length_all}

-- labels that fit a node without operands, over one, over two, and over any number of them: the kind has so many operands, and a number is 0 where the
-- node's row names an operand or counts them
abbrev pub FitsLeaf : Label → Type 0
FitsLeaf l = arity_of l.kind ≡ nullary

abbrev pub FitsOverOne : Label → Type 0
FitsOverOne l = (arity_of l.kind ≡ one) × (label_over_one (row_over_one l 0) ≡ l)

abbrev pub FitsOverTwo : Label → Type 0
FitsOverTwo l = (arity_of l.kind ≡ two) × (label_over_two (row_over_two l 0 0) ≡ l)

abbrev pub FitsOverMany : Label → Type 0
FitsOverMany l = (arity_of l.kind ≡ counted) × (label_over_many (row_over_many l 0) ≡ l)

-- a tree that its rows tell: each label fits its node
abbrev mutual
  pub WellFormed : Tree → Type 0
  WellFormed (leaf l) = FitsLeaf l
  WellFormed (unary l a) = FitsOverOne l × WellFormed a
  WellFormed (binary l a b) = FitsOverTwo l × (WellFormed a × WellFormed b)
  WellFormed (call l xs) = FitsOverMany l × AllWellFormed xs

  pub AllWellFormed : Trees → Type 0
  AllWellFormed none = Unit {0}
  AllWellFormed (more xs x) = AllWellFormed xs × WellFormed x

-- the rows from row n of t on are these
pub record Lies (t : List ℕ) (n : ℕ) (rows : List ℕ) : Type 0 where
  pub there : take (length rows) (drop (n * width) t) ≡ rows

-- two runs of rows, one after the other
first_lies : (t : List ℕ) (n : ℕ) (a b : List ℕ) → Lies t n (a ++ b) → Lies t n a
first_lies t n a b l =
    record {
      there =
          sym (take-take (length a) (length (a ++ b)) (drop (n * width) t) (omega (arith, length-append a b)))
          ∙ ap (take (length a)) l.there
          ∙ take-append_seam a b;
    }

second_lies : (t : List ℕ) (n k : ℕ) (a b : List ℕ) → length a ≡ k * width → Lies t n (a ++ b) → Lies t (n + k) b
second_lies t n k a b long l = record { there = rest }
  where
    d : List ℕ
    d = drop (n * width) t

    whole : take (length a + length b) d ≡ a ++ b
    whole = ap (λ (j : ℕ). take j d) (sym (length-append a b)) ∙ l.there

    front : take (length a) d ≡ a
    front = (first_lies t n a b l).there

    -- the first run, and what follows it
    parts : take (length a) d ++ take (length b) (drop (length a) d) ≡ a ++ b
    parts = sym (take-add (length a) (length b) d) ∙ whole

    same : a ++ take (length b) (drop (length a) d) ≡ a ++ b
    same = ap (λ (z : List ℕ). z ++ take (length b) (drop (length a) d)) (sym front) ∙ parts

    there : take (length b) (drop (length a) d) ≡ b
    there = sym (drop_at a _ (length a) refl) ∙ ap (drop (length a)) same ∙ drop_at a b (length a) refl

    place : drop ((n + k) * width) t ≡ drop (length a) d
    place =
        ap (λ (j : ℕ). drop j t) (let e : (n + k) * width ≡ n * width + length a = omega arith in e)
        ∙ sym (drop-drop (length a) (n * width) t)

    rest : take (length b) (drop ((n + k) * width) t) ≡ b
    rest = ap (take (length b)) place ∙ there

-- a row that lies at n is row n
row_lies : (t : List ℕ) (n : ℕ) (r : Row) → Lies t n (numbers r) → row_at t n ≡ r
row_lies t n r l = row_of_numbers t n r l.there

-- rows in two runs
read_add : (t : List ℕ) (k j r : ℕ) (stack : List (Subtree Tree)) → read_from t (k + j) r stack ≡ and_then (read_from t k r stack) (read_from t j (r + k))
unfolding read_from and_then
read_add t zero j r stack =
    ap (λ (n : ℕ). read_from t n r stack) (zero-add j) ∙ ap (λ (n : ℕ). read_from t j n stack) (sym (add-zero r))
read_add t (suc k) j r stack =
    ap (λ (n : ℕ). read_from t n r stack) (let e : suc k + j ≡ suc (k + j) = omega arith in e) ∙ by (λ s. read_add t k j (r + 1) s) (step_at t r stack)
  where
    by : ((s : List (Subtree Tree)) → read_from t (k + j) (r + 1) s ≡ and_then (read_from t k (r + 1) s) (read_from t j (r + 1 + k))) →
        (n : Next Tree) → and_then n (read_from t (k + j) (r + 1)) ≡ and_then (and_then n (read_from t k (r + 1))) (read_from t j (r + suc k))
    by f bad = refl
    by f (on s) = f s ∙ ap (λ (n : ℕ). and_then (read_from t k (r + 1) s) (read_from t j n)) (let e : r + 1 + k ≡ r + suc k = omega arith in e)

-- rows up to s, then more
read_then : (t : List ℕ) (k j r : ℕ) (stack : List (Subtree Tree)) {s : List (Subtree Tree)} → read_from t k r stack ≡ on s →
    read_from t (k + j) r stack ≡ read_from t j (r + k) s
unfolding and_then
read_then t k j r stack e = read_add t k j r stack ∙ ap (λ (n : Next Tree). and_then n (read_from t j (r + k))) e

-- one row
read_row : (t : List ℕ) (r : ℕ) (q : Row) (k : Arity) (stack : List (Subtree Tree)) → Lies t r (numbers q) → arity_of q.kind ≡ k →
    read_from t 1 r stack ≡ push (node_by k q) (directly_before (operands_by k q) r stack)
unfolding read_from step_at and_then
read_row t r q k stack l e =
    by (step_at t r stack)
    ∙ ap (λ (q : Row). push (node_by (arity_of q.kind) q) (directly_before (operands_by (arity_of q.kind) q) r stack)) (row_lies t r q l)
    ∙ ap (λ (k : Arity). push (node_by k q) (directly_before (operands_by k q) r stack)) e
  where
    by : (n : Next Tree) → and_then n (read_from t zero (r + 1)) ≡ n
    by bad = refl
    by (on s) = refl

abbrev subtree : ℕ → Tree → Subtree Tree
subtree n x = record { first = n; tree = x }

size_some : (x : Tree) → 0 < size x
unfolding size
size_some (leaf l) = omega arith
size_some (unary l a) = omega arith
size_some (binary l a b) = omega arith
size_some (call l xs) = omega arith

-- the operand that a row names is the subtree on top
on_top : (r next : ℕ) (w : Subtree Tree) (trees : List Tree) (left : List (Subtree Tree)) → r + 1 ≡ next →
    before (at r) (found next trees (w ∷ left)) ≡ found w.first (w.tree ∷ trees) left
on_top r next w trees left e = took r next trees w left (eq-eqb (r + 1) next e)

-- arguments: their subtrees on a stack, the last on top, and their trees in order
abbrev stack_of : ℕ → Trees → List (Subtree Tree) → List (Subtree Tree)
stack_of n none stack = stack
stack_of n (more xs x) stack = subtree (n + sizes xs) x ∷ stack_of n xs stack

abbrev list_of : Trees → List Tree → List Tree
list_of none l = l
list_of (more xs x) l = list_of xs (x ∷ l)

gather_list : (xs : Trees) (l : List Tree) → gather none (list_of xs l) ≡ gather xs l
unfolding gather
gather_list none l = refl
gather_list (more xs x) l = gather_list xs (x ∷ l)

-- so many operands, whichever they are
unfoldable times : ℕ → Operands Tree → Operands Tree
times zero o = o
times (suc k) o = times k (before any o)

before_times : (k : ℕ) (o : Operands Tree) → before any (times k o) ≡ times k (before any o)
unfolding times
before_times zero o = refl
before_times (suc k) o = before_times k (before any o)

times_before : (k r : ℕ) (stack : List (Subtree Tree)) → directly_before (replicate k any) r stack ≡ times k (found r [] stack)
unfolding directly_before times
times_before zero r stack = refl
times_before (suc k) r stack = ap (before any) (times_before k r stack) ∙ before_times k (found r [] stack)

-- the operands of a function are its arguments
arguments_before : (n next : ℕ) (xs : Trees) (l : List Tree) (stack : List (Subtree Tree)) → next ≡ n + sizes xs →
    times (many xs) (found next l (stack_of n xs stack)) ≡ found n (list_of xs l) stack
unfolding times many before stands_before size
arguments_before n next none l stack e = ap (λ (k : ℕ). found k l stack) (e ∙ add-zero n)
arguments_before n next (more xs x) l stack e =
    ap (λ (k : ℕ). times k (found next l (stack_of n (more xs x) stack))) (add-one (many xs)) ∙ arguments_before n (n + sizes xs) xs (x ∷ l) stack refl

mutual
  unfolding rows_of size push directly_before operands_by gather over_one over_two node_by read_from

  pub tree_read_back : (t : List ℕ) (n : ℕ) (x : Tree) (stack : List (Subtree Tree)) → WellFormed x → Lies t n (rows_of n x) →
      read_from t (size x) n stack ≡ on (subtree n x ∷ stack)
  tree_read_back t n (leaf l) stack is lies = read_row t n (leaf_row l) nullary stack lies is
  tree_read_back t n (unary l a) stack is lies =
      let q = row_over_one l (root n a) in
      let operand = first_lies t n (rows_of n a) (numbers q) lies in
      let last = second_lies t n (size a) (rows_of n a) (numbers q) (length_rows n a) lies in
      read_then t (size a) 1 n stack (tree_read_back t n a stack is.1 operand)
      ∙ read_row t (n + size a) q one (subtree n a ∷ stack) last is.0.0
      ∙ ap (push (over_one q)) (on_top (root n a) (n + size a) (subtree n a) [] stack (omega (arith, size_some a)))
      ∙ ap (λ (m : Label). on (subtree n (unary m a) ∷ stack)) is.0.1
  tree_read_back t n (binary l a b) stack is lies =
      let m = n + size a in
      let q = row_over_two l (root n a) (root m b) in
      let front = rows_of n a ++ rows_of m b in
      let both = first_lies t n front (numbers q) lies in
      let long : length front ≡ (size a + size b) * width = length-append (rows_of n a) (rows_of m b) ∙ omega (arith, length_rows n a, length_rows m b) in
      let left = tree_read_back t n a stack is.1.0 (first_lies t n (rows_of n a) (rows_of m b) both) in
      let right-lies = second_lies t n (size a) (rows_of n a) (rows_of m b) (length_rows n a) both in
      let right = tree_read_back t m b (subtree n a ∷ stack) is.1.1 right-lies in
      let last = second_lies t n (size a + size b) front (numbers q) long lies in
      let end : n + (size a + size b) ≡ m + size b = omega arith in
      read_then t (size a + size b) 1 n stack (read_then t (size a) (size b) n stack left ∙ right)
      ∙ read_row t (n + (size a + size b)) q two (subtree m b ∷ subtree n a ∷ stack) last is.0.0
      ∙ ap (λ (o : Operands Tree). push (over_two q) (before (at (root n a)) o))
      (on_top (root m b) (n + (size a + size b)) (subtree m b) [] (subtree n a ∷ stack) (omega (arith, size_some b)))
      ∙ ap (push (over_two q)) (on_top (root n a) m (subtree n a) (b ∷ []) stack (omega (arith, size_some a)))
      ∙ ap (λ (m : Label). on (subtree n (binary m a b) ∷ stack)) is.0.1
  tree_read_back t n (call l xs) stack is lies =
      let q = row_over_many l (many xs) in
      let arguments = first_lies t n (rows_all n xs) (numbers q) lies in
      let last = second_lies t n (sizes xs) (rows_all n xs) (numbers q) (length_all n xs) lies in
      read_then t (sizes xs) 1 n stack (trees_read_back t n xs stack is.1 arguments)
      ∙ read_row t (n + sizes xs) q counted (stack_of n xs stack) last is.0.0
      ∙ ap (push (node_by counted q)) (times_before (many xs) (n + sizes xs) (stack_of n xs stack) ∙ arguments_before n (n + sizes xs) xs [] stack refl)
      ∙ ap (λ (ys : Trees). on (subtree n (call (label_over_many q) ys) ∷ stack)) (gather_list xs [])
      ∙ ap (λ (m : Label). on (subtree n (call m xs) ∷ stack)) is.0.1

  trees_read_back : (t : List ℕ) (n : ℕ) (xs : Trees) (stack : List (Subtree Tree)) → AllWellFormed xs → Lies t n (rows_all n xs) →
      read_from t (sizes xs) n stack ≡ on (stack_of n xs stack)
  trees_read_back t n none stack is lies = refl
  trees_read_back t n (more xs x) stack is lies =
      let before-it = first_lies t n (rows_all n xs) (rows_of (n + sizes xs) x) lies in
      let it = second_lies t n (sizes xs) (rows_all n xs) (rows_of (n + sizes xs) x) (length_all n xs) lies in
      read_then t (sizes xs) (size x) n stack (trees_read_back t n xs stack is.0 before-it)
      ∙ tree_read_back t (n + sizes xs) x (stack_of n xs stack) is.1 it

-- a table that begins with a tree's rows is read back as that tree
pub rows_read_back : (x : Tree) (rest : List ℕ) → WellFormed x → Whole (rows_of 0 x ++ rest) (size x) x
rows_read_back x rest is =
    record { back = tree_read_back (rows_of 0 x ++ rest) 0 x [] is (record { there = take-append_seam (rows_of 0 x) rest }) }
