-- Conflicts of closed procedures, worked by hand.
use Rattle.std.specs.Prelude.{codes}
use Rattle.std.specs.Fmt.{digits}
use Rattle.std.proofs.lemmas.Int.{ints}
use Rattle.std.proofs.Common.{◌≡◌, ◌≤ℤ◌, arith, ℕ, ℤ, pos, negsuc, true, List, [], ◌∷◌, None, refl}
use Rattle.exo_tree.specs.Tree.{I32, Size, Binder, Control, Lit, Var, Add, Sub, Lt, Const, Read}
use Rattle.exo_tree.specs.Tree.{Assign, Reduce, If, For, Alloc, View, Span, Statement, Block, end}
use Rattle.exo_tree.specs.Tree.{next, Param, ControlParam, TensorParam, Procedure, Program}
use Rattle.exo_tree.specs.Places.{Main, Path}
use Rattle.affine_forms.specs.Affine.{Affine, Constraints, IsIntegerPoint}
use Rattle.affine_forms.specs.Atoms.{Variable, none, term, Linear, only, constantly}
use Rattle.affine_forms.specs.Formulas.{Formula, row, at_most}
use Rattle.affine_systems.specs.Outcomes.{owed}
use Rattle.exo_meaning.specs.Modes.{Reading, Writing}
use Rattle.exo_meaning.specs.Units.{IsProcedure}
use Rattle.exo_effects.specs.Uses.{uses_at}
use Rattle.exo_effects.specs.Low.{uses_are_low}
use Rattle.exo_effects.proofs.LowProcedures.{well_formed_is_low}
use Rattle.exo_effects.proofs.LowUses.{uses_stay_low}
use Rattle.exo_effects.specs.Accesses.{At, Access, accesses_of}
use Rattle.exo_effects.specs.Orders.{Header, Less, Greater, Order, order_of}
use Rattle.exo_effects.specs.Conflicts.{Lists, conflicts_of}

-- ---- def f(M: size, N: size, A: i32[M, N], C: i32[N], D: i32[M, N])

abbrev named : ℕ → ℕ → Binder
named id letter = record { id = id; name = letter ∷ [] }

abbrev size : ℕ → ℕ → Param
size id letter = record { binder = named id letter; kind = ControlParam Size }

abbrev tensor : ℕ → ℕ → List Control → Param
tensor id letter dims = record { binder = named id letter; kind = TensorParam I32 dims 0 }

abbrev of_body : Block → Procedure
of_body b = record {
  name = 102 ∷ [];
  params = size 0 77 ∷ size 1 78 ∷ tensor 2 65 (Var 0 ∷ Var 1 ∷ [])
      ∷ tensor 3 67 (Var 1 ∷ []) ∷ tensor 4 68 (Var 0 ∷ Var 1 ∷ []) ∷ [];
  asserts = [];
  body = b;
  template = None;
}

abbrev unit_of : Block → Program
unit_of b = record { procedures = of_body b ∷ []; fields = []; memories = [] }

-- `for i in seq(lo, M): for j in seq(c, d):` round some statements
abbrev nest : Control → Control → Control → Block → Block
nest lo c d b = next (For (named 5 105) lo (Var 0) (next (For (named 6 106) c d b) end)) end

abbrev inside : Path
inside = record { branch = Main; index = 0 } ∷ record { branch = Main; index = 0 }
    ∷ record { branch = Main; index = 0 } ∷ []

abbrev accesses : ℕ → Block → List Access
accesses count b = accesses_of (unit_of b) (of_body b) inside count

-- the sizes are at least 1
abbrev context : List Formula
context = at_most (constantly (pos 1)) (only (Variable 0)) ∷ at_most (constantly (pos 1)) (only (Variable 1)) ∷ []

-- the first copy has the lesser i and the greater j
abbrev crossing : Control → Control → Control → Order
crossing lo c d =
    let hs = record { binder = named 5 105; lo = lo; hi = Var 0 }
    ∷ record { binder = named 6 106; lo = c; hi = d } ∷ [] in
    order_of hs hs (Less 0 ∷ Greater 1 ∷ [])

abbrev sum : ℤ → List ℤ → Affine
sum k cs = record { constant = k; coefficients = cs }

-- ---- `A[i, j] = A[i - 1, j + 1]`, with i from 1 and j below N - 1

abbrev slanted : Block
slanted = nest (Lit (pos 1)) (Lit (pos 0)) (Sub (Var 1) (Lit (pos 1))) (next (Assign 2 (Var 5 ∷ Var 6 ∷ [])
    (Read 2 (Sub (Var 5) (Lit (pos 1)) ∷ Add (Var 6) (Lit (pos 1)) ∷ []))) end)

-- over M, N, i, j, and i and j of the second copy
abbrev slanted_rows : List Affine
slanted_rows =
    sum (negsuc 0) (pos 1 ∷ pos 0 ∷ pos 0 ∷ pos 0 ∷ pos 0 ∷ pos 0 ∷ [])
    ∷ sum (negsuc 0) (pos 0 ∷ pos 1 ∷ pos 0 ∷ pos 0 ∷ pos 0 ∷ pos 0 ∷ [])
    ∷ sum (negsuc 0) (pos 0 ∷ pos 0 ∷ pos 1 ∷ pos 0 ∷ pos 0 ∷ pos 0 ∷ [])
    ∷ sum (negsuc 0) (pos 1 ∷ pos 0 ∷ negsuc 0 ∷ pos 0 ∷ pos 0 ∷ pos 0 ∷ [])
    ∷ sum (pos 0) (pos 0 ∷ pos 0 ∷ pos 0 ∷ pos 1 ∷ pos 0 ∷ pos 0 ∷ [])
    ∷ sum (negsuc 1) (pos 0 ∷ pos 1 ∷ pos 0 ∷ negsuc 0 ∷ pos 0 ∷ pos 0 ∷ [])
    ∷ sum (negsuc 0) (pos 0 ∷ pos 0 ∷ pos 0 ∷ pos 0 ∷ pos 1 ∷ pos 0 ∷ [])
    ∷ sum (negsuc 0) (pos 1 ∷ pos 0 ∷ pos 0 ∷ pos 0 ∷ negsuc 0 ∷ pos 0 ∷ [])
    ∷ sum (pos 0) (pos 0 ∷ pos 0 ∷ pos 0 ∷ pos 0 ∷ pos 0 ∷ pos 1 ∷ [])
    ∷ sum (negsuc 1) (pos 0 ∷ pos 1 ∷ pos 0 ∷ pos 0 ∷ pos 0 ∷ negsuc 0 ∷ [])
    ∷ sum (negsuc 0) (pos 0 ∷ pos 0 ∷ negsuc 0 ∷ pos 0 ∷ pos 1 ∷ pos 0 ∷ [])
    ∷ sum (negsuc 0) (pos 0 ∷ pos 0 ∷ pos 0 ∷ pos 1 ∷ pos 0 ∷ negsuc 0 ∷ [])
    ∷ []

-- i less i of the second copy and a number, and j likewise
abbrev slanted_system : ℤ → ℤ → Constraints
slanted_system m n = record {
  variables = 6;
  equations = sum m (pos 0 ∷ pos 0 ∷ pos 1 ∷ pos 0 ∷ negsuc 0 ∷ pos 0 ∷ [])
      ∷ sum n (pos 0 ∷ pos 0 ∷ pos 0 ∷ pos 1 ∷ pos 0 ∷ negsuc 0 ∷ []) ∷ [];
  rows = slanted_rows;
}

abbrev place : Path
place = record { branch = Main; index = 0 } ∷ []

row_6 : conflicts_of true context (crossing (Lit (pos 1)) (Lit (pos 0)) (Sub (Var 1) (Lit (pos 1)))) place (accesses 1 slanted) (accesses 1 slanted)
    ≡ Lists (owed (codes "A[i, j] against A[i, j]") place (slanted_system (pos 0) (pos 0))
    ∷ owed (codes "A[i, j] against A[i - 1, j + 1]") place (slanted_system (pos 1) (negsuc 0))
    ∷ owed (codes "A[i - 1, j + 1] against A[i, j]") place (slanted_system (negsuc 0) (pos 1))
    ∷ [])
unfolding digits
row_6 = refl

low : (n : ℕ) → pos 0 ≤ℤ pos n
low n = omega (arith, ints)

-- the second of them has a point: M = N = 3, i = 1 and j = 1 meet i = 2 and j = 0
row_6_is_open : IsIntegerPoint (slanted_system (pos 1) (negsuc 0)) (pos 3 ∷ pos 3 ∷ pos 1 ∷ pos 1 ∷ pos 2 ∷ pos 0 ∷ [])
row_6_is_open = record {
  one_each = refl;
  equations_hold = (refl, (refl, tt));
  rows_hold = (low 2, (low 2, (low 0, (low 1, (low 1, (low 0, (low 1, (low 0, (low 0, (low 1, (low 0, (low 0, tt))))))))))));
}

-- ---- `C[j] += A[i, j]`, and `D[i, j] = C[0]` behind it

abbrev row_sum : Statement
row_sum = Reduce 3 (Var 6 ∷ []) (Read 2 (Var 5 ∷ Var 6 ∷ []))

abbrev sums : Block
sums = nest (Lit (pos 0)) (Lit (pos 0)) (Var 1) (next row_sum end)

abbrev kept : Block
kept = nest (Lit (pos 0)) (Lit (pos 0)) (Var 1)
    (next row_sum (next (Assign 4 (Var 5 ∷ Var 6 ∷ []) (Read 3 (Lit (pos 0) ∷ []))) end))

abbrev sums_order : Order
sums_order = crossing (Lit (pos 0)) (Lit (pos 0)) (Var 1)

abbrev sums_rows : List Affine
sums_rows =
    sum (negsuc 0) (pos 1 ∷ pos 0 ∷ pos 0 ∷ pos 0 ∷ pos 0 ∷ pos 0 ∷ [])
    ∷ sum (negsuc 0) (pos 0 ∷ pos 1 ∷ pos 0 ∷ pos 0 ∷ pos 0 ∷ pos 0 ∷ [])
    ∷ sum (pos 0) (pos 0 ∷ pos 0 ∷ pos 1 ∷ pos 0 ∷ pos 0 ∷ pos 0 ∷ [])
    ∷ sum (negsuc 0) (pos 1 ∷ pos 0 ∷ negsuc 0 ∷ pos 0 ∷ pos 0 ∷ pos 0 ∷ [])
    ∷ sum (pos 0) (pos 0 ∷ pos 0 ∷ pos 0 ∷ pos 1 ∷ pos 0 ∷ pos 0 ∷ [])
    ∷ sum (negsuc 0) (pos 0 ∷ pos 1 ∷ pos 0 ∷ negsuc 0 ∷ pos 0 ∷ pos 0 ∷ [])
    ∷ sum (pos 0) (pos 0 ∷ pos 0 ∷ pos 0 ∷ pos 0 ∷ pos 1 ∷ pos 0 ∷ [])
    ∷ sum (negsuc 0) (pos 1 ∷ pos 0 ∷ pos 0 ∷ pos 0 ∷ negsuc 0 ∷ pos 0 ∷ [])
    ∷ sum (pos 0) (pos 0 ∷ pos 0 ∷ pos 0 ∷ pos 0 ∷ pos 0 ∷ pos 1 ∷ [])
    ∷ sum (negsuc 0) (pos 0 ∷ pos 1 ∷ pos 0 ∷ pos 0 ∷ pos 0 ∷ negsuc 0 ∷ [])
    ∷ sum (negsuc 0) (pos 0 ∷ pos 0 ∷ negsuc 0 ∷ pos 0 ∷ pos 1 ∷ pos 0 ∷ [])
    ∷ sum (negsuc 0) (pos 0 ∷ pos 0 ∷ pos 0 ∷ pos 1 ∷ pos 0 ∷ negsuc 0 ∷ [])
    ∷ []

abbrev sums_system : List Affine → Constraints
sums_system es = record { variables = 6; equations = es; rows = sums_rows }

-- reductions exchange, so nothing is owed
row_7 : conflicts_of true context sums_order place (accesses 1 sums) (accesses 1 sums) ≡ Lists []
unfolding digits
row_7 = refl

-- the third is refused: j is 0 in the second copy, and greater in the first
row_7_kept : conflicts_of true context sums_order place (accesses 2 kept) (accesses 2 kept)
    ≡ Lists (owed (codes "C[j] against C[0]") place (sums_system (sum (pos 0) (pos 0 ∷ pos 0 ∷ pos 0 ∷ pos 1 ∷ pos 0 ∷ pos 0 ∷ []) ∷ []))
    ∷ owed (codes "D[i, j] against D[i, j]") place (sums_system (sum (pos 0) (pos 0 ∷ pos 0 ∷ pos 1 ∷ pos 0 ∷ negsuc 0 ∷ pos 0 ∷ [])
    ∷ sum (pos 0) (pos 0 ∷ pos 0 ∷ pos 0 ∷ pos 1 ∷ pos 0 ∷ negsuc 0 ∷ []) ∷ []))
    ∷ owed (codes "C[0] against C[j]") place (sums_system (sum (pos 0) (pos 0 ∷ pos 0 ∷ pos 0 ∷ pos 0 ∷ pos 0 ∷ negsuc 0 ∷ []) ∷ []))
    ∷ [])
unfolding digits
row_7_kept = refl

-- ---- accesses through a view, in a loop and a branch; a buffer of the piece is left out

-- `w = A[1:3, 0:N]`, then `for k in seq(0, 2):` with `t: i32[2]`, `if k < 1: w[k, 2] = 1` and
-- `t[k] = w[1, 3]`
abbrev through_view : Block
through_view = next (View (named 7 119) 2 (Span (Lit (pos 1)) (Lit (pos 3)) ∷ Span (Lit (pos 0)) (Var 1) ∷ []))
    (next (For (named 8 107) (Lit (pos 0)) (Lit (pos 2)) (next (Alloc (named 9 116) I32 (Lit (pos 2) ∷ []) 0)
    (next (If (Lt (Var 8) (Lit (pos 1))) (next (Assign 7 (Var 8 ∷ Lit (pos 2) ∷ []) (Const (pos 1))) end) end)
    (next (Assign 9 (Var 8 ∷ []) (Read 7 (Lit (pos 1) ∷ Lit (pos 3) ∷ []))) end)))) end)

abbrev behind_view : Path
behind_view = record { branch = Main; index = 1 } ∷ []

abbrev k_form : ℤ → Linear
k_form n = record { constant = n; terms = term (pos 1) (Variable 8) none }

abbrev minus_k : ℤ → Formula
minus_k n = row (record { constant = n; terms = term (negsuc 0) (Variable 8) none })

seen_through : accesses_of (unit_of through_view) (of_body through_view) behind_view 1
    ≡ record {
      root = 2;
      mode = Writing;
      coords = At (k_form (pos 1)) ∷ At (constantly (pos 2)) ∷ [];
      own = 8 ∷ [];
      guards = row (k_form (pos 0)) ∷ minus_k (pos 1) ∷ minus_k (pos 0) ∷ [];
      fits = true;
      text = codes "w[k, 2]";
    } ∷ record {
      root = 2;
      mode = Reading;
      coords = At (constantly (pos 2)) ∷ At (constantly (pos 3)) ∷ [];
      own = 8 ∷ [];
      guards = row (k_form (pos 0)) ∷ minus_k (pos 1) ∷ [];
      fits = true;
      text = codes "w[1, 3]";
    } ∷ []
unfolding digits
seen_through = refl

-- ---- two loops: `for k in seq(0, 16): C[k] = 1`, then `for l in seq(0, 16): D[l, 0] = C[15 - l]`

abbrev two_loops : Block
two_loops = next (For (named 8 107) (Lit (pos 0)) (Lit (pos 16)) (next (Assign 3 (Var 8 ∷ []) (Const (pos 1))) end))
    (next (For (named 9 108) (Lit (pos 0)) (Lit (pos 16)) (next (Assign 4 (Var 9 ∷ Lit (pos 0) ∷ []) (Read 3 (Sub (Lit (pos 15)) (Var 9) ∷ []))) end)) end)

abbrev in_loop : ℕ → Path
in_loop k = record { branch = Main; index = k } ∷ record { branch = Main; index = 0 } ∷ []

abbrev loop_over : ℕ → ℕ → Header
loop_over id letter = record { binder = named id letter; lo = Lit (pos 0); hi = Lit (pos 16) }

-- the second body at an earlier turn against the first: l + k = 15 is met, so they are not fused
back_to_front : conflicts_of true context (order_of (loop_over 9 108 ∷ []) (loop_over 8 107 ∷ []) (Less 0 ∷ [])) place
    (accesses_of (unit_of two_loops) (of_body two_loops) (in_loop 1) 1) (accesses_of (unit_of two_loops) (of_body two_loops) (in_loop 0) 1)
    ≡ Lists (owed (codes "C[15 - l] against C[k]") place (record {
      variables = 4;
      equations = sum (pos 15) (pos 0 ∷ pos 0 ∷ negsuc 0 ∷ negsuc 0 ∷ []) ∷ [];
      rows = sum (negsuc 0) (pos 1 ∷ pos 0 ∷ pos 0 ∷ pos 0 ∷ [])
          ∷ sum (negsuc 0) (pos 0 ∷ pos 1 ∷ pos 0 ∷ pos 0 ∷ [])
          ∷ sum (pos 0) (pos 0 ∷ pos 0 ∷ pos 1 ∷ pos 0 ∷ [])
          ∷ sum (pos 15) (pos 0 ∷ pos 0 ∷ negsuc 0 ∷ pos 0 ∷ [])
          ∷ sum (pos 0) (pos 0 ∷ pos 0 ∷ pos 0 ∷ pos 1 ∷ [])
          ∷ sum (pos 15) (pos 0 ∷ pos 0 ∷ pos 0 ∷ negsuc 0 ∷ [])
          ∷ sum (negsuc 0) (pos 0 ∷ pos 0 ∷ negsuc 0 ∷ pos 1 ∷ []) ∷ [];
    }) ∷ [])
unfolding digits
back_to_front = refl

-- ---- the first of them is well formed, so its uses are affine, over variables below 2^31

slanted_is_well_formed : IsProcedure (λ f. None) 1 (λ k. None) (of_body slanted)
slanted_is_well_formed = record {
  params = refl;
  asserts = refl;
  body = refl;
  filled = refl;
  ids = refl;
  distinct = refl;
  paths = refl;
  template = refl;
}

slanted_uses_are_low : uses_are_low (uses_at (unit_of slanted) (of_body slanted) inside 1) ≡ true
slanted_uses_are_low =
    uses_stay_low (unit_of slanted) (of_body slanted) inside 1
    (well_formed_is_low (λ f. None) 1 (λ k. None) (of_body slanted) slanted_is_well_formed)
