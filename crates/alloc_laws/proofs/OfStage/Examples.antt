-- The rule on closed procedures.
use Rattle.std.proofs.Common.{◌≡◌, ℕ, pos, Bool, true, false, List, [], ◌∷◌, Option, Some, None}
use Rattle.std.proofs.Common.{refl}
use Rattle.std.specs.Prelude.{codes}
use Rattle.std.specs.Fmt.{digits}
use Rattle.exo_tree.specs.Tree.{Size, Binder, I32, Control, Lit, Var, StrideOf, Add, Mul, Lt, Le, Eq}
use Rattle.exo_tree.specs.Tree.{At, Span, Const, Read, Times, Assign, Reduce, For, Alloc, View, Call}
use Rattle.exo_tree.specs.Tree.{ControlArg, Whole, Window, Block, end, next, Param, ControlParam, TensorParam}
use Rattle.exo_tree.specs.Tree.{WindowParam, Procedure}
use Rattle.exo_tree.specs.Context.{Here}
use Rattle.exo_tree.specs.Places.{Main, Path, Opened, opened}
use Rattle.meaning_laws.specs.Facts.{Holds}
use Rattle.cursor_forward.specs.Causes.{NotOnlyReduced, WrongShape, OutOfScope, Aliased, StrideUsed}
use Rattle.cursor_forward.specs.Shifts.{at_index}
use Rattle.buffer_laws.specs.StageMem.{Staging}
use Rattle.step_rules.specs.Rule.{Got, Not, Target, Piece, Spot, Simplified, Says}
use Rattle.alloc_laws.specs.Stage.Staging.{stage_rule}

abbrev named : ℕ → List ℕ → Binder
named n name = record { id = n; name = name }

abbrev lit : ℕ → Control
lit n = Lit (pos n)

abbrev proc : List Param → Block → Procedure
proc ps b = record { name = codes "f"; params = ps; asserts = []; body = b; template = None }

abbrev target : Procedure → Target
target p = record { unit = record { procedures = p ∷ []; fields = []; memories = [] }; number = 0; proc = p; origins = [] }

abbrev empty : Opened
empty = record { around = Here end; piece = end }

abbrev or_none : Option Opened → Opened
or_none None = empty
or_none (Some o) = o

abbrev spot_of : Procedure → Piece → Spot
spot_of p piece = record { target = target p; piece = piece; opened = or_none (opened piece.count piece.path p.body) }

abbrev eight : Param
eight = record { binder = named 0 (codes "x"); kind = TensorParam I32 (lit 8 ∷ []) 0 }

-- ---- half
abbrev sevens : Block
sevens = next (For (named 1 (codes "i")) (lit 0) (lit 4) (next (Assign 0 (Mul (lit 2) (Var 1) ∷ []) (Const (pos 7))) end)) end

abbrev half : Procedure
half = proc (eight ∷ []) sevens

abbrev on_all : Bool → Staging
on_all accum = record { root = 0; coords = Span (lit 0) (lit 8) ∷ []; name = codes "t"; accum = accum }

abbrev first_one : Piece
first_one = record { path = at_index 0; count = 1 }

half_piece : (stage_rule 1 (on_all false)).piece (target half) (at_index 0) ≡ Got first_one
half_piece = refl

half_draft : (stage_rule 1 (on_all false)).draft (spot_of half first_one) Simplified 2
    ≡ Got (next (Alloc (named 2 (codes "t")) I32 (lit 8 ∷ []) 0)
    (next (For (named 3 (codes "i0")) (lit 0) (lit 8) (next (Assign 2 (Var 3 ∷ []) (Read 0 (Var 3 ∷ []))) end))
    (next (For (named 1 (codes "i")) (lit 0) (lit 4) (next (Assign 2 (Mul (lit 2) (Var 1) ∷ []) (Const (pos 7))) end))
    (next (For (named 4 (codes "i0")) (lit 0) (lit 8) (next (Assign 0 (Var 4 ∷ []) (Read 2 (Var 4 ∷ []))) end)) end))))
unfolding digits
half_draft = refl

half_needs : (stage_rule 1 (on_all false)).needs (spot_of half first_one)
    ≡ (let path = record { branch = Main; index = 0 } ∷ record { branch = Main; index = 0 } ∷ [] in
    Says path (Holds (Le (lit 0) (Mul (lit 2) (Var 1)))) ∷ Says path (Holds (Lt (Mul (lit 2) (Var 1)) (lit 8))) ∷ [])
half_needs = refl

half_refused : (stage_rule 1 (on_all true)).refusal (spot_of half first_one) ≡ Some NotOnlyReduced
half_refused = refl

half_allowed : (stage_rule 1 (on_all false)).refusal (spot_of half first_one) ≡ None
half_allowed = refl

-- a window of a name that is not in scope
half_out : (stage_rule 1 (record (on_all false) { root = 4294967295 })).refusal (spot_of half first_one) ≡ Some OutOfScope
half_out = refl

-- of rank 2
half_rank : (stage_rule 1 (record (on_all false) { coords = Span (lit 0) (lit 8) ∷ Span (lit 0) (lit 8) ∷ [] })).piece (target half) (at_index 0) ≡ Not WrongShape
half_rank = refl

-- ---- w = x[0:4], w[0] = 1
abbrev viewed : Procedure
viewed = proc (eight ∷ []) (next (View (named 1 (codes "w")) 0 (Span (lit 0) (lit 4) ∷ [])) (next (Assign 1 (lit 0 ∷ []) (Const (pos 1))) end))

viewed_wrong : (stage_rule 1 (on_all false)).piece (target viewed) (at_index 0) ≡ Not WrongShape
viewed_wrong = refl

-- both statements may be staged
viewed_both : (stage_rule 2 (on_all false)).piece (target viewed) (at_index 0) ≡ Got (record { path = at_index 0; count = 2 })
viewed_both = refl

-- the second alone is aliased: it uses w, which has the root of x
viewed_second : (stage_rule 1 (on_all false)).refusal (spot_of viewed (record { path = at_index 1; count = 1 })) ≡ Some Aliased
viewed_second = refl

-- ---- gemm behind reorder_loops
abbrev size : ℕ → List ℕ → Param
size n name = record { binder = named n name; kind = ControlParam Size }

abbrev matrix : ℕ → List ℕ → ℕ → ℕ → Param
matrix n name r c = record { binder = named n name; kind = TensorParam I32 (Var r ∷ Var c ∷ []) 0 }

abbrev gemm_params : List Param
gemm_params = size 0 (codes "M") ∷ size 1 (codes "N") ∷ size 2 (codes "K") ∷ matrix 3 (codes "A") 0 2 ∷ matrix 4 (codes "B") 2 1 ∷ matrix 5 (codes "C") 0 1 ∷ []

abbrev column : Control
column = Add (Mul (lit 8) (Var 9)) (Var 10)

abbrev gemm_with : Block → Procedure
gemm_with b = proc gemm_params (next (For (named 6 (codes "i")) (lit 0) (Var 0) (next (For (named 9 (codes "jo")) (lit 0) (Var 1) b) end)) end)

abbrev k_loop : Block → Block → Block
k_loop b rest = next (For (named 8 (codes "k")) (lit 0) (Var 2) b) rest

abbrev ji_loop : Block → Block → Block
ji_loop b rest = next (For (named 10 (codes "ji")) (lit 0) (lit 8) b) rest

abbrev kernel : Block
kernel = k_loop (ji_loop (next (Reduce 5 (Var 6 ∷ column ∷ []) (Times (Read 3 (Var 6 ∷ Var 8 ∷ [])) (Read 4 (Var 8 ∷ column ∷ [])))) end) end) end

-- C[i, 8 * jo:8 * jo + 8]
abbrev c_window : Staging
c_window = record { root = 5; coords = At (Var 6) ∷ Span (Mul (lit 8) (Var 9)) (Add (Mul (lit 8) (Var 9)) (lit 8)) ∷ []; name = codes "c"; accum = false }

abbrev inner_piece : Piece
inner_piece = record { path = record { branch = Main; index = 0 } ∷ record { branch = Main; index = 0 } ∷ record { branch = Main; index = 0 } ∷ []; count = 1 }

abbrev step_of : ℕ → ℕ → Path
step_of a b = record { branch = Main; index = a } ∷ record { branch = Main; index = b } ∷ []

gemm_piece : (stage_rule 1 c_window).piece (target (gemm_with kernel)) inner_piece.path ≡ Got inner_piece
gemm_piece = refl

abbrev i0_loop : ℕ → Block → Block → Block
i0_loop n b rest = next (For (named n (codes "i0")) (lit 0) (lit 8) b) rest

abbrev spot_in : ℕ → Control
spot_in n = Add (Mul (lit 8) (Var 9)) (Var n)

abbrev add_of : Block
add_of = next (Reduce 11 (Var 10 ∷ []) (Times (Read 3 (Var 6 ∷ Var 8 ∷ [])) (Read 4 (Var 8 ∷ column ∷ [])))) end

abbrev staged_kernel : Block
staged_kernel = next (Alloc (named 11 (codes "c")) I32 (lit 8 ∷ []) 0)
    (i0_loop 12 (next (Assign 11 (Var 12 ∷ []) (Read 5 (Var 6 ∷ spot_in 12 ∷ []))) end)
    (k_loop (ji_loop add_of end)
    (i0_loop 13 (next (Assign 5 (Var 6 ∷ spot_in 13 ∷ []) (Read 11 (Var 13 ∷ []))) end) end)))

gemm_draft : (stage_rule 1 c_window).draft (spot_of (gemm_with kernel) inner_piece) Simplified 11 ≡ Got staged_kernel
unfolding digits
gemm_draft = refl

gemm_allowed : (stage_rule 1 c_window).refusal (spot_of (gemm_with kernel) inner_piece) ≡ None
gemm_allowed = refl

gemm_needs : (stage_rule 1 c_window).needs (spot_of (gemm_with kernel) inner_piece)
    ≡ (let path = record { branch = Main; index = 0 } ∷ record { branch = Main; index = 0 } ∷ record { branch = Main; index = 0 } ∷ record { branch = Main; index = 0 } ∷ record { branch = Main; index = 0 } ∷ [] in
    Says path (Holds (Eq (Var 6) (Var 6)))
    ∷ Says path (Holds (Le (Mul (lit 8) (Var 9)) column))
    ∷ Says path (Holds (Lt column (Add (Mul (lit 8) (Var 9)) (lit 8)))) ∷ [])
gemm_needs = refl

-- accum: zeros, and the sums behind
gemm_sums : (stage_rule 1 (record c_window { accum = true })).draft (spot_of (gemm_with kernel) inner_piece) Simplified 11
    ≡ Got (next (Alloc (named 11 (codes "c")) I32 (lit 8 ∷ []) 0)
    (i0_loop 12 (next (Assign 11 (Var 12 ∷ []) (Const (pos 0))) end)
    (k_loop (ji_loop add_of end)
    (i0_loop 13 (next (Reduce 5 (Var 6 ∷ spot_in 13 ∷ []) (Read 11 (Var 13 ∷ []))) end) end))))
unfolding digits
gemm_sums = refl

sums_allowed : (stage_rule 1 (record c_window { accum = true })).refusal (spot_of (gemm_with kernel) inner_piece) ≡ None
sums_allowed = refl

-- ---- g(x), h(x), g(z[1, 0:8]), z[1, 3] += 2
abbrev param_window : Procedure
param_window = proc (record { binder = named 0 (codes "a"); kind = WindowParam I32 (lit 8 ∷ []) 0 } ∷ []) (next (Assign 0 (lit 0 ∷ []) (Const (pos 1))) end)

abbrev param_tensor : Procedure
param_tensor = proc (record { binder = named 0 (codes "a"); kind = TensorParam I32 (lit 8 ∷ []) 0 } ∷ []) (next (Assign 0 (lit 0 ∷ []) (Const (pos 1))) end)

abbrev calling : Procedure
calling = proc (eight ∷ record { binder = named 1 (codes "z"); kind = TensorParam I32 (lit 2 ∷ lit 8 ∷ []) 0 } ∷ [])
    (next (Call 0 (Whole 0 ∷ [])) (next (Call 1 (Whole 0 ∷ [])) (next (Call 0 (Window 1 (At (lit 1) ∷ Span (lit 0) (lit 8) ∷ []) ∷ []))
    (next (Reduce 1 (lit 1 ∷ lit 3 ∷ []) (Const (pos 2))) end))))

abbrev calling_target : Target
calling_target = record { unit = record { procedures = param_window ∷ param_tensor ∷ calling ∷ []; fields = []; memories = [] }; number = 2; proc = calling; origins = [] }

abbrev calling_spot : Piece → Spot
calling_spot piece = record { target = calling_target; piece = piece; opened = or_none (opened piece.count piece.path calling.body) }

abbrev one_at : ℕ → Piece
one_at n = record { path = at_index n; count = 1 }

-- passed whole: the buffer is passed whole
whole_draft : (stage_rule 1 (on_all false)).draft (calling_spot (one_at 0)) Simplified 2
    ≡ Got (next (Alloc (named 2 (codes "t")) I32 (lit 8 ∷ []) 0)
    (next (For (named 3 (codes "i0")) (lit 0) (lit 8) (next (Assign 2 (Var 3 ∷ []) (Read 0 (Var 3 ∷ []))) end))
    (next (Call 0 (Whole 2 ∷ []))
    (next (For (named 4 (codes "i0")) (lit 0) (lit 8) (next (Assign 0 (Var 4 ∷ []) (Read 2 (Var 4 ∷ []))) end)) end))))
unfolding digits
whole_draft = refl

abbrev on_four : Staging
on_four = record { root = 0; coords = Span (lit 0) (lit 4) ∷ []; name = codes "b"; accum = false }

whole_needs : (stage_rule 1 on_four).needs (calling_spot (one_at 0))
    ≡ Says (at_index 0) (Holds (Le (lit 0) (lit 0))) ∷ Says (at_index 0) (Holds (Le (lit 8) (lit 4))) ∷ []
whole_needs = refl

-- z[1, 2:8]
abbrev in_row : Bool → Staging
in_row accum = record { root = 1; coords = At (lit 1) ∷ Span (lit 2) (lit 8) ∷ []; name = codes "b"; accum = accum }

row_needs : (stage_rule 1 (in_row false)).needs (calling_spot (one_at 2))
    ≡ Says (at_index 2) (Holds (Eq (lit 1) (lit 1))) ∷ Says (at_index 2) (Holds (Le (lit 2) (lit 0))) ∷ Says (at_index 2) (Holds (Le (lit 8) (lit 8))) ∷ []
row_needs = refl

row_sums : (stage_rule 1 (in_row true)).draft (calling_spot (one_at 3)) Simplified 2
    ≡ Got (next (Alloc (named 2 (codes "b")) I32 (lit 6 ∷ []) 0)
    (next (For (named 3 (codes "i0")) (lit 0) (lit 6) (next (Assign 2 (Var 3 ∷ []) (Const (pos 0))) end))
    (next (Reduce 2 (lit 1 ∷ []) (Const (pos 2)))
    (next (For (named 4 (codes "i0")) (lit 0) (lit 6) (next (Reduce 1 (lit 1 ∷ Add (Var 4) (lit 2) ∷ []) (Read 2 (Var 4 ∷ []))) end)) end))))
unfolding digits
row_sums = refl

-- z[0:2, 3]: the call has a span where the window has a point
column_wrong : (stage_rule 1 (record { root = 1; coords = Span (lit 0) (lit 2) ∷ At (lit 3) ∷ []; name = codes "b"; accum = false })).piece calling_target (at_index 2) ≡ Not WrongShape
column_wrong = refl

-- a call that passes x and writes it does not only add
whole_sums : (stage_rule 1 (on_all true)).refusal (calling_spot (one_at 1)) ≡ Some NotOnlyReduced
whole_sums = refl

-- ---- t : i32[8], v = y[0:4], t[0] = 2, x[1] = 3: the block's own allocation and the view of y may be used behind it
abbrev own : Procedure
own = proc (eight ∷ record { binder = named 1 (codes "y"); kind = TensorParam I32 (lit 8 ∷ []) 0 } ∷ [])
    (next (Alloc (named 2 (codes "t")) I32 (lit 8 ∷ []) 0) (next (View (named 3 (codes "v")) 1 (Span (lit 0) (lit 4) ∷ []))
    (next (Assign 2 (lit 0 ∷ []) (Const (pos 2))) (next (Assign 0 (lit 1 ∷ []) (Const (pos 3)))
    (next (Assign 3 (lit 1 ∷ []) (Read 2 (lit 0 ∷ []))) end)))))

own_goes : (stage_rule 4 on_four).piece (target own) (at_index 0) ≡ Got (record { path = at_index 0; count = 4 })
own_goes = refl

own_draft : (stage_rule 4 on_four).draft (spot_of own (record { path = at_index 0; count = 4 })) Simplified 4
    ≡ Got (next (Alloc (named 4 (codes "b")) I32 (lit 4 ∷ []) 0)
    (next (For (named 5 (codes "i0")) (lit 0) (lit 4) (next (Assign 4 (Var 5 ∷ []) (Read 0 (Var 5 ∷ []))) end))
    (next (Alloc (named 2 (codes "t")) I32 (lit 8 ∷ []) 0) (next (View (named 3 (codes "v")) 1 (Span (lit 0) (lit 4) ∷ []))
    (next (Assign 2 (lit 0 ∷ []) (Const (pos 2))) (next (Assign 4 (lit 1 ∷ []) (Const (pos 3)))
    (next (For (named 6 (codes "i0")) (lit 0) (lit 4) (next (Assign 0 (Var 6 ∷ []) (Read 4 (Var 6 ∷ []))) end)) end)))))))
unfolding digits
own_draft = refl

own_refused : (stage_rule 4 on_four).refusal (spot_of own (record { path = at_index 0; count = 4 })) ≡ None
own_refused = refl

-- a point that reads a stride
stride_wrong : (stage_rule 1 (record { root = 1; coords = At (StrideOf 1 0) ∷ Span (lit 2) (lit 8) ∷ []; name = codes "b"; accum = false })).piece calling_target (at_index 2) ≡ Not WrongShape
stride_wrong = refl

-- ---- kept sums of blocks that touch the window nowhere

-- y[0] = 1 does not use the window x[n * n, 0:4]
abbrev apart : Procedure
apart = proc (eight ∷ record { binder = named 1 (codes "n"); kind = ControlParam Size }
    ∷ record { binder = named 2 (codes "z"); kind = TensorParam I32 (Var 1 ∷ lit 4 ∷ []) 0 } ∷ [])
    (next (Assign 0 (lit 0 ∷ []) (Const (pos 1))) end)

abbrev square_row : Staging
square_row = record {
  root = 2;
  coords = At (Mul (Var 1) (Var 1)) ∷ Span (lit 0) (lit 4) ∷ [];
  name = codes "b";
  accum = true;
}

apart_goes : (stage_rule 1 square_row).piece (target apart) (at_index 0) ≡ Got first_one
apart_goes = refl

apart_draft : (stage_rule 1 square_row).draft (spot_of apart first_one) Simplified 3
    ≡ Got (next (Alloc (named 3 (codes "b")) I32 (lit 4 ∷ []) 0)
    (next (For (named 4 (codes "i0")) (lit 0) (lit 4) (next (Assign 3 (Var 4 ∷ []) (Const (pos 0))) end))
    (next (Assign 0 (lit 0 ∷ []) (Const (pos 1))) end)))
unfolding digits
apart_draft = refl

apart_needs : (stage_rule 1 square_row).needs (spot_of apart first_one) ≡ []
apart_needs = refl

apart_out : (stage_rule 1 (record square_row { coords = At (Var 9) ∷ Span (lit 0) (lit 4) ∷ [] })).refusal
    (spot_of apart first_one) ≡ Some OutOfScope
apart_out = refl

-- w = x[0:4] views the window: no nest of the result has it, so it is asked for
abbrev looking : Procedure
looking = proc (eight ∷ []) (next (View (named 1 (codes "w")) 0 (Span (lit 0) (lit 4) ∷ [])) end)

looking_draft : (stage_rule 1 (on_all true)).draft (spot_of looking first_one) Simplified 2
    ≡ Got (next (Alloc (named 2 (codes "t")) I32 (lit 8 ∷ []) 0)
    (next (For (named 3 (codes "i0")) (lit 0) (lit 8) (next (Assign 2 (Var 3 ∷ []) (Const (pos 0))) end))
    (next (View (named 1 (codes "w")) 2 (Span (lit 0) (lit 4) ∷ [])) end)))
unfolding digits
looking_draft = refl

looking_needs : (stage_rule 1 (on_all true)).needs (spot_of looking first_one)
    ≡ Says (at_index 0) (Holds (Le (lit 0) (lit 0))) ∷ Says (at_index 0) (Holds (Le (lit 4) (lit 8)))
    ∷ Says (at_index 0) (Holds (Le (lit 0) (lit 0))) ∷ Says (at_index 0) (Holds (Le (lit 8) (lit 8))) ∷ []
looking_needs = refl

-- ---- refusals, in their order

-- v = x[0:8], v[0] = x[0]: both names of one buffer, and the second is written
abbrev two_names : Procedure
two_names = proc (eight ∷ []) (next (View (named 1 (codes "v")) 0 (Span (lit 0) (lit 8) ∷ []))
    (next (Assign 1 (lit 0 ∷ []) (Read 0 (lit 0 ∷ []))) end))

aliased_first : (stage_rule 1 (on_all true)).refusal (spot_of two_names (record { path = at_index 1; count = 1 }))
    ≡ Some Aliased
aliased_first = refl

-- a control argument with a stride of x
abbrev striding : Procedure
striding = proc (eight ∷ []) (next (Call 0 (ControlArg (StrideOf 0 0) ∷ [])) end)

stride_used : (stage_rule 1 (on_all false)).refusal (spot_of striding first_one) ≡ Some StrideUsed
stride_used = refl
