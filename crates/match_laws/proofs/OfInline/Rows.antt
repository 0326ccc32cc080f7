-- The two rewrites on small units.
use Rattle.std.proofs.Common.{◌≡◌, ℕ, pos, true, List, [], ◌∷◌, Some, None, refl}
use Rattle.exo_tree.specs.Tree.{I32, Size, Truth, Binder, Control, Lit, Var, Field}
use Rattle.exo_tree.specs.Tree.{Add, Sub, Mul, Flag, Lt, Const, Read, Minus, Plus}
use Rattle.exo_tree.specs.Tree.{Coord, At, Span, ControlArg, ConditionArg, Whole, Window}
use Rattle.exo_tree.specs.Tree.{ParamKind, ControlParam, TensorParam, WindowParam, Param, Statement}
use Rattle.exo_tree.specs.Tree.{Assign, If, For, View, Call, Block, end, next}
use Rattle.exo_tree.specs.Tree.{Procedure}
use Rattle.exo_tree.specs.Places.{Main, Path}
use Rattle.match_laws.specs.Simplify.SimplifiedBlocks.{simplified_block}
use Rattle.match_laws.proofs.Instances.{own}
use Rattle.match_laws.specs.Inline.InlineRule.{inline_piece, inline_draft}
use Rattle.match_laws.specs.Inline.InlineWindowRule.{window_piece, window_draft}

abbrev pub lit : ℕ → Control
lit n = Lit (pos n)

abbrev pub binder : ℕ → Binder
binder n = record { id = n; name = [] }

abbrev pub param : ℕ → ParamKind → Param
param x kind = record { binder = binder x; kind = kind }

abbrev pub named : List Param → Block → Procedure
named ps b = record { name = []; params = ps; asserts = []; body = b; template = None }

abbrev pub loop : ℕ → Control → Statement → Block
loop i hi a = next (For (binder i) (lit 0) hi (next a end)) end

abbrev size : ℕ → Param
size x = param x (ControlParam Size)

abbrev pub first : Path
first = record { branch = Main; index = 0 } ∷ []

-- ---- fill(n, w: [i32][n]): for l in seq(0, n): w[l] = 5, called for the last column of A

abbrev pub fill_it : Procedure
fill_it = named (size 0 ∷ param 1 (WindowParam I32 (Var 0 ∷ []) 0) ∷ [])
    (loop 2 (Var 0) (Assign 1 (Var 2 ∷ []) (Const (pos 5))))

-- fill(M, A[0:M, N - 1])
abbrev fill_column : Block
fill_column = next (Call 0 (ControlArg (Var 0)
    ∷ Window 2 (Span (lit 0) (Var 0) ∷ At (Sub (Var 1) (lit 1)) ∷ []) ∷ [])) end

abbrev column : Procedure
column = named (size 0 ∷ size 1 ∷ param 2 (TensorParam I32 (Var 0 ∷ Var 1 ∷ []) 0) ∷ [])
    fill_column

it_is_a_call : inline_piece column first ≡ Some (record { path = first; count = 1 })
it_is_a_call = refl

-- for l in seq(0, M): A[0 + l, N - 1] = 5
abbrev column_filled : Control → Block
column_filled i = loop 3 (Var 0)
    (Assign 2 (i ∷ Sub (Var 1) (lit 1) ∷ []) (Const (pos 5)))

column_is_filled : inline_draft (fill_it ∷ []) 3 fill_column
    ≡ Some (column_filled (Add (lit 0) (Var 3)))
column_is_filled = refl

column_is_simplified : simplified_block own (column_filled (Add (lit 0) (Var 3)))
    ≡ column_filled (Var 3)
column_is_simplified = refl

-- ---- copyn(n, d: [i32][n], s: [i32][n]), called for a row of A and for B

abbrev pub copy_n : Procedure
copy_n = named (size 0 ∷ param 1 (WindowParam I32 (Var 0 ∷ []) 0)
    ∷ param 2 (WindowParam I32 (Var 0 ∷ []) 0) ∷ [])
    (loop 3 (Var 0) (Assign 1 (Var 3 ∷ []) (Read 2 (Var 3 ∷ []))))

-- n, m, A, B, i: 0 to 4; copyn(m, A[i, 0:m], B[0:m])
abbrev row_copy : Block
row_copy = next (Call 0 (ControlArg (Var 1) ∷ Window 2 (At (Var 4) ∷ Span (lit 0) (Var 1) ∷ [])
    ∷ Window 3 (Span (lit 0) (Var 1) ∷ []) ∷ [])) end

abbrev row_copied : Control → Block
row_copied j = loop 5 (Var 1) (Assign 2 (Var 4 ∷ j ∷ []) (Read 3 (j ∷ [])))

row_is_copied : inline_draft (copy_n ∷ []) 5 row_copy ≡ Some (row_copied (Add (lit 0) (Var 5)))
row_is_copied = refl

row_is_simplified : simplified_block own (row_copied (Add (lit 0) (Var 5))) ≡ row_copied (Var 5)
row_is_simplified = refl

-- ---- stencil2(T, N, x: i32[T + 1, N + 2]), called as stencil2(4, 4, tmp)

abbrev stencil_at : ℕ → Control → ℕ → ℕ → Statement
stencil_at x one t i =
    Assign x (Add (Var t) (lit 1) ∷ Var i ∷ []) (Plus (Read x (Var t ∷ Sub (Var i) (lit 1) ∷ []))
    (Read x (Var t ∷ Add (Var i) one ∷ [])))

abbrev stencil : ℕ → Control → Control → ℕ → ℕ → Block
stencil x T N t i = next (For (binder t) (lit 0) T (next (For (binder i) (lit 1)
    (Add N (lit 1)) (next (stencil_at x (lit 1) t i) end)) end)) end

abbrev stencil2 : Procedure
stencil2 = named (size 0 ∷ size 1
    ∷ param 2 (TensorParam I32 (Add (Var 0) (lit 1) ∷ Add (Var 1) (lit 2) ∷ []) 0) ∷ [])
    (stencil 2 (Var 0) (Var 1) 3 4)

-- a whole argument leaves indices as they are
whole_stays : inline_draft (stencil2 ∷ []) 10
    (next (Call 0 (ControlArg (lit 4) ∷ ControlArg (lit 4) ∷ Whole 7 ∷ [])) end)
    ≡ Some (stencil 7 (lit 4) (lit 4) 10 11)
whole_stays = refl

-- ---- a bool argument stands in the place of its parameter

abbrev if_set : Procedure
if_set = named (param 0 (ControlParam Truth) ∷ param 1 (TensorParam I32 [] 0) ∷ [])
    (next (If (Flag 0) (next (Assign 1 [] (Const (pos 1))) end) end) end)

bools_stand : inline_draft (if_set ∷ []) 9
    (next (Call 0 (ConditionArg (Lt (Var 3) (lit 2)) ∷ Whole 4 ∷ [])) end)
    ≡ Some (next (If (Lt (Var 3) (lit 2)) (next (Assign 4 [] (Const (pos 1))) end) end) end)
bools_stand = refl

-- ---- what is refused: no call, and an argument that reads a field

abbrev stores : Procedure
stores = named (param 0 (TensorParam I32 [] 0) ∷ [])
    (next (Assign 0 [] (Const (pos 5))) end)

stores_are_no_calls : inline_piece stores first ≡ None
stores_are_no_calls = refl

fields_are_not_inlined : inline_piece (named [] (next (Call 0 (ControlArg (Field 0) ∷ [])) end))
    first ≡ None
fields_are_not_inlined = refl

nothing_is_behind : inline_piece stores (record { branch = Main; index = 1 } ∷ []) ≡ None
nothing_is_behind = refl

-- ---- w = x[2:6]; for i in seq(0, 4): w[i] = 1, of f(x: i32[8])

abbrev pub part : Coord
part = Span (lit 2) (lit 6)

abbrev pub ones : ℕ → Control → Block
ones x j = loop 2 (lit 4) (Assign x (j ∷ []) (Const (pos 1)))

abbrev pub on_part : Block
on_part = next (View (binder 1) 0 (part ∷ [])) (ones 1 (Var 2))

abbrev pub parts : Procedure
parts = named (param 0 (TensorParam I32 (lit 8 ∷ []) 0) ∷ []) on_part

it_is_a_view : window_piece parts first ≡ Some (record { path = first; count = 2 })
it_is_a_view = refl

-- x[2 + i] = 1
part_is_removed : window_draft on_part ≡ Some (ones 0 (Add (lit 2) (Var 2)))
part_is_removed = refl

stores_are_no_views : window_piece stores first ≡ None
stores_are_no_views = refl

-- ---- a view of a view: v = C[8 * 0 + 0, 0:4]; v[k] = A - v[k]; w = v[3:4]

abbrev row : Control
row = Add (Mul (lit 8) (lit 0)) (lit 0)

abbrev on_row : Block
on_row = next (View (binder 2) 0 (At row ∷ Span (lit 0) (lit 4) ∷ []))
    (next (Assign 2 (Var 3 ∷ []) (Minus (Read 1 []) (Read 2 (Var 3 ∷ []))))
    (next (View (binder 4) 2 (Span (lit 3) (lit 4) ∷ [])) end))

row_is_removed : window_draft on_row
    ≡ Some (next (Assign 0 (row ∷ Add (lit 0) (Var 3) ∷ [])
    (Minus (Read 1 []) (Read 0 (row ∷ Add (lit 0) (Var 3) ∷ []))))
    (next (View (binder 4) 0 (At row ∷ Span (Add (lit 0) (lit 3)) (Add (lit 0) (lit 4)) ∷ []))
    end))
row_is_removed = refl
