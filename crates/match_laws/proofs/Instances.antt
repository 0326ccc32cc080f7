-- Blocks that are matched, and renamed callees.
use Rattle.std.proofs.Common.{◌≡◌, ℕ, ℤ, pos, ◌+ℤ◌, ◌*ℤ◌, true, List, [], ◌∷◌, None, Some, refl}
use Rattle.std.proofs.Common.{length, arith}
use Rattle.std.proofs.lemmas.Int.{ints}
use Rattle.exo_tree.specs.Tree.{Cell, I8, I32, Index, Size, Binder, Control, Lit, Var, Add, Mul}
use Rattle.exo_tree.specs.Tree.{Mod}
use Rattle.exo_tree.specs.Tree.{Const, Read, Times, Coord, At, Span, Argument, ControlArg}
use Rattle.exo_tree.specs.Tree.{Whole, Window, ParamKind, ControlParam, TensorParam, WindowParam}
use Rattle.exo_tree.specs.Tree.{Param, Statement, Assign, Reduce, For, Alloc, Block, end, next}
use Rattle.exo_tree.specs.Tree.{Procedure, Lt}
use Rattle.exo_tree.specs.Places.{Step, Main}
use Rattle.exo_meaning.specs.Scene.{Scene, number, holds}
use Rattle.exo_meaning.specs.State.{State}
use Rattle.exo_meaning.specs.Run.{World, call_to, callee_in, unit_world}
use Rattle.exo_meaning.specs.Renaming.{Renaming}
use Rattle.affine_forms.specs.Atoms.{Variable, EntryField, OpaqueStride, only}
use Rattle.affine_forms.specs.Forms.{Reading, Allowed, anything}
use Rattle.affine_forms.specs.Laws.{ReadsAt}
use Rattle.match_laws.specs.Simplify.Simplified.{values_in}
use Rattle.match_laws.specs.Names.{Names, names_of}
use Rattle.match_laws.specs.Matched.{Arguments, NoMatch, Undetermined, matched}
use Rattle.match_laws.specs.RenamedCallee.{re_procedure}
use Rattle.match_laws.proofs.RenamedCallee.{renamed_callee}
use Rattle.match_laws.proofs.Matched.{one_for_each}
use Rattle.match_laws.proofs.Agree.{agree_law, conditions_agree_law}

-- each variable, field and stride is read as itself
abbrev pub own : Reading
own = record {
  variable = λ x. only (Variable x);
  field = λ f. only (EntryField f Index);
  stride = λ x k. only (OpaqueStride x k);
  field_fits = λ f. true;
  stride_fits = λ x k. true;
}

abbrev pub lit : ℕ → Control
lit n = Lit (pos n)

abbrev binder : ℕ → Binder
binder n = record { id = n; name = [] }

abbrev param : ℕ → ParamKind → Param
param x kind = record { binder = binder x; kind = kind }

abbrev vector : ℕ → Cell → Control → Param
vector x cell n = param x (WindowParam cell (n ∷ []) 0)

abbrev named : List Param → Block → Procedure
named ps b = record { name = []; params = ps; asserts = []; body = b; template = None }

-- for i in seq(0, hi): a
abbrev pub loop : ℕ → Control → Statement → Block
loop i hi a = next (For (binder i) (lit 0) hi (next a end)) end

-- ---- instructions on vectors: dst[l] = src[l], and c[l] += a * b[l]

abbrev pub copy8 : Procedure
copy8 = named (vector 0 I32 (lit 8) ∷ vector 1 I32 (lit 8) ∷ [])
    (loop 2 (lit 8) (Assign 0 (Var 2 ∷ []) (Read 1 (Var 2 ∷ []))))

abbrev mac8 : Procedure
mac8 = named (vector 0 I32 (lit 8) ∷ param 1 (TensorParam I32 [] 0) ∷ vector 2 I32 (lit 8) ∷ [])
    (loop 3 (lit 8) (Reduce 0 (Var 3 ∷ []) (Times (Read 1 []) (Read 2 (Var 3 ∷ [])))))

-- ---- a product of matrices whose inner loops run over vectors
-- M, N, K: 0, 1, 2; A, B, C: 3, 4, 5; i, jo, k: 6, 7, 8; c, b: 9, 10; ji: 11

abbrev tensor : ℕ → List Control → Param
tensor x dims = param x (TensorParam I32 dims 0)

abbrev size : ℕ → Param
size x = param x (ControlParam Size)

abbrev pub product : Names
product = names_of (named (size 0 ∷ size 1 ∷ size 2 ∷ tensor 3 (Var 0 ∷ Var 2 ∷ [])
    ∷ tensor 4 (Var 2 ∷ Var 1 ∷ []) ∷ tensor 5 (Var 0 ∷ Var 1 ∷ []) ∷ [])
    (next (Alloc (binder 9) I32 (lit 8 ∷ []) 0) (next (Alloc (binder 10) I32 (lit 8 ∷ []) 0) end)))

-- 8 * jo + ji
abbrev pub at_lane : Control
at_lane = Add (Mul (lit 8) (Var 7)) (Var 11)

-- [0:8] and [8 * jo:8 * jo + 8]
abbrev pub lanes : Coord
lanes = Span (lit 0) (lit 8)

abbrev pub tile : Coord
tile = Span (Mul (lit 8) (Var 7)) (Add (Mul (lit 8) (Var 7)) (lit 8))

-- c[ji] = C[i, 8 * jo + ji]
pub loads : matched own product
    (loop 11 (lit 8) (Assign 9 (Var 11 ∷ []) (Read 5 (Var 6 ∷ at_lane ∷ [])))) copy8
    ≡ Arguments (Window 9 (lanes ∷ []) ∷ Window 5 (At (Var 6) ∷ tile ∷ []) ∷ [])
loads = refl

-- C[i, 8 * jo + ji] = c[ji]
stores : matched own product
    (loop 11 (lit 8) (Assign 5 (Var 6 ∷ at_lane ∷ []) (Read 9 (Var 11 ∷ [])))) copy8
    ≡ Arguments (Window 5 (At (Var 6) ∷ tile ∷ []) ∷ Window 9 (lanes ∷ []) ∷ [])
stores = refl

-- c[ji] += A[i, k] * b[ji]
multiplies : matched own product
    (loop 11 (lit 8) (Reduce 9 (Var 11 ∷ [])
    (Times (Read 3 (Var 6 ∷ Var 8 ∷ [])) (Read 10 (Var 11 ∷ []))))) mac8
    ≡ Arguments (Window 9 (lanes ∷ []) ∷ Window 3 (At (Var 6) ∷ At (Var 8) ∷ [])
    ∷ Window 10 (lanes ∷ []) ∷ [])
multiplies = refl

-- ---- a column: N, B: i32[8, N], t: i32[8], j, and t[l] = B[l, j]

abbrev column : Procedure
column = named (size 0 ∷ tensor 1 (lit 8 ∷ Var 0 ∷ []) ∷ tensor 2 (lit 8 ∷ [])
    ∷ param 3 (ControlParam Index) ∷ [])
    (loop 4 (lit 8) (Assign 2 (Var 4 ∷ []) (Read 1 (Var 4 ∷ Var 3 ∷ []))))

-- its stride is no matter of the match
columns_load : matched own (names_of column) column.body copy8
    ≡ Arguments (Window 2 (lanes ∷ []) ∷ Window 1 (lanes ∷ At (Var 3) ∷ []) ∷ [])
columns_load = refl

abbrev pub step : ℕ → Step
step n = record { branch = Main; index = n }

columns_do_not_multiply : matched own (names_of column) column.body mac8
    ≡ NoMatch (step 0 ∷ step 0 ∷ [])
columns_do_not_multiply = refl

-- ---- a parameter that a bound determines: d[l] = s[l] for l in seq(0, n)

abbrev copy_n : Procedure
copy_n = named (size 0 ∷ vector 1 I32 (Var 0) ∷ vector 2 I32 (Var 0) ∷ [])
    (loop 3 (Var 0) (Assign 1 (Var 3 ∷ []) (Read 2 (Var 3 ∷ []))))

-- A[i, j] = B[j] for j in seq(0, m), of A: i32[n, m] and B: i32[m]
abbrev pub rows : Names
rows = names_of (named (size 0 ∷ size 1 ∷ tensor 2 (Var 0 ∷ Var 1 ∷ [])
    ∷ tensor 3 (Var 1 ∷ []) ∷ [])
    end)

rows_are_copied : matched own rows
    (loop 5 (Var 1) (Assign 2 (Var 4 ∷ Var 5 ∷ []) (Read 3 (Var 5 ∷ [])))) copy_n
    ≡ Arguments (ControlArg (Var 1) ∷ Window 2 (At (Var 4) ∷ Span (lit 0) (Var 1) ∷ [])
    ∷ Window 3 (Span (lit 0) (Var 1) ∷ []) ∷ [])
rows_are_copied = refl

-- for a in seq(0, 4): for b in seq(0, n): x[b] = 0, against a bound that the block binds
abbrev pub nest : ℕ → ℕ → Control → ℕ → Block
nest a b hi x = loop a (lit 4) (For (binder b) (lit 0) hi (next (Assign x (Var b ∷ [])
    (Const (pos 0))) end))

abbrev pub zeros : Procedure
zeros = named (size 0 ∷ vector 1 I32 (Var 0) ∷ []) (nest 2 3 (Var 0) 1)

bounds_are_free : matched own rows (nest 6 7 (Var 6) 3) zeros ≡ NoMatch (step 0 ∷ step 0 ∷ [])
bounds_are_free = refl

-- ---- sums of products: s += a[l] * b[l] for l in seq(0, 4)

abbrev dot4 : Procedure
dot4 = named (param 0 (TensorParam I32 [] 0) ∷ vector 1 I8 (lit 4) ∷ vector 2 I8 (lit 4) ∷ [])
    (loop 3 (lit 4) (Reduce 0 [] (Times (Read 1 (Var 3 ∷ [])) (Read 2 (Var 3 ∷ [])))))

-- N, a: i8[4 * N], b: i8[4 * N], s; i, j
abbrev bytes : ℕ → Param
bytes x = param x (TensorParam I8 (Mul (lit 4) (Var 0) ∷ []) 0)

abbrev sums : Names
sums = names_of (named (size 0 ∷ bytes 1 ∷ bytes 2 ∷ tensor 3 [] ∷ []) end)

abbrev four_from : Coord
four_from = Span (Mul (lit 4) (Var 4)) (Add (Mul (lit 4) (Var 4)) (lit 4))

abbrev at_byte : Control
at_byte = Add (Mul (lit 4) (Var 4)) (Var 5)

bytes_are_summed : matched own sums
    (loop 5 (lit 4) (Reduce 3 [] (Times (Read 1 (at_byte ∷ [])) (Read 2 (at_byte ∷ []))))) dot4
    ≡ Arguments (Whole 3 ∷ Window 1 (four_from ∷ []) ∷ Window 2 (four_from ∷ []) ∷ [])
bytes_are_summed = refl

-- cell types are compared at each access
words_are_not : matched own rows
    (loop 5 (lit 4) (Reduce 3 (lit 0 ∷ [])
    (Times (Read 3 (Var 5 ∷ [])) (Read 3 (Var 5 ∷ []))))) dot4
    ≡ NoMatch (step 0 ∷ step 0 ∷ [])
words_are_not = refl

-- ---- what no place determines: x[k % 8] = 0 with k: size; and a literal that differs

abbrev pub at_rest : Procedure
at_rest = named (size 0 ∷ vector 1 I32 (lit 8) ∷ [])
    (next (Assign 1 (Mod (Var 0) (pos 8) ∷ []) (Const (pos 0))) end)

rests_are_not_determined : matched own rows
    (next (Assign 3 (Var 1 ∷ []) (Const (pos 0))) end) at_rest ≡ Undetermined 0
rests_are_not_determined = refl

abbrev to_zero : Procedure
to_zero = named (param 0 (TensorParam I32 [] 0) ∷ []) (next (Assign 0 [] (Const (pos 0))) end)

ones_are_not_zero : matched own rows (next (Assign 3 (Var 1 ∷ []) (Const (pos 1))) end) to_zero
    ≡ NoMatch (step 0 ∷ [])
ones_are_not_zero = refl

cells_are_zeroed : matched own rows
    (next (Assign 2 (Var 4 ∷ Var 5 ∷ []) (Const (pos 0))) end) to_zero
    ≡ Arguments (Window 2 (At (Var 4) ∷ At (Var 5) ∷ []) ∷ [])
cells_are_zeroed = refl

-- two names for one parameter
abbrev twice : ℕ → ℕ → Block
twice x y = next (Assign x (lit 0 ∷ []) (Const (pos 0)))
    (next (Assign y (lit 1 ∷ []) (Const (pos 0))) end)

two_names_do_not_fit : matched own product (twice 9 10)
    (named (vector 0 I32 (lit 2) ∷ []) (twice 0 0)) ≡ NoMatch (step 0 ∷ [])
two_names_do_not_fit = refl

one_name_fits : matched own product (twice 9 9)
    (named (vector 0 I32 (lit 2) ∷ []) (twice 0 0))
    ≡ Arguments (Window 9 (Span (lit 0) (lit 2) ∷ []) ∷ [])
one_name_fits = refl

-- a tensor takes a whole one
whole_tensors_fit : matched own product (twice 9 9)
    (named (tensor 0 (lit 8 ∷ []) ∷ []) (twice 0 0)) ≡ Arguments (Whole 9 ∷ [])
whole_tensors_fit = refl

-- ---- the laws

abbrev pub loaded : List Argument
loaded = Window 9 (lanes ∷ []) ∷ Window 5 (At (Var 6) ∷ tile ∷ []) ∷ []

two_arguments : length loaded ≡ 2
two_arguments = one_for_each own product
    (loop 11 (lit 8) (Assign 9 (Var 11 ∷ []) (Read 5 (Var 6 ∷ at_lane ∷ [])))) copy8
    loaded loads

abbrev pub world : World
world = unit_world (λ f. Index) []

copies_by_any_ids : (r : Renaming) (args : List Argument) (s : State)
    → call_to (Some (callee_in world (re_procedure r copy8))) args s
    ≡ call_to (Some (callee_in world copy8)) args s
copies_by_any_ids r args s = renamed_callee r world copy8 args s

itself : (n : ℤ) → pos 0 +ℤ ((pos 1 *ℤ n) +ℤ pos 0) ≡ n
itself n = omega (arith, ints)

pub reads : (may : Allowed) (scene : Scene) → ReadsAt may (values_in scene) own scene
reads may scene = record {
  variables = λ x h. itself (scene.control x);
  fields = λ f h. itself (scene.fields f);
  strides = λ x d h. itself ((values_in scene).stride x d);
}

sums_agree : (scene : Scene)
    → number scene (Add (Var 1) (Var 2)) ≡ number scene (Add (Var 2) (Var 1))
sums_agree scene = agree_law anything own scene (Add (Var 1) (Var 2)) (Add (Var 2) (Var 1))
    (reads anything scene) refl refl refl

bounds_agree : (scene : Scene) → holds scene (Lt (Add (Var 1) (lit 1)) (Var 2))
    ≡ holds scene (Lt (Add (lit 1) (Var 1)) (Var 2))
bounds_agree scene = conditions_agree_law
    (record { numbers = anything; variable = λ x. true; field = λ f. true }) own scene
    (Lt (Add (Var 1) (lit 1)) (Var 2)) (Lt (Add (lit 1) (Var 1)) (Var 2))
    (reads anything scene) refl refl refl
