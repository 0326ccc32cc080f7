-- The rule on closed procedures, by computation.
use Rattle.std.proofs.Common.{◌≡◌, ℕ, pos, List, [], ◌∷◌, None, refl}
use Rattle.std.specs.Prelude.{codes}
use Rattle.exo_tree.specs.Tree.{Index, Stride, I32, Binder, Control, Lit, Var, StrideOf, Add}
use Rattle.exo_tree.specs.Tree.{Const, Read, At, Span, Argument, ControlArg, Whole, Window, Assign}
use Rattle.exo_tree.specs.Tree.{Reduce, Config, For, Alloc, Call, Block, end, next, Param}
use Rattle.exo_tree.specs.Tree.{ControlParam}
use Rattle.exo_tree.specs.Tree.{TensorParam, WindowParam, Procedure}
use Rattle.exo_tree.specs.Context.{Here}
use Rattle.exo_tree.specs.Places.{Main}
use Rattle.cursor_forward.specs.Causes.{WrongShape, SharedArgument, NoMatch, Undetermined}
use Rattle.cursor_forward.specs.Shifts.{at_index}
use Rattle.step_rules.specs.Rule.{Tried, Got, Not, Target}
use Rattle.call_laws.specs.Replace.Rule.{said, replace_piece}
use Rattle.call_laws.proofs.Examples.{plain_cells}

abbrev named : ℕ → List ℕ → Binder
named n name = record { id = n; name = name }

abbrev lit : ℕ → Control
lit n = Lit (pos n)

abbrev number : ℕ → List ℕ → Param
number n name = record { binder = named n name; kind = ControlParam Index }

abbrev stride : ℕ → List ℕ → Param
stride n name = record { binder = named n name; kind = ControlParam Stride }

abbrev window : ℕ → List ℕ → Param
window n name =
    record { binder = named n name; kind = WindowParam I32 (lit 8 ∷ []) 0 }

abbrev tensor : ℕ → List ℕ → List Control → Param
tensor n name dims = record { binder = named n name; kind = TensorParam I32 dims 0 }

abbrev procedure : List ℕ → List Param → Block → Procedure
procedure name ps b =
    record { name = name; params = ps; asserts = []; body = b; template = None }

-- for i in seq(0, 8): x[..] = n
abbrev loop : ℕ → Block → Block
loop i b = next (For (named i (codes "i")) (lit 0) (lit 8) b) end

-- ---- the callees

-- def fill(w: [i32][8]): for l in seq(0, 8): w[l] = 1
abbrev fill : Procedure
fill = procedure (codes "fill") (window 0 (codes "w") ∷ [])
    (loop 1 (next (Assign 0 (Var 1 ∷ []) (Const (pos 1))) end))

-- def set(s: stride, z: [i32][8]): Cfg.s = s; z[s] = 0
abbrev set : Procedure
set = procedure (codes "set") (stride 0 (codes "s") ∷ window 1 (codes "z") ∷ [])
    (next (Config 0 (ControlArg (Var 0))) (next (Assign 1 (Var 0 ∷ []) (Const (pos 0))) end))

-- def copy(a: i32[8], b: i32[8]): for l in seq(0, 8): a[l] = b[l]
abbrev copy : Procedure
copy = procedure (codes "copy") (tensor 0 (codes "a") (lit 8 ∷ []) ∷ tensor 1 (codes "b") (lit 8 ∷ []) ∷ [])
    (loop 2 (next (Assign 0 (Var 2 ∷ []) (Read 1 (Var 2 ∷ []))) end))

-- def shift(k: index, w: [i32][8]): w[k + k] = 0
abbrev shift : Procedure
shift = procedure (codes "shift") (number 0 (codes "k") ∷ window 1 (codes "w") ∷ [])
    (next (Assign 1 (Add (Var 0) (Var 0) ∷ []) (Const (pos 0))) end)

-- def hand(w: [i32][8]): fill(w)
abbrev hand : Procedure
hand = procedure (codes "hand") (window 0 (codes "w") ∷ []) (next (Call 0 (Whole 0 ∷ [])) end)

-- def hand_window(w: [i32][8]): fill(w[0:8])
abbrev hand_window : Procedure
hand_window = procedure (codes "hand_window") (window 0 (codes "w") ∷ [])
    (next (Call 0 (Window 0 (Span (lit 0) (lit 8) ∷ []) ∷ [])) end)

-- def hand_tensor(a: i32[8]): fill(a)
abbrev hand_tensor : Procedure
hand_tensor = procedure (codes "hand_tensor") (tensor 0 (codes "a") (lit 8 ∷ []) ∷ [])
    (next (Call 0 (Whole 0 ∷ [])) end)

-- ---- the target

abbrev target : Block → Target
target b =
    let p = procedure (codes "p") (tensor 10 (codes "B") (lit 8 ∷ lit 8 ∷ []) ∷ tensor 11 (codes "y") (lit 8 ∷ []) ∷ []) b in
    record {
      unit = record {
        procedures = fill ∷ set ∷ copy ∷ shift ∷ hand ∷ hand_window ∷ hand_tensor ∷ p ∷ [];
        fields = record { config = codes "Cfg"; name = codes "s"; kind = Stride } ∷ [];
        memories = plain_cells ∷ [];
      };
      origins = [];
      number = 7;
      proc = p;
    }

abbrev asked : ℕ → Block → Tried (List Argument)
asked k b = said k (target b) (record { around = Here end; piece = b })

-- ---- B[i, 3] = 1 is fill(B[0:8, 3])

column : asked 0 (loop 12 (next (Assign 10 (Var 12 ∷ lit 3 ∷ []) (Const (pos 1))) end))
    ≡ Got (Window 10 (Span (lit 0) (lit 8) ∷ At (lit 3) ∷ []) ∷ [])
column = refl

-- = against +=
other_statement : asked 0 (loop 12 (next (Reduce 11 (Var 12 ∷ []) (Const (pos 1))) end))
    ≡ Not (NoMatch (record { branch = Main; index = 0 } ∷ record { branch = Main; index = 0 } ∷ []))
other_statement = refl

-- no place determines k
no_place : asked 3 (next (Assign 11 (lit 4 ∷ []) (Const (pos 0))) end)
    ≡ Not (Undetermined (codes "k"))
no_place = refl

-- y[i] = y[i] would be copy(y, y)
shared : asked 2 (loop 12 (next (Assign 11 (Var 12 ∷ []) (Read 11 (Var 12 ∷ []))) end))
    ≡ Not SharedArgument
shared = refl

no_callee : asked 8 (loop 12 (next (Assign 11 (Var 12 ∷ []) (Const (pos 1))) end)) ≡ Not WrongShape
no_callee = refl

-- ---- calls within: fill(y), and fill(y[0:8])

abbrev fill_whole : Block
fill_whole = next (Call 0 (Whole 11 ∷ [])) end

abbrev fill_window : Block
fill_window = next (Call 0 (Window 11 (Span (lit 0) (lit 8) ∷ []) ∷ [])) end

abbrev part : List Argument
part = Window 11 (Span (lit 0) (lit 8) ∷ []) ∷ []

whole_for_whole : asked 4 fill_whole ≡ Got part
whole_for_whole = refl

window_for_whole : asked 4 fill_window ≡ Got part
window_for_whole = refl

whole_for_window : asked 5 fill_whole ≡ Got part
whole_for_window = refl

whole_for_tensor : asked 6 fill_whole ≡ Got (Whole 11 ∷ [])
whole_for_tensor = refl

-- the argument of a would be the whole of y, which may have other extents
window_for_tensor : asked 6 fill_window ≡ Not WrongShape
window_for_tensor = refl

-- ---- Cfg.s = stride(y, 0); B[1, 0] = 0: the stride is known to be 1, and stands in an index

stride_in_index :
    asked 1 (next (Config 0 (ControlArg (StrideOf 11 0)))
    (next (Assign 10 (lit 1 ∷ lit 0 ∷ []) (Const (pos 0))) end))
    ≡ Got (ControlArg (StrideOf 11 0) ∷ Window 10 (Span (lit 0) (lit 8) ∷ At (lit 0) ∷ []) ∷ [])
stride_in_index = refl

-- ---- the piece

abbrev made : Block
made = next (Alloc (named 12 (codes "t")) I32 (lit 8 ∷ []) 0)
    (next (Assign 12 (lit 0 ∷ []) (Const (pos 0))) (next (Assign 12 (lit 1 ∷ []) (Const (pos 0))) end))

-- t is used behind the first two statements
used_behind : replace_piece 0 2 (target made) (at_index 0) ≡ Not WrongShape
used_behind = refl
