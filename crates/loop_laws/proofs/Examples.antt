-- The rules on closed procedures.
use Rattle.std.proofs.Common.{◌≡◌, ℕ, ◌+◌, ◌^◌, ◌-◌, ℤ, pos, true, false, List, [], ◌∷◌, map, Option, Some, None, refl}
use Rattle.std.specs.Prelude.{codes}
use Rattle.std.specs.Fmt.{digits}
use Rattle.exo_tree.specs.Tree.{Size, I32, Control, Lit, Var, Field, Add, Sub, Mul, Div, Mod}
use Rattle.exo_tree.specs.Tree.{Lt, Gt, Const, Assign, If, For, Block, end, next, joined}
use Rattle.exo_tree.specs.Tree.{Param, ControlParam, TensorParam, Procedure, MemoryKind}
use Rattle.cursor_forward.specs.Causes.{WrongShape, OutOfScope, NameTaken}
use Rattle.cursor_forward.specs.Shifts.{at_index}
use Rattle.cursor_forward.specs.Proposals.{Plan}
use Rattle.step_rules.specs.Rule.{Tried, Got, Not, Target, Rule}
use Rattle.step_rules.specs.Answer.{proposed}
use Rattle.loop_laws.specs.CutLoop.{cut_rule}
use Rattle.loop_laws.specs.DivideLoop.{Tail, Guard, Cut, CutAndGuard, Perfect, divide_rule}

-- ---- procedures with a loop

abbrev pub size : ℕ → List ℕ → Param
size n name = record { binder = record { id = n; name = name }; kind = ControlParam Size }

abbrev pub buffer : ℕ → List ℕ → Control → Param
buffer n name extent = record {
  binder = record { id = n; name = name };
  kind = TensorParam I32 (extent ∷ []) 0;
}

abbrev pub procedure : List Param → Block → Procedure
procedure params b =
    record { name = codes "f"; params = params; asserts = []; body = b; template = None }

abbrev pub plain_cells : MemoryKind
plain_cells = record {
  name = codes "DRAM";
  ctype = [];
  lanes = 0;
  cell = None;
  stack = false;
  read = true;
  write = true;
  reduce = true;
  header = [];
}

abbrev pub target_of : Procedure → Target
target_of p = record {
  unit = record { procedures = p ∷ []; fields = []; memories = plain_cells ∷ [] };
  origins = [];
  number = 0;
  proc = p;
}

abbrev pub loop : ℕ → List ℕ → Control → Control → Block → Block
loop n name lo hi b = next (For (record { id = n; name = name }) lo hi b) end

-- x[e] = n
abbrev pub stores : ℕ → Control → ℕ → Block
stores x e n = next (Assign x (e ∷ []) (Const (pos n))) end

abbrev pub number : ℕ → Control
number n = Lit (pos n)

-- ---- what is proposed

abbrev body_of : Tried Plan → Option Block
body_of (Got m) = Some m.proc.body
body_of (Not cause) = None

abbrev texts_of : Tried Plan → List (List ℕ)
texts_of (Got m) = map (λ o. o.what) m.must
texts_of (Not cause) = []

abbrev pub on_loop : Rule → Procedure → Tried Plan
on_loop r p = proposed r (target_of p) (at_index 0)

-- ---- cut: z has x: i32[16], for i in seq(0, 16): x[i] = 1

abbrev pub z : Procedure
z =
    procedure (buffer 0 (codes "x") (number 16) ∷ [])
    (loop 1 (codes "i") (number 0) (number 16) (stores 0 (Var 1) 1))

pub cut_at_5 : body_of (on_loop (cut_rule (number 5)) z)
    ≡ Some (joined (loop 1 (codes "i") (number 0) (number 5) (stores 0 (Var 1) 1))
    (loop 2 (codes "i") (number 5) (number 16) (stores 0 (Var 2) 1)))
cut_at_5 = refl

pub cut_at_5_needs : texts_of (on_loop (cut_rule (number 5)) z)
    ≡ codes "0 <= 5" ∷ codes "5 <= 16" ∷ []
unfolding digits
cut_at_5_needs = refl

-- which is not shown
pub cut_at_17_needs : texts_of (on_loop (cut_rule (number 17)) z)
    ≡ codes "0 <= 17" ∷ codes "17 <= 16" ∷ []
unfolding digits
cut_at_17_needs = refl

pub cut_at_no_name : on_loop (cut_rule (Var (2 ^ 32 - 1))) z ≡ Not OutOfScope
cut_at_no_name = refl

-- the variable is not in scope there, and no field may stand in a bound
pub cut_at_own_variable : on_loop (cut_rule (Var 1)) z ≡ Not OutOfScope
cut_at_own_variable = refl

pub cut_at_field : on_loop (cut_rule (Field 0)) z ≡ Not WrongShape
cut_at_field = refl

pub no_loop_to_cut : proposed (cut_rule (number 5)) (target_of z) (at_index 1) ≡ Not WrongShape
no_loop_to_cut = refl

-- ---- divided

abbrev groups : ℤ → Tail → Rule
groups by tail = divide_rule (record {
  by = by;
  outer = codes "io";
  inner = codes "ii";
  tail = tail;
})

-- x: i32[13], for i in seq(0, 13): x[i] = 0
abbrev thirteen : Procedure
thirteen =
    procedure (buffer 0 (codes "x") (number 13) ∷ [])
    (loop 1 (codes "i") (number 0) (number 13) (stores 0 (Var 1) 0))

-- 8 * io + ii
abbrev in_group : ℕ → Control
in_group io = Add (Mul (number 8) (Var io)) (Var (io + 1))

pub guarded : body_of (on_loop (groups (pos 8) Guard) thirteen)
    ≡ Some (loop 2 (codes "io") (number 0) (Div (Add (number 13) (number 7)) (pos 8))
    (loop 3 (codes "ii") (number 0) (number 8)
    (next (If (Lt (in_group 2) (number 13)) (stores 0 (in_group 2) 0) end) end)))
guarded = refl

pub guarded_needs : texts_of (on_loop (groups (pos 8) Guard) thirteen) ≡ []
unfolding digits
guarded_needs = refl

-- f has n: size, x: i32[n], for i in seq(0, n - 3): x[i] = 0
abbrev pub last : Control
last = Sub (Var 0) (number 3)

abbrev pub f : Procedure
f =
    procedure (size 0 (codes "n") ∷ buffer 1 (codes "x") (Var 0) ∷ [])
    (loop 2 (codes "i") (number 0) last (stores 1 (Var 2) 0))

abbrev whole_groups : Block
whole_groups =
    loop 3 (codes "io") (number 0) (Div last (pos 8))
    (loop 4 (codes "ii") (number 0) (number 8) (stores 1 (in_group 3) 0))

abbrev tail : Block
tail =
    loop 5 (codes "ii") (number 0) (Mod last (pos 8))
    (stores 1 (Add (Mul (number 8) (Div last (pos 8))) (Var 5)) 0)

pub with_tail : body_of (on_loop (groups (pos 8) Cut) f) ≡ Some (joined whole_groups tail)
with_tail = refl

-- which is not shown
pub with_tail_needs : texts_of (on_loop (groups (pos 8) Cut) f) ≡ codes "0 <= n - 3" ∷ []
unfolding digits
with_tail_needs = refl

pub with_guarded_tail : body_of (on_loop (groups (pos 8) CutAndGuard) f)
    ≡ Some (joined whole_groups (next (If (Gt (Mod last (pos 8)) (number 0)) tail end) end))
with_guarded_tail = refl

pub with_guarded_tail_needs : texts_of (on_loop (groups (pos 8) CutAndGuard) f)
    ≡ codes "0 <= n - 3" ∷ []
unfolding digits
with_guarded_tail_needs = refl

pub perfect : body_of (on_loop (groups (pos 8) Perfect) f) ≡ Some whole_groups
perfect = refl

-- an equation is two systems
pub perfect_needs : texts_of (on_loop (groups (pos 8) Perfect) f) ≡ codes "(n - 3) % 8 == 0" ∷ codes "(n - 3) % 8 == 0" ∷ []
unfolding digits
perfect_needs = refl

pub by_nothing : on_loop (groups (pos 0) Guard) f ≡ Not WrongShape
by_nothing = refl

pub name_of_buffer :
    on_loop (divide_rule (record {
      by = pos 8;
      outer = codes "x";
      inner = codes "ii";
      tail = Guard;
    })) f ≡ Not NameTaken
name_of_buffer = refl

-- only a loop from the literal 0 is divided
pub from_three :
    on_loop (groups (pos 8) Guard)
    (procedure (buffer 0 (codes "x") (number 16) ∷ [])
    (loop 1 (codes "i") (number 3) (number 16) (stores 0 (Var 1) 1))) ≡ Not WrongShape
from_three = refl
