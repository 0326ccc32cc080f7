-- What magnitudes promise of the values of a run.
use Rattle.std.specs.Prelude.{◌≡◌, ◌≤◌, ◌≤ℤ◌, ◌^◌, ℕ, ℤ, pos, int_le, ◌==◌, Bool, true, false, ◌&&◌}
use Rattle.std.specs.Prelude.{if◌then◌else◌, List, [], ◌∷◌, Option, Some, unsigned_abs, ⊤}
use Rattle.exo_tree.specs.Tree.{Control, Lit, Var, Field, StrideOf, Neg, Add, Sub, Mul, Div, Mod}
use Rattle.exo_tree.specs.Tree.{Argument, ControlArg, ConditionArg, Whole, Window, Statement}
use Rattle.exo_tree.specs.Tree.{Assign, Reduce, Config, Pass, If, For, Alloc, View, Call, Block}
use Rattle.exo_tree.specs.Tree.{end, next, MemoryKind, Param, Procedure}
use Rattle.exo_meaning.specs.Scene.{Scene, Shape, updated, number, numbers, holds}
use Rattle.exo_meaning.specs.State.{State, on_scene, with_control}
use Rattle.exo_meaning.specs.Run.{World, product, turn, turns_of, run, step}
use Rattle.exo_meaning.specs.Inputs.{IsBetween, IsValid}
use Rattle.exo_meaning.specs.Orders.{Each}
use Rattle.c_widths.specs.Magnitude.{magnitude, is_narrow}
use Rattle.c_widths.specs.Widths.{most_of, with_bounds, is_narrow_procedure}
use Rattle.exo_meaning.specs.Units.{is_control_param}

-- its variables are control names, and its divisors are at least 1
abbrev pub is_over : (ℕ → Bool) → Control → Bool
is_over numbers (Lit n) = true
is_over numbers (Var x) = numbers x
is_over numbers (Field f) = true
is_over numbers (StrideOf x k) = true
is_over numbers (Neg a) = is_over numbers a
is_over numbers (Add a b) = is_over numbers a && is_over numbers b
is_over numbers (Sub a b) = is_over numbers a && is_over numbers b
is_over numbers (Mul a b) = is_over numbers a && is_over numbers b
is_over numbers (Div a c) = is_over numbers a && int_le (pos 1) c
is_over numbers (Mod a c) = is_over numbers a && int_le (pos 1) c

-- each control name is at most so large, and each field and each stride of a buffer at most 2 ^ 48
pub record IsWithin (numbers : ℕ → Bool) (most : ℕ → ℕ) (scene : Scene) : Type 0 where
  pub control : (x : ℕ) → numbers x ≡ true → unsigned_abs (scene.control x) ≤ most x
  pub fields : (f : ℕ) → unsigned_abs (scene.fields f) ≤ 2 ^ 48
  pub strides :
      (b : ℕ) (shape : Shape)
      → scene.buffers b ≡ Some shape
      → Each (IsBetween (pos 0) (pos (2 ^ 48))) shape.strides

-- there no value passes its magnitude
abbrev pub ValuesLaw : Type 0
ValuesLaw =
    (numbers : ℕ → Bool) (most : ℕ → ℕ) (scene : Scene) (e : Control)
    → IsWithin numbers most scene
    → is_over numbers e ≡ true
    → unsigned_abs (number scene e) ≤ magnitude most e

-- and so an expression that fits has a value of at most 2 ^ 62
abbrev pub NarrowLaw : Type 0
NarrowLaw =
    (numbers : ℕ → Bool) (most : ℕ → ℕ) (scene : Scene) (e : Control)
    → IsWithin numbers most scene
    → is_over numbers e ≡ true
    → is_narrow most e ≡ true
    → unsigned_abs (number scene e) ≤ 2 ^ 62

-- the control parameters
abbrev pub controls : List Param → ℕ → Bool
controls [] x = false
controls (p ∷ ps) x = if x == p.binder.id then is_control_param p.kind else controls ps x

-- the names of a valid input are within the bounds of parameters
abbrev pub StartLaw : Type 0
StartLaw =
    (world : World) (p : Procedure) (s : State)
    → IsValid world p s
    → IsWithin (controls p.params) (most_of p.params) s.scene

-- ---- runs of blocks without calls

abbrev pub is_setting_over : (ℕ → Bool) → Argument → Bool
is_setting_over numbers (ControlArg a) = is_over numbers a
is_setting_over numbers (ConditionArg c) = true
is_setting_over numbers (Whole x) = false
is_setting_over numbers (Window x coords) = false

-- it calls nothing, and what decides how far names and fields go is over control names
abbrev mutual
  pub is_block_over : (ℕ → Bool) → Block → Bool
  is_block_over numbers end = true
  is_block_over numbers (next a b) = is_statement_over numbers a && is_block_over numbers b

  pub is_statement_over : (ℕ → Bool) → Statement → Bool
  is_statement_over numbers (Assign x is e) = true
  is_statement_over numbers (Reduce x is e) = true
  is_statement_over numbers (Config f a) = is_setting_over numbers a
  is_statement_over numbers Pass = true
  is_statement_over numbers (If c a b) = is_block_over numbers a && is_block_over numbers b
  is_statement_over numbers (For i lo hi b) =
      is_over numbers lo && is_over numbers hi && is_block_over (updated numbers i.id true) b
  is_statement_over numbers (Alloc x cell dims memory) = true
  is_statement_over numbers (View w x coords) = true
  is_statement_over numbers (Call k args) = false

-- what holds of each turn, in the state that it begins in
abbrev pub EachTurn : (ℤ → State → Option State) → (ℤ → State → Type 0) → List ℤ → State → Type 0
EachTurn go P [] s = ⊤
EachTurn go P (n ∷ ns) s = P n s × ((t : State) → go n s ≡ Some t → EachTurn go P ns t)

-- no allocation of the run passes 2 ^ 48 cells
abbrev mutual
  pub AllocatesFew : World → Block → State → Type 0
  AllocatesFew world end s = ⊤
  AllocatesFew world (next a b) s =
      StatementAllocatesFew world a s
      × ((t : State) → step world a s ≡ Some t → AllocatesFew world b t)

  pub StatementAllocatesFew : World → Statement → State → Type 0
  StatementAllocatesFew world (Assign x is e) s = ⊤
  StatementAllocatesFew world (Reduce x is e) s = ⊤
  StatementAllocatesFew world (Config f a) s = ⊤
  StatementAllocatesFew world Pass s = ⊤
  StatementAllocatesFew world (If c a b) s =
      (holds s.scene c ≡ true → AllocatesFew world a s)
      × (holds s.scene c ≡ false → AllocatesFew world b s)
  StatementAllocatesFew world (For i lo hi b) s =
      EachTurn (turn i.id (run world b))
      (λ n t. AllocatesFew world b (on_scene (with_control i.id n) t))
      (turns_of s.scene lo hi) s
  StatementAllocatesFew world (Alloc x cell dims memory) s =
      product (numbers s.scene dims) ≤ℤ pos (2 ^ 48)
  StatementAllocatesFew world (View w x coords) s = ⊤
  StatementAllocatesFew world (Call k args) s = ⊤

-- wherever the run comes to a statement, the names in scope are within their bounds
abbrev mutual
  pub StaysWithin : World → (ℕ → Bool) → (ℕ → ℕ) → Block → State → Type 0
  StaysWithin world numbers most end s = IsWithin numbers most s.scene
  StaysWithin world numbers most (next a b) s =
      IsWithin numbers most s.scene
      × StatementStaysWithin world numbers most a s
      × ((t : State) → step world a s ≡ Some t → StaysWithin world numbers most b t)

  pub StatementStaysWithin : World → (ℕ → Bool) → (ℕ → ℕ) → Statement → State → Type 0
  StatementStaysWithin world numbers most (Assign x is e) s = ⊤
  StatementStaysWithin world numbers most (Reduce x is e) s = ⊤
  StatementStaysWithin world numbers most (Config f a) s = ⊤
  StatementStaysWithin world numbers most Pass s = ⊤
  StatementStaysWithin world numbers most (If c a b) s =
      (holds s.scene c ≡ true → StaysWithin world numbers most a s)
      × (holds s.scene c ≡ false → StaysWithin world numbers most b s)
  StatementStaysWithin world numbers most (For i lo hi b) s =
      let inner = updated numbers i.id true in
      let within = with_bounds most i.id lo hi in
      EachTurn (turn i.id (run world b))
      (λ n t. StaysWithin world inner within b (on_scene (with_control i.id n) t))
      (turns_of s.scene lo hi) s
  StatementStaysWithin world numbers most (Alloc x cell dims memory) s = ⊤
  StatementStaysWithin world numbers most (View w x coords) s = ⊤
  StatementStaysWithin world numbers most (Call k args) s = ⊤

-- on a valid input the names in scope stay within their bounds all along the run of a procedure
-- that fits, without calls
abbrev pub RunsLaw : Type 0
RunsLaw =
    (memories : List MemoryKind) (world : World) (p : Procedure) (s : State)
    → is_narrow_procedure memories p ≡ true
    → is_block_over (controls p.params) p.body ≡ true
    → IsValid world p s
    → AllocatesFew world p.body s
    → StaysWithin world (controls p.params) (most_of p.params) p.body s
