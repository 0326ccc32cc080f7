-- A part of an expression, stored in a buffer of one cell before it is used.
use Rattle.std.specs.Prelude.{◌≡◌, cond, ℕ, ℤ, Bool, false, List, [], Some}
use Rattle.exo_tree.specs.Tree.{Cell, I32, Control, Datum, Const, Read, Negated, Relu, Plus}
use Rattle.exo_tree.specs.Tree.{Minus, Times, Select, Statement, Assign, Reduce, Block, next}
use Rattle.exo_tree.specs.Tree.{Kind, Procedure}
use Rattle.exo_tree.specs.Context.{Context, fill}
use Rattle.exo_meaning.specs.Value.{Value, wrap}
use Rattle.exo_meaning.specs.Scene.{Shape, Seen}
use Rattle.exo_meaning.specs.State.{State, value}
use Rattle.exo_meaning.specs.Inputs.{IsAdmissible, FitsCell, Refines}
use Rattle.exo_meaning.specs.Run.{World, unit_world}
use Rattle.exo_meaning.specs.Unseen.{in_statement as mentions}
use Rattle.meaning_laws.specs.Context.{ComesTo, MayReplace}
use Rattle.meaning_laws.specs.Sorted.{CellsFit}
use Rattle.meaning_laws.specs.Sound.{IsSound}
use Rattle.place_laws.specs.Scope.Opened.{MayLeave}
use Rattle.place_laws.specs.Scope.Scopes.{HasNone}
use Rattle.buffer_laws.specs.Buffers.{Buffer, allocation, is_buffer}
use Rattle.place_laws.specs.Order.Statements.{one}

-- ---- expressions with a hole

pub data Hole : Type 0 where
  Top : Hole
  InNegated InRelu : Hole → Hole
  InPlus InMinus InTimes : Hole → Datum → Hole
  PlusIn MinusIn TimesIn : Datum → Hole → Hole
  InFirst : Hole → Datum → Datum → Datum → Hole
  InSecond : Datum → Hole → Datum → Datum → Hole
  InThird : Datum → Datum → Hole → Datum → Hole
  InFourth : Datum → Datum → Datum → Hole → Hole

-- the expression with this one in the hole
abbrev pub filled : Hole → Datum → Datum
filled Top e = e
filled (InNegated h) e = Negated (filled h e)
filled (InRelu h) e = Relu (filled h e)
filled (InPlus h b) e = Plus (filled h e) b
filled (InMinus h b) e = Minus (filled h e) b
filled (InTimes h b) e = Times (filled h e) b
filled (PlusIn a h) e = Plus a (filled h e)
filled (MinusIn a h) e = Minus a (filled h e)
filled (TimesIn a h) e = Times a (filled h e)
filled (InFirst h b c d) e = Select (filled h e) b c d
filled (InSecond a h c d) e = Select a (filled h e) c d
filled (InThird a b h d) e = Select a b (filled h e) d
filled (InFourth a b c h) e = Select a b c (filled h e)

-- ---- the step

-- an assignment, or a reduction
abbrev pub stores : Bool → ℕ → List Control → Datum → Statement
stores reduces y is e = cond reduces (Reduce y is e) (Assign y is e)

-- the cell type of a single read, else 32 bits
abbrev pub bound_cell : (ℕ → Cell) → Datum → Cell
bound_cell cells (Read y is) = cells y
bound_cell cells _ = I32

-- x : T; x = e; and x in the place of e
abbrev pub bound : Buffer → Bool → ℕ → List Control → Hole → Datum → Block
bound x reduces y is h e =
    next (allocation x) (next (Assign x.binder.id [] e)
    (one (stores reduces y is (filled h (Read x.binder.id [])))))

-- ---- values that fit

-- a number that stands alone is one of 32 bits
abbrev pub IsShort : Datum → Type 0
IsShort e = (n : ℤ) → e ≡ Const n → wrap I32 n ≡ n

-- the cells under a name are of its type
abbrev pub HaveCells : (ℕ → Cell) → State → Type 0
HaveCells cells s =
    (y : ℕ) (seen : Seen) (shape : Shape)
    → s.scene.views y ≡ Some seen
    → s.scene.buffers seen.buffer ≡ Some shape
    → shape.cell ≡ cells y

abbrev pub ValuesFit : Type 0
ValuesFit =
    (cells : ℕ → Cell) (s : State) (e : Datum) (v : Value)
    → IsSound s
    → CellsFit s
    → HaveCells cells s
    → IsShort e
    → value s e ≡ Some v
    → FitsCell (bound_cell cells e) v

-- ---- the law

-- x is a new buffer of one cell, which the statement does not mention, and the value fits it
pub record MayBind (x : Buffer) (reduces : Bool) (y : ℕ) (is : List Control) (h : Hole)
    (e : Datum) (s : State) : Type 0 where
  pub none : HasNone (is_buffer x) s
  pub dims : x.dims ≡ []
  pub unused : mentions (is_buffer x) (stores reduces y is (filled h e)) ≡ false
  pub fits : (v : Value) → value s e ≡ Some v → FitsCell x.cell v

abbrev pub BindLaw : Type 0
BindLaw =
    (world : World) (x : Buffer) (reduces : Bool) (y : ℕ) (is : List Control) (h : Hole)
    (e : Datum) (s : State)
    → MayBind x reduces y is h e s
    → MayReplace world (is_buffer x) (one (stores reduces y is (filled h e)))
    (bound x reduces y is h e) s

-- and at a place of a procedure
abbrev pub BindRefines : Type 0
BindRefines =
    (kinds : ℕ → Kind) (ps : List Procedure) (p : Procedure) (c : Context) (x : Buffer)
    (reduces : Bool) (y : ℕ) (is : List Control) (h : Hole) (e : Datum)
    → let world = unit_world kinds ps in
    let old = one (stores reduces y is (filled h e)) in
    p.body ≡ fill c old
    → MayLeave p c (is_buffer x)
    → x.dims ≡ []
    → mentions (is_buffer x) (stores reduces y is (filled h e)) ≡ false
    → ((s u : State) (v : Value)
    → IsAdmissible world p s
    → ComesTo world old c s u
    → value u e ≡ Some v
    → FitsCell x.cell v)
    → Refines world p (record p { body = fill c (bound x reduces y is h e) }) []
