-- What a well-formed procedure meets of the premises of other laws.
use Rattle.std.specs.Prelude.{◌≡◌, ℕ, true, false, List, Option, slice_get, length}
use Rattle.exo_tree.specs.Tree.{Kind, Block, Procedure}
use Rattle.exo_tree.specs.Context.{Context, fill}
use Rattle.exo_meaning.specs.Calls.{Callee}
use Rattle.exo_meaning.specs.Orders.{Each}
use Rattle.exo_meaning.specs.Unseen.{in_condition}
use Rattle.exo_meaning.specs.Units.{IsProcedure}
use Rattle.meaning_laws.specs.Scoped.{is_not, is_param, is_scoped, HasPlainBounds}
use Rattle.meaning_laws.specs.Known.{KeepsKnown}
use Rattle.meaning_laws.specs.Grown.{calls_below}

-- each name that is used is bound, and each binder is new
abbrev pub WellScoped : Type 0
WellScoped =
    (fields : ℕ → Option Kind) (memories : ℕ) (callees : ℕ → Option Callee) (p : Procedure)
    → IsProcedure fields memories callees p
    → (is_scoped (is_param p) p.body ≡ true)
    × Each (λ t. in_condition (is_not (is_param p)) t ≡ false) p.asserts

-- no bound round a place reads a field or a stride
abbrev pub PlainBoundsLaw : Type 0
PlainBoundsLaw =
    (fields : ℕ → Option Kind) (memories : ℕ) (callees : ℕ → Option Callee) (p : Procedure)
    (c : Context) (old : Block)
    → IsProcedure fields memories callees p
    → p.body ≡ fill c old
    → HasPlainBounds c

-- nothing on the way to a place changes what is known there
abbrev pub WellKnown : Type 0
WellKnown =
    (fields : ℕ → Option Kind) (memories : ℕ) (callees : ℕ → Option Callee) (p : Procedure)
    (c : Context) (old : Block)
    → IsProcedure fields memories callees p
    → p.body ≡ fill c old
    → KeepsKnown p c

-- it calls procedures of the table alone
abbrev pub CallsAreBelow : Type 0
CallsAreBelow =
    (fields : ℕ → Option Kind) (memories : ℕ) (table : List Callee) (p : Procedure)
    → IsProcedure fields memories (slice_get table) p
    → calls_below (length table) p.body ≡ true
