-- `reorder_stmts` on closed procedures.
use Rattle.std.proofs.Common.{◌≡◌, ℕ, pos, List, [], ◌∷◌, Some, refl, arith}
use Rattle.std.specs.Prelude.{codes}
use Rattle.std.specs.Fmt.{digits}
use Rattle.std.specs.Int.{int_wrap}
use Rattle.std.proofs.lemmas.Int.{ints}
use Rattle.std.proofs.lemmas.List.Elements.{All-from_recursion}
use Rattle.exo_tree.specs.Tree.{I32, True, FieldFlag, Control, Const, ConditionArg, Statement}
use Rattle.exo_tree.specs.Tree.{Assign, Reduce, Config, Pass, If, For, Alloc, Block, end, next}
use Rattle.exo_meaning.specs.Value.{Number}
use Rattle.exo_meaning.specs.Run.{program_world}
use Rattle.exo_meaning.specs.Inputs.{Refines}
use Rattle.affine_forms.specs.Affine.{HasNoIntegerPoint}
use Rattle.affine_systems.specs.Outcomes.{Owed}
use Rattle.cursor_forward.specs.Causes.{WrongShape, NameTaken, ConfigWrite}
use Rattle.cursor_forward.specs.Forwards.{Forwards}
use Rattle.cursor_forward.specs.Proposals.{Plan}
use Rattle.cursor_forward.specs.Shifts.{at_index, move_of}
use Rattle.effect_laws.specs.Fits.{neighbours_conflict}
use Rattle.place_laws.specs.Order.Reorder.{pair}
use Rattle.config_laws.proofs.Derived.{no_versions}
use Rattle.step_rules.specs.Lawful.{IsTarget}
use Rattle.step_rules.specs.Laws.{MeaningLaw, ForwardsLaw}
use Rattle.step_rules.specs.Owing.{AreShown, owed_for}
use Rattle.step_rules.specs.Rule.{Got, Not, Apart}
use Rattle.proc_laws.specs.Statement.ReorderStatements.{exchanged, reorder_rule}
use Rattle.proc_laws.proofs.OfStatement.ReorderStatements.{reorder_is_lawful, reorder_is_carrying}
use Rattle.proc_laws.proofs.OfStatement.Small.{number, binder, stores, of_body, unit_of, target_of}
use Rattle.proc_laws.proofs.OfStatement.Small.{target_is, on_first, body_of, texts_of, planned, leaves}

-- x[e] = n
abbrev store : Control → ℕ → Statement
store e n = Assign 0 (e ∷ []) (Const (pos n))

-- x[0] = 1, x[1] = 2
abbrev two : Block
two = pair (store (number 0) 1) (store (number 1) 2)

abbrev two_turned : Block
two_turned = pair (store (number 1) 2) (store (number 0) 1)

-- ---- what is answered

pub they_change_places : body_of (on_first reorder_rule two) ≡ Some two_turned
they_change_places = refl

pub they_must_be_apart : texts_of (on_first reorder_rule two) ≡ codes "x[0] against x[1]" ∷ []
unfolding digits
they_must_be_apart = refl

-- those that follow stay
pub two_of_three : body_of (on_first reorder_rule
    (next (store (number 0) 1) (next (store (number 1) 2) (stores (number 2) 3))))
    ≡ Some (next (store (number 1) 2) (next (store (number 0) 1) (stores (number 2) 3)))
two_of_three = refl

-- which is not shown
pub same_cell : texts_of (on_first reorder_rule (pair (store (number 0) 1) (store (number 0) 2)))
    ≡ codes "x[0] against x[0]" ∷ []
unfolding digits
same_cell = refl

-- t : i32
abbrev makes : ℕ → Statement
makes n = Alloc (binder n (codes "t")) I32 [] 0

-- one that binds a name may go behind one that does not use it, which needs nothing
pub made_later : body_of (on_first reorder_rule (pair (makes 1) (store (number 0) 1)))
    ≡ Some (pair (store (number 0) 1) (makes 1))
made_later = refl

pub made_later_needs : texts_of (on_first reorder_rule (pair (makes 1) (store (number 0) 1))) ≡ []
unfolding digits
made_later_needs = refl

-- two that read and two that reduce do not clash
pub two_sums : texts_of (on_first reorder_rule
    (pair (Reduce 0 (number 0 ∷ []) (Const (pos 1))) (Reduce 0 (number 0 ∷ []) (Const (pos 2)))))
    ≡ []
unfolding digits
two_sums = refl

-- C.g = True, and if C.g: pass
abbrev sets : Statement
sets = Config 0 (ConditionArg True)

abbrev asks : Statement
asks = If (FieldFlag 0) (next Pass end) end

pub both_ask : body_of (on_first reorder_rule (pair asks asks)) ≡ Some (pair asks asks)
both_ask = refl

-- ---- refusals

pub no_next : on_first reorder_rule (stores (number 0) 1) ≡ Not WrongShape
no_next = refl

pub name_used : on_first reorder_rule (pair (makes 1) (Assign 1 [] (Const (pos 0)))) ≡ Not WrongShape
name_used = refl

pub set_then_asked : on_first reorder_rule (pair sets asks) ≡ Not ConfigWrite
set_then_asked = refl

pub asked_then_set : on_first reorder_rule (pair asks sets) ≡ Not ConfigWrite
asked_then_set = refl

pub set_twice : on_first reorder_rule (pair sets sets) ≡ Not ConfigWrite
set_twice = refl

-- the loop over t would stand where t is bound
pub name_is_taken : on_first reorder_rule
    (pair (For (binder 1 (codes "t")) (number 0) (number 4) (next Pass end)) (makes 2))
    ≡ Not NameTaken
name_is_taken = refl

-- ---- the laws there

abbrev IsClosed : Owed → Type 0
IsClosed o = HasNoIntegerPoint o.system

abbrev must : List Owed
must =
    owed_for (target_of two) (Apart (at_index 0) (neighbours_conflict (at_index 0) (at_index 1)))

is_shown : AreShown must
is_shown =
    All-from_recursion IsClosed must
    (λ point h. let e = h.equations_hold.0 in absurd (omega (arith, ints, e)), tt)

abbrev plan : Plan
plan = planned two_turned must 2 2 exchanged

is_planned : on_first reorder_rule two ≡ Got plan
is_planned = refl

is_target : IsTarget (target_of two)
is_target =
    target_is two (record {
      params = refl;
      asserts = refl;
      body = refl;
      filled = refl;
      ids = refl;
      distinct = refl;
      paths = refl;
      template = refl;
    })
    refl

pub reorder_refines : MeaningLaw
    → Refines (program_world (unit_of two)) (of_body two) (of_body two_turned) []
reorder_refines law =
    law reorder_rule (target_of two) (at_index 0) plan reorder_is_lawful is_target
    (no_versions (target_of two).unit) is_planned is_shown

pub reorder_forwards : ForwardsLaw
    → Forwards (move_of plan.edits) (of_body two) (of_body two_turned)
reorder_forwards law =
    law reorder_rule (target_of two) (at_index 0) plan reorder_is_carrying is_target is_planned

-- the statements go with their marks
pub first_goes : move_of plan.edits (at_index 0) ≡ Some (at_index 1)
first_goes = refl

pub second_goes : move_of plan.edits (at_index 1) ≡ Some (at_index 0)
second_goes = refl

-- ---- runs

pub cell_before : leaves two 1 ≡ Some (Number (pos 2))
unfolding int_wrap
cell_before = refl

pub cell_after : leaves two_turned 1 ≡ Some (Number (pos 2))
unfolding int_wrap
cell_after = refl

-- of one cell the order matters
pub last_store : leaves (pair (store (number 0) 1) (store (number 0) 2)) 0 ≡ Some (Number (pos 2))
unfolding int_wrap
last_store = refl

pub last_store_turned : leaves (pair (store (number 0) 2) (store (number 0) 1)) 0
    ≡ Some (Number (pos 1))
unfolding int_wrap
last_store_turned = refl
