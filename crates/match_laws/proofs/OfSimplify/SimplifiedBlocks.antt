-- A simplified block does along any run what the block does.
use Rattle.std.proofs.Common.{◌≡◌, List, [], ◌∷◌, Some, sym, ap, ◌∙◌, subst}
use Rattle.exo_tree.specs.Tree.{Control, Condition, True, False, Flag, FieldFlag, Lt, Le, Gt, Ge}
use Rattle.exo_tree.specs.Tree.{Eq, And, Or, Datum, Const, Read, Negated, Relu, Plus, Minus, Times}
use Rattle.exo_tree.specs.Tree.{Select, Coord, At, Span, Argument, ControlArg, ConditionArg, Whole}
use Rattle.exo_tree.specs.Tree.{Window, Statement, Assign, Reduce, Config, Pass, If, For, Alloc}
use Rattle.exo_tree.specs.Tree.{View, Call}
use Rattle.exo_meaning.specs.Value.{IsRefinedBy}
use Rattle.exo_meaning.specs.Scene.{where_true}
use Rattle.exo_meaning.specs.State.{State}
use Rattle.exo_meaning.specs.Inputs.{IsAdmissible, run_procedure, all_have_extents}
use Rattle.meaning_laws.proofs.Parts.{some_injective}
use Rattle.meaning_laws.proofs.Refined.{refined_same}
use Rattle.inplace_laws.proofs.Along.{along_law}
use Rattle.match_laws.specs.Simplify.Simplified.{simplified}
use Rattle.match_laws.specs.Simplify.SameControls.{OfControls, OfCondition, OfDatum, OfCoords, OfArgument}
use Rattle.match_laws.specs.Simplify.SameControls.{OfArguments, OfStatement}
use Rattle.match_laws.specs.Simplify.SimplifiedBlocks.{simplified_block, standing, IsRead}
use Rattle.match_laws.specs.Simplify.SimplifiedBlocks.{simplified_procedure, SimplifiedAlong}
use Rattle.match_laws.specs.Simplify.SimplifiedBlocks.{SimplifiedRunLaw, SimplifyRefines}
use Rattle.match_laws.proofs.OfSimplify.Simplified.{simplified_law}
use Rattle.match_laws.proofs.OfSimplify.SameControls.{same_controls_along}

module _ (P Q : Control → Type 0) (by : (e : Control) → P e → Q e) where
  controls_by : (es : List Control) → OfControls P es → OfControls Q es
  controls_by [] h = h
  controls_by (e ∷ es) h = (by e h.0, controls_by es h.1)

  pub condition_by : (c : Condition) → OfCondition P c → OfCondition Q c
  condition_by True h = h
  condition_by False h = h
  condition_by (Flag x) h = h
  condition_by (FieldFlag g) h = h
  condition_by (Lt a b) h = (by a h.0, by b h.1)
  condition_by (Le a b) h = (by a h.0, by b h.1)
  condition_by (Gt a b) h = (by a h.0, by b h.1)
  condition_by (Ge a b) h = (by a h.0, by b h.1)
  condition_by (Eq a b) h = (by a h.0, by b h.1)
  condition_by (And c d) h = (condition_by c h.0, condition_by d h.1)
  condition_by (Or c d) h = (condition_by c h.0, condition_by d h.1)

  datum_by : (e : Datum) → OfDatum P e → OfDatum Q e
  datum_by (Const n) h = h
  datum_by (Read x is) h = controls_by is h
  datum_by (Negated a) h = datum_by a h
  datum_by (Relu a) h = datum_by a h
  datum_by (Plus a b) h = (datum_by a h.0, datum_by b h.1)
  datum_by (Minus a b) h = (datum_by a h.0, datum_by b h.1)
  datum_by (Times a b) h = (datum_by a h.0, datum_by b h.1)
  datum_by (Select a b c d) h =
      (datum_by a h.0, datum_by b h.1, datum_by c h.2, datum_by d h.3)

  coords_by : (cs : List Coord) → OfCoords P cs → OfCoords Q cs
  coords_by [] h = h
  coords_by (At a ∷ cs) h = (by a h.0, coords_by cs h.1)
  coords_by (Span a b ∷ cs) h = (by a h.0, by b h.1, coords_by cs h.2)

  pub argument_by : (a : Argument) → OfArgument P a → OfArgument Q a
  argument_by (ControlArg e) h = by e h
  argument_by (ConditionArg c) h = condition_by c h
  argument_by (Whole x) h = h
  argument_by (Window x cs) h = coords_by cs h

  arguments_by : (args : List Argument) → OfArguments P args → OfArguments Q args
  arguments_by [] h = h
  arguments_by (a ∷ rest) h = (argument_by a h.0, arguments_by rest h.1)

  pub statement_by : (d : Statement) → OfStatement P d → OfStatement Q d
  statement_by (Assign x is e) h = (controls_by is h.0, datum_by e h.1)
  statement_by (Reduce x is e) h = (controls_by is h.0, datum_by e h.1)
  statement_by (Config g a) h = argument_by a h
  statement_by Pass h = h
  statement_by (If c a b) h = condition_by c h
  statement_by (For i lo hi b) h = (by lo h.0, by hi h.1)
  statement_by (Alloc x cell dims memory) h = controls_by dims h
  statement_by (View w x cs) h = coords_by cs h
  statement_by (Call k args) h = arguments_by args h

pub simplified_along : SimplifiedAlong
simplified_along world at b s read =
    same_controls_along world (simplified at) b s (λ c d u same come.
    statement_by (IsRead at u.scene) _
    (λ e h. simplified_law (standing u.scene) at u.scene e h.0 h.1) d (read c d u same come))

pub simplified_run_law : SimplifiedRunLaw
simplified_run_law world at b s read =
    along_law world b (simplified_block at b) s (simplified_along world at b s read)

pub simplify_refines : SimplifyRefines
simplify_refines world at p read = record {
  cells = λ s t u good i j b there cell.
      subst (λ (z : State). IsRefinedBy (t.cells b cell) (z.cells b cell)) (one s t u good i j)
      (refined_same (t.cells b cell));
  fields = λ s t u good i j f out. ap (λ (z : State). z.scene.fields f) (one s t u good i j);
}
  where
    one : (s t u : State) → IsAdmissible world p s → run_procedure world p s ≡ Some t
        → run_procedure world (simplified_procedure at p) s ≡ Some u → t ≡ u
    one s t u good i j =
        some_injective t u (sym i
        ∙ ap (where_true (all_have_extents s.scene p.params))
        (simplified_run_law world at p.body s (read s good)) ∙ j)
