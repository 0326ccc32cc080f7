-- Blocks with each control expression simplified.
use Rattle.std.specs.Prelude.{◌≡◌, Bool, true, false, [], Option, Some, None}
use Rattle.exo_tree.specs.Tree.{Control, Block, Procedure}
use Rattle.exo_meaning.specs.Scene.{Scene, Seen}
use Rattle.exo_meaning.specs.State.{State}
use Rattle.exo_meaning.specs.Run.{World, run}
use Rattle.exo_meaning.specs.Inputs.{IsAdmissible, Refines}
use Rattle.affine_forms.specs.Forms.{Reading, Allowed, is_affine}
use Rattle.affine_forms.specs.Laws.{ReadsAt}
use Rattle.inplace_laws.specs.Along.{SameAlong}
use Rattle.match_laws.specs.Simplify.Simplified.{simplified, values_in}
use Rattle.match_laws.specs.Simplify.SameControls.{in_block, OfEach}

abbrev pub simplified_block : Reading → Block → Block
simplified_block at = in_block (simplified at)

abbrev pub is_seen : Option Seen → Bool
is_seen None = false
is_seen (Some seen) = true

-- variables, fields, and strides of the names that stand for a buffer
abbrev pub standing : Scene → Allowed
standing scene = record {
  variable = λ x. true;
  field = λ f. true;
  stride = λ x k. is_seen (scene.views x);
}

-- what is read in the expression has its number
abbrev pub IsRead : Reading → Scene → Control → Type 0
IsRead at scene e =
    ReadsAt (standing scene) (values_in scene) at scene × (is_affine (standing scene) e ≡ true)

-- wherever a run comes
abbrev pub SimplifiedAlong : Type 0
SimplifiedAlong =
    (world : World) (at : Reading) (b : Block) (s : State)
    → OfEach world (IsRead at) b s
    → SameAlong world b (simplified_block at b) s

abbrev pub SimplifiedRunLaw : Type 0
SimplifiedRunLaw =
    (world : World) (at : Reading) (b : Block) (s : State)
    → OfEach world (IsRead at) b s
    → run world b s ≡ run world (simplified_block at b) s

-- the parameters and assertions stay
abbrev pub simplified_procedure : Reading → Procedure → Procedure
simplified_procedure at p = record p { body = simplified_block at p.body }

abbrev pub SimplifyRefines : Type 0
SimplifyRefines =
    (world : World) (at : Reading) (p : Procedure)
    → ((s : State) → IsAdmissible world p s → OfEach world (IsRead at) p.body s)
    → Refines world p (simplified_procedure at p) []
