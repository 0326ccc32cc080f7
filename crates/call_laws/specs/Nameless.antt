-- Blocks under other names of binders: what is read in the one is read in the other.
use Rattle.exo_tree.specs.Tree.{Block}
use Rattle.exo_meaning.specs.State.{State}
use Rattle.exo_meaning.specs.Run.{World}
use Rattle.affine_forms.specs.Forms.{Reading}
use Rattle.match_laws.specs.Simplify.SameControls.{OfEach}
use Rattle.match_laws.specs.Simplify.SimplifiedBlocks.{IsRead}
use Rattle.match_laws.specs.Alike.{nameless}

abbrev pub OfEachNameless : Type 0
OfEachNameless =
    (world : World) (at : Reading) (b : Block) (s : State)
    → OfEach world (IsRead at) b s
    → OfEach world (IsRead at) (nameless b) s
