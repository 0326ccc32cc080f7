use Rattle.std.proofs.Common.{rules}
use Rattle.std.proofs.lemmas.Int.{to_z-of_z}
use Rattle.std.specs.Int.{w128}
use Rattle.std.specs.Int.RustNames.{FitsSigned}
use Rattle.affine_forms.proofs.TermLists.{plain_grows}
use Rattle.affine_forms.proofs.atom.Terms.duplicate.Goals as goal

pub loop-w-preserved : goal.loop-w-preserved
loop-w-preserved c =
    let fits : FitsSigned w128 c.w-item.result.coefficient = search rules in
    rw c.in_ok-push.ensures.items (plain_grows _ _ _ _ c.w-item.result c.loop-w.invariant c.loop-w-test.true c.w-item.is (to_z-of_z w128 c.w-item.result.coefficient fits) c.in_ok-duplicate.ensures)
