use Rattle.std.proofs.Common.{rules}
use Rattle.std.proofs.lemmas.Int.{to_z-of_z}
use Rattle.std.specs.Int.{w128}
use Rattle.std.specs.Int.RustNames.{FitsSigned}
use Rattle.affine_forms.proofs.Tables.{extends_on}
use Rattle.affine_forms.proofs.Putting.{shares_earlier, shares_value}
use Rattle.affine_forms.proofs.table.Table.shares.Goals as goal

pub loop-w-preserved : goal.loop-w-preserved
loop-w-preserved c =
    let fits : FitsSigned w128 c.w-item.result.coefficient = search rules in
    record {
      grown = extends_on c.args.self.now c.loop-w.self c.part.new.self c.loop-w.invariant.grown c.in_ok-part.ensures.grown;
      earlier = rw c.in_ok-push.ensures.items (shares_earlier c.loop-w.self c.part.new.self c.loop-w.made.items _ c.in_ok-part.ensures.grown c.loop-w.invariant.earlier c.in_ok-part.ensures.earlier);
      value = rw c.in_ok-push.ensures.items (shares_value c.loop-w.self c.part.new.self c.loop-w.made.items _ c.as_slice-w-items.result.now c.loop-w.w-index c.w-item.result c.in_ok-part.ensures.grown c.loop-w.invariant.earlier c.loop-w.invariant.value c.loop-w-test.true c.w-item.is (to_z-of_z w128 c.w-item.result.coefficient fits) c.in_ok-part.ensures.value);
    }
