use Rattle.std.proofs.Common.{◌≡◌, ◌<◌, ◌≤◌, length, sym, ap, ◌∙◌, subst, arith}
use Rattle.std.proofs.lemmas.List.{length-map}
use Rattle.exo_tree.specs.PlainProcedure.{procedure}
use Rattle.exo_modes.specs.Calls.Marked.{Reached}
use Rattle.exo_modes.specs.Calls.Passed.{passed}
use Rattle.exo_modes.proofs.OfCalls.Sets.{start_behind, reached_before, reached_end}
use Rattle.exo_modes.proofs.calls.closure.close.Goals as goal

pub loop-k-init : goal.loop-k-init
loop-k-init c = start_behind procedure (passed c.args.through) c.as_slice-procs.result.now c.args.marks.now

pub loop-k-preserved : goal.loop-k-preserved
loop-k-preserved c =
    let ps = c.as_slice-procs.result.now in
    let counted : length c.args.marks.now ≡ length ps = c.requires ∙ ap length (sym c.as_slice-procs.ensures) ∙ length-map ps procedure in
    let inside : c.loop-k.k < length ps = omega arith in
    reached_before procedure (passed c.args.through) ps c.loop-k.k c.index-procs-at.result c.args.marks.now c.loop-k.marks c.mark_called_from.new.marks counted inside c.index-procs-at.is c.loop-k.invariant c.mark_called_from.ensures

pub returns : goal.returns
returns c =
    let ps = c.as_slice-procs.result.now in
    let done : length ps ≤ c.loop-k.k = omega arith in
    subst (λ z. Reached (passed c.args.through) z c.args.marks.now c.loop-k.marks) c.as_slice-procs.ensures (reached_end procedure (passed c.args.through) ps c.loop-k.k c.args.marks.now c.loop-k.marks done c.loop-k.invariant)
