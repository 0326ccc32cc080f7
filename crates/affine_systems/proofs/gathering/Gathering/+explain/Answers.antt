use Rattle.std.proofs.Common.{◌≡◌, arith, ap}
use Rattle.affine_forms.specs.AtomCodes.{nodes_in}
use Rattle.affine_forms.specs.PlainAtoms.{plain_terms}
use Rattle.affine_forms.proofs.TermLists.{nodes_fall}
use Rattle.affine_forms.proofs.TermWidths.{kept_at}
use Rattle.affine_systems.proofs.gathering.Gathering.+explain.Goals as goal

pub explain_all-explain-requires : goal.explain_all-explain-requires
explain_all-explain-requires t c =
    let ws = c.as_slice-w-items.result.now in
    let whole : nodes_in (plain_terms ws) ≡ nodes_in c.args.terms.now = ap nodes_in c.as_slice-w-items.ensures.terms in
    let falls = nodes_fall ws c.loop-w.w-index c.w-item.result c.loop-w-test.true c.w-item.is in
    (omega (arith, falls, whole), (kept_at ws c.loop-w.w-index c.w-item.result c.loop-w-test.true c.w-item.is c.as_slice-w-items.ensures.kept).1)
