use Rattle.std.proofs.Common.{◌<◌, length, map, sym, ◌∙◌, arith}
use Rattle.exo_tree.specs.PlainProcedure.{procedure}
use Rattle.inplace_laws.specs.Inline.{is_param}
use Rattle.block_matches.specs.Pairs.Held.{ids_in}
use Rattle.block_matches.specs.Pairs.PlainPair.{plain_pair}
use Rattle.block_matches.specs.Held.{partners_in}
use Rattle.block_matches.specs.Kept.{kept}
use Rattle.block_matches.proofs.Cuts.{kept_step}
use Rattle.block_matches.proofs.walked.Walker.kept.Goals as goal

pub loop-k-preserved : goal.loop-k-preserved
loop-k-preserved c =
    let params = is_param (procedure c.args.self.now.callee.now) in
    let bound = ids_in c.args.self.now.bound.now in
    let to = partners_in c.args.self.now.to.now in
    let within : c.loop-k.k < length c.args.pairs.now = omega arith in
    kept_step plain_pair params bound to (ids_in c.loop-k.seen) (ids_in c.see.new.seen)
    c.args.pairs.now c.loop-k.k
    (kept params bound to (ids_in c.args.seen.now) (map plain_pair c.args.pairs.now))
    c.index-pairs-k.result within c.index-pairs-k.is
    (sym c.ends_at.ensures ∙ c.if-ends_at.false) c.in_ok-see.ensures c.loop-k.invariant
