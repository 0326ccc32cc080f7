use Rattle.std.proofs.Common.{not, sym, ap, ◌∙◌}
use Rattle.check_claims.specs.PlainClaim.{placed}
use Rattle.bounds_check.specs.Paths.{same_path}
use Rattle.bounds_check.proofs.Counting.{passed_none, passed_more, passed_until, passed_all}
use Rattle.bounds_check.proofs.list.count_at.Goals as goal

pub loop-k-init : goal.loop-k-init
loop-k-init c = passed_none placed (λ c'. not (same_path c'.place c.args.place.now)) c.args.claims.now

pub returns-then-not-is_same_path : goal.returns-then-not-is_same_path
returns-then-not-is_same_path c = passed_until placed (λ c'. not (same_path c'.place c.args.place.now)) c.args.claims.now c.loop-k.k c.index-claims-k.result c.index-claims-k.is c.loop-k-test.true (ap not (sym c.is_same_path.ensures ∙ c.if-not-is_same_path.true)) c.loop-k.invariant

pub loop-k-preserved : goal.loop-k-preserved
loop-k-preserved c = passed_more placed (λ c'. not (same_path c'.place c.args.place.now)) c.args.claims.now c.loop-k.k c.index-claims-k.result c.index-claims-k.is c.loop-k-test.true (ap not (sym c.is_same_path.ensures ∙ c.if-not-is_same_path.false)) c.loop-k.invariant

pub returns : goal.returns
returns c = passed_all placed (λ c'. not (same_path c'.place c.args.place.now)) c.args.claims.now c.loop-k.k c.loop-k.auto.k-end c.loop-k-test.false c.loop-k.invariant
