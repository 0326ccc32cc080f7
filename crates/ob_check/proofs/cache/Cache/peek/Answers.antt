use Rattle.std.proofs.Common.{◌≡◌, Some}
use Rattle.std.specs.Map.{lookup}
use Rattle.ob_check.proofs.Keys.{systems_equal}
use Rattle.ob_check.proofs.Truths.{found_true}
use Rattle.ob_check.proofs.cache.Cache.peek.Goals as goal

pub invariant_of-result : goal.invariant_of-result
invariant_of-result c =
    let a = c.peek.ensures in
    let b = c.in-Some.ensures in
    let found : lookup (systems_equal c.args.system.now) c.args.self.now.verdicts.entries ≡ Some c.in-Some.verdict = cc in
    record { is_true = found_true c.args.system.now c.args.self.now.verdicts.entries c.in-Some.verdict c.args.self.now.all_true found }
