use Rattle.std.proofs.Common.{◌≡◌, All, Some, None, sym, ap, ◌∙◌, subst}
use Rattle.std.specs.Prelude.{is_none}
use Rattle.std.specs.Map.{lookup}
use Rattle.ob_check.proofs.Entries.{All-promoted}
use Rattle.ob_check.proofs.Holding.{as_held, asked-held, is_missing-held}
use Rattle.ob_check.proofs.Keys.{systems_equal}
use Rattle.ob_check.proofs.Truths.{IsTrueEntry, IsSmallEntry, found_true}
use Rattle.ob_check.proofs.cache.Cache.look_up.Goals as goal

pub invariant_of-self-clause-capacity : goal.invariant_of-self-clause-capacity
invariant_of-self-clause-capacity c = ap (λ v. v.cap) c.get.follows.holds-at-none ∙ c.args.self.now.capacity

pub invariant_of-self-clause-all_true : goal.invariant_of-self-clause-all_true
invariant_of-self-clause-all_true c = subst (λ v. All IsTrueEntry v.entries) (sym c.get.follows.holds-at-none) (All-promoted IsTrueEntry (systems_equal c.args.system.now) c.args.self.now.verdicts.entries c.args.self.now.all_true)

pub invariant_of-self-clause-all_small : goal.invariant_of-self-clause-all_small
invariant_of-self-clause-all_small c = subst (λ v. All IsSmallEntry v.entries) (sym c.get.follows.holds-at-none) (All-promoted IsSmallEntry (systems_equal c.args.system.now) c.args.self.now.verdicts.entries c.args.self.now.all_small)

pub invariant_of-result : goal.invariant_of-result
invariant_of-result c =
    let a = c.get.ensures.value in
    let b = c.in-Some.ensures in
    let found : lookup (systems_equal c.args.system.now) c.args.self.now.verdicts.entries ≡ Some c.in-Some.verdict = cc in
    record { is_true = found_true c.args.system.now c.args.self.now.verdicts.entries c.in-Some.verdict c.args.self.now.all_true found }

pub returns-in-Some-clause-missing : goal.returns-in-Some-clause-missing
returns-in-Some-clause-missing c =
    let a = c.get.ensures.value in
    let b = c.in-Some.ensures in
    let found : lookup (systems_equal c.args.system.now) c.args.self.now.verdicts.entries ≡ Some c.in-Some.verdict = cc in
    sym (ap is_none found) ∙ is_missing-held c.args.system.now c.args.self.now.verdicts.entries

pub returns-in-Some-clause-asked : goal.returns-in-Some-clause-asked
returns-in-Some-clause-asked c = ap (λ v. as_held v.entries) c.get.follows.holds-at-none ∙ asked-held c.args.system.now c.args.self.now.verdicts.entries

pub returns-in-None-clause-missing : goal.returns-in-None-clause-missing
returns-in-None-clause-missing c =
    let a = c.get.ensures.value in
    let b = c.in-None.ensures in
    let found : lookup (systems_equal c.args.system.now) c.args.self.now.verdicts.entries ≡ None = cc in
    sym (ap is_none found) ∙ is_missing-held c.args.system.now c.args.self.now.verdicts.entries

pub returns-in-None-clause-asked : goal.returns-in-None-clause-asked
returns-in-None-clause-asked c = ap (λ v. as_held v.entries) c.get.follows.holds-at-none ∙ asked-held c.args.system.now c.args.self.now.verdicts.entries
