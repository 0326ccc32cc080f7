use Rattle.std.proofs.Common.{arith, ◌≡◌, All, true, false, sym, ap, ◌∙◌}
use Rattle.lru.specs.LruCache.{lru_cache, put_entries}
use Rattle.affine_forms.specs.System.{plain_system}
use Rattle.ob_check.specs.Held.{held}
use Rattle.ob_check.specs.Systems.{system_known}
use Rattle.ob_check.specs.Truth.{is_small}
use Rattle.ob_check.proofs.Holding.{as_held, kept-held, not_kept}
use Rattle.ob_check.proofs.Keys.{systems_equal}
use Rattle.ob_check.proofs.Lists.{either_way}
use Rattle.ob_check.proofs.Truths.{IsTrueEntry, IsSmallEntry, put_true, put_small}
use Rattle.ob_check.proofs.cache.Cache.keep.Goals as goal

pub returns-then-not-is_small : goal.returns-then-not-is_small
returns-then-not-is_small c =
    let large : is_small (system_known c.args.known.now) ≡ false = grind (arith, c.is_small.ensures, c.if-not-is_small.true) in
    sym (not_kept (held c.args.self.now) (system_known c.args.known.now) large)

pub invariant_of-self-clause-capacity : goal.invariant_of-self-clause-capacity
invariant_of-self-clause-capacity c = either_way c.put.result (λ v. v.cap ≡ 1024) c.put.new.self _ c.args.self.now.verdicts c.put.ensures.entries c.put.ensures.err c.args.self.now.capacity c.args.self.now.capacity

pub invariant_of-self-clause-all_true : goal.invariant_of-self-clause-all_true
invariant_of-self-clause-all_true c = either_way c.put.result (λ v. All IsTrueEntry v.entries) c.put.new.self _ c.args.self.now.verdicts c.put.ensures.entries c.put.ensures.err (put_true c.args.self.now.verdicts c.in_ok-system.system c.args.known.now.system.now c.args.known.now.verdict c.args.self.now.all_true c.in_ok-system.ensures c.args.known.now.is_true) c.args.self.now.all_true

pub invariant_of-self-clause-all_small : goal.invariant_of-self-clause-all_small
invariant_of-self-clause-all_small c =
    let small : is_small (plain_system c.args.known.now.system.now) ≡ true = grind (arith, c.is_small.ensures, c.if-not-is_small.false) in
    either_way c.put.result (λ v. All IsSmallEntry v.entries) c.put.new.self _ c.args.self.now.verdicts c.put.ensures.entries c.put.ensures.err (put_small c.args.self.now.verdicts c.in_ok-system.system c.args.known.now.system.now c.args.known.now.verdict c.args.self.now.all_small c.in_ok-system.ensures small) c.args.self.now.all_small

pub returns : goal.returns
returns c =
    let small : is_small (plain_system c.args.known.now.system.now) ≡ true = grind (arith, c.is_small.ensures, c.if-not-is_small.false) in
    ap (λ v. as_held v.entries) c.in_ok-put.ensures.entries
    ∙ ap (λ n. as_held (put_entries systems_equal (lru_cache c.args.self.now.verdicts.entries n) c.in_ok-system.system c.args.known.now.verdict)) c.args.self.now.capacity
    ∙ kept-held c.args.self.now.verdicts.entries c.in_ok-system.system c.args.known.now.verdict (plain_system c.args.known.now.system.now) c.in_ok-system.ensures c.args.known.now.is_true.exact small
