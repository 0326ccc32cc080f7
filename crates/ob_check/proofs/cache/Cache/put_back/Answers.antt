use Rattle.std.proofs.Common.{◌≡◌, All, refl, ap, ◌∙◌}
use Rattle.lru.specs.LruCache.{lru_cache, put_entries}
use Rattle.ob_check.proofs.Holding.{as_held}
use Rattle.ob_check.proofs.Keeping.{put_back-held}
use Rattle.ob_check.proofs.Keys.{systems_equal}
use Rattle.ob_check.proofs.Lists.{either_way}
use Rattle.ob_check.proofs.Truths.{IsTrueEntry, IsSmallEntry, put_true, put_small}
use Rattle.ob_check.proofs.cache.Cache.put_back.Goals as goal

pub invariant_of-self-clause-capacity : goal.invariant_of-self-clause-capacity
invariant_of-self-clause-capacity c = either_way c.put.result (λ v. v.cap ≡ 1024) c.put.new.self _ c.args.self.now.verdicts c.put.ensures.entries c.put.ensures.err c.args.self.now.capacity c.args.self.now.capacity

pub invariant_of-self-clause-all_true : goal.invariant_of-self-clause-all_true
invariant_of-self-clause-all_true c = either_way c.put.result (λ v. All IsTrueEntry v.entries) c.put.new.self _ c.args.self.now.verdicts c.put.ensures.entries c.put.ensures.err (put_true c.args.self.now.verdicts c.args.system c.args.system c.args.verdict c.args.self.now.all_true refl c.requires.is_true) c.args.self.now.all_true

pub invariant_of-self-clause-all_small : goal.invariant_of-self-clause-all_small
invariant_of-self-clause-all_small c = either_way c.put.result (λ v. All IsSmallEntry v.entries) c.put.new.self _ c.args.self.now.verdicts c.put.ensures.entries c.put.ensures.err (put_small c.args.self.now.verdicts c.args.system c.args.system c.args.verdict c.args.self.now.all_small refl c.requires.small) c.args.self.now.all_small

pub returns : goal.returns
returns c =
    ap (λ v. as_held v.entries) c.in_ok-put.ensures.entries
    ∙ ap (λ n. as_held (put_entries systems_equal (lru_cache c.args.self.now.verdicts.entries n) c.args.system c.args.verdict)) c.args.self.now.capacity
    ∙ put_back-held c.args.self.now.verdicts.entries c.args.system c.args.verdict
