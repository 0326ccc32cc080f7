use Rattle.std.proofs.Common.{◌≡◌, subst, sym}
use Rattle.ob_check.specs.Held.{held}
use Rattle.ob_check.specs.Parts.{WaitIn}
use Rattle.ob_check.proofs.Waiting.{none, still, more}
use Rattle.ob_check.proofs.pending.Pending.put.Goals as goal

pub returns-then-is_empty : goal.returns-then-is_empty
returns-then-is_empty c = λ ss h.
    still ss c.args.all.now c.args.self.now
    (none c.args.all.now c.is_empty.result c.is_empty.ensures c.if-is_empty.true) h

pub returns : goal.returns
returns c =
    let was : c.take.result ≡ c.args.self.now.cache = cc in
    λ ss h.
    more ss c.args.all.now (held c.in_ok-cache.cache) (held c.keep_all.new.self)
    (c.in_ok-cache.ensures ss (subst (λ m. WaitIn m ss) (sym was) h)) c.in_ok-keep_all.ensures
