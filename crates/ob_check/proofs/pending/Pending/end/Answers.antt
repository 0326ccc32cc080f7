use Rattle.std.proofs.Common.{◌≡◌, refl, sym, subst}
use Rattle.std.specs.Prelude.{fold}
use Rattle.ob_check.specs.Entries.{kept}
use Rattle.ob_check.specs.Held.{held}
use Rattle.ob_check.specs.Parts.{WaitIn}
use Rattle.ob_check.proofs.pending.Pending.end.Goals as goal

pub returns-in-Some : goal.returns-in-Some
returns-in-Some c = λ ss h. c.put_all.ensures ss (subst (λ m. WaitIn m ss) c.in-Some.is h)

pub returns-in-None : goal.returns-in-None
returns-in-None c = λ ss h.
    subst (λ ts. held c.args.cache.now ≡ fold kept (held c.args.cache.now) ts)
    (sym (subst (λ m. WaitIn m ss) c.in-None.is h)) refl
