use Rattle.std.proofs.Common.{◌≡◌, [], sym, subst}
use Rattle.std.specs.Prelude.{IfOk, fold}
use Rattle.ob_check.specs.Entries.{kept}
use Rattle.ob_check.specs.Held.{held}
use Rattle.ob_check.specs.Parts.{WaitIn}
use Rattle.ob_check.proofs.pending.made.Goals as goal

pub returns-in-Some : goal.returns-in-Some
returns-in-Some c = λ ss h. subst (λ m. WaitIn m ss) c.in-Some.is h

pub returns-in-None : goal.returns-in-None
returns-in-None c = λ ss h.
    subst (λ ts. IfOk c.empty.result (λ d. held d ≡ fold kept [] ts))
    (sym (subst (λ m. WaitIn m ss) c.in-None.is h)) c.empty.ensures
