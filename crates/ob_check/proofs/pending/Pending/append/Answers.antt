use Rattle.std.proofs.Common.{◌≡◌, Some, sym, subst, ◌∙◌}
use Rattle.std.specs.Prelude.{◌++◌}
use Rattle.ob_check.specs.Parts.{WaitIn}
use Rattle.ob_check.proofs.Waiting.{alone}
use Rattle.ob_check.proofs.pending.Pending.append.Goals as goal

pub returns-in_default : goal.returns-in_default
returns-in_default c = λ ss ts h k.
    let none = subst (λ m. WaitIn m ts) c.in_default.is k in
    subst (λ rs. WaitIn c.args.self.now.cache (ss ++ rs)) (sym none)
    (subst (λ rs. WaitIn c.args.self.now.cache rs) (sym (alone ss)) h)

pub returns-in-None : goal.returns-in-None
returns-in-None c =
    let was : c.take.result ≡ c.args.self.now.cache = cc in
    λ ss ts h k.
    let none = subst (λ m. WaitIn m ss) (sym was ∙ c.in-None.is) h in
    subst (λ rs. WaitIn (Some c.in-Some.more) (rs ++ ts)) (sym none)
    (subst (λ m. WaitIn m ts) c.in-Some.is k)
