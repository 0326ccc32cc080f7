use Rattle.std.proofs.Common.{sym, subst}
use Rattle.ob_check.specs.Parts.{ArePending}
use Rattle.ob_check.proofs.Parting.{appended}
use Rattle.ob_check.proofs.parts.Parts.append.Goals as goal

pub returns : goal.returns
returns c = λ ss ts d e h k.
    appended ss ts d e c.args.self.now c.args.other c.count_in.new.self h k
    (λ xs ys a b. subst (ArePending _) (sym c.count_in.ensures.pending)
    (c.in_ok-append.ensures xs ys a b))
    c.in_ok-count_in.ensures.count c.in_ok-count_in.ensures.answer
