use Rattle.std.proofs.Common.{◌≡◌, length, map, refl, sym, ap, ◌∙◌, subst}
use Rattle.std.specs.Prelude.{◌++◌, filter}
use Rattle.affine_forms.specs.System.{plain_system}
use Rattle.affine_prover.specs.Elimination.{elimination}
use Rattle.ob_check.specs.Answers.{answer_of, ShownHasNoPoint}
use Rattle.ob_check.specs.Entries.{is_missing}
use Rattle.ob_check.specs.Held.{held}
use Rattle.ob_check.specs.Parts.{ArePending}
use Rattle.ob_check.specs.Systems.{systems_of, system_found, system_known, missing_of}
use Rattle.ob_check.proofs.Parting.{taken, one_more}
use Rattle.ob_check.proofs.parts.Parts.take.Goals as goal

pub returns-clause-exact : goal.returns-clause-exact
returns-clause-exact g c = c.answer-answer.ensures.exact ∙ ap (λ ss. answer_of (map elimination ss)) (ap (map system_found) c.deref-4.ensures.value ∙ c.in_ok-found.ensures.systems)

pub returns-clause-taken : goal.returns-clause-taken
returns-clause-taken g c = λ es ss h.
    let systems = ap (map system_found) c.deref-4.ensures.value ∙ c.in_ok-found.ensures.systems in
    let missing : map system_known c.deref-3.result.now
    ≡ filter (is_missing (held c.args.cache.now)) (systems_of c.args.part.now) =
    ap (map system_known) c.deref-3.ensures.value
    ∙ c.in_ok-decided.ensures
    ∙ ap (map (λ s. plain_system s.now)) c.deref-2.ensures.value
    ∙ c.in_ok-missing.ensures
    ∙ ap missing_of c.deref.ensures.value
    ∙ c.in_ok-found.ensures.missing in
    taken es ss (systems_of c.args.part.now) c.args.cache.now c.looked_up.new.cache c.args.self.now c.count_in.new.self c.answer-answer.result h
    c.in_ok-found.ensures.asked
    (λ ms was. subst (ArePending (ms ++ filter (is_missing (held c.args.cache.now)) (systems_of c.args.part.now))) (sym c.count_in.ensures.pending)
    (subst (λ ts. ArePending (ms ++ ts) c.put.new.self) missing (c.in_ok-put.ensures ms was)))
    (one_more c.args.part.now c.args.self.now.count c.count_in.new.self.count (length c.args.part.now) refl c.in_ok-count_in.ensures.count)
    c.in_ok-count_in.ensures.answer
    (c.answer-answer.ensures.exact ∙ ap (λ ts. answer_of (map elimination ts)) systems)
    (subst (λ ts. ShownHasNoPoint ts c.answer-answer.result) systems c.answer-answer.ensures.shown)
