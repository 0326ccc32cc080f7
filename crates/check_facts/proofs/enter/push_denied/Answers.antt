use Rattle.std.proofs.Common.{◌≡◌, ◌++◌, ◌∷◌, [], subst}
use Rattle.std.specs.Prelude.{OnOk}
use Rattle.check_facts.proofs.enter.push_denied.Goals as goal

pub returns : goal.returns
returns c = subst (λ g. OnOk c.push.result (c.push.new.self ≡ c.args.context.now ++ g ∷ [])) c.in_ok-negated.ensures c.push.ensures.pushed
