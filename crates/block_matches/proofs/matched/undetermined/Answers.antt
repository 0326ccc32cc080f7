use Rattle.std.proofs.Common.{ap, ◌∙◌}
use Rattle.std.specs.Prelude.{ℕ, Bool, List, map, false}
use Rattle.exo_tree.specs.PlainProcedure.{procedure}
use Rattle.meaning_laws.specs.Scoped.{is_param}
use Rattle.match_laws.specs.Matched.{first_undetermined}
use Rattle.match_laws.specs.Names.{Names}
use Rattle.match_laws.specs.Pairs.{Pair, paired}
use Rattle.block_matches.specs.Pairs.Held.{names_in}
use Rattle.block_matches.specs.Pairs.PlainPair.{plain_pair}
use Rattle.block_matches.proofs.Choices.{of_same}
use Rattle.block_matches.proofs.matched.undetermined.Goals as goal

pub returns : goal.returns
returns c =
    let q = procedure c.args.callee.now in
    let open_in = λ (pairs : List Pair). first_undetermined (is_param q) pairs q.params in
    of_same _ _ _ c.first_undetermined.result
    (ap open_in (ap (map plain_pair) c.deref.ensures.value ∙ c.in_ok-own.ensures
    ∙ ap (λ (f : ℕ → Bool). paired (is_param q) f (names_in c.args.ours.now) (names_in c.args.ours.now) q.body q.body) c.new-bound.ensures
    ∙ ap (λ (n : Names). paired (is_param q) (λ x. false) n n q.body q.body) c.requires))
    c.first_undetermined.ensures
