use Rattle.std.proofs.Common.{ap, ◌∙◌}
use Rattle.std.specs.Prelude.{ℕ, Bool}
use Rattle.exo_tree.specs.Tree.{block}
use Rattle.exo_tree.specs.PlainProcedure.{procedure}
use Rattle.meaning_laws.specs.Scoped.{has_binder, is_param}
use Rattle.match_laws.specs.Names.{Names}
use Rattle.match_laws.specs.Pairs.{paired}
use Rattle.block_matches.specs.Pairs.Held.{names_in}
use Rattle.block_matches.proofs.matched.Sides.matched.Goals as goal

pub matched_in-requires-clause-pairs : goal.matched_in-requires-clause-pairs
matched_in-requires-clause-pairs g c =
    let s = c.args.self.now in
    let q = procedure s.callee.now in
    let b = block s.against.now in
    c.in_ok-pairs.ensures
    ∙ ap (λ (f : ℕ → Bool). paired (is_param q) f (names_in c.args.ours.now)
    (names_in s.theirs.now) q.body b) c.requires.bound
    ∙ ap (λ (n : Names). paired (is_param q) (has_binder b) n (names_in s.theirs.now) q.body b)
    c.requires.ours
