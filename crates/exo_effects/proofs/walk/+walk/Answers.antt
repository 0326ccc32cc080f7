use Rattle.std.proofs.Common.{◌≡◌, ◌++◌, take, length, refl, ap, sym, ◌∙◌, subst}
use Rattle.std.proofs.lemmas.Result.{on_ok_weaker}
use Rattle.exo_modes.proofs.Walks.{kept_on}
use Rattle.exo_tree.specs.Tree.{block}
use Rattle.exo_tree.specs.PlainControl.{condition}
use Rattle.exo_tree.specs.PlainStatement.{statement}
use Rattle.exo_effects.specs.PlainUses.{plain_uses}
use Rattle.exo_effects.specs.PlainWalk.{inside_of, step_uses}
use Rattle.exo_effects.specs.declared.inside.Inside.{Inside}
use Rattle.exo_effects.proofs.Walks.{walked_on, passed_by, same_inside, same_guards, branched}
use Rattle.exo_effects.proofs.walk.+walk.Goals as goal

pub walk_part-loop-k-preserved : goal.walk_part-loop-k-preserved
walk_part-loop-k-preserved t c =
    let s = statement c.statement-s.result.now in
    let left = c.walk_statement.new.inside in
    let names = c.pass_inside.new.self.names.items in
    let new : Inside = record { parts = c.pass_inside.new.self; guards = left.guards } in
    let same = c.in_ok-walk_statement.ensures.kept in
    let more = kept_on c.len-known.result c.loop-k.inside.parts.names.items names _ c.loop-k.invariant.kept c.loop-k.invariant.within
    (subst (λ xs. take (length xs) names ≡ xs) same.0 c.in_ok-pass_inside.ensures.kept) in
    record {
      uses = walked_on c.args.site.now (plain_uses c.loop-k.out.items) (plain_uses c.walk_statement.new.out.items) _
          (inside_of c.loop-k.inside) (inside_of new) s c.args.b.now c.loop-k.k c.args.to c.loop-k-test.true
          c.statement-s.ensures.value c.in_ok-walk_statement.ensures.uses
          (passed_by c.loop-k.inside left new s same refl c.in_ok-pass_inside.ensures.passed) c.loop-k.invariant.uses;
      kept = more.0;
      within = more.1;
      around = same_guards c.args.inside.now c.loop-k.inside left same c.loop-k.invariant.around;
    }

pub walk_statement-returns-in_ok-walk_under-in-If-clause-uses : goal.walk_statement-returns-in_ok-walk_under-in-If-clause-uses
walk_statement-returns-in_ok-walk_under-in-If-clause-uses t c =
    let site = c.args.site.now in
    let old = plain_uses c.args.out.now.items in
    let at = inside_of c.args.inside.now in
    on_ok_weaker c.walk_under-in-If.result
    (λ h.
    branched site old (plain_uses c.walk_under.new.out.items) (plain_uses c.walk_under-in-If.new.out.items)
    at (inside_of c.walk_under.new.inside) c.is_plain_condition-says.result _ _ (condition c.in-If.c) (block c.in-If.a) (block c.in-If.b)
    c.is_plain_condition-says.ensures
    (same_inside c.args.inside.now c.walk_under.new.inside c.in_ok-walk_under-in-If.ensures.kept)
    c.in_ok-walk_under-in-If.ensures.uses h refl refl refl refl
    ∙ ap (λ s. old ++ step_uses site at s) (sym (ap statement c.in-If.is)))
    c.walk_under-in-If.ensures.uses
