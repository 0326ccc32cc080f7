use Rattle.std.proofs.Common.{[], ◌++◌, IsOk, refl, ap, sym, ◌∙◌, subst}
use Rattle.std.proofs.lemmas.List.{flat_map_more}
use Rattle.std.proofs.lemmas.List.Elements.{All-push}
use Rattle.affine_systems.specs.Limits.{are_within}
use Rattle.bounds_check.specs.Chunks.{listed_in}
use Rattle.bounds_check.proofs.list.joined.Goals as goal

pub loop-list-preserved : goal.loop-list-preserved
loop-list-preserved c =
    let xs = c.loop-list.yielded in
    let x = c.in-Some.list in
    let is = c.in_ok-list.was in
    let put = c.in_ok-push_all.ensures in
    let before = c.loop-list.invariant in
    record {
      so_far =
          put.1 ∙ (λ i. before.so_far i ++ listed_in (sym is i)) ∙ flat_map_more listed_in [] xs x;
      within = ap are_within put.1 ∙ put.0;
      fine = All-push IsOk xs x before.fine (subst IsOk (sym is) refl);
    }
