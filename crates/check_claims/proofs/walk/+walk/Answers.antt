use Rattle.std.proofs.Common.{◌++◌, length, drop, map, ap, ◌∙◌, arith}
use Rattle.exo_tree.specs.PlainPlace.{branch_taken}
use Rattle.exo_tree.specs.PlainStatement.{statement}
use Rattle.exo_tree.specs.PlainUnit.{program}
use Rattle.affine_places.specs.Seen.{roots_in}
use Rattle.text_show.specs.Seen.{words_in}
use Rattle.check_claims.specs.Claims.{own_claims}
use Rattle.check_claims.specs.PlainClaim.{placed}
use Rattle.check_claims.specs.Seen.{extents_in}
use Rattle.check_claims.proofs.Walks.{short_length, deep_enough, short_on, below_length, walked_on}
use Rattle.check_claims.proofs.walk.+walk.Goals as goal

pub put_block-overflow_cast-k : goal.put_block-overflow_cast-k
put_block-overflow_cast-k t c = omega (arith, short_length c.args.b.now c.requires.short, c.loop-k-test.true, c.len-k-end.ensures)

pub put_block-below-path-requires : goal.put_block-below-path-requires
put_block-below-path-requires t c = (deep_enough (length c.args.outer.now) (drop c.loop-k.k c.args.b.now) _ (statement c.statement-s.result.now) c.statement-s.ensures.value c.loop-k.invariant.levels).0

pub put_block-put_inner-requires : goal.put_block-put_inner-requires
put_block-put_inner-requires t c =
    let s = statement c.statement-s.result.now in
    let ss = drop c.loop-k.k c.args.b.now in
    let d = deep_enough (length c.args.outer.now) ss _ s c.statement-s.ensures.value c.loop-k.invariant.levels in (
      omega (arith, c.statement-s.ensures.smaller),
      (
        (short_on ss _ s c.statement-s.ensures.value c.loop-k.invariant.inside).0,
        omega (arith, d.1, below_length c.args.outer.now c.below-path.result (branch_taken c.args.branch) c.loop-k.k c.below-path.ensures),
      ),
    )

pub put_block-loop-k-preserved : goal.put_block-loop-k-preserved
put_block-loop-k-preserved t c =
    let w = words_in c.args.site.now.words.now in
    let u = program c.args.site.now.unit.now in
    let e = extents_in c.args.site.now.extents.now in
    let r = roots_in c.args.site.now.roots.now in
    let s = statement c.statement-s.result.now in
    let ss = drop c.loop-k.k c.args.b.now in
    record {
      made = walked_on w u e r c.args.outer.now (branch_taken c.args.branch) c.loop-k.k (map placed c.loop-k.out.items) (map placed c.place.new.out.items) _ _ c.below-path.result c.put_own.new.out s ss _ c.statement-s.ensures.value c.below-path.ensures
          (c.in_ok-put_own.ensures ∙ ap (λ l. l ++ own_claims w u e r s) c.new-own.ensures) c.in_ok-place.ensures c.in_ok-put_inner.ensures c.loop-k.invariant.made;
      inside = (short_on ss _ s c.statement-s.ensures.value c.loop-k.invariant.inside).1;
      levels = (deep_enough (length c.args.outer.now) ss _ s c.statement-s.ensures.value c.loop-k.invariant.levels).2;
    }
