use Rattle.std.proofs.Common.{length, drop, map, refl, arith}
use Rattle.exo_tree.specs.PlainPlace.{branch_taken}
use Rattle.exo_tree.specs.PlainStatement.{statement}
use Rattle.exo_tree.specs.PlainUnit.{program}
use Rattle.affine_places.specs.Seen.{roots_in}
use Rattle.text_show.specs.Seen.{words_in}
use Rattle.exo_tree.specs.Places.{path_below}
use Rattle.check_claims.specs.PlainClaim.{placed}
use Rattle.check_claims.specs.Seen.{extents_in}
use Rattle.check_claims.proofs.Placing.{placed_on}
use Rattle.check_claims.proofs.Walks.{short_length, deep_enough, short_on}
use Rattle.check_claims.proofs.parts.+walk.Goals as goal

pub put_block_places-overflow_cast-k : goal.put_block_places-overflow_cast-k
put_block_places-overflow_cast-k t c = omega (arith, short_length c.args.b.now c.requires.short, c.loop-k-test.true, c.len-k-end.ensures)

pub put_block_places-overflow_cast-k-in-loop-k : goal.put_block_places-overflow_cast-k-in-loop-k
put_block_places-overflow_cast-k-in-loop-k t c = omega (arith, short_length c.args.b.now c.requires.short, c.loop-k-test.true, c.len-k-end.ensures)

pub put_block_places-put_place-requires : goal.put_block_places-put_place-requires
put_block_places-put_place-requires t c = (deep_enough (length c.args.outer.now) (drop c.loop-k.k c.args.b.now) _ (statement c.statement-s.result.now) c.statement-s.ensures.value c.loop-k.invariant.levels).0

pub put_block_places-put_inner_places-requires : goal.put_block_places-put_inner_places-requires
put_block_places-put_inner_places-requires t c =
    let s = statement c.statement-s.result.now in
    let ss = drop c.loop-k.k c.args.b.now in
    let d = deep_enough (length c.args.outer.now) ss _ s c.statement-s.ensures.value c.loop-k.invariant.levels in (
      omega (arith, c.statement-s.ensures.smaller),
      (
        (short_on ss _ s c.statement-s.ensures.value c.loop-k.invariant.inside).0,
        omega (arith, d.1),
      ),
    )

pub put_block_places-loop-k-preserved : goal.put_block_places-loop-k-preserved
put_block_places-loop-k-preserved t c =
    let w = words_in c.args.site.now.words.now in
    let u = program c.args.site.now.unit.now in
    let e = extents_in c.args.site.now.extents.now in
    let r = roots_in c.args.site.now.roots.now in
    let s = statement c.statement-s.result.now in
    let ss = drop c.loop-k.k c.args.b.now in
    let here = path_below c.args.outer.now (branch_taken c.args.branch) c.loop-k.k in
    record {
      made = placed_on w u e r c.args.outer.now (branch_taken c.args.branch) c.loop-k.k
          (map placed c.loop-k.out.items, c.loop-k.window) _ _ _ here s ss _
          c.statement-s.ensures.value refl c.in_ok-put_place.ensures c.in_ok-put_inner_places.ensures
          c.loop-k.invariant.made;
      inside = (short_on ss _ s c.statement-s.ensures.value c.loop-k.invariant.inside).1;
      levels = (deep_enough (length c.args.outer.now) ss _ s c.statement-s.ensures.value c.loop-k.invariant.levels).2;
    }
