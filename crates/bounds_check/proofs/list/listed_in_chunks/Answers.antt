use Rattle.std.proofs.Common.{ℕ, ◌<◌, All, IfOk, IsOk, List, Result, Ok, Err, Vec, Global, length, map, get_or, subst, rules}
use Rattle.exo_tree.specs.PlainProcedure.{procedure}
use Rattle.exo_tree.specs.PlainUnit.{program}
use Rattle.affine_systems.specs.declared.obligation.Obligation.{Obligation}
use Rattle.check_claims.specs.PlainClaim.{placed}
use Rattle.bounds_check.specs.Laws.{may_be_owed}
use Rattle.bounds_check.specs.Outcomes.{AreOwedFor}
use Rattle.bounds_check.specs.declared.error.CheckError.{CheckError}
use Rattle.bounds_check.proofs.Chunks.{part_passes, all_joined}
use Rattle.bounds_check.proofs.Crosses.{crosses}
use Rattle.bounds_check.proofs.Shared.{ProcedureSite-sync}
use Rattle.bounds_check.proofs.list.listed_in_chunks.Goals as goal

pub map_chunks-requires-clause-accepts : goal.map_chunks-requires-clause-accepts
map_chunks-requires-clause-accepts g c _ _ start chunk is =
    (c.requires.site, part_passes placed (may_be_owed (procedure c.args.site.now.proc.now)) c.args.claims.now chunk.now c.args.size start is.value c.requires.owable)

pub map_chunks-requires-sync-F : goal.map_chunks-requires-sync-F
map_chunks-requires-sync-F g c κs within = search (ProcedureSite-sync, crosses) depth 20

pub returns : goal.returns
returns g c =
    let u = program c.args.site.now.unit.now in
    let p = procedure c.args.site.now.proc.now in
    let lists = c.in_ok-lists.lists.items in
    all_joined u p placed c.args.size c.args.claims.now lists c.requires.size (search rules)
    (λ n d h. let at = (c.in_ok-lists.ensures.each n d h).1 in
    subst (λ chunk. AreOwedFor (get_or lists n d) u p (map placed chunk)) at.argument_is.value at.call)
    c.joined.result c.joined.ensures.joined c.joined.ensures.within
    (each_fine c.joined.result lists c.joined.ensures.all)
  where
    each_fine : (r : Result (Vec Obligation Global) CheckError) (lists : List (Result (Vec Obligation Global) CheckError))
        → IfOk r (λ _. All IsOk lists)
        → IfOk r (λ _. (n : ℕ) (d : Result (Vec Obligation Global) CheckError) → n < length lists → IsOk (get_or lists n d))
    each_fine (Ok os) lists h = λ n d l. h n d l
    each_fine (Err e) lists h = tt
