-- Blocks that call nothing.
use Rattle.std.proofs.Common.{[], sym, ◌∙◌, true≢false}
use Rattle.c_widths.specs.Few.{AllocatesFew, no_fewness, fewness_from}
use Rattle.c_unit_laws.specs.Follows.Calls.{BlocksWithoutCallsFollow}
use Rattle.c_unit_laws.proofs.OfFollows.Allocs.{alloc_follows}
use Rattle.c_unit_laws.proofs.OfFollows.Views.{view_follows}
use Rattle.c_unit_laws.proofs.OfFollows.Simulated.{block_follows}

pub blocks_without_calls_follow : BlocksWithoutCallsFollow
blocks_without_calls_follow g forms most root layout world kinds ps c_world b not_called good may s m match =
    let few = fewness_from kinds [] no_fewness ps in
    let Few = AllocatesFew world few b s in
    block_follows Few g world few c_world (alloc_follows Few g c_world) (view_follows Few g c_world)
    (λ inner wide base place k args h stores t n some held. absurd (true≢false (sym h.0 ∙ not_called k)))
    forms most root layout b good may s m (λ f. f) match
