-- A block staged on a window whose buffer may be passed, at a place of a procedure.
use Rattle.std.proofs.Common.{refl, subst}
use Rattle.exo_tree.specs.Tree.{Binder, end, next}
use Rattle.exo_tree.specs.Context.{fill}
use Rattle.exo_meaning.specs.Run.{unit_world, kinds_of}
use Rattle.meaning_laws.specs.Context.{ComesTo}
use Rattle.meaning_laws.proofs.Replace.{context_law}
use Rattle.place_laws.proofs.OfScope.Within.{holes_compose}
use Rattle.buffer_laws.specs.StageMem.{sizes, loads, stores}
use Rattle.buffer_laws.specs.StageLaws.{staging_of, as_made, with_simpler, reader_as_made}
use Rattle.buffer_laws.specs.StageLaws.{reader_with_simpler}
use Rattle.buffer_laws.specs.StageAccum.{sums_of, sums_as_made, sums_with_simpler}
use Rattle.buffer_laws.proofs.StageLaws.{draft_law, reader_draft_law, same_may}
use Rattle.buffer_laws.proofs.StageSums.{sums_draft_law}
use Rattle.buffer_laws.specs.Stride.Strides.{stride_seen}
use Rattle.buffer_laws.specs.Stride.StagePassed.{StagePassedLaw, StagePassedReaderLaw, StagePassedSumsLaw}
use Rattle.buffer_laws.specs.Stride.StagePassed.{LiesAtPlaces}
use Rattle.buffer_laws.proofs.OfStride.Passed.{passed_replaces, passed_reader_replaces}
use Rattle.buffer_laws.proofs.OfStride.PassedSums.{passed_sums_replace}
use Rattle.buffer_laws.proofs.OfStride.Units.{blind_calls_law}

pub stage_passed_law : StagePassedLaw
stage_passed_law kinds ps p c hidden root simple cell sides memory base x coords name b is was
    unused made known =
    let world = unit_world kinds ps in
    let w = staging_of x coords name in
    let a : Binder = record { id = base; name = name } in
    let old = as_made simple cell memory base x coords name b in
    let new = with_simpler simple cell memory base x coords name b in
    context_law kinds ps hidden c b new p (record p { body = fill c new }) was refl unused
    (λ s u good come.
    let k = known s u good come in
    same_may world hidden b old new u
    (draft_law world simple cell memory base x coords name b u is)
    (passed_replaces hidden world (stride_seen kinds ps) root a cell
    (sizes simple w cell memory base) sides memory x coords (loads simple w cell memory base)
    (stores simple w cell memory base) b u (blind_calls_law kinds ps) made k.0 k.1 k.2 k.3))

pub stage_passed_reader_law : StagePassedReaderLaw
stage_passed_reader_law kinds ps p c hidden root simple cell sides memory base x coords name b is
    was unused silent made known =
    let world = unit_world kinds ps in
    let w = staging_of x coords name in
    let a : Binder = record { id = base; name = name } in
    let old = reader_as_made simple cell memory base x coords name b in
    let new = reader_with_simpler simple cell memory base x coords name b in
    context_law kinds ps hidden c b new p (record p { body = fill c new }) was refl unused
    (λ s u good come.
    let k = known s u good come in
    same_may world hidden b old new u
    (reader_draft_law world simple cell memory base x coords name b u is)
    (passed_reader_replaces hidden world (stride_seen kinds ps) root a cell
    (sizes simple w cell memory base) sides memory x coords (loads simple w cell memory base) b u
    (blind_calls_law kinds ps) made silent k.0 k.1 k.2))

pub stage_passed_sums_law : StagePassedSumsLaw
stage_passed_sums_law fields memories ps p c scope hidden root simple cell sides memory base x
    coords name b is was unused made known =
    let kinds = kinds_of fields in
    let world = unit_world kinds ps in
    let w = sums_of x coords name in
    let a : Binder = record { id = base; name = name } in
    let old = sums_as_made simple cell memory base x coords name b in
    let new = sums_with_simpler simple cell memory base x coords name b in
    context_law kinds ps hidden c b new p (record p { body = fill c new }) was refl unused
    (λ s u good come.
    let k = known s u good come in
    same_may world hidden b old new u
    (sums_draft_law world simple cell memory base x coords name b u is)
    (passed_sums_replace fields memories ps scope hidden (stride_seen kinds ps) root a cell
    (sizes simple w cell memory base) sides memory x coords (loads simple w cell memory base)
    (stores simple w cell memory base) b u (blind_calls_law kinds ps) made k.0 k.1 k.2 k.3))

-- ---- accesses at places

pub lies_at_places : LiesAtPlaces
lies_at_places world p c b x sides coords s u good come lie d a v is there =
    let through = (holes_compose (next a end) c d).comes world s v in
    lie d a v is (through.0 (record {
      middle = u;
      first = subst (λ z. ComesTo world z c s u) is come;
      second = there;
    }))
