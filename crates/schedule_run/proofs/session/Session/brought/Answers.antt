use Rattle.std.proofs.Common.{◌≡◌, List, None, Some, map, sym, ap, ◌∙◌}
use Rattle.std.specs.Prelude.{option_map}
use Rattle.exo_tree.specs.declared.number.ProcId.{ProcId}
use Rattle.cursor_forward.specs.PlainCursor.{plain_cursor}
use Rattle.schedule_laws.specs.Versions.Places.{or_lost, CursorGone}
use Rattle.schedule_run.specs.PlainPlace.{plain_place}
use Rattle.schedule_run.specs.PlainVersions.{versions}
use Rattle.schedule_run.specs.Planned.{as_found}
use Rattle.schedule_run.specs.Ways.{along}
use Rattle.schedule_run.proofs.Climbing.{brought_by}
use Rattle.schedule_run.proofs.session.Session.brought.Goals as goal

pub returns-in-None : goal.returns-in-None
returns-in-None c =
    ap as_found
    (brought_by (versions c.args.self.now) c.args.k.0 (plain_place c.args.place) None
    (sym (ap (option_map (λ ks. map (λ (j : ProcId). j.0) ks.items)) c.in-None.is)
    ∙ c.in_ok-way.ensures))

pub returns-in-Some-along : goal.returns-in-Some-along
returns-in-Some-along c =
    let v = versions c.args.self.now in
    let place = plain_place c.args.place in
    let numbers = λ (ks : List ProcId). map (λ (j : ProcId). j.0) ks in
    let found : Some (plain_cursor c.in-Some-along.cursor) ≡ along v (numbers c.in-Some.way.items) place.cursor =
    sym (ap (option_map plain_cursor) c.in-Some-along.is) ∙ c.along.ensures
    ∙ ap (λ ks. along v (numbers ks) place.cursor) c.deref.ensures.value in
    ap as_found
    (brought_by v c.args.k.0 place (Some (numbers c.in-Some.way.items))
    (sym (ap (option_map (λ ks. map (λ (j : ProcId). j.0) ks.items)) c.in-Some.is)
    ∙ c.in_ok-way.ensures)
    ∙ ap (or_lost CursorGone) (sym found))

pub returns : goal.returns
returns c =
    let v = versions c.args.self.now in
    let place = plain_place c.args.place in
    let numbers = λ (ks : List ProcId). map (λ (j : ProcId). j.0) ks in
    let found : None ≡ along v (numbers c.in-Some.way.items) place.cursor =
    sym (ap (option_map plain_cursor) c.in-None-along.is) ∙ c.along.ensures
    ∙ ap (λ ks. along v (numbers ks) place.cursor) c.deref.ensures.value in
    ap as_found
    (brought_by v c.args.k.0 place (Some (numbers c.in-Some.way.items))
    (sym (ap (option_map (λ ks. map (λ (j : ProcId). j.0) ks.items)) c.in-Some.is)
    ∙ c.in_ok-way.ensures)
    ∙ ap (or_lost CursorGone) (sym found))
