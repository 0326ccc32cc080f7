use Rattle.std.proofs.Common.{◌&&◌, ◌++◌, ◌^◌, ℕ, nat_le, nat_lt, List, map, length, sym, ap, ap₂, ◌∙◌}
use Rattle.std.proofs.lemmas.List.{append_assoc}
use Rattle.std.specs.List.{list_all}
use Rattle.exo_effects.specs.Accesses.{guard_of, guard_fits, coord_form, coord_fits}
use Rattle.exo_effects.specs.Conflicts.{apart, variables_of, re_coord, span_number, span_rows, points}
use Rattle.exo_effects.specs.Low.{fact_is_low, coord_is_low, use_is_low}
use Rattle.exo_effects.specs.PlainAccess.{plain_coord}
use Rattle.exo_effects.specs.PlainGuards.{all_facts}
use Rattle.exo_effects.specs.PlainUses.{plain_use, all_variables}
use Rattle.exo_effects.specs.Renamed.{re_formula}
use Rattle.exo_effects.specs.declared.guards.Guard.{Guard}
use Rattle.effect_conflicts.specs.PlainCopies.{guard_is_low, plain_turn}
use Rattle.effect_conflicts.proofs.Answered.{guards_low}
use Rattle.effect_conflicts.proofs.PastForms.{both_true}
use Rattle.effect_conflicts.proofs.asked.put_asked.Goals as goal

pub say_guards-requires : goal.say_guards-requires
say_guards-requires c =
    let a = c.args.access.now in
    let u = plain_use a in
    let p = both_true (use_is_low u) (nat_le (length a.guards.items) (2 ^ 20) && nat_le (length a.coords) (2 ^ 20)) c.requires.low in
    let q = both_true (list_all fact_is_low u.round) (list_all coord_is_low u.coords && list_all (λ y. nat_lt y (2 ^ 31)) u.own) p.0 in
    ap (list_all guard_is_low) c.deref-2.ensures.value ∙ guards_low a.guards.items q.0

pub returns : goal.returns
returns c =
    let turns = variables_of (map plain_turn c.args.turns.now) in
    let r : List Guard → ℕ → ℕ = λ gs. apart (2 ^ 31) c.args.side turns (all_variables gs) in
    let span = span_number (2 ^ 31) c.args.side in
    let old = c.args.into.now in
    let first = c.deref.ensures.value in
    let again = c.deref-2.ensures.value in
    let said = c.in_ok-say_guards.ensures.1 ∙ ap₂ (λ g h. old ++ map (re_formula (r g)) (map guard_of (all_facts h))) first again in
    let coords = c.in_ok-coords.ensures.1 ∙ ap₂ (λ g cs. map (re_coord (r g)) (map coord_form cs)) first c.as_slice.ensures in
    let forms = map (re_formula (r c.args.access.now.guards.items)) (map guard_of (all_facts c.args.access.now.guards.items)) in
    let all = map (re_coord (r c.args.access.now.guards.items)) (map coord_form c.args.access.now.coords) in (
      ap₂ (λ s t. s && t)
          (ap (λ gs. list_all guard_fits (all_facts gs)) (sym again) ∙ c.in_ok-say_guards.ensures.0)
          (ap (list_all coord_fits) (sym c.as_slice.ensures) ∙ c.in_ok-coords.ensures.0),
      (
        c.in_ok-put_spans.ensures
            ∙ ap (λ cs. c.say_guards.new.into ++ span_rows span 0 (map plain_coord cs)) c.deref-3.ensures.value
            ∙ ap₂ (λ a cs. a ++ span_rows span 0 cs) said coords
            ∙ append_assoc old forms (span_rows span 0 all),
        c.in_ok-made.ensures ∙ ap (λ cs. points span 0 (map plain_coord cs)) c.deref-4.ensures.value ∙ ap (points span 0) coords,
      ),
    )
