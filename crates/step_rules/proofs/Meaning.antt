-- What a lawful rule proposes refines the procedure, where what it owes is shown.
use Rattle.std.proofs.Common.{◌≡◌, ◌≤◌, ◌+◌, ◌^◌, ◌&&◌, ℕ, suc, max, true, not, List, [], ◌∷◌, ◌++◌}
use Rattle.std.proofs.Common.{map, refl}
use Rattle.std.proofs.Common.{sym, ap, ap₂, ◌∙◌, subst, arith, lt-ltb}
use Rattle.std.specs.Prelude.{nat_le, nat_lt, length}
use Rattle.std.specs.List.{list_all}
use Rattle.exo_tree.specs.Tree.{Block, Procedure}
use Rattle.exo_tree.specs.Context.{fill, rest_of}
use Rattle.exo_tree.specs.Places.{Path}
use Rattle.exo_tree.proofs.Heights.{opened_whole}
use Rattle.exo_meaning.specs.Run.{program_world}
use Rattle.exo_meaning.specs.Inputs.{Refines}
use Rattle.exo_meaning.specs.Orders.{Each}
use Rattle.exo_meaning.specs.Units.{field_kind, bound_ids, scope_of, IsUnit}
use Rattle.exo_meaning.specs.Units.{is_empty, is_short, are_distinct}
use Rattle.exo_meaning.specs.Binders.{binders}
use Rattle.place_laws.specs.Scope.Roots.{own_roots_at}
use Rattle.place_laws.proofs.OfScope.WellAtPlace.{well_at_place}
use Rattle.tree_findings.specs.Classes.{both, rule, limit, all_kept}
use Rattle.tree_findings.specs.Findings.{findings_of_block, findings_of_body, findings_of_version}
use Rattle.tree_findings.specs.Findings.{is_small_body}
use Rattle.tree_edits.specs.Made.Passes.{or_pass}
use Rattle.tree_laws.specs.Findings.Versions.{with_version}
use Rattle.tree_laws.proofs.OfFindings.Versions.{procedure_law}
use Rattle.tree_laws.proofs.OfFindings.Kept.{found_is_procedure, kept_law}
use Rattle.tree_edits.specs.Made.Ids.{above_all, next_id}
use Rattle.tree_laws.specs.Made.Laws.{NamesAlone}
use Rattle.cursor_forward.specs.Forwards.{Forwards, MovesLaw}
use Rattle.cursor_forward.specs.Shifts.{move_of}
use Rattle.cursor_forward.specs.Proposals.{Plan}
use Rattle.config_laws.specs.Differing.{VersionsStand}
use Rattle.step_rules.specs.Rule.{Target, Spot, Rule}
use Rattle.step_rules.specs.Owing.{AreShown, findings_of_needs}
use Rattle.step_rules.specs.Answer.{body_with, result, plan, spot}
use Rattle.step_rules.specs.Lawful.{IsMet, IsTarget, callees_for, MayRunIn, IsSpot, Site, IsSite}
use Rattle.step_rules.specs.Lawful.{around, old, world_of, with_body, IsLawful, IsCarrying}
use Rattle.step_rules.specs.Lawful.{fields_at_exit}
use Rattle.step_rules.specs.Lawful.{differ_at_end, found_scope_at, IsFormedHere}
use Rattle.step_rules.specs.Laws.{NeedsHold, KeptLaw, MeaningLaw, ForwardsLaw}
use Rattle.step_rules.proofs.Formed.{HasShape, shape_parts, formed_at, passed_formed}
use Rattle.step_rules.proofs.Proposals.{IsProposal, proposal_of}
use Rattle.step_rules.proofs.SameKinds.{kinds_by_names}
use Rattle.step_rules.proofs.Replaced.{replaced_refines, written_otherwise}

-- ---- ids

all_below : (n : ℕ) (xs : List ℕ) → above_all xs ≤ n → list_all (λ x. nat_lt x n) xs ≡ true
all_below n [] h = refl
all_below n (x ∷ xs) h =
    let both : max (suc x) (above_all xs) ≤ n = h in
    ap₂ ◌&&◌ (lt-ltb x n (omega (arith, both))) (all_below n xs (omega (arith, both)))

pub ids_are_below : (p : Procedure) → list_all (λ x. nat_lt x (next_id p)) (bound_ids p) ≡ true
ids_are_below p = all_below (next_id p) (bound_ids p) (omega arith)

-- ---- what may run in the unit

procedures_run : (t : Target) → IsTarget t → MayRunIn t t.proc
procedures_run t is = record {
  unit = is.unit.procedures;
  procedure = procedure_law t.unit t.number t.proc is.unit is.there;
}

-- another body of which nothing is found
versions_run : (t : Target) → IsTarget t → (base : ℕ) (b : Block)
    → nat_le (base + 65536) (2 ^ 31) ≡ true
    → all_kept (findings_of_version t.unit base (record t.proc { body = b })) ≡ true
    → MayRunIn t (record t.proc { body = b })
versions_run t is base b low found = record {
  unit = is.unit.procedures;
  procedure =
      found_is_procedure t.unit t.number base t.proc (record t.proc { body = b }) is.unit is.there
      (record { params = refl; asserts = refl; template = refl }) found low;
}

module _ (names : NamesAlone) (r : Rule) (t : Target) (at : Path) (m : Plan) (is : IsTarget t)
    (p : IsProposal r t at m) where
  abbrev here : Spot
  here = spot t p.piece p.o

  abbrev base : ℕ
  base = next_id t.proc

  abbrev made : Procedure
  made = result r here base p.answer.draft

  abbrev site : Site
  site = record {
    spot = here;
    base = base;
    plain = p.answer.plain;
    draft = p.answer.draft;
    body = made.body;
  }

  runs : MayRunIn t t.proc
  runs = procedures_run t is

  was : t.proc.body ≡ fill (around here) (old here)
  was = sym (opened_whole p.piece.count p.piece.path t.proc.body p.o p.opens)

  is_spot : IsSpot here
  is_spot = record {
    target = is;
    runs = runs;
    opens = p.opens;
    body = was;
    well =
        well_at_place (field_kind t.unit.fields) (length t.unit.memories) (callees_for t) t.proc
        (around here) (old here) runs.procedure was;
  }

  -- as it is made, the body keeps its shape, and so does what is needed
  shapes : HasShape (findings_of_body t.unit t.proc.params (body_with here p.answer.plain))
      × HasShape (findings_of_needs t (r.needs here))
  shapes =
      shape_parts (findings_of_body t.unit t.proc.params (body_with here p.answer.plain))
      (findings_of_needs t (r.needs here)) p.answer.formed

  met : NeedsHold → AreShown m.must → Each (IsMet t) (r.needs here)
  met needs_hold shown =
      needs_hold t (r.needs here) p.answer.must runs shapes.1 p.answer.owes
      (subst AreShown (sym (ap (λ (n : Plan). n.must) p.answer.is)) shown)

  formed : IsFormedHere here p.answer.plain
  formed =
      let kinds = field_kind t.unit.fields in
      let memories = length t.unit.memories in
      let calls = (program_world t.unit).callees in
      let params = t.proc.params in
      let body = body_with here p.answer.plain in
      let block = findings_of_block kinds memories calls (scope_of [] params) (λ x. x) body in
      let inner = shape_parts (both (rule (not (is_empty body)))
      (rule (are_distinct (map (λ q. q.binder.id) params ++ binders body))))
      (both (limit (is_short body && is_small_body body)) block) shapes.0 in
      let last = shape_parts (limit (is_short body && is_small_body body)) block inner.1 in
      passed_formed kinds memories calls (found_scope_at (around here) (scope_of [] params))
      (own_roots_at (around here)) (around here) p.answer.plain (rest_of (around here))
      (formed_at kinds memories calls (around here) (or_pass (around here) p.answer.plain)
      (scope_of [] params) (λ x. x) last.1)

  is_site : IsSite r site
  is_site = record {
    spot = is_spot;
    below = ids_are_below t.proc;
    at = at;
    chosen = p.chosen;
    made = p.answer.made;
    drafted = p.answer.drafted;
    allowed = p.answer.allowed;
    formed = formed;
    named = names t.proc (base + r.named) (body_with here p.answer.draft);
    exact = refl;
    runs = versions_run t is base made.body is.ids p.answer.kept;
  }

  -- the procedure is refined by the result
  refined : VersionsStand t.unit t.origins → NeedsHold → AreShown m.must → IsLawful r
      → Refines (world_of here) t.proc made (fields_at_exit r site)
  refined versions needs_hold shown lawful =
      written_otherwise (world_of here) t.proc (with_body here made.body) made.name made.body
      (fields_at_exit r site) refl
      (replaced_refines here p.answer.draft made.body (fields_at_exit r site) is_spot
      is_site.named (lawful.replaces site is_site versions (met needs_hold shown)))

  -- and its statements go to others of their kinds
  forwarded : MovesLaw → IsCarrying r
      → Forwards (move_of (plan r here base p.answer.draft p.answer.must).edits) t.proc made
  forwarded moves carrying =
      let new = or_pass (around here) p.answer.draft in
      let whole = with_body here (fill (around here) new) in
      let edits = (plan r here base p.answer.draft p.answer.must).edits in
      let there = moves t.proc whole edits p.o new p.opens refl refl
      (carrying.carries site is_site) (carrying.apart site is_site) in
      record {
        apart = there.apart;
        images = λ path to a stands goes.
            kinds_by_names to made.body (fill (around here) new) is_site.named
            ∙ there.images path to a stands goes;
      }

pub meaning_is_kept : NamesAlone → NeedsHold → MeaningLaw
meaning_is_kept names needs_hold r t at m lawful is versions h shown =
    let p = proposal_of r t at m h in
    subst (λ (n : Plan). Refines (program_world t.unit) t.proc n.proc
    (differ_at_end t n.proc.body n.place n.side n.fields)) p.answer.is
    (refined names r t at m is p versions needs_hold shown lawful)

pub statements_go : NamesAlone → MovesLaw → ForwardsLaw
statements_go names moves r t at m carrying is h =
    let p = proposal_of r t at m h in
    subst (λ (n : Plan). Forwards (move_of n.edits) t.proc n.proc) p.answer.is
    (forwarded names r t at m is p moves carrying)

pub proposals_are_kept : KeptLaw
proposals_are_kept r t at m is room h =
    let p = proposal_of r t at m h in
    let here = spot t p.piece p.o in
    let base = next_id t.proc in
    let made = result r here base p.answer.draft in
    subst (λ (n : Plan). IsUnit (with_version t.unit n.proc)) p.answer.is
    (kept_law t.unit t.number base t.proc made is.unit is.there
    (record { params = refl; asserts = refl; template = refl }) p.answer.kept is.ids room)
