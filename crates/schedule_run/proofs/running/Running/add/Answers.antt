use Rattle.std.proofs.Common.{◌≡◌, ◌+◌, ◌++◌, ◌∷◌, [], suc, length, Option, Some, map, refl, sym}
use Rattle.std.proofs.Common.{ap, ◌∙◌, subst}
use Rattle.std.specs.Prelude.{slice_get, IfSome}
use Rattle.std.proofs.lemmas.Option.{IfSome_then, same_Some}
use Rattle.exo_tree.specs.Tree.{Procedure, Program}
use Rattle.exo_tree.specs.declared.unit.Unit as memory
use Rattle.exo_tree.specs.declared.number.ProcId.{ProcId}
use Rattle.exo_meaning.specs.Units.{IsUnit}
use Rattle.exo_modes.specs.Marks.{modes_of}
use Rattle.exo_tree.specs.PlainUnit.{program}
use Rattle.affine_systems.specs.Outcomes.{plain_obligation}
use Rattle.ob_check.specs.Held.{held}
use Rattle.bounds_check.specs.Obligations.{list_fault, obligations_of}
use Rattle.unit_check.specs.Cached.{discharged_all}
use Rattle.cursor_forward.specs.PlainProposal.{plain_proposal}
use Rattle.config_laws.specs.Differing.{Origin}
use Rattle.tree_laws.specs.Findings.Versions.{with_version}
use Rattle.schedule_laws.specs.Versions.Versions.{Versions, Version, bound, made_of}
use Rattle.schedule_laws.specs.Versions.Lines.{Went, checked_step}
use Rattle.schedule_run.specs.PlainWhy.{why_of_list}
use Rattle.schedule_run.specs.Running.{AreKept, AreWrites, MarkHolds, versions_in}
use Rattle.schedule_run.specs.declared.running.Latest.{Latest}
use Rattle.schedule_run.proofs.Answering.{list_refused}
use Rattle.schedule_run.proofs.Following.{all_follow}
use Rattle.schedule_run.proofs.Going.{performed_failed}
use Rattle.schedule_run.proofs.Growing.{get_last}
use Rattle.schedule_run.proofs.Stepping.{step_refused_by, step_done_by}
use Rattle.schedule_run.proofs.running.Running.add.Goals as goal

pub returns-in_err-done-clause-performs : goal.returns-in_err-done-clause-performs
returns-in_err-done-clause-performs g c =
    let v = versions_in c.args.self.now in
    let m = plain_proposal c.args.made in
    let u = program c.push.new.self.session.unit in
    let must = map plain_obligation c.deref.result.now in
    let e = c.in_err-done.field-0.0 in
    let longer : u ≡ with_version v.unit m.proc =
    ap (λ (x : Versions). x.unit) c.in_ok-number.ensures.pushed in
    let same : must ≡ m.must = ap (map plain_obligation) c.deref.ensures.value in
    let there : slice_get u.procedures c.in_ok-number.number.0 ≡ Some m.proc =
    ap (λ n. slice_get u.procedures n) c.in_ok-number.ensures.number
    ∙ ap (λ (x : Program). slice_get x.procedures (length v.unit.procedures)) longer
    ∙ get_last v.unit.procedures m.proc in
    let ok = c.in_ok-listed.ensures.listed m.proc there in
    performed_failed
    (checked_step v c.args.bind.now c.args.k.0 m (list_fault (with_version v.unit m.proc) m.proc))
    (versions_in c.push.new.self) c.from_residual-in_err-done.result e
    c.from_residual-in_err-done.ensures.1
    (step_refused_by v c.args.bind.now c.args.k.0 m u must longer same e
    (c.in_err-done.ensures.exact u m.proc ok))

pub returns-clause-performs : goal.returns-clause-performs
returns-clause-performs g c =
    let v = versions_in c.args.self.now in
    let m = plain_proposal c.args.made in
    let name = c.args.bind.now in
    let k = c.args.k.0 in
    let n = c.in_ok-done.done.count in
    let u = program c.push.new.self.session.unit in
    let must = map plain_obligation c.deref.result.now in
    let longer : u ≡ with_version v.unit m.proc =
    ap (λ (x : Versions). x.unit) c.in_ok-number.ensures.pushed in
    let same : must ≡ m.must = ap (map plain_obligation) c.deref.ensures.value in
    let there : slice_get u.procedures c.in_ok-number.number.0 ≡ Some m.proc =
    ap (λ n. slice_get u.procedures n) c.in_ok-number.ensures.number
    ∙ ap (λ (x : Program). slice_get x.procedures (length v.unit.procedures)) longer
    ∙ get_last v.unit.procedures m.proc in
    let ok = c.in_ok-listed.ensures.listed m.proc there in
    step_done_by v name k m u must longer same n
    (c.in_ok-done.ensures.exact u m.proc ok)
    ∙ ap Went
    (sym
    (c.in_ok-add.ensures.added
    ∙ ap (λ (o : Origin). bound name (Version c.in_ok-number.number.0)
    (record (versions_in c.push.new.self) {
      origins = (versions_in c.push.new.self).origins ++ o ∷ [];
      edits = (versions_in c.push.new.self).edits ++ m.edits ∷ [];
      steps = suc (versions_in c.push.new.self).steps;
      obligations = (versions_in c.push.new.self).obligations + n;
    })) c.in_ok-origin.ensures
    ∙ ap (λ (x : Versions). bound name (Version c.in_ok-number.number.0) (record x {
      origins = x.origins ++ made_of k m ∷ [];
      edits = x.edits ++ m.edits ∷ [];
      steps = suc x.steps;
      obligations = x.obligations + n;
    })) c.in_ok-number.ensures.pushed
    ∙ ap (λ j. bound name (Version j) (record v {
      unit = with_version v.unit m.proc;
      origins = v.origins ++ made_of k m ∷ [];
      edits = v.edits ++ m.edits ∷ [];
      steps = suc v.steps;
      obligations = v.obligations + n;
    })) c.in_ok-number.ensures.number))

pub returns-clause-cache : goal.returns-clause-cache
returns-clause-cache g c =
    let v = versions_in c.args.self.now in
    let m = plain_proposal c.args.made in
    let u = program c.push.new.self.session.unit in
    let must = map plain_obligation c.deref.result.now in
    let longer : u ≡ with_version v.unit m.proc =
    ap (λ (x : Versions). x.unit) c.in_ok-number.ensures.pushed in
    let same : must ≡ m.must = ap (map plain_obligation) c.deref.ensures.value in
    let there : slice_get u.procedures c.in_ok-number.number.0 ≡ Some m.proc =
    ap (λ n. slice_get u.procedures n) c.in_ok-number.ensures.number
    ∙ ap (λ (x : Program). slice_get x.procedures (length v.unit.procedures)) longer
    ∙ get_last v.unit.procedures m.proc in
    let ok = c.in_ok-listed.ensures.listed m.proc there in
    c.in_ok-done.ensures.cache
    ∙ ap (λ l. discharged_all (held c.args.cache.now) (must ∷ l ∷ []))
    ok.1
    ∙ ap (λ (x : Program). discharged_all (held c.args.cache.now) (must ∷ obligations_of x m.proc ∷ [])) longer
    ∙ ap (λ l. discharged_all (held c.args.cache.now) (l ∷ obligations_of (with_version v.unit m.proc) m.proc ∷ [])) same

pub returns-in_err-listed-clause-performs : goal.returns-in_err-listed-clause-performs
returns-in_err-listed-clause-performs g c =
    let v = versions_in c.args.self.now in
    let m = plain_proposal c.args.made in
    let u = program c.push.new.self.session.unit in
    let e = c.in_err-listed.field-0.0 in
    let longer : u ≡ with_version v.unit m.proc =
    ap (λ (x : Versions). x.unit) c.in_ok-number.ensures.pushed in
    let there : slice_get u.procedures c.in_ok-number.number.0 ≡ Some m.proc =
    ap (λ n. slice_get u.procedures n) c.in_ok-number.ensures.number
    ∙ ap (λ (x : Program). slice_get x.procedures (length v.unit.procedures)) longer
    ∙ get_last v.unit.procedures m.proc in
    performed_failed
    (checked_step v c.args.bind.now c.args.k.0 m (list_fault (with_version v.unit m.proc) m.proc))
    (versions_in c.push.new.self) c.from_residual-in_err-listed.result (why_of_list e)
    c.from_residual-in_err-listed.ensures.1
    (step_refused_by v c.args.bind.now c.args.k.0 m u m.must longer refl (why_of_list e)
    (list_refused u m.must m.proc e (c.in_err-listed.ensures.listed m.proc there)))

pub listed-requires-clause-renames : goal.listed-requires-clause-renames
listed-requires-clause-renames g c κs within = λ is.
    let v = versions_in c.args.self.now in
    let m = plain_proposal c.args.made in
    let u = program c.push.new.self.session.unit in
    let longer : u ≡ with_version v.unit m.proc =
    ap (λ (x : Versions). x.unit) c.in_ok-number.ensures.pushed in
    let there : slice_get u.procedures c.in_ok-number.number.0 ≡ Some m.proc =
    ap (λ n. slice_get u.procedures n) c.in_ok-number.ensures.number
    ∙ ap (λ (x : Program). slice_get x.procedures (length v.unit.procedures)) longer
    ∙ get_last v.unit.procedures m.proc in
    IfSome_then c.take-before.result
    (subst (λ (o : Option Latest). IfSome o (λ l.
    AreKept l.owed.items (with_version v.unit m.proc) m.proc))
    (sym c.take-before.ensures.value) (c.requires.renames is))
    (λ l kept q at.
    subst (λ (q : Procedure). AreKept l.owed.items u q) (same_Some m.proc q (sym there ∙ at))
    (subst (λ (u : Program). AreKept l.owed.items u m.proc) (sym longer) kept))

pub push-requires-clause-running : goal.push-requires-clause-running
push-requires-clause-running g c = record {
  formed = c.requires.running.formed;
  modes = c.requires.running.modes;
  writes = c.requires.running.writes;
  latest =
      subst (λ (o : Option Latest). IfSome o (λ l. (q : Procedure)
      → slice_get (program c.args.self.now.session.unit).procedures l.version.0 ≡ Some q
      → AreKept l.owed.items (program c.args.self.now.session.unit) q))
      (sym c.take-before.ensures.after) tt;
}

pub returns-clause-running : goal.returns-clause-running
returns-clause-running g c =
    let is = c.in_ok-number.ensures.running in
    let l = c.in_ok-listed.listed in
    let same : c.add.new.self.unit ≡ c.push.new.self.session.unit = c.in_ok-add.ensures.unit in
    record {
      formed = subst (λ (x : memory.Unit). IsUnit (program x)) (sym same) is.formed;
      modes = is.modes ∙ ap (λ (x : memory.Unit). modes_of (program x)) (sym same);
      writes =
          subst (λ (x : memory.Unit). AreWrites (length (program x).fields) (program x).procedures
          c.push.new.self.writes) (sym same) is.writes;
      latest =
          subst (λ (x : memory.Unit). (q : Procedure)
          → slice_get (program x).procedures l.version.0 ≡ Some q
          → AreKept l.owed.items (program x) q) (sym same)
          (λ q at. c.in_ok-listed.ensures.listed q
          (ap (λ (n : ProcId). slice_get (program c.push.new.self.session.unit).procedures n.0)
          (sym c.in_ok-listed.ensures.version) ∙ at));
    }

pub shown-requires-after_bounds : goal.shown-requires-after_bounds
shown-requires-after_bounds g c κs within =
    c.in_ok-listed.ensures.mark (held c.args.cache.now)
    (subst (λ (o : Option Latest). MarkHolds o (held c.args.cache.now))
    (sym c.take-before.ensures.value)
    c.requires.mark)

pub returns-clause-mark : goal.returns-clause-mark
returns-clause-mark g c = c.in_ok-done.ensures.settled

pub listed-requires-clause-follows : goal.listed-requires-clause-follows
listed-requires-clause-follows g c κs within =
    let v = versions_in c.args.self.now in
    let m = plain_proposal c.args.made in
    let u = program c.push.new.self.session.unit in
    let longer : u ≡ with_version v.unit m.proc =
    ap (λ (x : Versions). x.unit) c.in_ok-number.ensures.pushed in
    let there : slice_get u.procedures c.in_ok-number.number.0 ≡ Some m.proc =
    ap (λ n. slice_get u.procedures n) c.in_ok-number.ensures.number
    ∙ ap (λ (x : Program). slice_get x.procedures (length v.unit.procedures)) longer
    ∙ get_last v.unit.procedures m.proc in
    all_follow c.take-before.result v.unit u m.proc c.args.k.0 c.in_ok-number.number.0
    c.requires.running.formed
    longer c.requires.comes there
    (subst (λ (o : Option Latest). IfSome o (λ l. (p : Procedure)
    → slice_get v.unit.procedures l.version.0 ≡ Some p → AreKept l.owed.items v.unit p))
    (sym c.take-before.ensures.value) c.requires.running.latest)
