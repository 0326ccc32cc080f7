-- Each line leaves versions with names of the grammar, and so all of them do.
use Rattle.std.proofs.Common.{◌≡◌, ◌+◌, ℕ, Bool, true, false, List, [], ◌∷◌, ◌++◌, length}
use Rattle.std.proofs.Common.{Option, Some, None, refl, subst, if◌then◌else◌}
use Rattle.exo_tree.specs.Tree.{Procedure}
use Rattle.exo_meaning.specs.Orders.{Each}
use Rattle.exo_types_laws.specs.Shown.Named.{IsNamedProcedure, AreNamed}
use Rattle.exo_types_laws.proofs.OfShown.Each.{each_more, each_at}
use Rattle.bounds_check.specs.Obligations.{Fault, list_fault}
use Rattle.unit_check.specs.Checked as unit_check
use Rattle.unit_check.specs.Checked.{first_open}
use Rattle.cursor_forward.specs.Search.Patterns.{Pattern}
use Rattle.cursor_forward.specs.Cursors.{Cursor}
use Rattle.cursor_forward.specs.Proposals.{Plan}
use Rattle.tree_laws.specs.Findings.Versions.{with_version}
use Rattle.step_rules.specs.Rule.{Tried}
use Rattle.step_rules.specs.Rule as rule
use Rattle.step_rules.specs.Answer.{proposed}
use Rattle.schedule_calls.specs.Requests.{Move}
use Rattle.schedule_laws.specs.Versions.Versions.{Versions, started, version_at, held, version_of}
use Rattle.schedule_laws.specs.Versions.Versions.{with_step}
use Rattle.schedule_laws.specs.Versions.Places.{Sought, Got, Lost, Place, then_seek, moved_at, matched}
use Rattle.schedule_laws.specs.Versions.Lines.{Why, BadArguments, Progress, Went, Refused, owed_for, target}
use Rattle.schedule_laws.specs.Versions.Lines.{shown_step, checked_step, proposed_step, Ruled, Call}
use Rattle.schedule_laws.specs.Versions.Lines.{all_sought, ruled_step, found_step, called_on, called}
use Rattle.schedule_laws.specs.Versions.Lines.{binding, searched, held_place, is_instruction, emitting}
use Rattle.schedule_laws.specs.Versions.Lines.{Act, Faulty, Apply, Search, Moved, Emit, performed}
use Rattle.schedule_laws.specs.Versions.Lines.{Outcome, Done, behind, run_from}
use Rattle.schedule_laws.specs.Versions.Laws.{EachRule}
use Rattle.schedule_laws.specs.Names.Rules.{IsNaming}
use Rattle.schedule_laws.specs.Names.Runs.{IsNamingAct, RunsKeepNames}
use Rattle.schedule_laws.proofs.OfNames.Proposed.{proposals_are_named}

-- ---- one line

-- where a line goes on, all versions have names of the grammar
abbrev Arrives : Progress → Type 0
Arrives progress = (w : Versions) → progress ≡ Went w → AreNamed w.unit

went_same : {v w : Versions} → Went v ≡ Went w → v ≡ w
went_same h = cc

refused : (why : Why) → Arrives (Refused why)
refused why w h = absurd (no h)
  where
    no : Refused why ≡ Went w → ⊥
    no h = cc

went : (u : Versions) → AreNamed u.unit → Arrives (Went u)
went u is w h = subst (λ (z : Versions). AreNamed z.unit) (went_same h) is

test_arrives : (b : Bool) (one : Progress) (why : Why) → Arrives one
    → Arrives (if b then one else Refused why)
test_arrives true one why h = h
test_arrives false one why h = refused why

module _ (v : Versions) (are : AreNamed v.unit) where
  with_one : (m : Plan) → IsNamedProcedure m.proc → AreNamed (with_version v.unit m.proc)
  with_one m is = record {
    procedures = each_more IsNamedProcedure v.unit.procedures (m.proc ∷ []) are.procedures (is, tt);
    fields = are.fields;
    memories = are.memories;
  }

  -- ---- a step

  module _ (name : List ℕ) (k : ℕ) (m : Plan) (is : IsNamedProcedure m.proc) where
    shown_arrives : (o : Option unit_check.Cause) → Arrives (shown_step v name k m o)
    shown_arrives None = went (with_step name k m (length (owed_for v m)) v) (with_one m is)
    shown_arrives (Some (unit_check.NotListed fault)) = refused _
    shown_arrives (Some (unit_check.NotShown what place verdict)) = refused _

    checked_arrives : (o : Option Fault) → Arrives (checked_step v name k m o)
    checked_arrives None = shown_arrives (first_open (owed_for v m))
    checked_arrives (Some fault) = refused _

  proposed_arrives : (name : List ℕ) (k : ℕ) (t : Tried Plan)
      → ((m : Plan) → t ≡ rule.Got m → IsNamedProcedure m.proc) → Arrives (proposed_step v name k t)
  proposed_arrives name k (rule.Not cause) is = refused _
  proposed_arrives name k (rule.Got m) is =
      checked_arrives name k m (is m refl) (list_fault (with_version v.unit m.proc) m.proc)

  -- ---- operators

  module _ (name : List ℕ) (call : Call) (is : EachRule IsNaming call) where
    module _ (k : ℕ) (p : Procedure) (there : version_at v k ≡ Some p) where
      ruled_arrives : (cs : List Cursor) (t : Tried Ruled) → call.rule v (target v k p) cs ≡ t
          → Arrives (ruled_step v name k p t)
      ruled_arrives cs (rule.Not cause) e = refused _
      ruled_arrives cs (rule.Got r) e =
          proposed_arrives name k (proposed r.rule (target v k p) r.at)
          (λ m f. proposals_are_named r.rule (target v k p) r.at m (is v (target v k p) cs r e) are
          (each_at IsNamedProcedure v.unit.procedures k p are.procedures there) f)

      found_arrives : (s : Sought (List Cursor)) → Arrives (found_step v name k p call s)
      found_arrives (Lost why) = refused _
      found_arrives (Got cs) = ruled_arrives cs (call.rule v (target v k p) cs) refl

    called_on_arrives : (k : ℕ) (o : Option Procedure) → version_at v k ≡ o
        → Arrives (called_on v name call k o)
    called_on_arrives k None e = refused _
    called_on_arrives k (Some p) e =
        test_arrives (call.named v) (found_step v name k p call (all_sought v k call.cursors)) _
        (found_arrives k p e (all_sought v k call.cursors))

    called_arrives : (o : Option ℕ) → Arrives (called v name call o)
    called_arrives None = refused _
    called_arrives (Some k) = called_on_arrives k (version_at v k) refl

  -- ---- lines that make no version

  binding_arrives : (name : List ℕ) (s : Sought Place) → Arrives (binding v name s)
  binding_arrives name (Lost why) = refused _
  binding_arrives name (Got p) = went _ are

  searched_arrives : (name : List ℕ) (pattern : Pattern) (nth : ℕ) (moves : List Move) (o : Option ℕ)
      → Arrives (searched v name pattern nth moves o)
  searched_arrives name pattern nth moves None = refused _
  searched_arrives name pattern nth moves (Some j) =
      binding_arrives name (then_seek (matched v j pattern nth) (moved_at v moves))

  emitting_arrives : (o : Option ℕ) → Arrives (emitting v o)
  emitting_arrives None = refused _
  emitting_arrives (Some k) = by (is_instruction (version_at v k))
    where
      by : (b : Bool) → Arrives (if b then Refused BadArguments
          else Went (record v { emitted = v.emitted ++ k ∷ [] }))
      by true = refused _
      by false = went _ are

  act_arrives : (a : Act) → IsNamingAct a → Arrives (performed v a)
  act_arrives (Faulty why) is = refused why
  act_arrives (Apply name of call) is =
      test_arrives (call.formed v) (called v name call (version_of v of)) BadArguments
      (called_arrives name call is (version_of v of))
  act_arrives (Search name of pattern nth moves) is =
      searched_arrives name pattern nth moves (version_of v of)
  act_arrives (Moved name of moves) is =
      binding_arrives name (then_seek (held_place (held v of)) (moved_at v moves))
  act_arrives (Emit name) is = emitting_arrives (version_of v name)

-- ---- all lines

done_same : {v w : Versions} → Done v ≡ Done w → v ≡ w
done_same h = cc

goes_on : (k : ℕ) (rest : Versions → Outcome) (progress : Progress) (w : Versions)
    → Arrives progress
    → ((u : Versions) → AreNamed u.unit → rest u ≡ Done w → AreNamed w.unit)
    → behind k rest progress ≡ Done w → AreNamed w.unit
goes_on k rest (Went u) w arrives on e = on u (arrives u refl) e
goes_on k rest (Refused why) w arrives on e = absurd (no e)
  where
    no : behind k rest (Refused why) ≡ Done w → ⊥
    no e = cc

named_behind : (k : ℕ) (acts : List Act) (v w : Versions) → Each IsNamingAct acts
    → AreNamed v.unit → run_from k acts v ≡ Done w → AreNamed w.unit
named_behind k [] v w is are e = subst (λ (z : Versions). AreNamed z.unit) (done_same e) are
named_behind k (a ∷ more) v w is are e =
    goes_on k (run_from (k + 1) more) (performed v a) w (act_arrives v are a is.0)
    (λ u named f. named_behind (k + 1) more u w is.1 named f) e

pub runs_keep_names : RunsKeepNames
runs_keep_names text shown acts v are is ran = named_behind 0 acts (started text shown) v is are ran
