-- What the lines of a schedule leave: versions that are derived, with room for those that follow.
use Rattle.std.proofs.Common.{◌≡◌, ◌≤◌, ◌<◌, ◌+◌, ◌*◌, ◌^◌, ℕ, zero, suc, max, Bool, true, false}
use Rattle.std.proofs.Common.{List, [], ◌∷◌, ◌++◌, map, length, Option, Some, None, refl, sym, ap}
use Rattle.std.proofs.Common.{◌∙◌, subst, arith}
use Rattle.std.specs.Prelude.{slice_get, nat_lt, nat_le, if◌then◌else◌, Contains}
use Rattle.std.specs.List.{list_all}
use Rattle.exo_tree.specs.Tree.{Procedure}
use Rattle.exo_tree.specs.Places.{Path}
use Rattle.exo_meaning.specs.Orders.{Each}
use Rattle.exo_meaning.specs.Units.{bound_ids}
use Rattle.meaning_laws.proofs.Substitute.{and_parts}
use Rattle.meaning_laws.proofs.Parts.{some_injective}
use Rattle.config_laws.specs.Differing.{Origin, parent_in, step_fields}
use Rattle.config_laws.specs.FieldRule.{fields_at_end}
use Rattle.bounds_check.specs.Obligations.{Fault, list_fault}
use Rattle.unit_check.specs.Checked as unit_check
use Rattle.unit_check.specs.Checked.{first_open}
use Rattle.cursor_forward.specs.Search.Patterns.{Pattern}
use Rattle.cursor_forward.specs.Cursors.{Cursor}
use Rattle.cursor_forward.specs.Proposals.{Plan}
use Rattle.tree_edits.specs.Made.Ids.{above_all, next_id}
use Rattle.tree_findings.specs.Classes.{all_kept, limit}
use Rattle.tree_findings.specs.Findings.{findings_of_body}
use Rattle.tree_laws.specs.Findings.Versions.{has_room, with_version}
use Rattle.step_rules.specs.Rule.{Tried, Target, Rule}
use Rattle.step_rules.specs.Rule as rule
use Rattle.step_rules.specs.Answer.{result, proposed, spot}
use Rattle.step_rules.specs.Lawful.{IsLawful}
use Rattle.step_rules.proofs.Found.{both_kept}
use Rattle.step_rules.proofs.Proposals.{proposal_of}
use Rattle.schedule_calls.specs.Requests.{Move}
use Rattle.schedule_laws.specs.Versions.Versions.{of_text, Held, Versions}
use Rattle.schedule_laws.specs.Versions.Versions.{version_at, held, version_of, with_step}
use Rattle.schedule_laws.specs.Versions.Places.{Sought, Got, Lost, Place, then_seek}
use Rattle.schedule_laws.specs.Versions.Places.{moved_at, matched}
use Rattle.schedule_laws.specs.Versions.Lines.{Why, BadArguments, Progress, Went, Refused, owed_for, target, shown_step}
use Rattle.schedule_laws.specs.Versions.Lines.{checked_step, proposed_step, Ruled, Call, all_sought}
use Rattle.schedule_laws.specs.Versions.Lines.{ruled_step, found_step, called_on, called, binding}
use Rattle.schedule_laws.specs.Versions.Lines.{searched, held_place, is_instruction, emitting, Act, Faulty}
use Rattle.schedule_laws.specs.Versions.Lines.{Apply, Search, Moved, Emit, performed, Outcome, Done}
use Rattle.schedule_laws.specs.Versions.Lines.{run_from, behind}
use Rattle.schedule_laws.specs.Versions.Laws.{NamesFields, IsLawfulCall, IsLawfulAct, AreDerived}
use Rattle.schedule_laws.specs.Versions.Laws.{HasRoom, StartedIsDerived, RunIsDerived}
use Rattle.schedule_laws.proofs.OfVersions.Quiet.{Which, old, last, which}
use Rattle.schedule_laws.proofs.OfVersions.Derived.{StepLaws, step_is_derived}

-- ---- ids

highest : (n : ℕ) (xs : List ℕ) → list_all (λ x. nat_lt x n) xs ≡ true → above_all xs ≤ n
highest n [] h = omega arith
highest n (x ∷ xs) h =
    let p = and_parts (nat_lt x n) (list_all (λ x. nat_lt x n) xs) h in
    both (above_all xs) p.0 (highest n xs p.1)
  where
    both : (m : ℕ) → nat_lt x n ≡ true → m ≤ n → max (suc x) m ≤ n
    both m h k = grind arith

-- ids that a step makes are few
pub ids_of_result : (r : Rule) (t : Target) (at : Path) (m : Plan) → proposed r t at ≡ rule.Got m
    → next_id m.proc ≤ next_id t.proc + 65536
ids_of_result r t at m got =
    let p = proposal_of r t at m got in
    let s = spot t p.piece p.o in
    let base = next_id t.proc in
    let q = result r s base p.answer.draft in
    let low = list_all (λ x. nat_lt x (base + 65536)) (bound_ids q) in
    let limits = both_kept (findings_of_body t.unit q.params q.body) (limit low) p.answer.kept in
    subst (λ (n : Plan). next_id n.proc ≤ next_id t.proc + 65536) p.answer.is
    (highest (base + 65536) (bound_ids q) (kept low limits.1))
  where
    kept : (b : Bool) → all_kept (limit b) ≡ true → b ≡ true
    kept true h = refl
    kept false h = absurd (no h)
      where
        no : all_kept (limit false) ≡ true → ⊥
        no h = cc

-- ---- what stays when only names are bound

record Passes (v w : Versions) : Type 0 where
  pub unit : w.unit ≡ v.unit
  pub origins : w.origins ≡ v.origins

named : (v : Versions) (names : List (List ℕ × Held)) (emitted : List ℕ) (steps shown : ℕ)
    → AreDerived v
    → AreDerived (record {
      unit = v.unit;
      origins = v.origins;
      edits = v.edits;
      names = names;
      emitted = emitted;
      steps = steps;
      obligations = shown;
    })
named v names emitted steps shown d = record {
  formed = d.formed;
  quiet = d.quiet;
  count = d.count;
  made = λ j k q above e.
      let one = d.made j k q above e in
      (one.0, one.1, record { before = one.2.before; head = one.2.head; refines = one.2.refines });
  fields = d.fields;
}

-- ---- one line

-- what holds behind a line where so many follow
pub record Goes (w : Versions) (n : ℕ) : Type 0 where
  pub derived : AreDerived w
  pub room : HasRoom w n

fewer : (v : Versions) (n : ℕ) → HasRoom v (suc n) → HasRoom v n
fewer v n h = record {
  numbers = less (length v.unit.procedures) h.numbers;
  ids = λ k p e. less_ids (next_id p) (h.ids k p e);
}
  where
    less : (m : ℕ) → m + suc n + 1 < 2 ^ 31 → m + n + 1 < 2 ^ 31
    less m k = omega (arith, k)

    less_ids : (m : ℕ) → m + 65536 * suc n ≤ 2 ^ 31 → m + 65536 * n ≤ 2 ^ 31
    less_ids m k = omega (arith, k)

named_goes : (v : Versions) (n : ℕ) (names : List (List ℕ × Held)) (emitted : List ℕ)
    → AreDerived v → HasRoom v (suc n) → Goes (record v { names = names; emitted = emitted }) n
named_goes v n names emitted d h =
    let room = fewer v n h in
    record {
      derived = named v names emitted v.steps v.obligations d;
      room = record { numbers = room.numbers; ids = room.ids };
    }

went_same : {v w : Versions} → Went v ≡ Went w → v ≡ w
went_same h = cc

refused_went : {why : Why} {w : Versions} → Refused why ≡ Went w → ⊥
refused_went h = cc

module _ (laws : StepLaws) (v : Versions) (n : ℕ) (d : AreDerived v) (room : HasRoom v (suc n)) where
  abbrev Arrives : Progress → Type 0
  Arrives progress = (w : Versions) → progress ≡ Went w → Goes w n

  refused : (why : Why) → Arrives (Refused why)
  refused why w h = absurd (refused_went h)

  went : (u : Versions) → Goes u n → Arrives (Went u)
  went u goes w h = subst (λ z. Goes z n) (went_same h) goes

  -- ---- a step

  module _ (name : List ℕ) (k : ℕ) (p : Procedure) (there : version_at v k ≡ Some p) (r : Rule)
      (lawful : IsLawful r) (names_fields : NamesFields r) (at : Path) where
    low : nat_le (next_id p + 65536) (2 ^ 31) ≡ true
    low = by (next_id p) (room.ids k p there)
      where
        by : (m : ℕ) → m + 65536 * suc n ≤ 2 ^ 31 → nat_le (m + 65536) (2 ^ 31) ≡ true
        by m h = is_within (m + 65536) (2 ^ 31) (omega (arith, h))
          where
            is_within : (a b : ℕ) → a ≤ b → nat_le a b ≡ true
            is_within a b h = grind arith

    has : has_room v.unit ≡ true
    has = by (length v.unit.procedures) room.numbers
      where
        by : (m : ℕ) → m + suc n + 1 < 2 ^ 31 → nat_lt (suc m) (2 ^ 31) ≡ true
        by m h = is_less (suc m) (2 ^ 31) (omega (arith, h))
          where
            is_less : (a b : ℕ) → a < b → nat_lt a b ≡ true
            is_less a b h = grind arith

    step_room : (m : Plan) → proposed r (target v k p) at ≡ rule.Got m
        → HasRoom (with_step name k m (length (owed_for v m)) v) n
    step_room m got = record {
      numbers = subst (λ c. c + n + 1 < 2 ^ 31) (sym (one_longer v.unit.procedures m.proc))
          (more (length v.unit.procedures) room.numbers);
      ids = λ i q e. by i q (which v.unit.procedures m.proc q i e);
    }
      where
        one_longer : (xs : List Procedure) (y : Procedure) → length (xs ++ y ∷ []) ≡ suc (length xs)
        one_longer [] y = refl
        one_longer (x ∷ xs) y = ap suc (one_longer xs y)

        more : (c : ℕ) → c + suc n + 1 < 2 ^ 31 → suc c + n + 1 < 2 ^ 31
        more c h = omega (arith, h)

        of_new : (a b : ℕ) → a ≤ b + 65536 → b + 65536 * suc n ≤ 2 ^ 31 → a + 65536 * n ≤ 2 ^ 31
        of_new a b h i = omega (arith, h, i)

        by : (i : ℕ) (q : Procedure) → Which v.unit.procedures m.proc q i
            → next_id q + 65536 * n ≤ 2 ^ 31
        by i q (old h e) = (fewer v n room).ids i q e
        by i q (last h e) =
            subst (λ (x : Procedure). next_id x + 65536 * n ≤ 2 ^ 31) (sym e)
            (of_new (next_id m.proc) (next_id p) (ids_of_result r (target v k p) at m got)
            (room.ids k p there))

    shown_arrives : (m : Plan) → proposed r (target v k p) at ≡ rule.Got m
        → (o : Option unit_check.Cause) → first_open (owed_for v m) ≡ o
        → Arrives (shown_step v name k m o)
    shown_arrives m got None e =
        went (with_step name k m (length (owed_for v m)) v)
        (record {
          derived = step_is_derived laws v d k p there r lawful names_fields at m low has got e name;
          room = step_room m got;
        })
    shown_arrives m got (Some (unit_check.NotListed fault)) e = refused _
    shown_arrives m got (Some (unit_check.NotShown what place verdict)) e = refused _

    checked_arrives : (m : Plan) → proposed r (target v k p) at ≡ rule.Got m
        → (o : Option Fault) → Arrives (checked_step v name k m o)
    checked_arrives m got None = shown_arrives m got (first_open (owed_for v m)) refl
    checked_arrives m got (Some fault) = refused _

    proposed_arrives : (t : Tried Plan) → proposed r (target v k p) at ≡ t
        → Arrives (proposed_step v name k t)
    proposed_arrives (rule.Not cause) e = refused _
    proposed_arrives (rule.Got m) e =
        checked_arrives m e (list_fault (with_version v.unit m.proc) m.proc)

  -- ---- operators

  ruled_arrives : (name : List ℕ) (k : ℕ) (p : Procedure) → version_at v k ≡ Some p → (call : Call)
      → IsLawfulCall call → (cs : List Cursor) (t : Tried Ruled) → call.rule v (target v k p) cs ≡ t
      → Arrives (ruled_step v name k p t)
  ruled_arrives name k p there call is cs (rule.Not cause) e = refused _
  ruled_arrives name k p there call is cs (rule.Got r) e =
      proposed_arrives name k p there r.rule (is.lawful v (target v k p) cs r e)
      (is.fields v (target v k p) cs r e) r.at (proposed r.rule (target v k p) r.at) refl

  found_arrives : (name : List ℕ) (k : ℕ) (p : Procedure) → version_at v k ≡ Some p → (call : Call)
      → IsLawfulCall call → (s : Sought (List Cursor)) → Arrives (found_step v name k p call s)
  found_arrives name k p there call is (Lost why) = refused _
  found_arrives name k p there call is (Got cs) =
      ruled_arrives name k p there call is cs (call.rule v (target v k p) cs) refl

  test_arrives : (b : Bool) (one : Progress) (why : Why) → Arrives one
      → Arrives (if b then one else Refused why)
  test_arrives true one why h = h
  test_arrives false one why h = refused why

  called_on_arrives : (name : List ℕ) (call : Call) → IsLawfulCall call → (k : ℕ)
      (o : Option Procedure) → version_at v k ≡ o → Arrives (called_on v name call k o)
  called_on_arrives name call is k None e = refused _
  called_on_arrives name call is k (Some p) e =
      test_arrives (call.named v) (found_step v name k p call (all_sought v k call.cursors)) _
      (found_arrives name k p e call is (all_sought v k call.cursors))

  called_arrives : (name : List ℕ) (call : Call) → IsLawfulCall call → (o : Option ℕ)
      → Arrives (called v name call o)
  called_arrives name call is None = refused _
  called_arrives name call is (Some k) = called_on_arrives name call is k (version_at v k) refl

  -- ---- names

  binding_arrives : (name : List ℕ) (s : Sought Place) → Arrives (binding v name s)
  binding_arrives name (Lost why) = refused _
  binding_arrives name (Got p) = went _ (named_goes v n _ v.emitted d room)

  searched_arrives : (name : List ℕ) (pattern : Pattern) (nth : ℕ) (moves : List Move)
      (o : Option ℕ) → Arrives (searched v name pattern nth moves o)
  searched_arrives name pattern nth moves None = refused _
  searched_arrives name pattern nth moves (Some j) =
      binding_arrives name (then_seek (matched v j pattern nth) (moved_at v moves))

  emitting_arrives : (o : Option ℕ) → Arrives (emitting v o)
  emitting_arrives None = refused _
  emitting_arrives (Some k) = by (is_instruction (version_at v k))
    where
      by : (b : Bool) → Arrives (if b then Refused BadArguments
          else Went (record v { emitted = v.emitted ++ k ∷ [] }))
      by true = refused _
      by false = went _ (named_goes v n v.names (v.emitted ++ k ∷ []) d room)

  pub act_arrives : (a : Act) → IsLawfulAct a → Arrives (performed v a)
  act_arrives (Faulty why) is = refused why
  act_arrives (Apply name of call) is =
      test_arrives (call.formed v) (called v name call (version_of v of)) BadArguments
      (called_arrives name call is (version_of v of))
  act_arrives (Search name of pattern nth moves) is =
      searched_arrives name pattern nth moves (version_of v of)
  act_arrives (Moved name of moves) is =
      binding_arrives name (then_seek (held_place (held v of)) (moved_at v moves))
  act_arrives (Emit name) is = emitting_arrives (version_of v name)

-- ---- all lines

done_same : {v w : Versions} → Done v ≡ Done w → v ≡ w
done_same h = cc

module _ (laws : StepLaws) where
  goes_on : (k n : ℕ) (rest : Versions → Outcome) (progress : Progress) (w : Versions)
      → ((u : Versions) → progress ≡ Went u → Goes u n)
      → ((u : Versions) → Goes u n → rest u ≡ Done w → AreDerived w)
      → behind k rest progress ≡ Done w → AreDerived w
  goes_on k n rest (Went u) w arrives on h = on u (arrives u refl) h
  goes_on k n rest (Refused why) w arrives on h = absurd (no h)
    where
      no : behind k rest (Refused why) ≡ Done w → ⊥
      no h = cc

  runs : (k : ℕ) (acts : List Act) (v w : Versions) → Each IsLawfulAct acts → AreDerived v
      → HasRoom v (length acts) → run_from k acts v ≡ Done w → AreDerived w
  runs k [] v w is d room h = subst AreDerived (done_same h) d
  runs k (a ∷ acts) v w is d room h =
      goes_on k (length acts) (run_from (k + 1) acts) (performed v a) w
      (act_arrives laws v (length acts) d room a is.0)
      (λ u goes. runs (k + 1) acts u w is.1 goes.derived goes.room) h

pub run_is_derived : StepLaws → RunIsDerived
run_is_derived laws acts v w is d room h = runs laws 0 acts v w is d room h

-- ---- the beginning

no_parent : (ps : List Procedure) (k : ℕ)
    → parent_in (map (λ p. of_text) ps) k ≡ None
no_parent [] zero = refl
no_parent [] (suc k) = refl
no_parent (p ∷ ps) zero = refl
no_parent (p ∷ ps) (suc k) = no_parent ps k

as_long : (ps : List Procedure) → length (map (λ (p : Procedure). of_text) ps) ≡ length ps
as_long [] = refl
as_long (p ∷ ps) = ap suc (as_long ps)

none_some : {A : Type 0} {x : A} → None ≡ Some x → ⊥
none_some h = cc

text_origin : (ps : List Procedure) (k : ℕ) (o : Origin)
    → slice_get (map (λ p. of_text) ps) k ≡ Some o → o.fields ≡ []
text_origin [] zero o h = absurd (none_some h)
text_origin [] (suc k) o h = absurd (none_some h)
text_origin (p ∷ ps) zero o h = by h
  where
    by : Some of_text ≡ Some o → o.fields ≡ []
    by h = ap (λ (z : Origin). z.fields) (some_injective o of_text (sym h))
text_origin (p ∷ ps) (suc k) o h = text_origin ps k o h

no_fields : (all ps : List Procedure) (k : ℕ)
    → step_fields all (map (λ p. of_text) ps) k ≡ []
no_fields all ps k = by (slice_get (map (λ (p : Procedure). of_text) ps) k) refl
  where
    by : (o : Option Origin)
        → slice_get (map (λ (p : Procedure). of_text) ps) k ≡ o
        → elim o as (λ o. List ℕ) [
          | None ↦ []
          | Some o ↦ elim (slice_get all k) as (λ q. List ℕ) [
            | None ↦ []
            | Some q ↦ fields_at_end all q.body o.place o.side o.fields
          ]
        ] ≡ []
    by None e = refl
    by (Some o) e = by_version (slice_get all k)
      where
        by_version : (q : Option Procedure) → elim q as (λ q. List ℕ) [
          | None ↦ []
          | Some q ↦ fields_at_end all q.body o.place o.side o.fields
        ] ≡ []
        by_version None = refl
        by_version (Some q) =
            ap (fields_at_end all q.body o.place o.side) (text_origin ps k o e)

pub started_is_derived : StartedIsDerived
started_is_derived unit shown is quiet = record {
  formed = is;
  quiet = quiet;
  count = as_long unit.procedures;
  made = λ j k q above e. absurd (none_some (sym (no_parent unit.procedures k) ∙ above));
  fields = λ k f c.
      absurd (nothing f (subst (λ l. Contains l f) (no_fields unit.procedures unit.procedures k) c));
}
  where
    nothing : (f : ℕ) → Contains [] f → ⊥
    nothing f c = none c.0 c.1
      where
        none : (i : ℕ) → i < 0 → ⊥
        none i h = omega arith
