-- What lines leave of a unit: its procedures, and versions behind them.
use Rattle.std.proofs.Common.{◌≡◌, ◌≤◌, ◌<◌, ◌+◌, ℕ, zero, suc, Bool, true, false, List, [], ◌∷◌}
use Rattle.std.proofs.Common.{◌++◌, map, length, Option, Some, None, refl, sym, ap, ◌∙◌, subst}
use Rattle.std.proofs.Common.{arith, append_assoc, append-nil, ◌⊎◌, inl, inr}
use Rattle.std.proofs.lemmas.List.{length_push}
use Rattle.std.specs.Prelude.{slice_get, if◌then◌else◌, nat_lt}
use Rattle.exo_tree.specs.Tree.{Procedure, Program}
use Rattle.config_laws.specs.Differing.{Origin, parent_in}
use Rattle.bounds_check.specs.Obligations.{Fault, list_fault}
use Rattle.unit_check.specs.Checked as unit_check
use Rattle.unit_check.specs.Checked.{first_open}
use Rattle.cursor_forward.specs.Search.Patterns.{Pattern}
use Rattle.cursor_forward.specs.Cursors.{Cursor}
use Rattle.cursor_forward.specs.Proposals.{Plan}
use Rattle.step_rules.specs.Rule.{Tried}
use Rattle.step_rules.specs.Rule as rule
use Rattle.step_rules.specs.Answer.{proposed}
use Rattle.tree_laws.specs.Findings.Versions.{with_version}
use Rattle.schedule_text.specs.Tree as tree
use Rattle.schedule_calls.specs.Requests.{Move}
use Rattle.schedule_laws.specs.Versions.Versions.{of_text, made_of, Versions, started}
use Rattle.schedule_laws.specs.Versions.Versions.{version_at, version_of, held, with_step}
use Rattle.schedule_laws.specs.Versions.Places.{Sought, Got, Lost, Place, then_seek, moved_at, matched}
use Rattle.schedule_laws.specs.Versions.Places.{parent_at}
use Rattle.schedule_laws.specs.Versions.Lines.{Why, BadArguments, Progress, Went, Refused, target}
use Rattle.schedule_laws.specs.Versions.Lines.{owed_for, shown_step, checked_step, proposed_step, Ruled}
use Rattle.schedule_laws.specs.Versions.Lines.{Call, all_sought, ruled_step, found_step, called_on}
use Rattle.schedule_laws.specs.Versions.Lines.{called, binding, searched, held_place, is_instruction}
use Rattle.schedule_laws.specs.Versions.Lines.{emitting, Act, Faulty, Apply, Search, Moved, Emit}
use Rattle.schedule_laws.specs.Versions.Lines.{performed, Outcome, Done, Stopped}
use Rattle.schedule_run.specs.Runs.{LinesRun, ends, stops, goes}
use Rattle.schedule_run.proofs.Once.{went_same, refused_went}

-- ---- one line

-- it changes names alone, or there is one version more
pub data Change (v w : Versions) : Type 0 where
  named : w.unit ≡ v.unit → w.origins ≡ v.origins → Change v w
  made : (j : ℕ) (m : Plan)
      → w.unit ≡ with_version v.unit m.proc
      → w.origins ≡ v.origins ++ made_of j m ∷ []
      → Change v w

module _ (v : Versions) where
  abbrev Arrives : Progress → Type 0
  Arrives progress = (w : Versions) → progress ≡ Went w → Change v w

  refused : (why : Why) → Arrives (Refused why)
  refused why w h = absurd (refused_went h)

  went : (u : Versions) → Change v u → Arrives (Went u)
  went u change w h = subst (Change v) (went_same h) change

  shown_arrives : (name : List ℕ) (k : ℕ) (m : Plan) (o : Option unit_check.Cause)
      → Arrives (shown_step v name k m o)
  shown_arrives name k m None =
      went (with_step name k m (length (owed_for v m)) v) (made k m refl refl)
  shown_arrives name k m (Some (unit_check.NotListed fault)) = refused _
  shown_arrives name k m (Some (unit_check.NotShown what place verdict)) = refused _

  checked_arrives : (name : List ℕ) (k : ℕ) (m : Plan) (o : Option Fault)
      → Arrives (checked_step v name k m o)
  checked_arrives name k m None = shown_arrives name k m (first_open (owed_for v m))
  checked_arrives name k m (Some fault) = refused _

  proposed_arrives : (name : List ℕ) (k : ℕ) (t : Tried Plan) → Arrives (proposed_step v name k t)
  proposed_arrives name k (rule.Not cause) = refused _
  proposed_arrives name k (rule.Got m) =
      checked_arrives name k m (list_fault (with_version v.unit m.proc) m.proc)

  ruled_arrives : (name : List ℕ) (k : ℕ) (p : Procedure) (t : Tried Ruled)
      → Arrives (ruled_step v name k p t)
  ruled_arrives name k p (rule.Not cause) = refused _
  ruled_arrives name k p (rule.Got r) =
      proposed_arrives name k (proposed r.rule (target v k p) r.at)

  found_arrives : (name : List ℕ) (k : ℕ) (p : Procedure) (call : Call) (s : Sought (List Cursor))
      → Arrives (found_step v name k p call s)
  found_arrives name k p call (Lost why) = refused _
  found_arrives name k p call (Got cs) = ruled_arrives name k p (call.rule v (target v k p) cs)

  test_arrives : (b : Bool) (one : Progress) (why : Why) → Arrives one
      → Arrives (if b then one else Refused why)
  test_arrives true one why h = h
  test_arrives false one why h = refused why

  called_on_arrives : (name : List ℕ) (call : Call) (k : ℕ) (o : Option Procedure)
      → Arrives (called_on v name call k o)
  called_on_arrives name call k None = refused _
  called_on_arrives name call k (Some p) =
      test_arrives (call.named v) (found_step v name k p call (all_sought v k call.cursors)) _
      (found_arrives name k p call (all_sought v k call.cursors))

  called_arrives : (name : List ℕ) (call : Call) (o : Option ℕ) → Arrives (called v name call o)
  called_arrives name call None = refused _
  called_arrives name call (Some k) = called_on_arrives name call k (version_at v k)

  binding_arrives : (name : List ℕ) (s : Sought Place) → Arrives (binding v name s)
  binding_arrives name (Lost why) = refused _
  binding_arrives name (Got p) = went _ (named refl refl)

  searched_arrives : (name : List ℕ) (pattern : Pattern) (nth : ℕ) (moves : List Move)
      (o : Option ℕ) → Arrives (searched v name pattern nth moves o)
  searched_arrives name pattern nth moves None = refused _
  searched_arrives name pattern nth moves (Some j) =
      binding_arrives name (then_seek (matched v j pattern nth) (moved_at v moves))

  emitting_arrives : (o : Option ℕ) → Arrives (emitting v o)
  emitting_arrives None = refused _
  emitting_arrives (Some k) = by (is_instruction (version_at v k))
    where
      by : (b : Bool) → Arrives (if b then Refused BadArguments
          else Went (record v { emitted = v.emitted ++ k ∷ [] }))
      by true = refused _
      by false = went _ (named refl refl)

  pub act_changes : (a : Act) → Arrives (performed v a)
  act_changes (Faulty why) = refused why
  act_changes (Apply name of call) =
      test_arrives (call.formed v) (called v name call (version_of v of)) BadArguments
      (called_arrives name call (version_of v of))
  act_changes (Search name of pattern nth moves) =
      searched_arrives name pattern nth moves (version_of v of)
  act_changes (Moved name of moves) =
      binding_arrives name (then_seek (held_place (held v of)) (moved_at v moves))
  act_changes (Emit name) = emitting_arrives (version_of v name)

-- ---- lists with one more

get_old : {A : Type 0} (xs : List A) (y : A) (k : ℕ) → k < length xs
    → slice_get (xs ++ y ∷ []) k ≡ slice_get xs k
get_old [] y k h = absurd (none k h)
  where
    none : (k : ℕ) → k < 0 → ⊥
    none k h = omega arith
get_old (x ∷ xs) y zero h = refl
get_old (x ∷ xs) y (suc k) h = get_old xs y k (less h)
  where
    less : suc k < suc (length xs) → k < length xs
    less h = omega arith

pub get_last : {A : Type 0} (xs : List A) (y : A) → slice_get (xs ++ y ∷ []) (length xs) ≡ Some y
get_last [] y = refl
get_last (x ∷ xs) y = get_last xs y

side_of : (k n : ℕ) → k ≤ n → (k < n) ⊎ (k ≡ n)
side_of k n h = by (nat_lt k n) refl
  where
    by : (b : Bool) → nat_lt k n ≡ b → (k < n) ⊎ (k ≡ n)
    by true e = inl (grind arith)
    by false e = inr (grind arith)

-- ---- all lines

-- the versions of a unit stand behind its procedures, each made of another one
pub record IsGrown (unit : Program) (w : Versions) : Type 0 where
  pub fields : w.unit.fields ≡ unit.fields
  pub memories : w.unit.memories ≡ unit.memories
  pub made : List Procedure
  pub grown : w.unit.procedures ≡ unit.procedures ++ made
  pub count : length w.origins ≡ length w.unit.procedures
  pub in_text : (k : ℕ) → k < length unit.procedures → parent_at w k ≡ None
  pub of_step :
      (k : ℕ)
      → length unit.procedures ≤ k
      → k < length w.unit.procedures
      → (j : ℕ) × (parent_at w k ≡ Some j)

abbrev parent_of : Option Origin → Option ℕ
parent_of o = elim o as (λ o. Option ℕ) [ None ↦ None | Some o ↦ o.parent ]

no_parent : (ps : List Procedure) (k : ℕ) → parent_in (map (λ p. of_text) ps) k ≡ None
no_parent [] zero = refl
no_parent [] (suc k) = refl
no_parent (p ∷ ps) zero = refl
no_parent (p ∷ ps) (suc k) = no_parent ps k

as_long : (ps : List Procedure) → length (map (λ (p : Procedure). of_text) ps) ≡ length ps
as_long [] = refl
as_long (p ∷ ps) = ap suc (as_long ps)

pub started_is_grown : (unit : Program) (shown : ℕ) → IsGrown unit (started unit shown)
started_is_grown unit shown = record {
  fields = refl;
  memories = refl;
  made = [];
  grown = sym (append-nil unit.procedures);
  count = as_long unit.procedures;
  in_text = λ k h. no_parent unit.procedures k;
  of_step = λ k h i. absurd (none (length unit.procedures) k h i);
}
  where
    none : (n k : ℕ) → n ≤ k → k < n → ⊥
    none n k h i = omega arith

module _ (unit : Program) (v w : Versions) (g : IsGrown unit v) where
  still : w.unit ≡ v.unit → w.origins ≡ v.origins → IsGrown unit w
  still u o =
      let ps : w.unit.procedures ≡ v.unit.procedures = ap (λ (x : Program). x.procedures) u in
      let parents : (k : ℕ) → parent_at w k ≡ parent_at v k =
      λ k. ap (λ os. parent_of (slice_get os k)) o in
      record {
        fields = ap (λ (x : Program). x.fields) u ∙ g.fields;
        memories = ap (λ (x : Program). x.memories) u ∙ g.memories;
        made = g.made;
        grown = ps ∙ g.grown;
        count = ap length o ∙ g.count ∙ sym (ap length ps);
        in_text = λ k h. parents k ∙ g.in_text k h;
        of_step = λ k h i.
            let up = g.of_step k h (subst (λ n. k < n) (ap length ps) i) in
            (up.0, parents k ∙ up.1);
      }

  more : (j : ℕ) (m : Plan) → w.unit ≡ with_version v.unit m.proc
      → w.origins ≡ v.origins ++ made_of j m ∷ [] → IsGrown unit w
  more j m u o =
      let q = m.proc in
      let ps : w.unit.procedures ≡ v.unit.procedures ++ q ∷ [] =
      ap (λ (x : Program). x.procedures) u in
      let longer : length w.unit.procedures ≡ length v.unit.procedures + 1 =
      ap length ps ∙ length_push v.unit.procedures q in
      record {
        fields = ap (λ (x : Program). x.fields) u ∙ g.fields;
        memories = ap (λ (x : Program). x.memories) u ∙ g.memories;
        made = g.made ++ q ∷ [];
        grown = ps ∙ ap (λ l. l ++ q ∷ []) g.grown ∙ append_assoc unit.procedures g.made (q ∷ []);
        count =
            ap length o ∙ length_push v.origins (made_of j m) ∙ ap (λ n. n + 1) g.count ∙ sym longer;
        in_text = λ k h. old k (below k h) ∙ g.in_text k h;
        of_step = λ k h i. by k h (side_of k (length v.unit.procedures) (up_to k longer i));
      }
    where
      old : (k : ℕ) → k < length v.origins → parent_at w k ≡ parent_at v k
      old k h =
          ap (λ os. parent_of (slice_get os k)) o
          ∙ ap parent_of (get_old v.origins (made_of j m) k h)

      last : parent_at w (length v.origins) ≡ Some j
      last =
          ap (λ os. parent_of (slice_get os (length v.origins))) o
          ∙ ap parent_of (get_last v.origins (made_of j m))

      begins : length v.unit.procedures ≡ length unit.procedures + length g.made
      begins = ap length g.grown ∙ many unit.procedures
        where
          many : (xs : List Procedure) → length (xs ++ g.made) ≡ length xs + length g.made
          many [] = zero_plus (length g.made)
            where
              zero_plus : (n : ℕ) → n ≡ 0 + n
              zero_plus n = omega arith
          many (x ∷ xs) = ap suc (many xs) ∙ suc_plus (length xs) (length g.made)
            where
              suc_plus : (a b : ℕ) → suc (a + b) ≡ suc a + b
              suc_plus a b = omega arith

      below : (k : ℕ) → k < length unit.procedures → k < length v.origins
      below k h = omega (arith, h, begins, g.count)

      up_to : (k : ℕ) → length w.unit.procedures ≡ length v.unit.procedures + 1
          → k < length w.unit.procedures → k ≤ length v.unit.procedures
      up_to k e h = omega (arith, h, e)

      by : (k : ℕ) → length unit.procedures ≤ k
          → (k < length v.unit.procedures) ⊎ (k ≡ length v.unit.procedures)
          → (i : ℕ) × (parent_at w k ≡ Some i)
      by k h (inl less) =
          let up = g.of_step k h less in
          (up.0, old k (subst (λ n. k < n) (sym g.count) less) ∙ up.1)
      by k h (inr same) = (j, ap (parent_at w) (same ∙ sym g.count) ∙ last)

  changed : Change v w → IsGrown unit w
  changed (named u o) = still u o
  changed (made j m u o) = more j m u o

done_same : {v w : Versions} → Done v ≡ Done w → v ≡ w
done_same h = cc

pub stopped_done : {k : ℕ} {why : Why} {w : Versions} → Stopped k why ≡ Done w → ⊥
stopped_done h = cc

pub lines_grow : (unit : Program) (k : ℕ) (lines : List tree.Line) (v : Versions) (end : Outcome)
    (w : Versions) → LinesRun k lines v end → end ≡ Done w → IsGrown unit v → IsGrown unit w
lines_grow unit _ _ _ _ w (ends k v) e g = subst (IsGrown unit) (done_same e) g
lines_grow unit _ _ _ _ w (stops k line more v a why is h) e g = absurd (stopped_done e)
lines_grow unit _ _ _ _ w (goes k line more v u a end is h rest) e g =
    lines_grow unit (suc k) more u end w rest e (changed unit v u g (act_changes v a u h))
