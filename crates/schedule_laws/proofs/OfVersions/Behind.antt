-- What each line leaves, and so what all of them leave: names hold versions that are there.
use Rattle.std.proofs.Common.{◌≡◌, ◌+◌, ◌<◌, ◌≤◌, ℕ, zero, suc, Bool, true, false}
use Rattle.std.proofs.Common.{List, [], ◌∷◌, ◌++◌, map, length, Option, Some, None, refl, sym, ap}
use Rattle.std.proofs.Common.{◌∙◌, ◌==◌, ap₂, subst, arith}
use Rattle.std.specs.Str.{bytes_eq}
use Rattle.std.specs.Prelude.{⊤, slice_get, if◌then◌else◌}
use Rattle.exo_tree.specs.Tree.{Procedure}
use Rattle.exo_meaning.specs.Orders.{Each}
use Rattle.bounds_check.specs.Obligations.{Fault, list_fault}
use Rattle.unit_check.specs.Checked as unit_check
use Rattle.unit_check.specs.Checked.{first_open}
use Rattle.cursor_forward.specs.Search.Patterns.{Pattern}
use Rattle.cursor_forward.specs.Cursors.{Cursor}
use Rattle.cursor_forward.specs.Proposals.{Plan}
use Rattle.tree_laws.specs.Findings.Versions.{with_version}
use Rattle.step_rules.specs.Rule.{Tried}
use Rattle.step_rules.specs.Rule as rule
use Rattle.step_rules.specs.Answer.{proposed}
use Rattle.schedule_calls.specs.Requests.{Move}
use Rattle.schedule_laws.specs.Versions.Versions.{Held, Version, At}
use Rattle.schedule_laws.specs.Versions.Versions.{Versions, names_from, started, version_at, held_after, held}
use Rattle.schedule_laws.specs.Versions.Versions.{as_version, version_of, bound, with_step}
use Rattle.schedule_laws.specs.Versions.Places.{Sought, Got, Lost, Place, then_seek}
use Rattle.schedule_laws.specs.Versions.Places.{moved_at, matched}
use Rattle.schedule_laws.specs.Versions.Lines.{Why, BadArguments, Progress, Went, Refused, owed_for, target}
use Rattle.schedule_laws.specs.Versions.Lines.{shown_step, checked_step, proposed_step, Ruled, Call}
use Rattle.schedule_laws.specs.Versions.Lines.{all_sought, ruled_step, found_step, called_on, called}
use Rattle.schedule_laws.specs.Versions.Lines.{binding, searched, held_place, is_instruction, emitting}
use Rattle.schedule_laws.specs.Versions.Lines.{Act, Faulty, Apply, Search, Moved, Emit, performed}
use Rattle.schedule_laws.specs.Versions.Lines.{Outcome, Done, run_from, behind}
use Rattle.schedule_laws.specs.Versions.Behind.{RunsHoldVersions}

-- ---- one line

-- a name holds a cursor more, a version more is emitted, or there is a version more
data Grows (v : Versions) : Versions → Type 0 where
  binds : (name : List ℕ) (j : ℕ) (c : Cursor) → Grows v (bound name (At j c) v)
  emits : (k : ℕ) → Grows v (record v { emitted = v.emitted ++ k ∷ [] })
  steps : (name : List ℕ) (k : ℕ) (m : Plan) (shown : ℕ) → Grows v (with_step name k m shown v)

went_same : {v w : Versions} → Went v ≡ Went w → v ≡ w
went_same h = cc

refused_went : {why : Why} {w : Versions} → Refused why ≡ Went w → ⊥
refused_went h = cc

module _ (v : Versions) where
  abbrev Arrives : Progress → Type 0
  Arrives progress = (w : Versions) → progress ≡ Went w → Grows v w

  refused : (why : Why) → Arrives (Refused why)
  refused why w h = absurd (refused_went h)

  went : (u : Versions) → Grows v u → Arrives (Went u)
  went u grows w h = subst (λ z. Grows v z) (went_same h) grows

  test_arrives : (b : Bool) (one : Progress) (why : Why) → Arrives one
      → Arrives (if b then one else Refused why)
  test_arrives true one why h = h
  test_arrives false one why h = refused why

  -- ---- a step

  shown_arrives : (name : List ℕ) (k : ℕ) (m : Plan) (o : Option unit_check.Cause)
      → Arrives (shown_step v name k m o)
  shown_arrives name k m None =
      went (with_step name k m (length (owed_for v m)) v) (steps name k m (length (owed_for v m)))
  shown_arrives name k m (Some (unit_check.NotListed fault)) = refused _
  shown_arrives name k m (Some (unit_check.NotShown what place verdict)) = refused _

  checked_arrives : (name : List ℕ) (k : ℕ) (m : Plan) (o : Option Fault)
      → Arrives (checked_step v name k m o)
  checked_arrives name k m None = shown_arrives name k m (first_open (owed_for v m))
  checked_arrives name k m (Some fault) = refused _

  proposed_arrives : (name : List ℕ) (k : ℕ) (t : Tried Plan) → Arrives (proposed_step v name k t)
  proposed_arrives name k (rule.Not cause) = refused _
  proposed_arrives name k (rule.Got m) =
      checked_arrives name k m (list_fault (with_version v.unit m.proc) m.proc)

  -- ---- operators

  module _ (name : List ℕ) (call : Call) where
    ruled_arrives : (k : ℕ) (p : Procedure) (t : Tried Ruled) → Arrives (ruled_step v name k p t)
    ruled_arrives k p (rule.Not cause) = refused _
    ruled_arrives k p (rule.Got r) = proposed_arrives name k (proposed r.rule (target v k p) r.at)

    found_arrives : (k : ℕ) (p : Procedure) (s : Sought (List Cursor))
        → Arrives (found_step v name k p call s)
    found_arrives k p (Lost why) = refused _
    found_arrives k p (Got cs) = ruled_arrives k p (call.rule v (target v k p) cs)

    called_on_arrives : (k : ℕ) (o : Option Procedure) → Arrives (called_on v name call k o)
    called_on_arrives k None = refused _
    called_on_arrives k (Some p) =
        test_arrives (call.named v) (found_step v name k p call (all_sought v k call.cursors)) _
        (found_arrives k p (all_sought v k call.cursors))

    called_arrives : (o : Option ℕ) → Arrives (called v name call o)
    called_arrives None = refused _
    called_arrives (Some k) = called_on_arrives k (version_at v k)

  -- ---- names

  binding_arrives : (name : List ℕ) (s : Sought Place) → Arrives (binding v name s)
  binding_arrives name (Lost why) = refused _
  binding_arrives name (Got p) = went _ (binds name p.version p.cursor)

  searched_arrives : (name : List ℕ) (pattern : Pattern) (nth : ℕ) (moves : List Move) (o : Option ℕ)
      → Arrives (searched v name pattern nth moves o)
  searched_arrives name pattern nth moves None = refused _
  searched_arrives name pattern nth moves (Some j) =
      binding_arrives name (then_seek (matched v j pattern nth) (moved_at v moves))

  emitting_arrives : (o : Option ℕ) → Arrives (emitting v o)
  emitting_arrives None = refused _
  emitting_arrives (Some k) = by (is_instruction (version_at v k))
    where
      by : (b : Bool) → Arrives (if b then Refused BadArguments
          else Went (record v { emitted = v.emitted ++ k ∷ [] }))
      by true = refused _
      by false = went _ (emits k)

  act_arrives : (a : Act) → Arrives (performed v a)
  act_arrives (Faulty why) = refused why
  act_arrives (Apply name of call) =
      test_arrives (call.formed v) (called v name call (version_of v of)) BadArguments
      (called_arrives name call (version_of v of))
  act_arrives (Search name of pattern nth moves) =
      searched_arrives name pattern nth moves (version_of v of)
  act_arrives (Moved name of moves) =
      binding_arrives name (then_seek (held_place (held v of)) (moved_at v moves))
  act_arrives (Emit name) = emitting_arrives (version_of v name)

-- ---- all lines

done_same : {v w : Versions} → Done v ≡ Done w → v ≡ w
done_same h = cc

-- what each line keeps holds behind all lines
module _ (Holds : Versions → Type 0) (keeps : (v w : Versions) → Grows v w → Holds v → Holds w) where
  goes_on : (k : ℕ) (rest : Versions → Outcome) (progress : Progress) (v w : Versions)
      → ((u : Versions) → progress ≡ Went u → Grows v u) → Holds v
      → ((u : Versions) → Holds u → rest u ≡ Done w → Holds w)
      → behind k rest progress ≡ Done w → Holds w
  goes_on k rest (Went u) v w arrives h on e = on u (keeps v u (arrives u refl) h) e
  goes_on k rest (Refused why) v w arrives h on e = absurd (no e)
    where
      no : behind k rest (Refused why) ≡ Done w → ⊥
      no e = cc

  held_behind : (k : ℕ) (acts : List Act) (v w : Versions) → Holds v → run_from k acts v ≡ Done w
      → Holds w
  held_behind k [] v w h e = subst Holds (done_same e) h
  held_behind k (a ∷ more) v w h e =
      goes_on k (run_from (k + 1) more) (performed v a) v w (act_arrives v a) h
      (λ u g f. held_behind (k + 1) more u w g f) e

-- ---- names

-- a version below that number, or a cursor
abbrev IsBelow : ℕ → Held → Type 0
IsBelow n (Version k) = k < n
IsBelow n (At k c) = ⊤

abbrev AreBelow : ℕ → List (List ℕ × Held) → Type 0
AreBelow n names = Each (λ (b : List ℕ × Held). IsBelow n b.1) names

abbrev NamesAreBelow : Versions → Type 0
NamesAreBelow v = AreBelow (length v.unit.procedures) v.names

one_longer : {A : Type 0} (xs : List A) (x : A) → length (xs ++ x ∷ []) ≡ suc (length xs)
one_longer [] x = refl
one_longer (y ∷ ys) x = ap suc (one_longer ys x)

still_below : (n : ℕ) (h : Held) → IsBelow n h → IsBelow (suc n) h
still_below n (Version k) l = omega (arith, l)
still_below n (At k c) l = tt

all_still_below : (n : ℕ) (names : List (List ℕ × Held)) → AreBelow n names → AreBelow (suc n) names
all_still_below n [] h = tt
all_still_below n (b ∷ more) h = (still_below n b.1 h.0, all_still_below n more h.1)

one_below : (n : ℕ) (names : List (List ℕ × Held)) (b : List ℕ × Held) → AreBelow n names
    → IsBelow n b.1 → AreBelow n (names ++ b ∷ [])
one_below n [] b h k = (k, tt)
one_below n (a ∷ more) b h k = (h.0, one_below n more b h.1 k)

names_step : (v w : Versions) → Grows v w → NamesAreBelow v → NamesAreBelow w
names_step v _ (binds name j c) h =
    one_below (length v.unit.procedures) v.names (name, At j c) h tt
names_step v _ (emits k) h = h
names_step v _ (steps name k m shown) h =
    let n = length v.unit.procedures in
    subst (λ l. AreBelow l (v.names ++ (name, Version n) ∷ []))
    (sym (one_longer v.unit.procedures m.proc))
    (one_below (suc n) v.names (name, Version n) (all_still_below n v.names h) (omega arith))

names_begin : (n k : ℕ) (ps : List Procedure) → k + length ps ≤ n → AreBelow n (names_from k ps)
names_begin n k [] h = tt
names_begin n k (p ∷ ps) h = (first n k (length ps) h, names_begin n (suc k) ps (next n k (length ps) h))
  where
    first : (n k l : ℕ) → k + suc l ≤ n → k < n
    first n k l h = omega (arith, h)

    next : (n k l : ℕ) → k + suc l ≤ n → suc k + l ≤ n
    next n k l h = omega (arith, h)

-- what a name holds is among these
held_below : (n : ℕ) (found : Option Held) (names : List (List ℕ × Held)) (name : List ℕ) (k : ℕ)
    → AreBelow n names → ((j : ℕ) → found ≡ Some (Version j) → j < n)
    → as_version (held_after found names name) ≡ Some k → k < n
held_below n None [] name k h f e = cc
held_below n (Some (Version j)) [] name k h f e =
    subst (λ i. i < n) (same_number e) (f j refl)
  where
    same_number : {a b : ℕ} → Some a ≡ Some b → a ≡ b
    same_number e = cc
held_below n (Some (At j c)) [] name k h f e = cc
held_below n found (b ∷ more) name k h f e =
    by (bytes_eq b.0 name) (held_below n (Some b.1) more name k h.1 (of_binding b.1 h.0))
    (held_below n found more name k h.1 f) e
  where
    same_version : {i j : ℕ} → Some (Version i) ≡ Some (Version j) → i ≡ j
    same_version e = cc

    of_binding : (x : Held) → IsBelow n x → (j : ℕ) → Some x ≡ Some (Version j) → j < n
    of_binding (Version i) l j e = subst (λ i. i < n) (same_version e) l
    of_binding (At i c) l j e = cc

    by : (t : Bool) → (as_version (held_after (Some b.1) more name) ≡ Some k → k < n)
        → (as_version (held_after found more name) ≡ Some k → k < n)
        → as_version (held_after (if t then Some b.1 else found) more name) ≡ Some k → k < n
    by true one other e = one e
    by false one other e = other e

none_found : (n j : ℕ) → None ≡ Some (Version j) → j < n
none_found n j e = cc

pub runs_hold_versions : RunsHoldVersions
runs_hold_versions text shown acts v name k ran is =
    let n = length v.unit.procedures in
    held_below n None v.names name k
    (held_behind NamesAreBelow names_step 0 acts (started text shown) v
    (names_begin (length text.procedures) 0 text.procedures (omega arith)) ran)
    (λ j e. none_found n j e) is
