-- What is open of obligations that come in parts.
use Rattle.std.proofs.Common.{◌≡◌, ℕ, suc, ◌+◌, Bool, true, false, cond, not, List, [], ◌∷◌, ◌++◌}
use Rattle.std.proofs.Common.{map, Option, Some, None, Result, Ok, Err, All}
use Rattle.std.proofs.Common.{refl, sym, ap, ◌∙◌, subst, arith}
use Rattle.std.specs.Prelude.{if◌then◌else◌, slice_get, IfOk, OnOk, is_ok}
use Rattle.std.specs.List.{AllByRecursion, position_or_len}
use Rattle.std.proofs.lemmas.List.{map-append}
use Rattle.std.proofs.lemmas.List.Elements.{recursion_from_All, All-from_recursion}
use Rattle.affine_forms.specs.Affine.{Constraints, HasNoIntegerPoint}
use Rattle.affine_systems.specs.Outcomes.{Owed, plain_obligation}
use Rattle.affine_systems.specs.declared.obligation.Obligation.{Obligation}
use Rattle.affine_prover.specs.Elimination.{elimination}
use Rattle.affine_prover.specs.declared.answer.Verdict.{Verdict}
use Rattle.ob_check.specs.Answers.{is_refused, answer_at, answer_of, ShownHasNoPoint}
use Rattle.ob_check.specs.Parts.{AreTaken}
use Rattle.ob_check.specs.Systems.{systems_of}
use Rattle.ob_check.specs.declared.answer.Answer.{Answer}
use Rattle.ob_check.specs.declared.answer.Answer.TheVariants.{AllShown}
use Rattle.ob_check.specs.declared.cache.Cache.{Cache}
use Rattle.ob_check.specs.declared.parts.Parts.{Parts}
use Rattle.unit_check.proofs.Caching.{plain_systems}
use Rattle.unit_check.specs.Cached.{systems_in}
use Rattle.unit_check.specs.Checked.{Cause, NotShown, first_open}
use Rattle.unit_check.specs.Outcomes.{Shows}
use Rattle.unit_check.specs.Parts.{AreShown}
use Rattle.unit_check.specs.declared.showing.Showing.{Showing}
use Rattle.unit_check.specs.declared.refused.Why.{Why}
use Rattle.unit_check.specs.declared.refused.Why.TheVariants as why

-- the systems of both parts
pub systems_on : (os ps : List Owed) → systems_in (os ++ ps) ≡ systems_in os ++ systems_in ps
systems_on os ps = map-append (λ (o : Owed). o.system) os ps

-- where none of the first part is open, the first of the second is the first of both
pub open_behind : (os ps : List Owed) → first_open os ≡ None → first_open (os ++ ps) ≡ first_open ps
open_behind [] ps h = refl
open_behind (o ∷ os) ps h = by (is_refused (elimination o.system)) h (open_behind os ps)
  where
    by : (b : Bool) → (if b then Some (NotShown o.what o.place (elimination o.system)) else first_open os) ≡ None
        → (first_open os ≡ None → first_open (os ++ ps) ≡ first_open ps)
        → (if b then Some (NotShown o.what o.place (elimination o.system)) else first_open (os ++ ps)) ≡ first_open ps
    by true k next = cc
    by false k next = next k

-- one of the first part stays the first
pub open_stays : (os ps : List Owed) (c : Cause) → first_open os ≡ Some c → first_open (os ++ ps) ≡ Some c
open_stays [] ps c h = cc
open_stays (o ∷ os) ps c h = by (is_refused (elimination o.system)) h (open_stays os ps c)
  where
    by : (b : Bool) → (if b then Some (NotShown o.what o.place (elimination o.system)) else first_open os) ≡ Some c
        → (first_open os ≡ Some c → first_open (os ++ ps) ≡ Some c)
        → (if b then Some (NotShown o.what o.place (elimination o.system)) else first_open (os ++ ps)) ≡ Some c
    by true k next = k
    by false k next = next k

-- what a part shows behind one that is shown
pub shows_behind : {A : Type 0} (r : Result A Why) (os ps : List Owed) → first_open os ≡ None → Shows r (first_open ps) → Shows r (first_open (os ++ ps))
shows_behind r os ps h s = subst (Shows r) (sym (open_behind os ps h)) s

-- what is not shown stays so
pub shows_still : (A : Type 0) (w : Why) (os ps : List Owed) → Shows {A = A} (Err w) (first_open os) → Shows {A = A} (Err w) (first_open (os ++ ps))
shows_still A (why.Check e) os ps s = absurd s
shows_still A (why.NotShown what place verdict) os ps s = open_stays os ps (NotShown what place verdict) s
shows_still A why.Memory os ps s = tt

-- ---- parts in memory, and what is shown of them

abbrev Entries : Type 0
Entries = List (Constraints × Verdict)

-- a part in memory and the plain one
pub plain_taken : (os : List Obligation) (es : Entries) (ss : List Constraints) (c : Cache) (p : Parts)
    → AreTaken es (ss ++ systems_of os) c p
    → AreTaken es (ss ++ systems_in (map plain_obligation os)) c p
plain_taken os es ss c p h =
    subst (λ (l : List Constraints). AreTaken es (ss ++ l) c p) (plain_systems os) h

-- what an answer that is good says
shows_none : (r : Result (Unit {0}) Why) (f : Option Cause) → is_ok r ≡ true → Shows r f → f ≡ None
shows_none (Ok t) f good h = h
shows_none (Err w) f good h = cc

holds_so : (r : Result (Unit {0}) Why) (P : Type 0) → is_ok r ≡ true → IfOk r (λ _. P) → P
holds_so (Ok t) P good h = h
holds_so (Err w) P good h = cc

if_ok : (r : Result (Unit {0}) Why) (P : Type 0) → OnOk r P → IfOk r (λ _. P)
if_ok (Ok t) P h = h
if_ok (Err w) P h = tt

if_taken : (r : Result (Unit {0}) Why) (es : Entries) (ss ps : List Constraints) (c : Cache)
    (p : Parts)
    → ss ≡ ps
    → OnOk r (AreTaken es ss c p)
    → IfOk r (λ _. AreTaken es ps c p)
if_taken (Ok t) es ss ps c p is h = subst (λ (l : List Constraints). AreTaken es l c p) is h
if_taken (Err w) es ss ps c p is h = tt

-- a part comes behind what is shown
pub shown_behind : (es : Entries) (os ps : List Owed) (c d : Cache) (s t : Showing)
    → is_ok s.found ≡ true
    → Shows t.found (first_open ps)
    → ((ss : List Constraints)
    → AreTaken es ss c s.parts
    → OnOk t.found (AreTaken es (ss ++ systems_in ps) d t.parts))
    → AreShown es os c s
    → AreShown es (os ++ ps) d t
shown_behind es os ps c d s t good shows more h = record {
  exact = shows_behind t.found os ps (shows_none s.found (first_open os) good h.exact) shows;
  taken =
      if_taken t.found es (systems_in os ++ systems_in ps) (systems_in (os ++ ps)) d t.parts
      (sym (systems_on os ps))
      (more (systems_in os)
      (holds_so s.found (AreTaken es (systems_in os) c s.parts) good h.taken));
}

still_refused : (r : Result (Unit {0}) Why) (os ps : List Owed)
    → is_ok r ≡ false
    → Shows r (first_open os)
    → Shows r (first_open (os ++ ps))
still_refused (Ok t) os ps bad h = cc
still_refused (Err w) os ps bad h = shows_still (Unit {0}) w os ps h

not_so : (r : Result (Unit {0}) Why) (P : Type 0) → is_ok r ≡ false → IfOk r (λ _. P)
not_so (Ok t) P bad = cc
not_so (Err w) P bad = tt

-- one that comes behind what is not shown changes nothing
pub shown_still : (es : Entries) (os ps : List Owed) (c : Cache) (s : Showing)
    → is_ok s.found ≡ false
    → AreShown es os c s
    → AreShown es (os ++ ps) c s
shown_still es os ps c s bad h = record {
  exact = still_refused s.found os ps bad h.exact;
  taken = not_so s.found (AreTaken es (systems_in (os ++ ps)) c s.parts) bad;
}

-- ---- the end

-- the answer on one verdict more, by whether that is refused
abbrev answer_with : Bool → Verdict → List Verdict → Answer
answer_with b v vs =
    answer_at (cond (not b) (1 + position_or_len is_refused vs) 0)
    (slice_get (v ∷ vs) (cond (not b) (1 + position_or_len is_refused vs) 0))

one_more : (v : Verdict) (vs : List Verdict) (j : ℕ)
    → answer_at (1 + j) (slice_get (v ∷ vs) (1 + j)) ≡ answer_at (suc j) (slice_get vs j)
one_more v vs j =
    ap (λ (i : ℕ). answer_at i (slice_get (v ∷ vs) i)) (let e : 1 + j ≡ suc j = omega arith in e)

all_at : (i j : ℕ) (o : Option Verdict) → answer_at i o ≡ AllShown → answer_at j o ≡ AllShown
all_at i j None h = refl
all_at i j (Some v) h = cc

all_by : (b : Bool) (v : Verdict) (vs : List Verdict) (c : Cause) (rest : Option Cause)
    → (rest ≡ None → answer_of vs ≡ AllShown)
    → (if b then Some c else rest) ≡ None
    → answer_with b v vs ≡ AllShown
all_by true v vs c rest next h = cc
all_by false v vs c rest next h =
    let j = position_or_len is_refused vs in
    one_more v vs j ∙ all_at j (suc j) (slice_get vs j) (next h)

-- where none is open, each is shown
all_shown : (os : List Owed)
    → first_open os ≡ None
    → answer_of (map elimination (systems_in os)) ≡ AllShown
all_shown [] h = refl
all_shown (o ∷ os) h =
    all_by (is_refused (elimination o.system)) (elimination o.system)
    (map elimination (systems_in os)) (NotShown o.what o.place (elimination o.system))
    (first_open os) (all_shown os) h

no_points : (os : List Owed)
    → AllByRecursion HasNoIntegerPoint (systems_in os)
    → AllByRecursion (λ (o : Owed). HasNoIntegerPoint o.system) os
no_points [] h = tt
no_points (o ∷ os) h = (h.0, no_points os h.1)

-- the parts together have no integer point
pub none_has_point : (os : List Owed) (a : Answer)
    → first_open os ≡ None
    → a ≡ answer_of (map elimination (systems_in os))
    → ShownHasNoPoint (systems_in os) a
    → All (λ (o : Owed). HasNoIntegerPoint o.system) os
none_has_point os a none is h =
    All-from_recursion (λ (o : Owed). HasNoIntegerPoint o.system) os
    (no_points os
    (recursion_from_All HasNoIntegerPoint (systems_in os) (h (is ∙ all_shown os none))))

-- what was found, by what it is
pub found_is : (r : Result (Unit {0}) Why) (es : Entries) (os : List Owed) (c : Cache)
    (s : Showing)
    → s.found ≡ r
    → AreShown es os c s
    → Shows r (first_open os) × IfOk r (λ _. AreTaken es (systems_in os) c s.parts)
found_is r es os c s is h =
    subst (λ (f : Result (Unit {0}) Why). Shows f (first_open os)
    × IfOk f (λ _. AreTaken es (systems_in os) c s.parts))
    is (h.exact, h.taken)
