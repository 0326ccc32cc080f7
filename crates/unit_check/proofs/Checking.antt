-- How the check goes on from procedure to procedure.
use Rattle.std.proofs.Common.{◌≡◌, ℕ, suc, ◌+◌, ◌^◌, ◌<◌, ◌&&◌, List, [], ◌∷◌, ◌++◌, length, drop, take, Option, Some, None, refl, sym, ap, ◌∙◌, arith, add-one, drop-cons, inl, ◌≤◌, ⊎_elim, All, subst}
use Rattle.std.specs.Prelude.{Err, slice_get, nat_lt}
use Rattle.std.proofs.lemmas.Bool.{and_parts, ltb-true}
use Rattle.std.proofs.lemmas.List.{take_more, take_all}
use Rattle.std.proofs.lemmas.Option.{slice_get_cases, slice_get_within, get_or_from_slice_get}
use Rattle.std.proofs.lemmas.List.Elements.{All-push}
use Rattle.exo_tree.specs.Tree.{Procedure, Program}
use Rattle.exo_meaning.specs.Units.{IsUnit}
use Rattle.affine_forms.specs.Affine.{HasNoIntegerPoint}
use Rattle.affine_systems.specs.Outcomes.{Owed}
use Rattle.bounds_check.specs.Obligations.{obligations_of}
use Rattle.unit_check.specs.Faults.{ShownProceduresDoNotFault, NothingFaults}
use Rattle.unit_check.specs.Checked.{Cause, Checked, Shown, Refused, cause_of, checked_from, checked}
use Rattle.unit_check.specs.Outcomes.{IsRefused, Answers}
use Rattle.unit_check.specs.declared.refused.UnitRefused.{UnitRefused}
use Rattle.unit_check.specs.declared.refused.Why.TheVariants as why

-- a number of the unit's procedures, of which there are few
pub few_procedures : (u : Program) → IsUnit u → length u.procedures < 2 ^ 31
few_procedures u is = ltb-true (length u.procedures) (2 ^ 31) (and_parts (nat_lt (length u.procedures) (2 ^ 31)) (nat_lt (length u.fields) (2 ^ 31) && nat_lt (length u.memories) (2 ^ 31)) is.counts).0

abbrev by_cause : Option Cause → ℕ → Checked → Checked
by_cause o k rest = elim o [ None ↦ rest | Some cause ↦ Refused k cause ]

no_cause : (o : Option Cause) (k : ℕ) (rest : Checked) → o ≡ None → by_cause o k rest ≡ rest
no_cause None k rest h = refl
no_cause (Some c) k rest h = cc

-- the procedure of that number stands before those behind it and behind those before it
pub record StandsAt (ps : List Procedure) (k : ℕ) (q : Procedure) : Type 0 where
  pub found : slice_get ps k ≡ Some q
  pub first : drop k ps ≡ q ∷ drop (k + 1) ps
  pub last : take (k + 1) ps ≡ take k ps ++ q ∷ []

pub stands_at : (ps : List Procedure) (k : ℕ) → k < length ps → (q : Procedure) × StandsAt ps k q
stands_at ps k h =
    ⊎_elim
    (λ x. (
      x.0,
      record {
        found = x.2;
        first = drop-cons ps k x.0 x.1 ∙ ap (λ (y : Procedure). y ∷ drop (suc k) ps) x.3 ∙ ap (λ (n : ℕ). x.0 ∷ drop n ps) (sym (add-one k));
        last = take_more ps k x.0 x.1 ∙ ap (λ (y : Procedure). take k ps ++ y ∷ []) x.3;
      },
    ))
    (λ x. absurd (let past : length ps ≤ k = x.0 in omega arith))
    (slice_get_cases ps k).1

goes_on : (u : Program) (k count n : ℕ) (q : Procedure) (rest : List Procedure) → cause_of u q ≡ None → n ≡ length (obligations_of u q)
    → checked_from u k count (q ∷ rest) ≡ checked_from u (k + 1) (count + n) rest
goes_on u k count n q rest none is =
    no_cause (cause_of u q) k (checked_from u (suc k) (count + length (obligations_of u q)) rest) none
    ∙ ap (λ (m : ℕ). checked_from u (suc k) (count + m) rest) (sym is)
    ∙ ap (λ (m : ℕ). checked_from u m (count + n) rest) (sym (add-one k))

pub memory_stops : (r : UnitRefused) (c : Checked) → r.why ≡ why.Memory → IsRefused r c
memory_stops r (Shown count) h = h
memory_stops r (Refused k cause) h = inl h

stops_by : (r : UnitRefused) (k : ℕ) (o : Option Cause) (rest : Checked) → Answers {A = ℕ} (Err r) k o → IsRefused r (by_cause o k rest)
stops_by r k None rest h = memory_stops r rest h
stops_by r k (Some cause) rest h = h

stops : (u : Program) (k count : ℕ) (q : Procedure) (rest : List Procedure) (r : UnitRefused) → Answers {A = ℕ} (Err r) k (cause_of u q) → IsRefused r (checked_from u k count (q ∷ rest))
stops u k count q rest r h = stops_by r k (cause_of u q) (checked_from u (suc k) (count + length (obligations_of u q)) rest) h

-- ---- the loop over the procedures

pub went_on : (u : Program) (k count n : ℕ) → k < length u.procedures → checked u ≡ checked_from u k count (drop k u.procedures)
    → ((q : Procedure) → slice_get u.procedures k ≡ Some q → cause_of u q ≡ None) → ((q : Procedure) → slice_get u.procedures k ≡ Some q → n ≡ length (obligations_of u q))
    → checked u ≡ checked_from u (k + 1) (count + n) (drop (k + 1) u.procedures)
went_on u k count n h so_far none is =
    let at = stands_at u.procedures k h in
    so_far ∙ ap (checked_from u k count) at.1.first ∙ goes_on u k count n at.0 (drop (k + 1) u.procedures) (none at.0 at.1.found) (is at.0 at.1.found)

pub stopped : (u : Program) (k count : ℕ) (r : UnitRefused) → k < length u.procedures → checked u ≡ checked_from u k count (drop k u.procedures)
    → ((q : Procedure) → slice_get u.procedures k ≡ Some q → Answers {A = ℕ} (Err r) k (cause_of u q)) → IsRefused r (checked u)
stopped u k count r h so_far refused =
    let at = stands_at u.procedures k h in
    subst (IsRefused r) (sym (so_far ∙ ap (checked_from u k count) at.1.first)) (stops u k count at.0 (drop (k + 1) u.procedures) r (refused at.0 at.1.found))

-- what a procedure owes has no integer point
abbrev pub Holds : Program → Procedure → Type 0
Holds u p = All (λ (o : Owed). HasNoIntegerPoint o.system) (obligations_of u p)

pub more_hold : (u : Program) (k : ℕ) → k < length u.procedures → All (Holds u) (take k u.procedures) → ((q : Procedure) → slice_get u.procedures k ≡ Some q → Holds u q)
    → All (Holds u) (take (k + 1) u.procedures)
more_hold u k h before holds =
    let at = stands_at u.procedures k h in
    subst (All (Holds u)) (sym at.1.last) (All-push (Holds u) (take k u.procedures) at.0 before (holds at.0 at.1.found))

pub all_hold : (u : Program) (k : ℕ) → length u.procedures ≤ k → All (Holds u) (take k u.procedures) → All (Holds u) u.procedures
all_hold u k h before = subst (All (Holds u)) (take_all k u.procedures h) before

-- where nothing that is owed has an integer point, nothing faults
pub nothing_faults : ShownProceduresDoNotFault → (u : Program) → IsUnit u → All (Holds u) u.procedures → NothingFaults u
nothing_faults law u is hold k = law u k is (λ j leads p here. subst (Holds u) (get_or_from_slice_get u.procedures j p p here) (hold j p (slice_get_within u.procedures j p here)))
