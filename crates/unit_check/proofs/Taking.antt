-- How a procedure's obligations are taken part by part.
use Rattle.std.proofs.Common.{◌≡◌, ◌≤◌, ℕ, ◌<◌, ◌-◌, List, [], ◌++◌, map, length, Option, Some}
use Rattle.std.proofs.Common.{None, Result, Ok, Err, All, refl, sym, ap, ◌∙◌, subst, arith, Global}
use Rattle.std.proofs.Common.{inr, true, nat_lt}
use Rattle.std.proofs.lemmas.Bool.Decides.{nat_tests}
use Rattle.std.specs.Prelude.{Vec}
use Rattle.std.specs.Result.{IsErrAnd}
use Rattle.exo_tree.specs.Tree.{Procedure, Program}
use Rattle.affine_forms.specs.Affine.{Constraints, HasNoIntegerPoint}
use Rattle.affine_systems.specs.Outcomes.{Owed, plain_obligation}
use Rattle.affine_systems.specs.declared.obligation.Obligation.{Obligation}
use Rattle.affine_prover.specs.declared.answer.Verdict.{Verdict}
use Rattle.check_claims.specs.Places.{places_of}
use Rattle.ob_check.specs.Entries.{discharged}
use Rattle.ob_check.specs.Held.{held}
use Rattle.ob_check.specs.declared.cache.Cache.{Cache}
use Rattle.bounds_check.specs.Obligations.{list_fault, obligations_of}
use Rattle.bounds_check.specs.Outcomes.{IsRefusal}
use Rattle.bounds_check.specs.Parts.{IsListed, GoesOn, IsWhole, PartListed, listed_of, owed_before}
use Rattle.bounds_check.specs.Parts.{unit_of, proc_of, BeginsListing}
use Rattle.bounds_check.specs.declared.error.CheckError.{CheckError}
use Rattle.bounds_check.specs.declared.listing.Listing.{Listing}
use Rattle.unit_check.specs.Cached.{systems_in}
use Rattle.unit_check.specs.Checked.{Cause, NotShown, first_open, cause_of}
use Rattle.unit_check.specs.Outcomes.{IsCause, Answers, Shows, place_in}
use Rattle.unit_check.specs.Parts.{AreAllTaken, AreShown, ShowsAll, TakesAll}
use Rattle.unit_check.specs.declared.refused.UnitRefused.{UnitRefused}
use Rattle.unit_check.specs.declared.refused.Why.{Why}
use Rattle.unit_check.specs.declared.refused.Why.TheVariants as why
use Rattle.unit_check.specs.declared.showing.Showing.{Showing}
use Rattle.unit_check.proofs.Listing.{for_memory, cause_listed, few_owed}

abbrev Entries : Type 0
Entries = List (Constraints × Verdict)

-- ---- how the listing goes on

goes_still : (a b c : Listing) → GoesOn a b → GoesOn b c → GoesOn a c
goes_still a b c h k = record {
  unit = k.unit ∙ h.unit;
  proc = k.proc ∙ h.proc;
  listed = k.listed;
}

-- what is refused of the later listing is refused of the first
pub refused_of : (e : CheckError) (a b : Listing)
    → GoesOn a b
    → IsRefusal e (list_fault (unit_of b) (proc_of b))
    → IsRefusal e (list_fault (unit_of a) (proc_of a))
refused_of e a b h k =
    subst (λ (u : Program). IsRefusal e (list_fault u (proc_of a))) h.unit
    (subst (λ (p : Procedure). IsRefusal e (list_fault (unit_of b) p)) h.proc k)

abbrev pub places_left : Listing → ℕ
places_left l = length (places_of (unit_of l) (proc_of l)) - l.next

pub fewer_left : (a b : Listing) (v : Vec Obligation Global)
    → PartListed {A = Global} (Ok v) a b
    → places_left b < places_left a
fewer_left a b v h =
    let same : length (places_of (unit_of b) (proc_of b)) ≡ length (places_of (unit_of a) (proc_of a)) =
    ap (λ (u : Program). length (places_of u (proc_of b))) h.0.unit
    ∙ ap (λ (p : Procedure). length (places_of (unit_of a) p)) h.0.proc in
    let within = h.2 in
    let on = h.3 in
    omega arith

-- ---- the part in hand

-- all parts but the one in hand are shown
pub record IsInHand (start now : Listing) (c₀ c : Cache) (s₀ s : Showing)
    (part : List Obligation) : Type 0 where
  pub goes : GoesOn start now
  pub shown :
      (es : Entries)
      → AreShown es (listed_of start) c₀ s₀
      → (os : List Owed) × (listed_of now ≡ os ++ map plain_obligation part) × AreShown es os c s

pub first_in_hand : (a b : Listing) (c : Cache) (s : Showing) (v : Vec Obligation Global)
    → PartListed {A = Global} (Ok v) a b
    → IsInHand a b c c s s v.items
first_in_hand a b c s v h = record {
  goes = h.0;
  shown = λ es so. (listed_of a, h.1, so);
}

pub next_in_hand : (start a b : Listing) (c₀ c d : Cache) (s₀ s t : Showing) (part : List Obligation)
    (v : Vec Obligation Global)
    → IsInHand start a c₀ c s₀ s part
    → PartListed {A = Global} (Ok v) a b
    → ((es : Entries) (os : List Owed)
    → AreShown es os c s
    → AreShown es (os ++ map plain_obligation part) d t)
    → IsInHand start b c₀ d s₀ t v.items
next_in_hand start a b c₀ c d s₀ s t part v was h more = record {
  goes = goes_still start a b was.goes h.0;
  shown = λ es so.
      let w = was.shown es so in (
        w.0 ++ map plain_obligation part,
        h.1 ∙ ap (λ (l : List Owed). l ++ map plain_obligation v.items) w.1,
        more es w.0 w.2,
      );
}

pub whole : (a b : Listing) → GoesOn a b → IsWhole b
    → (list_fault (unit_of a) (proc_of a) ≡ None)
    × (listed_of b ≡ obligations_of (unit_of a) (proc_of a))
whole a b h k =
    let same : list_fault (unit_of b) (proc_of b) ≡ list_fault (unit_of a) (proc_of a) =
    ap (λ (u : Program). list_fault u (proc_of b)) h.unit
    ∙ ap (λ (p : Procedure). list_fault (unit_of a) p) h.proc in
    let owed : obligations_of (unit_of b) (proc_of b) ≡ obligations_of (unit_of a) (proc_of a) =
    ap (λ (u : Program). obligations_of u (proc_of b)) h.unit
    ∙ ap (λ (p : Procedure). obligations_of (unit_of a) p) h.proc in
    (sym same ∙ k.0, k.1 ∙ owed)

pub last_taken : (start now : Listing) (c₀ c d : Cache) (s₀ s t : Showing) (part : List Obligation)
    → IsInHand start now c₀ c s₀ s part
    → IsWhole now
    → ((es : Entries) (os : List Owed)
    → AreShown es os c s
    → AreShown es (os ++ map plain_obligation part) d t)
    → (es : Entries)
    → AreShown es (listed_of start) c₀ s₀
    → TakesAll {A = Unit {0}} (Ok tt) es start now d t
last_taken start now c₀ c d s₀ s t part was all more es so =
    let w = was.shown es so in
    let is = whole start now was.goes all in
    record {
      goes = was.goes;
      none = is.0;
      owed = is.1;
      shown = subst (λ (l : List Owed). AreShown es l d t) (sym w.1) (more es w.0 w.2);
    }

-- a refusal that is passed on
pub takes_refused : (r : Result (Unit {0}) CheckError) (e : CheckError) (es : Entries)
    (a b : Listing) (c : Cache) (s : Showing)
    → IsErrAnd r (λ y. y ≡ e)
    → IsRefusal e (list_fault (unit_of a) (proc_of a))
    → TakesAll r es a b c s
takes_refused (Ok t) e es a b c s is h = absurd is
takes_refused (Err y) e es a b c s is h =
    subst (λ (z : CheckError). IsRefusal z (list_fault (unit_of a) (proc_of a))) (sym is) h

-- a part that is seen as a slice
pub shown_as : (part seen : List Obligation) (c d : Cache) (s t : Showing)
    → seen ≡ part
    → ((es : Entries) (os : List Owed)
    → AreShown es os c s
    → AreShown es (os ++ map plain_obligation seen) d t)
    → (es : Entries) (os : List Owed)
    → AreShown es os c s
    → AreShown es (os ++ map plain_obligation part) d t
shown_as part seen c d s t is more es os so =
    subst (λ (l : List Obligation). AreShown es (os ++ map plain_obligation l) d t) is
    (more es os so)

-- ---- the procedure

-- the first of many places is there
some_places : (u : Program) (p : Procedure) → nat_lt 0 (length (places_of u p)) ≡ true
some_places u p = by (length (places_of u p)) (omega arith)
  where
    by : (n : ℕ) → 0 < n → nat_lt 0 n ≡ true
    by n h = grind (arith, nat_tests)

pub more_at_start : (l : Listing) → IsListed l → l.next ≡ 0 → l.more ≡ true
more_at_start l is none =
    is.more
    ∙ ap (λ (n : ℕ). nat_lt n (length (places_of (unit_of l) (proc_of l)))) none
    ∙ some_places (unit_of l) (proc_of l)

-- a listing that begins
pub record HasBegun (u : Program) (o : Option Procedure) (l : Listing) : Type 0 where
  pub listed : IsListed l
  pub unit : unit_of l ≡ u
  pub found : Some (proc_of l) ≡ o
  pub none : l.next ≡ 0

pub has_begun : (x : Option Listing) (u : Program) (o : Option Procedure) (l : Listing)
    → x ≡ Some l
    → BeginsListing (Ok x) u o
    → HasBegun u o l
has_begun x u o l is h =
    let b = subst (λ (y : Option Listing). BeginsListing (Ok y) u o) is h in
    record { listed = b.0; unit = b.1; found = b.2; none = b.3 }

pub at_start : (l : Listing) (c : Cache) (s : Showing)
    → l.next ≡ 0
    → ((d : Cache) → AreShown (held d) [] d s)
    → AreShown (held c) (listed_of l) c s
at_start l c s none h =
    let is : listed_of l ≡ [] = ap (λ (n : ℕ). owed_before (unit_of l) (proc_of l) n) none in
    subst (λ (os : List Owed). AreShown (held c) os c s) (sym is) (h c)

-- all that a procedure owes is listed and nothing of it is refused
pub record IsDone (u : Program) (q : Procedure) (os : List Owed) : Type 0 where
  pub none : list_fault u q ≡ None
  pub owed : os ≡ obligations_of u q

pub done : (u : Program) (q : Procedure) (o : Option Procedure) (l m : Listing)
    → unit_of l ≡ u
    → Some (proc_of l) ≡ o
    → o ≡ Some q
    → list_fault (unit_of l) (proc_of l) ≡ None
    → listed_of m ≡ obligations_of (unit_of l) (proc_of l)
    → IsDone u q (listed_of m)
done u q o l m unit found at none owed =
    let proc : proc_of l ≡ q = cc in
    record {
      none =
          sym (ap (λ (v : Program). list_fault v (proc_of l)) unit
          ∙ ap (λ (p : Procedure). list_fault u p) proc) ∙ none;
      owed =
          owed ∙ (ap (λ (v : Program). obligations_of v (proc_of l)) unit
          ∙ ap (λ (p : Procedure). obligations_of u p) proc);
    }

pub refused_in : (e : CheckError) (u : Program) (q : Procedure) (o : Option Procedure) (l : Listing)
    → unit_of l ≡ u
    → Some (proc_of l) ≡ o
    → o ≡ Some q
    → IsRefusal e (list_fault (unit_of l) (proc_of l))
    → IsRefusal e (list_fault u q)
refused_in e u q o l unit found at h =
    let proc : proc_of l ≡ q = cc in
    subst (λ (v : Program). IsRefusal e (list_fault v q)) unit
    (subst (λ (p : Procedure). IsRefusal e (list_fault (unit_of l) p)) proc h)

-- nothing is open
pub answers_ok : (n : ℕ) (k : ℕ) (u : Program) (q : Procedure) (os : List Owed)
    → IsDone u q os
    → first_open os ≡ None
    → Answers {A = ℕ} (Ok n) k (cause_of u q)
answers_ok n k u q os is none = sym (cause_listed u q os is.none is.owed) ∙ none

not_shown_by : (w : Why) (r : UnitRefused) (k : ℕ) (f : Option Cause)
    → Shows {A = Unit {0}} (Err w) f
    → r.why ≡ w
    → r.proc.0 ≡ k
    → r.place ≡ place_in w
    → Answers {A = ℕ} (Err r) k f
not_shown_by (why.Check e) r k f h is proc at = absurd h
not_shown_by (why.NotShown what place verdict) r k f h is proc at =
    subst (λ (g : Option Cause). Answers {A = ℕ} (Err r) k g) (sym h)
    (inr (
      proc,
      subst (λ (w : Why). IsCause w r.place (NotShown what place verdict)) (sym is)
          (refl, refl, at, refl),
    ))
not_shown_by why.Memory r k f h is proc at = for_memory r k f is

-- something is open
pub not_shown : (w : Why) (r : UnitRefused) (k : ℕ) (u : Program) (q : Procedure) (os : List Owed)
    → IsDone u q os
    → Shows {A = Unit {0}} (Err w) (first_open os)
    → r.why ≡ w
    → r.proc.0 ≡ k
    → r.place ≡ place_in w
    → Answers {A = ℕ} (Err r) k (cause_of u q)
not_shown w r k u q os is h same proc at =
    not_shown_by w r k (cause_of u q)
    (subst (λ (f : Option Cause). Shows {A = Unit {0}} (Err w) f)
    (cause_listed u q os is.none is.owed) h)
    same proc at

pub few_done : (u : Program) (q : Procedure) (os : List Owed) → IsDone u q os → length os ≤ 65536
few_done u q os is = omega (arith, few_owed u q is.none, ap length is.owed)

pub hold_done : (u : Program) (q : Procedure) (os : List Owed)
    → IsDone u q os
    → All (λ (o : Owed). HasNoIntegerPoint o.system) os
    → All (λ (o : Owed). HasNoIntegerPoint o.system) (obligations_of u q)
hold_done u q os is h = subst (All (λ (o : Owed). HasNoIntegerPoint o.system)) is.owed h

pub cached_done : (u : Program) (q : Procedure) (os : List Owed) (es now : Entries)
    → IsDone u q os
    → now ≡ discharged es (systems_in os)
    → now ≡ discharged es (systems_in (obligations_of u q))
cached_done u q os es now is h = h ∙ ap (λ (l : List Owed). discharged es (systems_in l)) is.owed

-- ---- both together

-- all that a procedure owes is listed, and taken in parts
pub record AreTakenAll (u : Program) (q : Procedure) (m : Listing) (es : Entries) (c : Cache)
    (s : Showing) : Type 0 where
  pub listed : IsListed m
  pub done : IsDone u q (listed_of m)
  pub shown : AreShown es (listed_of m) c s

pub all_taken : (u : Program) (q : Procedure) (o : Option Procedure) (l m : Listing) (es : Entries)
    (d : Cache) (t : Showing)
    → HasBegun u o l
    → AreAllTaken es l m d t
    → o ≡ Some q
    → AreTakenAll u q m es d t
all_taken u q o l m es d t begun all at = record {
  listed = all.goes.listed;
  done = done u q o l m begun.unit begun.found at all.none all.owed;
  shown = all.shown;
}

-- part by part, from the beginning
pub taken_in_parts : (l m : Listing) (c d : Cache) (s t : Showing)
    → l.next ≡ 0
    → ((e : Cache) → AreShown (held e) [] e s)
    → ((es : Entries) → AreShown es (listed_of l) c s → TakesAll {A = Unit {0}} (Ok tt) es l m d t)
    → AreAllTaken (held c) l m d t
taken_in_parts l m c d s t begins none takes = takes (held c) (at_start l c s begins none)

-- or refused so
pub refused_in_parts : (r : Result Showing CheckError) (e : CheckError) (l m : Listing) (c d : Cache)
    (s t : Showing)
    → IsErrAnd r (λ y. y ≡ e)
    → l.next ≡ 0
    → ((k : Cache) → AreShown (held k) [] k s)
    → ((es : Entries) → AreShown es (listed_of l) c s → TakesAll {A = Unit {0}} (Err e) es l m d t)
    → ShowsAll r (held c) l m d
refused_in_parts (Ok x) e l m c d s t is begins none takes = absurd is
refused_in_parts (Err y) e l m c d s t is begins none takes =
    subst (λ (z : CheckError). IsRefusal z (list_fault (unit_of l) (proc_of l))) (sym is)
    (takes (held c) (at_start l c s begins none))
