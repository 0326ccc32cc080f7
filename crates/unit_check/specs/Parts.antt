-- What is shown of obligations that come in parts.
use Rattle.std.specs.Prelude.{◌≡◌, ℕ, ◌+◌, ◌/◌, min, List, [], IfOk, Option, Some, None}
use Rattle.std.specs.Prelude.{Result, Ok, Err}
use Rattle.exo_tree.specs.Nodes.{capped, nodes_in}
use Rattle.exo_tree.specs.Tree.{Procedure, Program}
use Rattle.affine_forms.specs.Affine.{Constraints}
use Rattle.affine_systems.specs.Outcomes.{Owed}
use Rattle.affine_prover.specs.declared.answer.Verdict.{Verdict}
use Rattle.ob_check.specs.declared.cache.Cache.{Cache}
use Rattle.ob_check.specs.Parts.{AreTaken}
use Rattle.bounds_check.specs.Obligations.{obligations_of, list_fault}
use Rattle.bounds_check.specs.Outcomes.{IsRefusal}
use Rattle.bounds_check.specs.Parts.{GoesOn, IsStripe, owed_in, listed_of, unit_of, proc_of}
use Rattle.bounds_check.specs.declared.error.CheckError.{CheckError}
use Rattle.bounds_check.specs.declared.listing.Listing.{Listing}
use Rattle.unit_check.specs.Cached.{systems_in}
use Rattle.unit_check.specs.Checked.{first_open}
use Rattle.unit_check.specs.Outcomes.{Shows}
use Rattle.unit_check.specs.declared.showing.Showing.{Showing}
use Rattle.unit_check.specs.declared.stripes.Shown.{Shown}

-- the parts so far have the obligations os, and the cache held es before the first of them
pub record AreShown (es : List (Constraints × Verdict)) (os : List Owed)
    (c : Cache) (s : Showing) : Type 0 where
  pub exact : Shows s.found (first_open os)
  pub taken : IfOk s.found (λ _. AreTaken es (systems_in os) c s.parts)

-- all that a procedure owes is listed, and taken in parts
pub record AreAllTaken (es : List (Constraints × Verdict)) (old new : Listing) (c : Cache)
    (s : Showing) : Type 0 where
  pub goes : GoesOn old new
  pub none : list_fault (unit_of old) (proc_of old) ≡ None
  pub owed : listed_of new ≡ obligations_of (unit_of old) (proc_of old)
  pub shown : AreShown es (listed_of new) c s

-- else the first fault of the list
abbrev pub TakesAll :
    {A : Type 0} → Result A CheckError → List (Constraints × Verdict) → Listing → Listing → Cache
    → Showing → Type 0
TakesAll (Ok t) es old new c s = AreAllTaken es old new c s
TakesAll (Err e) es old new c s = IsRefusal e (list_fault (unit_of old) (proc_of old))

abbrev pub ShowsAll :
    Result Showing CheckError → List (Constraints × Verdict) → Listing → Listing → Cache → Type 0
ShowsAll (Ok s) es old new c = AreAllTaken es old new c s
ShowsAll (Err e) es old new c = IsRefusal e (list_fault (unit_of old) (proc_of old))

-- in how many stripes a procedure is checked: in as many as its places fill, but at most 32
abbrev pub stripes_in : Option Procedure → ℕ
stripes_in None = 1
stripes_in (Some p) = min (capped (nodes_in p.body) / 4096 + 1) 32

-- what so many places owe, behind so many others, is shown over a cache that was empty
pub record IsShown (u : Program) (p : Procedure) (skip places : ℕ) (x : Shown) : Type 0 where
  pub stripe : IsStripe u p x.stripe
  pub skip_is : x.stripe.skip ≡ skip
  pub places_are : x.stripe.places ≡ places
  pub shown : (c : Cache) × AreShown [] (owed_in u p x.stripe) c x.showing
