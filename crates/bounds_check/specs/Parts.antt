-- What is known of a procedure's obligations that are listed in parts.
use Rattle.std.specs.Prelude.{◌≡◌, ◌<◌, ◌+◌, ◌⊎◌, nat_lt, false, ◌++◌, ℕ, List, [], map, take}
use Rattle.std.specs.Prelude.{length}
use Rattle.std.specs.Prelude.{⊤, Option, Some, None, Vec, Result, Ok, Err, slice_get}
use Rattle.exo_tree.specs.Tree.{Procedure, Program}
use Rattle.exo_tree.specs.PlainProcedure.{procedure}
use Rattle.exo_tree.specs.PlainUnit.{program}
use Rattle.exo_meaning.specs.Units.{IsUnit}
use Rattle.meaning_laws.specs.UnitFields.{unit_writes}
use Rattle.config_state.specs.FieldSets.{IsTable}
use Rattle.exo_modes.specs.Marks.{modes_of}
use Rattle.exo_modes.specs.Seen.{table_says}
use Rattle.affine_places.specs.Roots.{roots_of}
use Rattle.affine_places.specs.Seen.{roots_in}
use Rattle.affine_systems.specs.Amounts.{IsAmount}
use Rattle.affine_systems.specs.Limits.{are_within}
use Rattle.affine_systems.specs.Outcomes.{Owed, plain_obligation}
use Rattle.affine_systems.specs.declared.obligation.Obligation.{Obligation}
use Rattle.check_claims.specs.Claim.{Placed}
use Rattle.check_claims.specs.Places.{places_of, claims_at, claims_between, has_more}
use Rattle.check_claims.specs.Sources.{AreSources}
use Rattle.bounds_check.specs.Obligations.{owed_for_all, obligations_of, first_fault, list_fault}
use Rattle.bounds_check.specs.Outcomes.{IsRefusal}
use Rattle.bounds_check.specs.declared.error.CheckError.{CheckError}
use Rattle.bounds_check.specs.declared.error.CheckError.TheVariants.{TooManyObligations, Form}
use Rattle.bounds_check.specs.declared.error.CheckError.TheVariants.{Memory}
use Rattle.bounds_check.specs.declared.listing.Listing.{Listing}
use Rattle.bounds_check.specs.declared.listing.Range.{Range}
use Rattle.bounds_check.specs.declared.stripe.Stripe.{Stripe}

module _ (u : Program) (p : Procedure) where
  -- the claims of so many first places of the procedure, and what they owe
  abbrev pub claims_before : ℕ → List Placed
  claims_before n = claims_at (take n (places_of u p))

  abbrev pub owed_before : ℕ → List Owed
  owed_before n = owed_for_all u p (claims_before n)

-- whose obligations are listed, and in which unit
abbrev pub unit_of : Listing → Program
unit_of l = program l.unit.now

abbrev pub proc_of : Listing → Procedure
proc_of l = procedure l.proc.now

-- what is listed so far
abbrev pub listed_of : Listing → List Owed
listed_of l = owed_before (unit_of l) (proc_of l) l.next

-- what so many places owe, behind so many others, of which nothing is refused
pub record IsRange (u : Program) (p : Procedure) (skip count : ℕ) (r : Range) : Type 0 where
  pub fine : first_fault u p [] (claims_between u p skip count) ≡ None
  pub owed : map plain_obligation r.owed.items ≡ owed_for_all u p (claims_between u p skip count)
  pub more : r.more ≡ has_more u p skip count

-- so many places of a procedure are listed, and nothing is refused of them
pub record IsListed (l : Listing) : Type 0 where
  pub formed : IsUnit (unit_of l)
  pub found : slice_get (unit_of l).procedures l.number.0 ≡ Some (proc_of l)
  pub roots : roots_in l.roots ≡ roots_of (proc_of l)
  pub sources : AreSources l.sources (unit_of l) (proc_of l)
  pub writes : IsTable (length (unit_of l).fields) (unit_writes (unit_of l).procedures) l.writes.now
  pub modes : table_says l.modes.now ≡ modes_of (unit_of l)
  pub fine :
      first_fault (unit_of l) (proc_of l) [] (claims_before (unit_of l) (proc_of l) l.next) ≡ None
  pub amount : IsAmount (listed_of l) l.amount
  pub more : l.more ≡ nat_lt l.next (length (places_of (unit_of l) (proc_of l)))

-- a listing goes on with the same procedure
pub record GoesOn (old new : Listing) : Type 0 where
  pub unit : unit_of new ≡ unit_of old
  pub proc : proc_of new ≡ proc_of old
  pub listed : IsListed new

-- all that the procedure owes is listed, and nothing of it is refused
abbrev pub IsWhole : Listing → Type 0
IsWhole l =
    (list_fault (unit_of l) (proc_of l) ≡ None)
    × (listed_of l ≡ obligations_of (unit_of l) (proc_of l))

-- a part comes behind what is listed; else the first fault of the whole list
abbrev pub PartListed :
    {A : Type 0} → Result (Vec Obligation A) CheckError → Listing → Listing → Type 0
PartListed (Ok os) old new =
    GoesOn old new
    × (listed_of new ≡ listed_of old ++ map plain_obligation os.items)
    × (old.next < length (places_of (unit_of old) (proc_of old)))
    × (old.next < new.next)
PartListed (Err e) old new = IsRefusal e (list_fault (unit_of old) (proc_of old))

-- the listing of a procedure of the unit begins
abbrev pub BeginsListing : Result (Option Listing) CheckError → Program → Option Procedure → Type 0
BeginsListing (Ok None) u p = p ≡ None
BeginsListing (Ok (Some l)) u p =
    IsListed l × (unit_of l ≡ u) × (Some (proc_of l) ≡ p) × (l.next ≡ 0)
BeginsListing (Err e) u p = e ≡ Memory

-- obligations pass the limits together; want of memory is free
abbrev pub PassLimits : CheckError → List Owed → Type 0
PassLimits TooManyObligations os = are_within os ≡ false
PassLimits (Form e) os = ⊥
PassLimits Memory os = ⊤

-- ---- places that are listed by themselves

module _ (u : Program) (p : Procedure) where
  -- what the places of a stripe owe
  abbrev pub owed_in : Stripe → List Owed
  owed_in s = owed_for_all u p (claims_between u p s.skip s.places)

  -- and nothing of it is refused
  pub record IsStripe (s : Stripe) : Type 0 where
    pub fine : first_fault u p [] (claims_between u p s.skip s.places) ≡ None
    pub amount : IsAmount (owed_in s) s.amount
    pub more : 0 < s.places → s.more ≡ has_more u p s.skip s.places

  -- so many places come behind those of a stripe, and owe that
  pub record GoesFurther (old new : Stripe) (count : ℕ) (os : List Owed) : Type 0 where
    pub stripe : IsStripe new
    pub skip : new.skip ≡ old.skip
    pub places : new.places ≡ old.places + count
    pub owed : owed_in new ≡ owed_in old ++ os

  -- so many places behind those of a stripe are refused by themselves, or pass the limits with it
  abbrev pub StopsAt : CheckError → Stripe → ℕ → Type 0
  StopsAt e s count =
      IsRefusal e (first_fault u p [] (claims_between u p (s.skip + s.places) count))
      ⊎ PassLimits e
      (owed_in s ++ owed_for_all u p (claims_between u p (s.skip + s.places) count))

-- the places of a stripe come behind what is listed
pub record HasPassed (s : Stripe) (old new : Listing) : Type 0 where
  pub goes : GoesOn old new
  pub listed : listed_of new ≡ listed_of old ++ owed_in (unit_of old) (proc_of old) s
  pub whole : s.more ≡ false → IsWhole new
