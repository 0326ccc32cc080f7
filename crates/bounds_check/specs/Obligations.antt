-- What a procedure owes: for each of its claims, in text order, a system for each case in which the context of its place holds and
-- the claim does not. The claim holds where none of its systems has an integer point.
use Rattle.std.specs.Prelude.{ℕ, Bool, true, ◌&&◌, if◌then◌else◌, List, [], ◌∷◌, ◌++◌, map}
use Rattle.std.specs.Prelude.{flat_map, Option, Some, None}
use Rattle.exo_tree.specs.Tree.{Condition, Procedure, Program}
use Rattle.exo_tree.specs.Places.{Path, opened}
use Rattle.meaning_laws.specs.KnownFields.{KnownFields}
use Rattle.affine_forms.specs.Formulas.{Formula}
use Rattle.affine_systems.specs.Systems.{Stated, CasesPassed, SizePassed, Listed, systems, stated}
use Rattle.affine_systems.specs.Outcomes.{Owed, owed}
use Rattle.text_show.specs.Layout.{Text}
use Rattle.check_claims.specs.Claim.{Claim, Is, Apart, Placed}
use Rattle.check_claims.specs.Claims.{claims_of}
use Rattle.check_facts.specs.Contexts.{condition_formula, condition_fits, context_of, context_fits, known_at_place}
use Rattle.exo_effects.specs.Uses.{argument_at}
use Rattle.exo_effects.specs.Accesses.{Access, access_of}
use Rattle.exo_effects.specs.Orders.{no_order}
use Rattle.exo_effects.specs.Conflicts as conflict
use Rattle.exo_effects.specs.Limits as limits
use Rattle.exo_effects.specs.Conflicts.{clashing, past_these, conflicts_of}
use Rattle.bounds_check.specs.Limits.{are_within}

module _ (u : Program) (p : Procedure) where
  -- ---- conditions

  -- what is known of configuration fields at a place
  abbrev pub known_for : Path → KnownFields
  known_for place = known_at_place u p (opened 1 place p.body)

  -- what a condition says there
  abbrev pub formula_at : Path → Condition → Formula
  formula_at place c = condition_formula u p (known_for place) c

  -- its systems, with its text and its place
  abbrev pub condition_owed : Path → Condition → Text → List Owed
  condition_owed place c text =
      map (owed text place) (systems (context_of u p place) (formula_at place c))

  -- ---- windows of one buffer

  abbrev pub argument_accesses : Path → ℕ → List Access
  argument_accesses place k = map access_of (argument_at u p place k)

  -- the systems in which two arguments of the call at the place have a cell in common
  abbrev pub pair_owed : Path → ℕ → ℕ → List Owed
  pair_owed place j k =
      let ctx = context_of u p place in
      let xs = argument_accesses place j in
      let ys = argument_accesses place k in
      flat_map (conflict.owed_for ctx no_order place (past_these ctx no_order xs ys)) (clashing xs ys)

  -- ---- claims

  abbrev pub claim_owed : Path → Claim → List Owed
  claim_owed place (Is c text) = condition_owed place c text
  claim_owed place (Apart j k) = pair_owed place j k

  abbrev pub owed_for : Placed → List Owed
  owed_for c = claim_owed c.place c.claim

  abbrev pub owed_for_all : List Placed → List Owed
  owed_for_all cs = flat_map owed_for cs

  abbrev pub obligations_of : List Owed
  obligations_of = owed_for_all (claims_of u p)

  -- ---- refusals

  -- the normal forms of what is claimed can be written down; those of two arguments are made with
  -- each pair of accesses
  abbrev pub said_fits : Path → Claim → Bool
  said_fits place (Is c text) = condition_fits u p (known_for place) c
  said_fits place (Apart j k) = true

  -- and so can those of its context
  abbrev pub claim_fits : Placed → Bool
  claim_fits c = context_fits u p c.place && said_fits c.place c.claim

-- why a list is refused: a normal form is too wide, a claim has too many cases or too large a system, the list is too long
pub data Fault : Type 0 where
  Wide ManyCases LargeSystem ManyObligations : Fault

abbrev pub stated_fault : Stated → Option Fault
stated_fault CasesPassed = Some ManyCases
stated_fault SizePassed = Some LargeSystem
stated_fault (Listed ss) = None

abbrev pub conflict_fault : conflict.Fault → Fault
conflict_fault conflict.WideForm = Wide
conflict_fault conflict.ManyCases = ManyCases
conflict_fault conflict.LargeSystem = LargeSystem
conflict_fault conflict.ManySystems = ManyObligations

abbrev pub listing_fault : conflict.Listing → Option Fault
listing_fault (conflict.Lists os) = None
listing_fault (conflict.Refuses f) = Some (conflict_fault f)

-- whether a list goes on after a claim without a fault
abbrev pub unless_refused : Option Fault → Bool → Option Fault → Option Fault
unless_refused fault within rest = limits.unless_refused Some ManyObligations fault within rest

module _ (u : Program) (p : Procedure) where
  -- first of its cases, then of the size of its systems
  abbrev pub said_fault : Path → Claim → Option Fault
  said_fault place (Is c text) = stated_fault (stated (context_of u p place) (formula_at u p place c))
  said_fault place (Apart j k) =
      listing_fault (conflicts_of (context_fits u p place) (context_of u p place) no_order place
      (argument_accesses u p place j) (argument_accesses u p place k))

  -- of one claim: first of its forms
  abbrev pub claim_fault : Placed → Option Fault
  claim_fault c = if claim_fits u p c then said_fault c.place c.claim else Some Wide

  -- the first fault of claims, behind obligations that are owed already
  abbrev pub first_fault : List Owed → List Placed → Option Fault
  first_fault os [] = None
  first_fault os (c ∷ cs) = unless_refused (claim_fault c) (are_within (os ++ owed_for u p c)) (first_fault (os ++ owed_for u p c) cs)

  abbrev pub list_fault : Option Fault
  list_fault = first_fault [] (claims_of u p)
