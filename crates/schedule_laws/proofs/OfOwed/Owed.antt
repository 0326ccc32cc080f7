-- What a procedure owes, whatever comes behind the procedures that it calls and whatever its name is.
use Rattle.std.proofs.Common.{◌≡◌, ◌++◌, ℕ, zero, Bool, List, [], ◌∷◌, map, length, Option, None, Some}
use Rattle.std.proofs.Common.{true, refl, sym, ap, ◌∙◌, subst}
use Rattle.std.specs.Prelude.{slice_get}
use Rattle.std.specs.List.{list_all}
use Rattle.exo_tree.specs.Tree.{Condition, Argument, Procedure, Program}
use Rattle.exo_tree.specs.Calls.{call_arguments}
use Rattle.exo_tree.specs.Context.{fill}
use Rattle.exo_tree.specs.Places.{Main, Path, Opened, opened}
use Rattle.exo_meaning.specs.Modes.{Writing}
use Rattle.exo_meaning.specs.Run.{callees, kinds_of}
use Rattle.exo_meaning.specs.Units.{IsUnit, field_kind}
use Rattle.meaning_laws.specs.Facts.{Fact, Holds, Fails}
use Rattle.meaning_laws.specs.Grown.{calls_below}
use Rattle.meaning_laws.specs.Known.{params_facts}
use Rattle.meaning_laws.specs.KnownFields.{KnownFields, Telling, at_entry}
use Rattle.meaning_laws.specs.Places.{OpenedLaw}
use Rattle.meaning_laws.specs.UnitFields.{unit_writes}
use Rattle.meaning_laws.specs.WellFormed.{CallsAreBelow}
use Rattle.text_show.specs.Layout.{Text}
use Rattle.text_show.specs.Words.{callee_name, words_of}
use Rattle.check_claims.specs.Claims.{claims_of}
use Rattle.check_facts.specs.Contexts.{telling, condition_formula, condition_fits, fact_formula, fact_fits}
use Rattle.check_facts.specs.Contexts.{formulas, all_fit, facts_at, context_of, context_fits, known_at_place}
use Rattle.exo_effects.specs.Accesses.{Access, access_of}
use Rattle.exo_effects.specs.Uses.{Use, uses_of, part_of_argument, at_hole}
use Rattle.bounds_check.specs.Obligations.{known_for, formula_at, argument_accesses, owed_for_all, first_fault}
use Rattle.tree_laws.specs.Findings.Versions.{with_version, ProcedureLaw}
use Rattle.schedule_laws.specs.Owed.Renamed.{renamed, RenamedOwesTheSame}
use Rattle.schedule_laws.proofs.OfOwed.Texts.{argument_same}
use Rattle.schedule_laws.proofs.OfOwed.Tables.{writes_same, callees_are}
use Rattle.schedule_laws.proofs.OfOwed.Known.{known_same, round_same}
use Rattle.schedule_laws.proofs.OfOwed.Claims.{longer, claims_same}
use Rattle.schedule_laws.proofs.OfOwed.Alike.{SaysTheSame, all_owed_same, first_same}

module _ (opens : OpenedLaw) (u : Program) (more : List Procedure) (p : Procedure) (name : List ℕ)
    (below : calls_below (length u.procedures) p.body ≡ true) where
  abbrev v : Program
  v = longer u more

  abbrev q : Procedure
  q = renamed name p

  abbrev tell : Telling
  tell = telling u p

  -- ---- what is known at a place

  abbrev writes : ℕ → ℕ → Bool
  writes = unit_writes (u.procedures ++ more)

  abbrev there : Path → Option Opened
  there path = opened 1 path p.body

  hole_below : (path : Path) (o : Opened) → there path ≡ Some o
      → calls_below (length u.procedures) (fill o.around o.piece) ≡ true
  hole_below path o e =
      subst (λ b. calls_below (length u.procedures) b ≡ true) (sym (opens 1 path p.body o e)) below

  facts_same : (path : Path) → facts_at v q (there path) ≡ facts_at u p (there path)
  facts_same path = go (there path) refl
    where
      go : (o : Option Opened) → there path ≡ o → facts_at v q o ≡ facts_at u p o
      go None e = refl
      go (Some o) e =
          ap (λ es. map (λ (fact : Fact). record { known = at_entry; fact = fact })
          (params_facts p.params ++ map Holds p.asserts) ++ es)
          (round_same tell writes (length u.procedures) (writes_same u.procedures more) [] Main zero
          o.around o.piece (hole_below path o e) at_entry)

  known_for_same : (path : Path) → known_for v q path ≡ known_for u p path
  known_for_same path = go (there path) refl
    where
      go : (o : Option Opened) → there path ≡ o → known_at_place v q o ≡ known_at_place u p o
      go None e = refl
      go (Some o) e =
          known_same tell writes (length u.procedures) (writes_same u.procedures more) [] Main zero
          o.around o.piece (hole_below path o e) at_entry

  fact_same : (known : KnownFields) (f : Fact) → fact_formula v q known f ≡ fact_formula u p known f
  fact_same known (Holds c) = refl
  fact_same known (Fails c) = refl

  fact_fits_same : (known : KnownFields) (f : Fact) → fact_fits v q known f ≡ fact_fits u p known f
  fact_fits_same known (Holds c) = refl
  fact_fits_same known (Fails c) = refl

  context_same : (path : Path) → context_of v q path ≡ context_of u p path
  context_same path =
      ap (formulas v q) (facts_same path)
      ∙ (λ i. map (λ e. fact_same e.known e.fact i) (facts_at u p (there path)))

  context_fits_same : (path : Path) → context_fits v q path ≡ context_fits u p path
  context_fits_same path =
      ap (all_fit v q) (facts_same path)
      ∙ (λ i. list_all (λ e. fact_fits_same e.known e.fact i) (facts_at u p (there path)))

  -- ---- claims

  formula_same : (path : Path) (c : Condition) → formula_at v q path c ≡ formula_at u p path c
  formula_same path c = λ i. condition_formula u p (known_for_same path i) c

  -- by the text of an argument
  abbrev argument_by : Path → ℕ → (Argument → Text) → List Access
  argument_by path k text = map access_of (elim (there path) as (λ o. List Use) [
    | None ↦ []
    | Some o ↦ elim (slice_get (call_arguments o.piece) k) as (λ a. List Use) [
      | None ↦ []
      | Some a ↦
          uses_of (at_hole u p o) (text a) (part_of_argument (at_hole u p o).parts a) (Writing ∷ [])
    ]
  ])

  accesses_same : (path : Path) (k : ℕ) → argument_accesses v q path k ≡ argument_accesses u p path k
  accesses_same path k =
      λ i. argument_by path k
      (λ a. argument_same (words_of u p) (callee_name (u.procedures ++ more)) a i)

  fits_same : (path : Path) (c : Condition)
      → condition_fits v q (known_for v q path) c ≡ condition_fits u p (known_for u p path) c
  fits_same path c = λ i. condition_fits u p (known_for_same path i) c

  pub says_same : SaysTheSame v q u p
  says_same = record {
    context = context_same;
    context_fits = context_fits_same;
    formula = formula_same;
    fits = fits_same;
    accesses = accesses_same;
  }

-- a procedure of a unit calls those of the unit alone
pub calls_are_below : CallsAreBelow → ProcedureLaw → (u : Program) (k : ℕ) (p : Procedure) → IsUnit u
    → slice_get u.procedures k ≡ Some p → calls_below (length u.procedures) p.body ≡ true
calls_are_below calls keeps u k p is there =
    let kinds = kinds_of u.fields in
    subst (λ n. calls_below n p.body ≡ true) (callees_are kinds u.procedures)
    (calls (field_kind u.fields) (length u.memories) (callees kinds [] u.procedures) p
    (keeps u k p is there))

module _ (opens : OpenedLaw) (calls : CallsAreBelow) (keeps : ProcedureLaw) where
  pub renamed_owes : RenamedOwesTheSame
  renamed_owes u k p name is there =
      let below = calls_are_below calls keeps u k p is there in
      let q = renamed name p in
      let v = with_version u q in
      let says = says_same opens u (q ∷ []) p name below in
      let claims = claims_same u (q ∷ []) p name below in
      record {
        owed = ap (owed_for_all v q) claims ∙ all_owed_same v q u p says (claims_of u p);
        fault = ap (first_fault v q []) claims ∙ first_same v q u p says [] (claims_of u p);
      }
