-- Procedures of one head whose bodies are the same without stores say the same at each place.
use Rattle.std.proofs.Common.{◌≡◌, ◌++◌, ℕ, zero, List, [], ◌∷◌, map, Option, None, Some, option_map}
use Rattle.std.proofs.Common.{refl, sym, ap, ◌∙◌}
use Rattle.std.specs.Prelude.{slice_get}
use Rattle.std.specs.List.{list_all}
use Rattle.exo_tree.specs.Tree.{Condition, Argument, Block, end, Procedure, Program}
use Rattle.exo_tree.specs.Calls.{call_arguments}
use Rattle.exo_tree.specs.Context.{Here}
use Rattle.exo_tree.specs.Places.{Main, Path, Opened, opened}
use Rattle.exo_meaning.specs.Modes.{Writing}
use Rattle.meaning_laws.specs.Facts.{Fact, Holds, Fails}
use Rattle.meaning_laws.specs.Known.{params_facts}
use Rattle.meaning_laws.specs.KnownFields.{KnownFields, at_entry, known_fields}
use Rattle.meaning_laws.specs.PlaceFacts.{place_facts, unit_telling}
use Rattle.affine_forms.specs.Formulas.{formula, negation, is_writable_condition}
use Rattle.affine_places.specs.Facts as facts
use Rattle.affine_places.specs.Readings.{entry_reading, place_reading, place_flags, field_formula_fits}
use Rattle.affine_places.specs.Roots as roots
use Rattle.affine_places.specs.Roots.{roots_of}
use Rattle.text_show.specs.Names as names
use Rattle.text_show.specs.Names.{unknown, names_of}
use Rattle.text_show.specs.Words.{Words, words_with, words_of}
use Rattle.text_show.specs.StatementText.{argument_text}
use Rattle.check_claims.specs.Extents as extents
use Rattle.check_claims.specs.Extents.{extents_of}
use Rattle.check_facts.specs.Contexts.{values_agree, telling, told, condition_formula, condition_fits, fact_formula}
use Rattle.check_facts.specs.Contexts.{fact_fits, formulas, all_fit, facts_at, context_of, context_fits, known_at_place}
use Rattle.exo_effects.specs.Accesses.{access_of}
use Rattle.exo_effects.specs.Parts.{Parts, no_parts, with_params, parts_at}
use Rattle.exo_effects.specs.Uses.{Use, uses_of, part_of_argument, argument_in, argument_at}
use Rattle.bounds_check.specs.Obligations.{known_for, formula_at}
use Rattle.schedule_laws.proofs.OfOwed.Alike.{SaysTheSame}
use Rattle.schedule_laws.proofs.OfOwed.Plain.{plain, through_plain}
use Rattle.schedule_laws.proofs.OfOwed.PlainPlaces.{plain_opened, opened_alike}
use Rattle.schedule_laws.proofs.OfOwed.PlainKnown.{known_plain, round_plain, parts_plain}
use Rattle.schedule_laws.proofs.OfOwed.PlainKnown.{arguments_plain}
use Rattle.schedule_laws.proofs.OfOwed.PlainBinders.{names_plain, extents_plain, roots_plain}

-- the procedure with a body that is the same without stores
module _ (v : Program) (p : Procedure) (body : Block) (same : plain body ≡ plain p.body) where
  abbrev pub with_body : Procedure
  with_body = record p { body = body }

  abbrev q : Procedure
  q = with_body

  -- ---- what its body binds

  names_same : names_of q ≡ names_of p
  names_same =
      let given = names.with_params p.params unknown in
      through_plain (λ (b : Block). names.with_block b given) (names_plain given) body p.body same

  pub words_same : words_of v q ≡ words_of v p
  words_same = λ i. words_with v (names_same i)

  pub extents_same : extents_of q ≡ extents_of p
  extents_same =
      let given = extents.with_params p.params extents.no_extents in
      through_plain (λ (b : Block). extents.with_block b given) (extents_plain given) body p.body same

  pub roots_same : roots_of q ≡ roots_of p
  roots_same =
      let given = roots.with_params p.params roots.no_roots in
      through_plain (λ (b : Block). roots.with_block b given) (roots_plain given) body p.body same

  -- ---- what is known at a place

  abbrev there : Path → Option Opened
  there path = opened 1 path body

  abbrev here : Path → Option Opened
  here path = opened 1 path p.body

  telling_same : telling v q ≡ telling v p
  telling_same =
      λ i. unit_telling v.procedures (λ a. a) (values_agree (entry_reading v.fields (roots_same i)))

  known_without : (x : Procedure) (o : Option Opened)
      → known_at_place v x (option_map plain_opened o) ≡ known_at_place v x o
  known_without x None = refl
  known_without x (Some o) = known_plain (telling v x) [] Main zero o.around o.piece at_entry

  known_told : (o : Option Opened) → known_at_place v q o ≡ known_at_place v p o
  known_told None = refl
  known_told (Some o) = λ i. known_fields (telling_same i) o.around o.piece

  known_for_same : (path : Path) → known_for v q path ≡ known_for v p path
  known_for_same path =
      sym (known_without q (there path))
      ∙ (ap (known_at_place v q) (opened_alike path body p.body same)
      ∙ (known_without q (here path) ∙ known_told (here path)))

  facts_without : (x : Procedure) (o : Option Opened)
      → facts_at v x (option_map plain_opened o) ≡ facts_at v x o
  facts_without x None = refl
  facts_without x (Some o) =
      ap (λ es. map (λ (fact : Fact). record { known = at_entry; fact = fact })
      (params_facts x.params ++ map Holds x.asserts) ++ es)
      (round_plain (telling v x) [] Main zero o.around o.piece at_entry)

  facts_told : (o : Option Opened) → facts_at v q o ≡ facts_at v p o
  facts_told None = λ i. place_facts (telling_same i) p (Here end) end
  facts_told (Some o) = λ i. place_facts (telling_same i) p o.around o.piece

  facts_same : (path : Path) → facts_at v q (there path) ≡ facts_at v p (here path)
  facts_same path =
      sym (facts_without q (there path))
      ∙ (ap (facts_at v q) (opened_alike path body p.body same)
      ∙ (facts_without q (here path) ∙ facts_told (here path)))

  -- ---- formulas

  condition_same : (known : KnownFields) (c : Condition)
      → condition_formula v q known c ≡ condition_formula v p known c
  condition_same known c =
      λ i. formula (place_reading v.fields (roots_same i) (told v.fields known))
      (place_flags v.fields (roots_same i) (told v.fields known)) c

  fits_at : (known : KnownFields) (c : Condition)
      → condition_fits v q known c ≡ condition_fits v p known c
  fits_at known c =
      λ i. is_writable_condition (place_reading v.fields (roots_same i) (told v.fields known))
      (λ f. field_formula_fits v.fields (roots_same i) (facts.fact_of (told v.fields known) f)) c

  fact_same : (known : KnownFields) (f : Fact) → fact_formula v q known f ≡ fact_formula v p known f
  fact_same known (Holds c) = condition_same known c
  fact_same known (Fails c) = ap negation (condition_same known c)

  fact_fits_same : (known : KnownFields) (f : Fact) → fact_fits v q known f ≡ fact_fits v p known f
  fact_fits_same known (Holds c) = fits_at known c
  fact_fits_same known (Fails c) = fits_at known c

  context_same : (path : Path) → context_of v q path ≡ context_of v p path
  context_same path =
      ap (formulas v q) (facts_same path)
      ∙ (λ i. map (λ e. fact_same e.known e.fact i) (facts_at v p (here path)))

  context_fits_same : (path : Path) → context_fits v q path ≡ context_fits v p path
  context_fits_same path =
      ap (all_fit v q) (facts_same path)
      ∙ (λ i. list_all (λ e. fact_fits_same e.known e.fact i) (facts_at v p (here path)))

  formula_same : (path : Path) (c : Condition) → formula_at v q path c ≡ formula_at v p path c
  formula_same path c =
      (λ i. condition_formula v q (known_for_same path i) c) ∙ condition_same (known_for v p path) c

  fits_same : (path : Path) (c : Condition)
      → condition_fits v q (known_for v q path) c ≡ condition_fits v p (known_for v p path) c
  fits_same path c =
      (λ i. condition_fits v q (known_for_same path i) c) ∙ fits_at (known_for v p path) c

  -- ---- arguments

  -- by the words of the procedure, what names stand for, and what is passed
  abbrev argument_by : Words → Parts → List Argument → ℕ → List Use
  argument_by w parts args k = elim (slice_get args k) as (λ a. List Use) [
    | None ↦ []
    | Some a ↦
        uses_of (record { parts = parts; own = []; round = [] }) (argument_text w a)
        (part_of_argument parts a) (Writing ∷ [])
  ]

  abbrev uses_by : Procedure → ℕ → Option Opened → List Use
  uses_by x k o = elim o as (λ o. List Use) [ None ↦ [] | Some o ↦ argument_in v x o k ]

  uses_without : (k : ℕ) (o : Option Opened) → uses_by q k (option_map plain_opened o) ≡ uses_by q k o
  uses_without k None = refl
  uses_without k (Some o) =
      λ i. argument_by (words_of v q) (parts_plain o.around (with_params p.params no_parts) i)
      (arguments_plain o.piece i) k

  uses_said : (k : ℕ) (o : Option Opened) → uses_by q k o ≡ uses_by p k o
  uses_said k None = refl
  uses_said k (Some o) =
      λ i. argument_by (words_same i) (parts_at o.around (with_params p.params no_parts))
      (call_arguments o.piece) k

  uses_same : (path : Path) (k : ℕ) → argument_at v q path k ≡ argument_at v p path k
  uses_same path k =
      sym (uses_without k (there path))
      ∙ (ap (uses_by q k) (opened_alike path body p.body same)
      ∙ (uses_without k (here path) ∙ uses_said k (here path)))

  pub says_stored : SaysTheSame v q v p
  says_stored = record {
    context = context_same;
    context_fits = context_fits_same;
    formula = formula_same;
    fits = fits_same;
    accesses = λ path k. ap (map access_of) (uses_same path k);
  }
