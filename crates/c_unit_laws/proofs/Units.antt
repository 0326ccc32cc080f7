-- Procedures of a unit that has a C meet what the laws on functions and blocks ask.
use Rattle.std.proofs.Common.{◌≡◌, ◌<◌, ◌+◌, ◌^◌, ℕ, nat_lt, Bool, true, false, ◌&&◌, ◌||◌, List, [], ◌∷◌, length, Option, Some, None, refl, sym, ap, ◌∙◌, subst, arith, true≢false, slice_get}
use Rattle.std.specs.List.{list_all}
use Rattle.std.proofs.lemmas.Bool.{and_parts, and_from}
use Rattle.exo_tree.specs.Tree.{Kind, Binder, Control, Param, Procedure, Program, MemoryKind}
use Rattle.exo_tree.specs.Calls.{calls}
use Rattle.exo_meaning.specs.Run.{World, kinds_of}
use Rattle.exo_meaning.specs.Units.{sort_in, scope_of, field_kind, is_text, all_differ, is_memory, IsProcedure, IsUnit}
use Rattle.meaning_laws.proofs.FirstState.{Differ, params_differ}
use Rattle.inplace_laws.specs.CallInPlace.{AreDistinct}
use Rattle.exo_modes.proofs.OfCalls.Reach.{seeds_are_closed}
use Rattle.memory_kinds.specs.Homes.{param_homes}
use Rattle.memory_kinds.specs.Faults.{fault_of, params_fault, block_fault, procedure_fault}
use Rattle.c_tree.specs.Names.Words.{is_in, is_word}
use Rattle.c_tree.specs.Names.Binders.{all_binders, param_binders, binders_in, c_names, name_in}
use Rattle.c_widths.proofs.Covered.{raises_cover}
use Rattle.c_widths.specs.Widths.{have_narrow_dims, are_narrow_tests, is_narrow_block, fits_cells, fits_stack}
use Rattle.c_widths.specs.Raises.{IsCovered, Raises, most_at, given_to, memories_for}
use Rattle.c_lowering.specs.Made.Lowered.{Naming, without_lanes, param_forms}
use Rattle.c_lowering.specs.Made.LoweredUnit.{Printing, routine_of, field_name, named_field}
use Rattle.c_lowering.specs.Made.LoweredUnit.{in_block, in_conditions, is_listed, counts, is_used}
use Rattle.c_lowering.specs.Made.LoweredUnit.{global_names}
use Rattle.c_unit_laws.specs.Follows.Simulation.{Ground}
use Rattle.c_unit_laws.specs.Follows.Good.{IsGoodBlock, AreGoodParams}
use Rattle.c_unit_laws.specs.Follows.Units.{AreLowered}
use Rattle.c_unit_laws.specs.Follows.Grounds.{declared_in, naming_of, world_above, bounds_by}
use Rattle.c_unit_laws.specs.Follows.Grounds.{bounds_in, ground_of, plain_naming}
use Rattle.c_unit_laws.specs.Laws.{IsGoodProcedure, PrintedProceduresAreGood, BodiesAreGood}
use Rattle.c_unit_laws.proofs.Forms.{lanes_in, Stands, Fits}
use Rattle.c_unit_laws.proofs.Clear.{IsClear, AreClearParams, plain_is_clear, plain_params}
use Rattle.c_unit_laws.proofs.Arguments.{AreWithin}
use Rattle.c_unit_laws.proofs.Binders.{IsIn, AreIn, ScopeIn, AreNamed, all_in, front_in, rear_in, params_in, apart_first, named_apart}
use Rattle.c_unit_laws.proofs.Blocks.{KnowsUnit, good_block}
use Rattle.c_unit_laws.proofs.Params.{merged, none, merged_none, params_fit, params_apart, params_alike, good_params}
use Rattle.c_unit_laws.proofs.Memories.{both_none, clear_params}
use Rattle.c_unit_laws.proofs.ClearBlocks.{clear_block}
use Rattle.c_unit_laws.proofs.Fields.{is_there, block_there}
use Rattle.c_unit_laws.proofs.Names.{are_named, are_ordinary}
use Rattle.c_unit_laws.proofs.Standing.{stood, formed_at, calls_before}
use Rattle.c_unit_laws.proofs.Given.{given_within}
use Rattle.c_unit_laws.proofs.Listed.{listed_at, narrow_at, used_at, stack_fits, few_names}

distinct_of : (ps : List Param) → Differ ps → AreDistinct ps
distinct_of [] h = tt
distinct_of (p ∷ ps) h = (h.0, distinct_of ps h.1)

-- what holds in any naming of a procedure of the unit
module _ (program : Program) (what : List Printing) (unit : IsUnit program) (lowers : AreLowered fault_of program what) where
  abbrev fields : ℕ → Option Kind
  fields = field_kind program.fields

  abbrev memories : ℕ
  memories = length program.memories

  abbrev given : Raises
  given = given_to program.procedures (counts program what)

  pub rules : (k : ℕ) (p : Procedure) → slice_get program.procedures k ≡ Some p → IsProcedure fields memories (world_above program k).callees p
  rules k p e = formed_at program.fields memories program.procedures k p unit.procedures e

  pub distinct : (k : ℕ) (p : Procedure) → slice_get program.procedures k ≡ Some p → AreDistinct p.params
  distinct k p e = distinct_of p.params (params_differ fields memories p.params [] (rules k p e).params)

  few_fields : length program.fields < 2 ^ 31
  few_fields =
      let q = and_parts (nat_lt (length program.procedures) (2 ^ 31)) (nat_lt (length program.fields) (2 ^ 31) && nat_lt (length program.memories) (2 ^ 31)) unit.counts in
      let r = and_parts (nat_lt (length program.fields) (2 ^ 31)) (nat_lt (length program.memories) (2 ^ 31)) q.1 in
      grind (arith, r.0)

  known_memories : list_all is_memory program.memories ≡ true
  known_memories = (and_parts (all_differ (λ m n. is_text m.name n.name) program.memories) (list_all is_memory program.memories) unit.memories).1

  module _ (k : ℕ) (p : Procedure) (at : slice_get program.procedures k ≡ Some p) (counted : counts program what k ≡ true) where
    abbrev most : ℕ → ℕ
    most = most_at program.procedures (counts program what) k p

    abbrev kinds : List MemoryKind
    kinds = memories_for (is_listed what k) program.memories

    abbrev world : World
    world = world_above program k

    own : IsProcedure fields memories world.callees p
    own = rules k p at

    narrow : (have_narrow_dims most p.params ≡ true) × (is_narrow_block kinds most p.body ≡ true)
    narrow =
        let q = and_parts (have_narrow_dims most p.params && are_narrow_tests most p.asserts) (is_narrow_block kinds most p.body) (narrow_at program (is_listed what) (counts program what) k p lowers.narrow at counted) in
        ((and_parts (have_narrow_dims most p.params) (are_narrow_tests most p.asserts) q.0).0, q.1)

    -- each field that its body uses is declared
    declared : (f : ℕ) → in_block f p.body ≡ true → declared_in program what f ≡ true
    declared f u =
        let here : 0 + k ≡ k = omega arith in
        and_from (is_used program what f) (nat_lt f (length program.fields))
        (used_at (counts program what) f program.procedures 0 k p at (ap (counts program what) here ∙ counted) (late (in_conditions f p.asserts) u))
        (is_there program.fields f (block_there fields f memories world.callees (scope_of [] p.params) (λ x. x) p.body own.body u))
      where
        late : (t : Bool) → in_block f p.body ≡ true → (t || in_block f p.body) ≡ true
        late true i = refl
        late false i = i

    -- in a naming in which the body is clear of lanes
    pub record IsNaming (naming : Naming) (ks : List MemoryKind) : Type 0 where
      pub names : AreNamed (ground_of program what naming k p) (all_binders p)
      pub params : (j : ℕ) → (naming.routine j).params ≡ (routine_of (slice_get program.procedures j)).params
      pub stack : (j : ℕ) (bounds : ℕ → ℕ) (dims : List Control) → fits_stack (slice_get ks j) bounds dims ≡ true → (naming.memory j).stack ≡ true → fits_cells bounds (without_lanes (naming.memory j).lanes dims) ≡ true
      pub narrow : is_narrow_block ks most p.body ≡ true
      pub body : IsClear naming (param_homes p.params) p.body
      pub clear : AreClearParams naming p.params

    module _ (naming : Naming) (ks : List MemoryKind) (is : IsNaming naming ks) where
      abbrev g : Ground
      g = ground_of program what naming k p

      abbrev all : List Binder
      all = all_binders p

      knows : KnowsUnit g all is.names fields memories ks world.callees given
      knows = record {
        stack = is.stack;
        params = λ j c e. let s = stood (kinds_of program.fields) program.procedures k j c e in ap (λ d. d.procedure.params) (sym s.same) ∙ sym (by_entry j s.procedure s.at);
        within = λ j c e. let s = stood (kinds_of program.fields) program.procedures k j c e in within j s.procedure s.at;
      }
        where
          by_entry : (j : ℕ) (q : Procedure) → slice_get program.procedures j ≡ Some q → (naming.routine j).params ≡ q.params
          by_entry j q e = is.params j ∙ ap (λ o. (routine_of o).params) e

          within : (j : ℕ) (q : Procedure) → slice_get program.procedures j ≡ Some q → AreWithin (bounds_in program what j) (given j) 0 (naming.routine j).params
          within j q e = subst (AreWithin (bounds_in program what j) (given j) 0) (sym (by_entry j q e)) (subst (λ o. AreWithin (bounds_by program (counts program what) j o) (given j) 0 q.params) (sym e) (given_within q.params (given j) (distinct j q e)))

      stands : Fits (lanes_in naming (param_homes p.params)) (scope_of [] p.params) (param_forms p.params)
      stands x = subst (Stands (lanes_in naming (param_homes p.params) x) (sort_in (scope_of [] p.params) x)) (merged_none p.params x) (params_fit fields memories naming p.params (λ y. 0) [] none own.params is.clear (λ y. refl) x)

      good_dims : AreGoodParams (param_forms p.params) most p.params
      good_dims = params_alike fields memories (merged p.params none) (param_forms p.params) (merged_none p.params) most p.params (good_params fields memories naming p.params (λ y. 0) [] none most (λ y. refl) own.params is.clear narrow.0)

      params_there : AreIn (param_binders p.params) all
      params_there = front_in (param_binders p.params) (binders_in p.body) all (all_in all)

      inside : ScopeIn (scope_of [] p.params) all
      inside = params_in p.params [] all tt params_there

      covered : IsCovered given most p.body
      covered = raises_cover program.procedures (counts program what) k p at counted (λ j e. calls_before program.fields memories program.procedures k j p unit.procedures at e)

      good_body : IsGoodBlock g (param_forms p.params) most p.body
      good_body =
          good_block g all is.names fields memories ks world.callees given knows most (param_homes p.params) (scope_of [] p.params) (param_forms p.params) (λ x. x) p.body stands inside
          (rear_in (param_binders p.params) (binders_in p.body) all (all_in all)) own.body is.body is.narrow covered declared (λ j e. e)

      good : IsGoodProcedure g most world p
      good = record {
        named = named_apart g all is.names (lanes_in naming (param_homes p.params)) (scope_of [] p.params) (param_forms p.params) stands inside (params_apart fields memories g all is.names p.params [] own.params tt params_there (apart_first g all is.names));
        distinct = distinct k p at;
        params = good_dims;
        body = good_body;
        may = λ y e. e;
      }

      bounds_are : most ≡ bounds_in program what k
      bounds_are = ap (bounds_by program (counts program what) k) (sym at)

      pub good_procedure : IsGoodProcedure g (bounds_in program what k) world p
      good_procedure = subst (λ m. IsGoodProcedure g m world p) bounds_are good

    -- ---- the two namings

    names_in : (naming : Naming) → naming.binder ≡ name_in (c_names (global_names program what) p) → naming.field ≡ named_field field_name program.fields → AreNamed (ground_of program what naming k p) (all_binders p)
    names_in naming b f = are_named program what p own.distinct lowers.named (few_names program what p own.distinct own.ids few_fields lowers.few) (ground_of program what naming k p) b f refl refl

    -- no binder has a word of C for a name, or that of a function or a field
    pub free_names : (b : Binder) → IsIn b (all_binders p) → (is_word ((naming_of program what p).binder b.id) ≡ false) × (is_in (global_names program what) ((naming_of program what p).binder b.id) ≡ false)
    free_names b h = are_ordinary program what p own.distinct lowers.named (few_names program what p own.distinct own.ids few_fields lowers.few) (ground_of program what (naming_of program what p) k p) refl refl refl refl b h

    pub plain_naming_is : IsNaming (plain_naming program what p) kinds
    plain_naming_is = record {
      names = names_in (plain_naming program what p) refl refl;
      params = λ j. refl;
      stack = λ j bounds dims h s. absurd (true≢false (sym s));
      narrow = narrow.1;
      body = plain_is_clear (plain_naming program what p) (λ j. refl) (λ j. refl) (param_homes p.params) p.body;
      clear = plain_params (plain_naming program what p) (λ j. refl) (λ j. refl) p.params;
    }

    -- no rule on memories is broken
    no_fault : (j : ℕ) (q : Procedure) → is_listed what j ≡ true → slice_get program.procedures j ≡ Some q → (params_fault program.memories q.params ≡ None) × (block_fault program.procedures program.memories (param_homes q.params) q.body ≡ None)
    no_fault j q l e = both_none (params_fault program.memories q.params) (block_fault program.procedures program.memories (param_homes q.params) q.body) (sym (ap (λ o. elim o [ None ↦ None | Some r ↦ procedure_fault program.procedures program.memories r ]) e) ∙ lowers.memories j l)

    pub printed_naming_is : is_listed what k ≡ true → IsNaming (naming_of program what p) program.memories
    printed_naming_is l = record {
      names = names_in naming refl refl;
      params = λ j. refl;
      stack = λ j bounds dims h s. stack_fits (slice_get program.memories j) bounds dims h s;
      narrow = subst (λ t. is_narrow_block (memories_for t program.memories) most p.body ≡ true) l narrow.1;
      body = clear_block program.procedures program.memories known_memories naming (λ j. refl) (λ j. refl) (λ j. calls j p.body) functions (param_homes p.params) p.body (λ j e. e) (no_fault k p l at).1;
      clear = clear_params program.memories known_memories naming (λ j. refl) p.params (no_fault k p l at).0;
    }
      where
        naming : Naming
        naming = naming_of program what p

        functions : (j : ℕ) (q : Procedure) → calls j p.body ≡ true → slice_get program.procedures j ≡ Some q → q.template ≡ None → AreClearParams naming q.params
        functions j q u e t =
            let w = listed_at what k l in
            let there = lowers.listing.closed w.at j w.printing p q w.there (ap (slice_get program.procedures) w.is ∙ at) e u t in
            clear_params program.memories known_memories naming (λ i. refl) q.params (no_fault j q there e).0

pub bodies_are_good : BodiesAreGood
bodies_are_good program what k p unit lowers at counted =
    good_procedure program what unit lowers k p at counted (plain_naming program what p) (memories_for (is_listed what k) program.memories) (plain_naming_is program what unit lowers k p at counted)

pub printed_procedures_are_good : PrintedProceduresAreGood
printed_procedures_are_good program what k p unit lowers at l =
    let counted = seeds_are_closed (λ q. true) (is_listed what) program.procedures k l in
    good_procedure program what unit lowers k p at counted (naming_of program what p) program.memories (printed_naming_is program what unit lowers k p at counted l)
