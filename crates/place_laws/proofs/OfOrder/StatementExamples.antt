-- Neighbours that change places: an allocation and a call, an allocation and a configuration write,
-- a view and a branch on a field; and why each premise is asked.
use Rattle.std.proofs.Common.{◌≡◌, ℕ, zero, suc, ℤ, pos, true, false, true≢false, List, [], ◌∷◌}
use Rattle.std.proofs.Common.{Option, Some, None, option_map, refl, sym, ◌∙◌, subst}
use Rattle.std.specs.Int.{int_wrap}
use Rattle.exo_tree.specs.Tree.{I8, Index, Lit, Field, Const, Read, Lt, Span, ControlArg, Window}
use Rattle.exo_tree.specs.Tree.{Statement, Assign, Config, If, Alloc, View, Call, Block, end, next}
use Rattle.exo_tree.specs.Tree.{Procedure, ConfigField}
use Rattle.exo_tree.specs.Context.{Here}
use Rattle.exo_meaning.specs.Value.{Value, Number}
use Rattle.exo_meaning.specs.State.{State}
use Rattle.exo_meaning.specs.Run.{World, run, kinds_of, unit_world}
use Rattle.exo_meaning.specs.Inputs.{IsAdmissible, Refines, run_procedure}
use Rattle.exo_meaning.specs.Unseen.{in_statement}
use Rattle.exo_meaning.specs.Units.{Scope, scope_of}
use Rattle.meaning_laws.specs.Fields.{step_writes_field}
use Rattle.meaning_laws.specs.Sorted.{IsSorted, FieldsFit}
use Rattle.meaning_laws.specs.UnitFields.{unit_writes}
use Rattle.meaning_laws.specs.Sound.{binds}
use Rattle.meaning_laws.specs.Scoped.{is_param}
use Rattle.meaning_laws.proofs.Examples.{input, is_admissible}
use Rattle.meaning_laws.proofs.UnitInstances.{letter, above, named_unit, three_named}
use Rattle.meaning_laws.proofs.UnitInstances.{are_procedures, input_is_sound, input_is_sorted}
use Rattle.place_laws.specs.Order.Statements.{LeavesAlone}
use Rattle.place_laws.specs.Order.Reorder.{pair, MayReorder, AreClearThere, exchanged}
use Rattle.place_laws.proofs.OfOrder.Statements.{statements_commute}
use Rattle.place_laws.proofs.OfOrder.Reorder.{orders_apart, reorder_law, reorder_refines}

-- the cell of a buffer after a run, and a field
abbrev cell_of : ℕ → ℤ → Option State → Option Value
cell_of b i o = option_map (λ (t : State). t.cells b (i ∷ [])) o

abbrev field_of : ℕ → Option State → Option ℤ
field_of f o = option_map (λ (t : State). t.scene.fields f) o

-- the parameter x: [i8][16]
abbrev scope : Scope
scope = scope_of [] three_named.params

-- y: i8[4]
abbrev make : Statement
make = Alloc (letter 5 121) I8 (Lit (pos 4) ∷ []) 0

-- ---- y: i8[4], and fill(2, x[3:5])

abbrev fill_it : Statement
fill_it = Call 0 (ControlArg (Lit (pos 2)) ∷ Window 0 (Span (Lit (pos 3)) (Lit (pos 5)) ∷ []) ∷ [])

-- y[1] = x[4]
abbrev copy : Block
copy = next (Assign 5 (Lit (pos 1) ∷ []) (Read 0 (Lit (pos 4) ∷ []))) end

neither_writes : (ps : List Procedure) (a b : Statement)
    → ((f : ℕ) → step_writes_field (unit_writes ps) f a ≡ false) → (f : ℕ)
    → step_writes_field (unit_writes ps) f a ≡ true → LeavesAlone ps f b
neither_writes ps a b none f k = absurd (true≢false (sym k ∙ none f))

made_or_filled : run named_unit (next make (next fill_it copy)) input ≡ run named_unit
    (next fill_it (next make copy)) input
made_or_filled = statements_commute [] 1 above scope (λ x. x) make fill_it copy input (record {
  first = record {
    unit = are_procedures;
    block = refl;
    sound = input_is_sound;
    sorted =
        input_is_sorted;
  };
  second = record {
    unit = are_procedures;
    block = refl;
    sound = input_is_sound;
    sorted =
        input_is_sorted;
  };
  to_second = record { names = refl; fields = neither_writes above make fill_it (λ f. refl) };
  to_first = record { names = refl; fields = neither_writes above fill_it make (λ f. refl) };
  clear = ((refl, tt), ((λ u. refl), ((λ u. refl), tt)));
})

copied : cell_of 5 (pos 1) (run named_unit (next fill_it (next make copy)) input)
    ≡ Some (Number (pos 5))
unfolding int_wrap
copied = refl

-- ---- a field: C.f

abbrev one_field : List ConfigField
one_field = record { config = 67 ∷ []; name = 102 ∷ []; kind = Index } ∷ []

abbrev world : World
world = unit_world (kinds_of one_field) []

sorted : IsSorted (kinds_of one_field) scope input
sorted = record {
  buffers = input_is_sorted.buffers;
  views = input_is_sorted.views;
  cells =
      input_is_sorted.cells;
  fields = fit;
}
  where
    fit : FieldsFit (kinds_of one_field) input
    fit zero = tt
    fit (suc f) = tt

-- C.f = 7
abbrev set : Statement
set = Config 0 (ControlArg (Lit (pos 7)))

made_or_set : run world (next make (next set end)) input ≡ run world (next set (next make end))
    input
made_or_set = statements_commute one_field 1 [] scope (λ x. x) make set end input (record {
  first = record { unit = tt; block = refl; sound = input_is_sound; sorted = sorted };
  second = record { unit = tt; block = refl; sound = input_is_sound; sorted = sorted };
  to_second = record { names = refl; fields = neither_writes [] make set (λ f. refl) };
  to_first = record {
    names = refl;
    fields = λ f k. record { not_written = refl; not_read = refl };
  };
  clear = ((refl, tt), tt);
})

field_is_set : field_of 0 (run world (next set (next make end)) input) ≡ Some (pos 7)
field_is_set = refl

-- without the premise on fields the order counts
abbrev set_to : ℤ → Statement
set_to n = Config 0 (ControlArg (Lit n))

order_counts : (field_of 0 (run world (next (set_to (pos 7)) (next (set_to (pos 8)) end)) input)
    ≡ Some (pos 8)) × (field_of 0 (run world (next (set_to (pos 8)) (next (set_to (pos 7)) end))
    input) ≡ Some (pos 7))
order_counts = (refl, refl)

-- nor may a name be used before it is bound, or two stores into one cell change places
abbrev put : ℕ → ℤ → Statement
put x n = Assign x (Lit (pos 0) ∷ []) (Const n)

names_count : (cell_of 5 (pos 0) (run world (next make (next (put 5 (pos 7)) end)) input)
    ≡ Some (Number (pos 7))) × (run world (next (put 5 (pos 7)) (next make end)) input ≡ None)
unfolding int_wrap
names_count = (refl, refl)

clashes_count : (cell_of 0 (pos 0) (run world (next (put 0 (pos 7)) (next (put 0 (pos 8)) end))
    input) ≡ Some (Number (pos 8)))
    × (cell_of 0 (pos 0) (run world (next (put 0 (pos 8)) (next (put 0 (pos 7)) end)) input)
    ≡ Some (Number (pos 7)))
unfolding int_wrap
clashes_count = (refl, refl)

-- ---- a view of x, and a branch that reads C.f and stores in x

abbrev see : Statement
see = View (letter 6 119) 0 (Span (Lit (pos 2)) (Lit (pos 6)) ∷ [])

abbrev store_if : Statement
store_if = If (Lt (Field 0) (Lit (pos 1))) (next (Assign 0 (Lit (pos 3) ∷ []) (Const (pos 9))) end)
    end

-- y[0] = w[1]
abbrev through_view : Block
through_view = next make (next (Assign 5 (Lit (pos 0) ∷ []) (Read 6 (Lit (pos 1) ∷ []))) end)

seen_or_stored : run world (next see (next store_if through_view)) input
    ≡ run world (next store_if (next see through_view)) input
seen_or_stored = statements_commute one_field 1 [] scope (λ x. x) see store_if through_view input
    (record {
      first = record { unit = tt; block = refl; sound = input_is_sound; sorted = sorted };
      second = record { unit = tt; block = refl; sound = input_is_sound; sorted = sorted };
      to_second = record { names = refl; fields = neither_writes [] see store_if (λ f. refl) };
      to_first = record { names = refl; fields = neither_writes [] store_if see (λ f. refl) };
      clear = (tt, ((λ u. refl), tt));
    })

seen_through : cell_of 5 (pos 0) (run world (next store_if (next see through_view)) input)
    ≡ Some (Number (pos 9))
unfolding int_wrap
seen_through = refl

-- ---- a procedure: y: i8[4]; C.f = 7

abbrev makes : Procedure
makes = record three_named { body = pair make set }

may_reorder : MayReorder one_field 1 [] makes (Here end) make set
may_reorder = record {
  there = refl;
  before = record {
    unit = tt;
    procedure = record {
      params = refl;
      asserts = refl;
      body = refl;
      filled = refl;
      ids = refl;
      distinct = refl;
      paths = refl;
      template = refl;
    };
  };
  after = record {
    unit = tt;
    procedure = record {
      params = refl;
      asserts = refl;
      body = refl;
      filled = refl;
      ids = refl;
      distinct = refl;
      paths = refl;
      template = refl;
    };
  };
  to_second = neither_writes [] make set (λ f. refl);
  to_first = λ f k. record { not_written = refl; not_read = refl };
}

clear_there : AreClearThere one_field [] makes (Here end) make set
clear_there s u good come =
    ((subst (λ (z : State). z.scene.buffers 5 ≡ None) (sym come) (good.no_others 5 refl).1, tt), tt)

reordered : Refines world makes (record makes { body = pair set make }) []
reordered = reorder_refines one_field 1 [] makes (Here end) make set may_reorder clear_there

-- at the input, where x holds nothing
admissible : IsAdmissible world makes input
admissible = record {
  arguments = ((refl, refl), tt);
  no_others = is_admissible.no_others;
  cells = is_admissible.cells;
  tidy = is_admissible.tidy;
  fields = sorted.fields;
  asserts = refl;
}

run_alike : run_procedure world makes input
    ≡ run_procedure world (exchanged makes (Here end) make set) input
run_alike = reorder_law one_field 1 [] makes (Here end) make set may_reorder clear_there input
    admissible

-- y is bound once, and C.f = 7 mentions no name
both_in_scope : (in_statement (binds make) set ≡ false) × (in_statement (binds set) make ≡ false)
both_in_scope = orders_apart (is_param makes) (Here end) make set refl refl
