-- The laws at small loops.
use Rattle.std.proofs.Common.{◌≡◌, ℕ, zero, suc, ℤ, pos, ◌==◌, true, false, true≢false, List, []}
use Rattle.std.proofs.Common.{◌∷◌, Option, Some, None, IfSome, option_map, refl, sym, subst}
use Rattle.std.specs.Prelude.{IsSome}
use Rattle.std.specs.Int.{int_wrap}
use Rattle.exo_tree.specs.Tree.{I32, Lit, Const, Assign, Reduce, Statement, For, end, next, Binder}
use Rattle.exo_tree.specs.Tree.{Procedure}
use Rattle.exo_tree.specs.Context.{Here}
use Rattle.exo_meaning.specs.Value.{Value, Undefined, Number}
use Rattle.exo_meaning.specs.Scene.{Shape, Seen, whole}
use Rattle.exo_meaning.specs.State.{State, scoped}
use Rattle.exo_meaning.specs.Run.{World, run, step, kinds_of, unit_world}
use Rattle.exo_meaning.specs.Refines.{Both}
use Rattle.exo_meaning.specs.Inputs.{IsAdmissible}
use Rattle.meaning_laws.specs.Sorted.{MayRun}
use Rattle.meaning_laws.specs.Live.{live}
use Rattle.meaning_laws.specs.UnitFields.{unit_live}
use Rattle.meaning_laws.proofs.Parts.{none_some, some_injective}
use Rattle.meaning_laws.proofs.Examples.{input, is_admissible, call_it}
use Rattle.meaning_laws.proofs.UnitInstances.{three_named, above, named_unit, are_procedures}
use Rattle.place_laws.specs.Order.Overwrite.{SetAlike, DifferIn, MayRepeat}
use Rattle.place_laws.specs.Order.RemoveLoop.{IsIdempotent}
use Rattle.place_laws.proofs.OfOrder.RemoveLoop.{loops_are_removed_at}
use Rattle.place_laws.proofs.OfOrder.Overwrite.{blocks_overwrite}
use Rattle.place_laws.proofs.OfOrder.Repeat.{loops_are_removed, turns_repeat}
use Rattle.place_laws.proofs.OfOrder.Unread.{unread_fields_are_dead}

abbrev world : World
world = unit_world (kinds_of []) []

abbrev shape : Shape
shape = record { cell = I32; dims = pos 1 ∷ []; strides = pos 1 ∷ [] }

abbrev seen : Seen
seen = record { buffer = 0; sides = whole (pos 1 ∷ []) }

abbrev buffers : ℕ → Option Shape
buffers zero = Some shape
buffers (suc x) = None

abbrev views : ℕ → Option Seen
views zero = Some seen
views (suc x) = None

-- buffer 0 has one cell, with 5 in it
abbrev first : State
first = record {
  scene = record { control = λ x. pos 0; buffers = buffers; views = views; fields = λ f. pos 0 };
  cells = cells;
}
  where
    cells : ℕ → List ℤ → Value
    cells zero at = Number (pos 5)
    cells (suc x) at = Undefined

abbrev variable : Binder
variable = record { id = 1; name = 105 ∷ [] }

-- for i in seq(0, 3): a
abbrev three_times : Statement → Statement
three_times a = For variable (Lit (pos 0)) (Lit (pos 3)) (next a end)

-- x[0] = 7
abbrev set : Statement
set = Assign 0 (Lit (pos 0) ∷ []) (Const (pos 7))

-- x[0] += 7
abbrev add : Statement
add = Reduce 0 (Lit (pos 0) ∷ []) (Const (pos 7))

abbrev cell : Option State → Option Value
cell o = option_map (λ t. t.cells 0 (pos 0 ∷ [])) o

may : MayRepeat [] 0 [] (λ x. x) (next set end) first
may = record {
  unit = tt;
  sound = record { tidy = tidy; seen = sees };
  roots = own;
  reduces = λ y h. refl;
  reads = λ y h k. refl;
  dead = λ f h. absurd (true≢false (sym h));
}
  where
    tidy : (x : ℕ) → buffers x ≡ None → (at : List ℤ) → first.cells x at ≡ Undefined
    tidy zero e at = absurd (none_some (sym e))
    tidy (suc x) e at = refl

    sees : (x : ℕ) (z : Seen) → views x ≡ Some z → IsSome (buffers z.buffer)
    sees zero z e = subst (λ (y : Seen). IsSome (buffers y.buffer)) (some_injective seen z e) refl
    sees (suc x) z e = absurd (none_some e)

    own : (x : ℕ) (z : Seen) → views x ≡ Some z → z.buffer ≡ x
    own zero z e = subst (λ (y : Seen). y.buffer ≡ 0) (some_injective seen z e) refl
    own (suc x) z e = absurd (none_some e)

-- the same with 9 in the cell: what is set does not depend on it
abbrev nine : State
nine = record first { cells = cells }
  where
    cells : ℕ → List ℤ → Value
    cells zero at = Number (pos 9)
    cells (suc x) at = Undefined

pub alike : let b = next set end in
    Both (λ u v. SetAlike first nine u v × DifferIn (λ f. true) (λ y. y == 0) u v)
    (run world b first) (run world b nine)
alike = blocks_overwrite [] 0 [] (λ x. x) (next set end) (λ y. y == 0) (λ f. true) first nine
    (record { unit = tt; reads = λ y h. refl; reduces = λ y h. refl }) may.roots
    (record { names = refl; fields = λ f h. refl; cells = same })
  where
    same : (x : ℕ) → (x == 0) ≡ false → nine.cells x ≡ first.cells x
    same zero h = absurd (true≢false h)
    same (suc x) h = refl

-- a second run of the body changes nothing
pub again : let once = scoped (run world (next set end)) in
    IfSome (once first) (λ t. once t ≡ Some t)
again = turns_repeat [] 0 [] (λ x. x) (next set end) first may

-- the loop is its body, and its cell holds 7
pub set_once : step world (three_times set) first ≡ scoped (run world (next set end)) first
set_once =
    loops_are_removed [] 0 [] (λ x. x) variable (Lit (pos 0)) (Lit (pos 3)) (next set end) first
    may refl refl refl

pub set_is_seven : cell (step world (three_times set) first) ≡ Some (Number (pos 7))
unfolding int_wrap
set_is_seven = refl

-- a reduction is not
pub added_once : cell (scoped (run world (next add end)) first) ≡ Some (Number (pos 12))
unfolding int_wrap
added_once = refl

pub added_thrice : cell (step world (three_times add) first) ≡ Some (Number (pos 26))
unfolding int_wrap
added_thrice = refl

-- ---- with a call, at a place of a well-formed procedure

-- def rep(x: i8[16]): for i in seq(0, 3): fill(2, x[3:5])
abbrev rep : Procedure
rep = record three_named { body = next (For variable (Lit (pos 0)) (Lit (pos 3)) call_it) end }

rep_may_run : MayRun [] 1 above rep
rep_may_run = record {
  unit = are_procedures;
  procedure = record {
    params = refl;
    asserts = refl;
    body = refl;
    filled = refl;
    ids = refl;
    distinct = refl;
    paths = refl;
    template = refl;
  };
}

is_idempotent : IsIdempotent [] above rep (Here end) variable call_it
is_idempotent = record {
  fresh = (refl, refl);
  lacks = refl;
  reduces = λ y h. refl;
  reads = λ y h k. refl;
  unread = λ f h. absurd (true≢false (sym h));
}

admissible : IsAdmissible named_unit rep input
admissible = record {
  arguments = ((refl, refl), tt);
  no_others = is_admissible.no_others;
  cells = is_admissible.cells;
  tidy = is_admissible.tidy;
  fields = λ f. tt;
  asserts = refl;
}

pub called_once : run named_unit rep.body input ≡ scoped (run named_unit call_it) input
called_once =
    loops_are_removed_at [] 1 above rep (Here end) variable (Lit (pos 0)) (Lit (pos 3)) call_it
    input input rep_may_run is_idempotent (λ s u good come. refl) admissible refl

-- the call reads no field, so none is live before it
pub unread : live (unit_live above) 0 call_it false ≡ false
unread = unread_fields_are_dead above 0 call_it refl
