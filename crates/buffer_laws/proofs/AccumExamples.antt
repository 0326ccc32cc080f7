-- A closed block that only reduces a buffer, with a call.
use Rattle.std.proofs.Common.{◌≡◌, ◌==◌, ℤ, pos, Bool, true, false, cond, List, [], ◌∷◌, Option}
use Rattle.std.proofs.Common.{Some, None, refl, sym, ap, ◌∙◌, subst, eqb-true, option_map}
use Rattle.std.specs.Int.{int_wrap}
use Rattle.exo_tree.specs.Tree.{I8, Lit, Const, Reduce, Call, Window, Span, Block, end, next}
use Rattle.exo_tree.specs.Tree.{WindowParam, Procedure}
use Rattle.exo_meaning.specs.Value.{Value, Undefined, Number, wrap}
use Rattle.exo_meaning.specs.Scene.{Shape, Seen}
use Rattle.exo_meaning.specs.State.{State, with_contents}
use Rattle.exo_meaning.specs.Footprint.{changed_by}
use Rattle.exo_meaning.specs.Inputs.{FitsCell}
use Rattle.exo_meaning.specs.Laws.{HasRoots}
use Rattle.exo_meaning.specs.Run.{run, unit_world, kinds_of}
use Rattle.exo_meaning.specs.Units.{Scope, scope_of, AreProcedures}
use Rattle.exo_meaning.proofs.Windows.{none_is_some, one_value}
use Rattle.meaning_laws.specs.Sound.{IsSound}
use Rattle.meaning_laws.specs.Sorted.{IsSorted}
use Rattle.meaning_laws.proofs.Examples.{input, shape, all_of_it}
use Rattle.meaning_laws.proofs.UnitInstances.{letter, three_named, input_is_sound, input_is_sorted}
use Rattle.buffer_laws.specs.Accumulated.{from_zero, adding}
use Rattle.buffer_laws.proofs.Accumulated.{accum_by_modes}

-- f(y : [i8][2]): y[0] += 1
abbrev adds : Procedure
adds = record {
  name = 102 ∷ [];
  template = None;
  params = record { binder = letter 0 121; kind = WindowParam I8 (Lit (pos 2) ∷ []) 0 } ∷ [];
  asserts = [];
  body = next (Reduce 0 (Lit (pos 0) ∷ []) (Const (pos 1))) end;
}

adds_is_well : AreProcedures [] 1 [] (adds ∷ [])
adds_is_well = (
  record {
    params = refl;
    asserts = refl;
    body = refl;
    filled = refl;
    ids = refl;
    distinct = refl;
    paths = refl;
    template = refl;
  },
  tt,
)

-- x[3] += 2; f(x[3:5])
abbrev sums : Block
sums = next (Reduce 0 (Lit (pos 3) ∷ []) (Const (pos 2)))
    (next (Call 0 (Window 0 (Span (Lit (pos 3)) (Lit (pos 5)) ∷ []) ∷ [])) end)

abbrev scope : Scope
scope = scope_of [] three_named.params

-- each cell of x holds 5
abbrev fives : State
fives = with_contents 0 (λ at. Number (pos 5)) input

five_fits : wrap I8 (pos 5) ≡ pos 5
unfolding int_wrap
five_fits = refl

fives_are_sound : IsSound fives
fives_are_sound = record { tidy = λ x e at. tidy at (x == 0) e; seen = input_is_sound.seen }
  where
    tidy : (at : List ℤ) (t : Bool) → cond {A = Option Shape} t (Some shape) None ≡ None
        → cond {A = List ℤ → Value} t (λ js. Number (pos 5)) (λ js. Undefined) at ≡ Undefined
    tidy at true e = absurd (none_is_some (sym e))
    tidy at false e = refl

fives_are_sorted : IsSorted (kinds_of []) scope fives
fives_are_sorted = record {
  buffers = input_is_sorted.buffers;
  views = input_is_sorted.views;
  cells = λ x to e at. fits to at (x == 0) e;
  fields = input_is_sorted.fields;
}
  where
    fits : (to : Shape) (at : List ℤ) (t : Bool)
        → cond {A = Option Shape} t (Some shape) None ≡ Some to
        → FitsCell to.cell
        (cond {A = List ℤ → Value} t (λ js. Number (pos 5)) (λ js. Undefined) at)
    fits to at true e = subst (λ (z : Shape). FitsCell z.cell (Number (pos 5)))
        (one_value shape to e) five_fits
    fits to at false e = tt

own_roots : HasRoots (λ x. x) fives.scene
own_roots x seen e = go (x == 0) refl e
  where
    go : (t : Bool) → (x == 0) ≡ t → cond {A = Option Seen} t (Some all_of_it) None ≡ Some seen
        → seen.buffer ≡ x
    go true h k = ap (λ (z : Seen). z.buffer) (sym (one_value all_of_it seen k))
        ∙ sym (eqb-true x 0 h)
    go false h k = absurd (none_is_some k)

kept_sums : run (unit_world (kinds_of []) (adds ∷ [])) sums fives
    ≡ option_map (changed_by (adding I8 (λ at. Number (pos 5)) 0))
    (run (unit_world (kinds_of []) (adds ∷ [])) sums (from_zero 0 fives))
kept_sums = accum_by_modes [] 1 (adds ∷ []) scope (λ x. x) sums fives 0 shape (record {
  unit = adds_is_well;
  block = refl;
  sound = fives_are_sound;
  sorted = fives_are_sorted;
}) refl own_roots (λ x cell rank dense e. (rank, dense, e)) refl refl
