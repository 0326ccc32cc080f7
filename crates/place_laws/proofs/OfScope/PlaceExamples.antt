-- The laws at a small procedure.
use Rattle.std.proofs.Common.{◌≡◌, ℕ, pos, true, [], ◌∷◌, Some, None, refl, arith, ◌==◌, Bool}
use Rattle.std.proofs.Common.{false, cond, sym, ap}
use Rattle.exo_tree.specs.Tree.{Binder, I8, Index, Lit, Var, Const, Read, Lt, Assign, For, If}
use Rattle.exo_tree.specs.Tree.{Alloc, Pass, Block, end, next, TensorParam, Procedure, I32}
use Rattle.exo_tree.specs.Context.{Context, Here, After, InLoop, InThen, fill}
use Rattle.exo_tree.specs.Places.{Main, Step, Path, Opened, opened, opened_in}
use Rattle.exo_meaning.specs.Units.{is_block, scope_of, sort_in, BufferName, ControlName}
use Rattle.meaning_laws.specs.Sorted.{MayRun, scope_at}
use Rattle.exo_meaning.specs.Value.{Undefined}
use Rattle.exo_meaning.specs.Scene.{Seen, whole}
use Rattle.exo_meaning.specs.State.{with_control}
use Rattle.exo_meaning.specs.State.{State, on_scene, with_buffer, with_contents}
use Rattle.exo_meaning.specs.Run.{tensor, unit_world, kinds_of}
use Rattle.exo_meaning.specs.Inputs.{IsAdmissible}
use Rattle.exo_meaning.specs.Laws.{HasRoots}
use Rattle.exo_meaning.proofs.Examples.{binder, start, world}
use Rattle.meaning_laws.specs.Context.{now}
use Rattle.meaning_laws.specs.Context.{ComesTo}
use Rattle.meaning_laws.proofs.Parts.{none_some, some_injective}
use Rattle.meaning_laws.proofs.Examples.{input, is_admissible, store_three}
use Rattle.meaning_laws.proofs.UnitInstances.{letter, three_named, above, named_unit}
use Rattle.meaning_laws.proofs.UnitInstances.{are_procedures}
use Rattle.place_laws.proofs.OfScope.Within.{holes_compose}
use Rattle.place_laws.proofs.OfScope.Roots.{names_have_roots, roots_come}
use Rattle.place_laws.specs.Scope.BehindBlocks.{IsBehind}
use Rattle.place_laws.specs.Scope.Roots.{own_roots_at}
use Rattle.place_laws.specs.Scope.Holes.{behind, roots_at, within}
use Rattle.place_laws.specs.Scope.SamePlace.{IsSameHole, BeginsWith, IsStart}
use Rattle.place_laws.specs.Scope.PlacesCompose.{IsOnward, onward, IsWithin}
use Rattle.place_laws.specs.Scope.WellAtPlace.{IsWellAt}
use Rattle.place_laws.proofs.OfScope.SameHole.{same_hole}
use Rattle.place_laws.proofs.OfScope.SamePlace.{first_place, same_place}
use Rattle.place_laws.proofs.OfScope.PlacesCompose.{places_compose}
use Rattle.place_laws.proofs.OfScope.BehindBlocks.{opened_behind, holes_behind_blocks}
use Rattle.place_laws.proofs.OfScope.WellAtPlace.{well_at_place, well_put}

abbrev pub named : ℕ → ℕ → Binder
named id letter = record { id = id; name = letter ∷ [] }

-- x[i] = n
abbrev pub store : ℕ → Block → Block
store n rest = next (Assign 0 (Var 1 ∷ []) (Const (pos n))) rest

-- y: i8[2]; if i < 2: x[i] = 3; x[i] = 4; pass
abbrev pub last_two : Block
last_two = next (If (Lt (Var 1) (Lit (pos 2))) (store 3 (store 4 end)) end) (next Pass end)

abbrev pub body_of : Block
body_of = next Pass (next (For (named 1 105) (Lit (pos 0)) (Lit (pos 4))
    (next (Alloc (named 2 121) I8 (Lit (pos 2) ∷ []) 0) last_two)) end)

-- def three(x: i8[4])
abbrev pub three : Procedure
three = record {
  name = [];
  template = None;
  params = record {
    binder = named 0 120;
    kind =
        TensorParam I8 (Lit (pos 4) ∷ []) 0;
  } ∷ [];
  asserts = [];
  body = body_of;
}

abbrev pub at : ℕ → Step
at k = record { branch = Main; index = k }

-- the branch and what follows it
abbrev pub there : Path
there = at 1 ∷ at 1 ∷ []

abbrev pub around : Context
around = After Pass (InLoop (named 1 105) (Lit (pos 0)) (Lit (pos 4))
    (After (Alloc (named 2 121) I8 (Lit (pos 2) ∷ []) 0) (Here end)) end)

abbrev pub piece : Opened
piece = record { around = around; piece = last_two }

it_is_opened : opened 2 there body_of ≡ Some piece
it_is_opened = refl

its_first : (i : Opened) × BeginsWith there body_of piece i
its_first = first_place 1 there body_of piece refl

-- the one statement there has the rest behind it
abbrev pub first : Opened
first = record {
  around = After Pass (InLoop (named 1 105) (Lit (pos 0)) (Lit (pos 4))
      (After (Alloc (named 2 121) I8 (Lit (pos 2) ∷ []) 0) (Here (next Pass end))) end);
  piece = next
      (If (Lt (Var 1) (Lit (pos 2))) (store 3 (store 4 end)) end) end;
}

first_is : opened 1 there body_of ≡ Some first
first_is = refl

one_place : IsSameHole last_two around first.piece first.around
one_place = same_hole around last_two first.piece (next Pass end) refl

-- the second store, in the piece and in the body
abbrev pub second : Opened
second = record {
  around = InThen (Lt (Var 1) (Lit (pos 2)))
      (After (Assign 0 (Var 1 ∷ []) (Const (pos 3))) (Here end)) end (next Pass end);
  piece =
      store 4 end;
}

in_the_piece : opened_in 1 (at 0 ∷ at 1 ∷ []) last_two ≡ Some second
in_the_piece = refl

its_path : onward there (at 0) (at 1 ∷ []) ≡ at 1 ∷ at 1 ∷ at 1 ∷ []
its_path = refl

on_from_there : IsOnward 1 (at 1 ∷ at 1 ∷ at 1 ∷ []) body_of piece second
on_from_there = places_compose 1 2 there (at 0) (at 1 ∷ []) body_of piece second refl refl

-- the pass stands behind the branch
the_pass : opened_in 1 (at 1 ∷ []) last_two
    ≡ Some (record { around = behind first.piece (Here end); piece = next Pass end })
the_pass = opened_behind 1 (at 1) last_two (first.piece, next Pass end) (next Pass end, end) refl
    refl

-- the procedure is well formed, so is what stands at the place
may_run : MayRun [] 1 [] three
may_run = record {
  unit = tt;
  procedure = record {
    params = refl;
    asserts = refl;
    body = refl;
    filled = refl;
    ids = refl;
    distinct = refl;
    paths = refl;
    template = refl;
  };
}

well_there : IsWellAt (λ f. None) 1 (λ k. None) (scope_of [] three.params) (λ x. x) around last_two
well_there = well_at_place (λ f. None) 1 (λ k. None) three around last_two may_run.procedure refl

-- with these names in scope, and y of its own buffer
variable_there : sort_in (scope_at around (scope_of [] three.params)) 1 ≡ Some (ControlName Index)
variable_there = refl

buffer_there : sort_in (scope_at around (scope_of [] three.params)) 2 ≡ Some (BufferName I8 1 true)
buffer_there = refl

root_there : roots_at around (λ x. x) 2 ≡ 2
root_there = refl

-- so may other statements stand there, that read y too
abbrev pub store_y : Block
store_y = next (Assign 0 (Var 1 ∷ []) (Read 2 (Lit (pos 0) ∷ []))) end

well_with_other : is_block (λ f. None) 1 (λ k. None) (scope_of [] three.params) (λ x. x)
    (fill around store_y) ≡ true
well_with_other = well_put (λ f. None) 1 (λ k. None) three around last_two store_y may_run.procedure
    refl refl refl

-- ---- holes

-- the first of two statements, at the place of both
one_of_two : (p : Block × Block) × IsStart 1 there body_of piece p
one_of_two = same_place 1 2 there body_of piece (omega arith) refl

-- the second store in the hole of the loop
store_within : IsWithin second.piece around second.around
store_within = holes_compose second.piece around second.around

store_in_scope :
    sort_in (scope_at (within around second.around) (scope_of [] three.params)) 1
    ≡ Some (ControlName Index)
store_in_scope = refl

-- the pass behind the branch
pass_behind : IsBehind first.piece (next Pass end) (Here end)
pass_behind = holes_behind_blocks first.piece (next Pass end) (Here end)

-- ---- roots

roots_in_three :
    (s u : State)
    → IsAdmissible (unit_world (kinds_of []) []) three s
    → ComesTo (unit_world (kinds_of []) []) last_two around s u
    → HasRoots (own_roots_at around) u.scene
roots_in_three s u = names_have_roots [] 1 [] three around last_two s u may_run

-- for i in seq(0, 16): .., in its first turn on one input
abbrev in_loop : Context
in_loop = InLoop (letter 1 105) (Lit (pos 0)) (Lit (pos 16)) (Here end) end

abbrev first_turn : State
first_turn = on_scene (with_control 1 (pos 0)) input

comes_to_turn : ComesTo named_unit store_three in_loop input first_turn
comes_to_turn = (pos 0, input, now, refl)

roots_in_turn : HasRoots (own_roots_at in_loop) first_turn.scene
roots_in_turn =
    names_have_roots [] 1 above three_named in_loop store_three input first_turn
    (record {
      unit = are_procedures;
      procedure = record {
        params = refl;
        asserts = refl;
        body = refl;
        filled = refl;
        ids = refl;
        distinct = refl;
        paths = refl;
        template = refl;
      };
    })
    (record {
      arguments = ((refl, refl), tt);
      no_others = is_admissible.no_others;
      cells = is_admissible.cells;
      tidy = is_admissible.tidy;
      fields = λ f. tt;
      asserts = refl;
    })
    comes_to_turn

-- y: i32[1], behind which y sees its own buffer
abbrev made_y : State
made_y =
    with_contents 2 (λ at. Undefined) (on_scene (with_buffer 2 (tensor I32 (pos 1 ∷ []))) start)

abbrev behind_y : Context
behind_y = After (Alloc (binder 2) I32 (Lit (pos 1) ∷ []) 0) (Here end)

run_comes : ComesTo world end behind_y start made_y
run_comes = (made_y, refl, refl)

roots_behind_y : HasRoots (roots_at behind_y (λ x. 0)) made_y.scene
roots_behind_y = roots_come world end behind_y (λ x. 0) start made_y run_comes start_roots
  where
    start_roots : HasRoots (λ x. 0) start.scene
    start_roots x seen e = go (x == 0) e
      where
        go : (t : Bool) → cond t (Some (record { buffer = 0; sides = whole (pos 8 ∷ []) })) None
            ≡ Some seen → seen.buffer ≡ 0
        go true k = ap (λ (z : Seen). z.buffer)
            (some_injective seen (record { buffer = 0; sides = whole (pos 8 ∷ []) }) (sym k))
        go false k = absurd (none_some k)

root_of_y : roots_at behind_y (λ x. 0) 2 ≡ 2
root_of_y = refl
