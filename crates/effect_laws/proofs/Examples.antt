-- The laws at a closed procedure: the turns of a loop that stores in a cell of its own at each turn.
use Rattle.std.specs.Prelude.{codes}
use Rattle.std.specs.Fmt.{digits}
use Rattle.std.proofs.lemmas.Int.{ints}
use Rattle.std.proofs.Common.{◌≡◌, ◌==◌, ◌||◌, ℕ, ℤ, pos, negsuc, Bool, true, false, cond, List}
use Rattle.std.proofs.Common.{inl, [], ◌∷◌, map, Option, Some, None, IsSome, IfSome, refl, sym, ap, ◌∙◌, subst, true≢false, arith}
use Rattle.exo_tree.specs.Tree.{Kind, Size, Index, Truth, Stride, I8, Lit, Program, MemoryKind}
use Rattle.exo_tree.specs.Context.{InLoop, Here}
use Rattle.exo_tree.specs.Tree.{end}
use Rattle.exo_tree.specs.Places.{Main, Path, Opened}
use Rattle.exo_meaning.specs.Run.{program_world}
use Rattle.exo_meaning.specs.Scene.{Scene, Seen, Shape}
use Rattle.exo_meaning.specs.Footprint.{Entry, Writes}
use Rattle.exo_meaning.specs.Inputs.{IsAdmissible, IsOfKind}
use Rattle.exo_meaning.specs.Units.{Scope, Sort, ControlName, BufferName, scope_of, sort_in}
use Rattle.exo_meaning.specs.State.{on_scene}
use Rattle.meaning_laws.specs.Pairs.{AreClear}
use Rattle.meaning_laws.specs.Sorted.{MayRun}
use Rattle.meaning_laws.specs.Touched.{touched}
use Rattle.meaning_laws.proofs.Examples.{input, is_admissible, store_three, shape, all_of_it}
use Rattle.meaning_laws.proofs.UnitInstances.{letter, three_named}
use Rattle.affine_forms.specs.Affine.{Affine, Constraints, HasNoIntegerPoint}
use Rattle.affine_forms.specs.Atoms.{Valuation}
use Rattle.affine_systems.specs.Outcomes.{owed}
use Rattle.affine_systems.specs.Systems.{KeepsKinds}
use Rattle.exo_effects.specs.Accesses.{Access, access_of, accesses_of}
use Rattle.exo_effects.specs.Orders.{Less, Order, order_of}
use Rattle.exo_effects.specs.Parts.{Part, whole_of}
use Rattle.exo_effects.specs.Uses.{modes_of, at_hole, uses_in}
use Rattle.effect_laws.specs.Words.{context_of, context_fits}
use Rattle.effect_laws.specs.Covers.{Covers, SeesPart, MayCover, CoversLaw}
use Rattle.effect_laws.specs.CoversAtPlaces.{CoversAtPlaces}
use Rattle.effect_laws.specs.Clear.{AreTwoTurns, ClearLaw}
use Rattle.effect_laws.specs.Apart.{Turns, Conflict, are_shown_apart, with_turns, IsThere, ApartIsMet}

abbrev pub plain_cells : MemoryKind
plain_cells = record { name = 68 ∷ []; ctype = []; lanes = 0; cell = None; stack = false; read = true; write = true; reduce = true; header = [] }

abbrev pub unit : Program
unit = record { procedures = []; fields = []; memories = plain_cells ∷ [] }

pub may_run : MayRun [] 1 [] three_named
may_run = record {
  unit = tt;
  procedure = record { params = refl; asserts = refl; body = refl; filled = refl; ids = refl; distinct = refl; paths = refl; template = refl };
}

pub admissible : IsAdmissible (program_world unit) three_named input
admissible = record {
  arguments = is_admissible.arguments;
  no_others = is_admissible.no_others;
  cells = is_admissible.cells;
  tidy = is_admissible.tidy;
  fields = λ f. tt;
  asserts = refl;
}

-- the loop
abbrev pub place : Path
place = record { branch = Main; index = 0 } ∷ []

-- its body at a turn
abbrev pub body : Turns
body = record {
  path = record { branch = Main; index = 0 } ∷ record { branch = Main; index = 0 } ∷ [];
  count = 1;
  loops = record { binder = letter 1 105; lo = Lit (pos 0); hi = Lit (pos 16) } ∷ [];
}

-- at an earlier turn and at a later one
abbrev pub turns : Conflict
turns = record { first = body; second = body; order = Less 0 ∷ [] }

abbrev sum : ℤ → ℤ → ℤ → Affine
sum k a b = record { constant = k; coefficients = a ∷ b ∷ [] }

-- over the two variables of the loop: they are equal, and the first is less
abbrev same_cell : Constraints
same_cell = record {
  variables = 2;
  equations = sum (pos 0) (pos 1) (negsuc 0) ∷ [];
  rows = sum (pos 0) (pos 1) (pos 0) ∷ sum (pos 15) (negsuc 0) (pos 0)
      ∷ sum (pos 0) (pos 0) (pos 1) ∷ sum (pos 15) (pos 0) (negsuc 0)
      ∷ sum (negsuc 0) (negsuc 0) (pos 1) ∷ [];
}

no_point : HasNoIntegerPoint same_cell
no_point [] h = let e = h.one_each in absurd (omega (arith, e))
no_point (a ∷ []) h = let e = h.one_each in absurd (omega (arith, e))
no_point (a ∷ b ∷ []) h = let e = h.equations_hold.0 in let r = h.rows_hold.1.1.1.1.0 in absurd (omega (arith, ints, e, r))
no_point (a ∷ b ∷ c ∷ rest) h = let e = h.one_each in absurd (omega (arith, e))

pub are_shown : are_shown_apart unit three_named place turns
unfolding digits
are_shown = (owed (codes "x[i] against x[i]") place same_cell ∷ [], refl, (no_point, tt))

abbrev pub opened_body : Opened
opened_body = record { around = InLoop (letter 1 105) (Lit (pos 0)) (Lit (pos 16)) (Here end) end; piece = store_three }

pub is_there : IsThere unit three_named place body opened_body
is_there = record { opens = refl; loops = refl; root = λ x. x; block = refl; parts = λ x h. refl }

-- turns 3 and 5
apart_at : ApartIsMet → AreClear input.scene (touched (program_world unit) (modes_of unit) store_three (on_scene (with_turns body.loops (pos 3 ∷ [])) input))
    (touched (program_world unit) (modes_of unit) store_three (on_scene (with_turns body.loops (pos 5 ∷ [])) input))
apart_at law = law unit three_named place turns may_run are_shown input input input (pos 3 ∷ []) (pos 5 ∷ []) opened_body opened_body admissible refl refl is_there is_there
    (omega (arith, ints), (omega (arith, ints), tt)) (omega (arith, ints), (omega (arith, ints), tt)) (omega (arith, ints), tt)

-- ---- what the whole body touches: sixteen cells, all of the access in the loop

abbrev whole_body : Opened
whole_body = record { around = Here end; piece = three_named.body }

abbrev scope : Scope
scope = scope_of [] three_named.params

abbrev part_of : ℕ → Option Part
part_of = (at_hole unit three_named whole_body).parts

-- what a name sees is all of x
it_is_all : (x : ℕ) (seen : Seen) → input.scene.views x ≡ Some seen → seen ≡ all_of_it
it_is_all x seen e = subst (λ o. IfSome o (λ s. s ≡ all_of_it)) e (go (x == 0))
  where
    go : (t : Bool) → IfSome (cond t (Some all_of_it) None) (λ s. s ≡ all_of_it)
    go true = refl
    go false = tt

abbrev is_i8 : Sort → Type 0
is_i8 (ControlName kind) = Unit {0}
is_i8 (BufferName cell rank dense) = I8 ≡ cell

its_cell : (x : ℕ) (sort : Sort) → sort_in scope x ≡ Some sort → is_i8 sort
its_cell x sort e = subst (λ o. IfSome o is_i8) e (go (x == 0))
  where
    go : (t : Bool) → IfSome (cond t (Some (BufferName I8 1 true)) None) is_i8
    go true = refl
    go false = tt

its_shape : (s : Shape) → Some shape ≡ Some s → s.cell ≡ I8
its_shape s e = subst (λ o. IfSome o (λ s. s.cell ≡ I8)) e refl

abbrev IsPart : Option Part → Seen → Type 0
IsPart o seen = (part : Part) × (o ≡ Some part) × SeesPart scope input.scene part seen

its_part : (x : ℕ) (seen : Seen) → input.scene.views x ≡ Some seen → IsPart (part_of x) seen
its_part x seen e = subst (λ o. IfSome o (IsPart (part_of x))) e (go (x == 0))
  where
    go :
        (t : Bool)
        → IfSome (cond t (Some all_of_it) None)
        (IsPart (cond t (Some (whole_of 0 (Lit (pos 16) ∷ []))) None))
    go true =
        (whole_of 0 (Lit (pos 16) ∷ []), refl, record { root = refl; affine = refl; sides = refl })
    go false = tt

may_cover : MayCover unit scope part_of three_named.body input.scene
may_cover = record {
  root = λ x. x;
  block = refl;
  buffers = λ x h. in_scope (x == 0) h;
  sound = λ x seen e.
      subst (λ s. IsSome (input.scene.buffers s.buffer)) (sym (it_is_all x seen e)) refl;
  cells = λ x cell rank dense seen s sort e there.
      its_shape s (ap (λ s. input.scene.buffers s.buffer) (sym (it_is_all x seen e)) ∙ there)
      ∙ its_cell x (BufferName cell rank dense) sort;
  flags = λ x h. omega (arith, ints);
  seen = its_part;
}
  where
    in_scope :
        (t : Bool)
        → IsSome (cond t (Some shape) None)
        → IsSome (cond t (Some (BufferName I8 1 true)) None)
    in_scope true h = h
    in_scope false h = h

body_is_covered : CoversLaw
    → Covers input.scene (map access_of (uses_in unit three_named whole_body))
    (touched (program_world unit) (modes_of unit) three_named.body input)
body_is_covered law = law unit three_named whole_body scope input may_cover

-- ---- turns 3 and 5 again, each with the one cell that it stores

abbrev cell_at : ℤ → List Entry
cell_at n = Writes (record { buffer = 0; at = n ∷ [] }) ∷ []

abbrev at_turn : ℤ → Scene
at_turn n = with_turns body.loops (n ∷ []) input.scene

abbrev stores : List Access
stores = accesses_of unit three_named body.path body.count

cell_is_covered : (n : ℤ) → Covers (at_turn n) stores (cell_at n)
cell_is_covered n = (
  λ there. inl (record {
    root = refl;
    so = refl;
    numbers = (at_turn n).control;
    others = λ y h. refl;
    reached = record {
      guards = λ v e. refl;
      cell = λ v e. (let same = ap (λ f. f 1) e in omega (arith, ints, same), tt);
    };
  }),
  tt,
)

-- all variables are 0, and all else is 1
abbrev numbers : Valuation
numbers = record {
  variable = λ x. pos 0;
  entry = λ f kind. pos 1;
  unknown = λ f kind path. pos 1;
  stride = λ x k. pos 1;
}

kinds_are_kept : KeepsKinds numbers
kinds_are_kept = record { entry = λ f kind. one kind; unknown = λ f kind path. one kind }
  where
    one : (kind : Kind) → IsOfKind kind (pos 1)
    one Size = omega (arith, ints)
    one Index = tt
    one Truth = (omega (arith, ints), omega (arith, ints))
    one Stride = tt

abbrev order : Order
order = order_of turns.first.loops turns.second.loops turns.order

are_two_turns : AreTwoTurns order numbers (at_turn (pos 3)) (at_turn (pos 5))
are_two_turns = record {
  buffers = refl;
  copies = record {
    first_else = λ y e. else_0 (pos 3) (y == 1) e;
    second_else = λ y e. else_0 (pos 5) (y == 1) e;
    first_within =
        (record { lower = λ v e. omega (arith, ints); upper = λ v e. omega (arith, ints) }, tt);
    second_within =
        (record { lower = λ v e. omega (arith, ints); upper = λ v e. omega (arith, ints) }, tt);
    ordered = (omega (arith, ints), tt);
  };
}
  where
    else_0 : (n : ℤ) (t : Bool) → (t || false) ≡ false → cond t n (pos 0) ≡ pos 0
    else_0 n true e = absurd (true≢false e)
    else_0 n false e = refl

cells_are_clear : ClearLaw → AreClear (at_turn (pos 3)) (cell_at (pos 3)) (cell_at (pos 5))
cells_are_clear law =
    law (context_fits unit three_named place) (context_of unit three_named place) order place stores
    stores numbers (at_turn (pos 3)) (at_turn (pos 5)) (cell_at (pos 3)) (cell_at (pos 5)) kinds_are_kept refl are_shown are_two_turns
    (cell_is_covered (pos 3)) (cell_is_covered (pos 5))

-- the whole body, where a run comes to it
place_is_covered : CoversAtPlaces
    → Covers input.scene (accesses_of unit three_named place 1)
    (touched (program_world unit) (modes_of unit) three_named.body input)
place_is_covered law =
    law unit three_named place 0 whole_body input input input may_run refl admissible refl refl
