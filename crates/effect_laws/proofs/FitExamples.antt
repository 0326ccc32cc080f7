-- What the laws on orders of loops ask, from conflicts, at closed procedures.
use Rattle.std.specs.Prelude.{codes}
use Rattle.std.specs.Fmt.{digits}
use Rattle.std.proofs.lemmas.Int.{ints}
use Rattle.std.proofs.Common.{ℕ, ℤ, pos, negsuc, List, [], ◌∷◌, refl, arith}
use Rattle.exo_tree.specs.Tree.{Lit, Var, Add, Mul, Const, Assign, For, Binder, Block, end, next}
use Rattle.exo_tree.specs.Tree.{joined, Procedure}
use Rattle.exo_tree.specs.Context.{Here, After, InLoop}
use Rattle.exo_tree.specs.Places.{Main, Step, Path, Opened}
use Rattle.exo_meaning.specs.Run.{program_world}
use Rattle.exo_meaning.specs.Inputs.{IsAdmissible}
use Rattle.meaning_laws.specs.Pairs.{AreClear}
use Rattle.meaning_laws.specs.Sorted.{MayRun}
use Rattle.meaning_laws.specs.Touched.{touched, pair_touched}
use Rattle.meaning_laws.proofs.Examples.{input, is_admissible, store_three, stored}
use Rattle.meaning_laws.proofs.UnitInstances.{letter, three_named}
use Rattle.affine_forms.specs.Affine.{Affine, Constraints, HasNoIntegerPoint}
use Rattle.affine_systems.specs.Outcomes.{owed}
use Rattle.place_laws.specs.Order.TurnsOfTwo.{Loop, HalvesAreClear}
use Rattle.exo_effects.specs.Uses.{modes_of}
use Rattle.effect_laws.specs.Apart.{Conflict, are_shown_apart, ApartIsMet}
use Rattle.effect_laws.specs.Fits.{header, IsBlockThere, spot_of, HalvesFit, nest_conflict, NestsFit}
use Rattle.effect_laws.specs.Fits.{neighbours_conflict, NeighboursFit}
use Rattle.effect_laws.proofs.Examples.{unit, place, body, turns, opened_body, may_run, admissible}
use Rattle.effect_laws.proofs.Examples.{are_shown, is_there}

-- ---- two loops: here a loop against itself

abbrev loop : Loop
loop = record {
  binder = letter 1 105;
  lo = Lit (pos 0);
  hi = Lit (pos 16);
  body = store_three;
}

body_there : IsBlockThere unit three_named place body store_three
body_there = record { opened_as = opened_body; is_there = is_there; piece = refl }

pub halves_are_clear : ApartIsMet → HalvesFit
    → HalvesAreClear (spot_of unit [] (λ x. x)) loop loop input
halves_are_clear met fit =
    fit unit three_named place body.path body.path 1 1 loop loop [] (λ x. x) input input
    (met unit three_named place turns may_run are_shown) body_there body_there admissible refl
    (refl, refl)

-- ---- other bodies for the procedure of x: i32[16]

abbrev of_body : Block → Procedure
of_body b = record three_named { body = b }

of_body_admits : (b : Block) → IsAdmissible (program_world unit) (of_body b) input
of_body_admits b = record {
  arguments = is_admissible.arguments;
  no_others = is_admissible.no_others;
  cells = is_admissible.cells;
  tidy = is_admissible.tidy;
  fields = λ f. tt;
  asserts = refl;
}

abbrev step : ℕ → Step
step k = record { branch = Main; index = k }

-- ---- a nest: for i in seq(0, 4): for j in seq(0, 4): x[4 * i + j] = 3

abbrev i : Binder
i = letter 1 105

abbrev j : Binder
j = letter 2 106

abbrev store : Block
store = stored 0 (Add (Mul (Lit (pos 4)) (Var 1)) (Var 2) ∷ []) (Const (pos 3))

abbrev nest : Procedure
nest =
    of_body (next (For i (Lit (pos 0)) (Lit (pos 4))
    (next (For j (Lit (pos 0)) (Lit (pos 4)) store) end)) end)

nest_may_run : MayRun [] 1 [] nest
nest_may_run = record {
  unit = tt;
  procedure = record {
    params = refl;
    asserts = refl;
    body = refl;
    filled = refl;
    ids = refl;
    distinct = refl;
    paths = refl;
    template = refl;
  };
}

abbrev to_store : Path
to_store = step 0 ∷ step 0 ∷ step 0 ∷ []

abbrev of_nest : Conflict
of_nest =
    nest_conflict (header i (Lit (pos 0)) (Lit (pos 4))) (header j (Lit (pos 0)) (Lit (pos 4)))
    to_store 1

abbrev sum : ℤ → List ℤ → Affine
sum k cs = record { constant = k; coefficients = cs }

abbrev none : ℤ
none = pos 0

-- a lesser i and a greater j with one sum
abbrev crossing : Constraints
crossing = record {
  variables = 4;
  equations = sum none (pos 4 ∷ pos 1 ∷ negsuc 3 ∷ negsuc 0 ∷ []) ∷ [];
  rows = sum none (pos 1 ∷ none ∷ none ∷ none ∷ [])
      ∷ sum (pos 3) (negsuc 0 ∷ none ∷ none ∷ none ∷ [])
      ∷ sum none (none ∷ pos 1 ∷ none ∷ none ∷ [])
      ∷ sum (pos 3) (none ∷ negsuc 0 ∷ none ∷ none ∷ [])
      ∷ sum none (none ∷ none ∷ pos 1 ∷ none ∷ [])
      ∷ sum (pos 3) (none ∷ none ∷ negsuc 0 ∷ none ∷ [])
      ∷ sum none (none ∷ none ∷ none ∷ pos 1 ∷ [])
      ∷ sum (pos 3) (none ∷ none ∷ none ∷ negsuc 0 ∷ [])
      ∷ sum (negsuc 0) (negsuc 0 ∷ none ∷ pos 1 ∷ none ∷ [])
      ∷ sum (negsuc 0) (none ∷ pos 1 ∷ none ∷ negsuc 0 ∷ [])
      ∷ [];
}

no_crossing : HasNoIntegerPoint crossing
no_crossing [] h = let e = h.one_each in absurd (omega (arith, e))
no_crossing (a ∷ []) h = let e = h.one_each in absurd (omega (arith, e))
no_crossing (a ∷ b ∷ []) h = let e = h.one_each in absurd (omega (arith, e))
no_crossing (a ∷ b ∷ c ∷ []) h = let e = h.one_each in absurd (omega (arith, e))
no_crossing (a ∷ b ∷ c ∷ d ∷ []) h =
    let e = h.equations_hold.0 in
    let high = h.rows_hold.1.1.1.0 in
    let low = h.rows_hold.1.1.1.1.1.1.0 in
    let less = h.rows_hold.1.1.1.1.1.1.1.1.0 in
    absurd (omega (arith, ints, e, high, low, less))
no_crossing (a ∷ b ∷ c ∷ d ∷ f ∷ rest) h = let e = h.one_each in absurd (omega (arith, e))

nest_is_shown : are_shown_apart unit nest place of_nest
unfolding digits
nest_is_shown =
    (owed (codes "x[4 * i + j] against x[4 * i + j]") place crossing ∷ [], refl, (no_crossing, tt))

store_there : IsBlockThere unit nest place of_nest.first store
store_there = record {
  opened_as = record {
    around = InLoop i (Lit (pos 0)) (Lit (pos 4))
        (InLoop j (Lit (pos 0)) (Lit (pos 4)) (Here end) end) end;
    piece = store;
  };
  is_there = record {
    opens = refl;
    loops = refl;
    root = λ x. x;
    block = refl;
    parts = λ x h. refl;
  };
  piece = refl;
}

-- turns (0, 1) and (1, 0)
pub pairs_are_clear : ApartIsMet → NestsFit
    → AreClear input.scene
    (pair_touched (program_world unit) (modes_of unit) i j store (pos 0, pos 1) input)
    (pair_touched (program_world unit) (modes_of unit) i j store (pos 1, pos 0) input)
pairs_are_clear met fit =
    fit unit nest place to_store 1 i j (Lit (pos 0)) (Lit (pos 4)) (Lit (pos 0)) (Lit (pos 4)) store
    input input (met unit nest place of_nest nest_may_run nest_is_shown) store_there
    ((refl, refl), ((refl, refl), ((refl, refl), (refl, refl)))) (of_body_admits nest.body) refl
    input (pos 0, pos 1) (pos 1, pos 0) refl (
      (omega (arith, ints), omega (arith, ints), omega (arith, ints)),
      (omega (arith, ints), omega (arith, ints), omega (arith, ints)),
    )

-- ---- neighbours: x[0] = 3, x[8] = 5

abbrev at_start : Block
at_start = stored 0 (Lit (pos 0) ∷ []) (Const (pos 3))

abbrev behind_it : Block
behind_it = stored 0 (Lit (pos 8) ∷ []) (Const (pos 5))

abbrev neighbours : Procedure
neighbours = of_body (joined at_start behind_it)

neighbours_may_run : MayRun [] 1 [] neighbours
neighbours_may_run = record {
  unit = tt;
  procedure = record {
    params = refl;
    asserts = refl;
    body = refl;
    filled = refl;
    ids = refl;
    distinct = refl;
    paths = refl;
    template = refl;
  };
}

abbrev second : Path
second = step 1 ∷ []

abbrev of_neighbours : Conflict
of_neighbours = neighbours_conflict place second

-- 0 is 8
abbrev one_cell : Constraints
one_cell = record { variables = 0; equations = sum (negsuc 7) [] ∷ []; rows = [] }

not_one_cell : HasNoIntegerPoint one_cell
not_one_cell [] h = let e = h.equations_hold.0 in absurd (omega (arith, ints, e))
not_one_cell (a ∷ rest) h = let e = h.one_each in absurd (omega (arith, e))

neighbours_are_shown : are_shown_apart unit neighbours place of_neighbours
unfolding digits
neighbours_are_shown =
    (owed (codes "x[0] against x[8]") place one_cell ∷ [], refl, (not_one_cell, tt))

first_there : IsBlockThere unit neighbours place of_neighbours.first at_start
first_there = record {
  opened_as = record { around = Here behind_it; piece = at_start };
  is_there = record {
    opens = refl;
    loops = refl;
    root = λ x. x;
    block = refl;
    parts = λ x h. refl;
  };
  piece = refl;
}

abbrev second_opened : Opened
second_opened = record {
  around = After (Assign 0 (Lit (pos 0) ∷ []) (Const (pos 3))) (Here end);
  piece = behind_it;
}

second_there : IsBlockThere unit neighbours place of_neighbours.second behind_it
second_there = record {
  opened_as = second_opened;
  is_there = record {
    opens = refl;
    loops = refl;
    root = λ x. x;
    block = refl;
    parts = λ x h. refl;
  };
  piece = refl;
}

pub neighbours_are_clear : ApartIsMet → NeighboursFit
    → AreClear input.scene (touched (program_world unit) (modes_of unit) at_start input)
    (touched (program_world unit) (modes_of unit) behind_it input)
neighbours_are_clear met fit =
    fit unit neighbours place second at_start behind_it input input
    (met unit neighbours place of_neighbours neighbours_may_run neighbours_are_shown) first_there
    second_there (of_body_admits neighbours.body) refl
