-- The law of pairs at a closed call: `copy(x[0:8], x[8:16])`, the two halves of sixteen cells, of
-- which the callee writes the first and reads the second.
use Rattle.std.proofs.lemmas.Int.{ints}
use Rattle.std.proofs.Common.{◌≡◌, ℤ, pos, negsuc, true, [], ◌∷◌, None, refl, arith}
use Rattle.exo_tree.specs.Tree.{I8, Lit, Var, Read, Window, Span, Assign, For, Call, end, next}
use Rattle.exo_tree.specs.Tree.{WindowParam, Procedure, Program}
use Rattle.exo_tree.specs.Context.{Here}
use Rattle.exo_tree.specs.Places.{Opened}
use Rattle.exo_tree.specs.Calls.{call_arguments}
use Rattle.exo_meaning.specs.Calls.{are_apart_at}
use Rattle.exo_meaning.specs.Run.{program_world}
use Rattle.exo_meaning.specs.Inputs.{IsAdmissible}
use Rattle.meaning_laws.specs.Sorted.{MayRun}
use Rattle.meaning_laws.proofs.Examples.{input}
use Rattle.meaning_laws.proofs.UnitInstances.{letter, three_named}
use Rattle.affine_forms.specs.Affine.{Affine, Constraints, HasNoIntegerPoint}
use Rattle.effect_laws.specs.Pairs.{IsPairShown, PairsAreApart}
use Rattle.effect_laws.proofs.Examples.{plain_cells, admissible, place}

-- def copy(v: [i8][8], w: [i8][8]): for l in seq(0, 8): v[l] = w[l]
abbrev copy : Procedure
copy = record {
  name = 99 ∷ [];
  template = None;
  params = record { binder = letter 10 118; kind = WindowParam I8 (Lit (pos 8) ∷ []) 0 }
      ∷ record { binder = letter 11 119; kind = WindowParam I8 (Lit (pos 8) ∷ []) 0 } ∷ [];
  asserts = [];
  body = next
      (For (letter 12 108) (Lit (pos 0)) (Lit (pos 8))
      (next (Assign 10 (Var 12 ∷ []) (Read 11 (Var 12 ∷ []))) end)) end;
}

abbrev unit : Program
unit = record { procedures = copy ∷ []; fields = []; memories = plain_cells ∷ [] }

abbrev halves : Procedure
halves = record three_named {
  body = next
      (Call 0 (Window 0 (Span (Lit (pos 0)) (Lit (pos 8)) ∷ [])
      ∷ Window 0 (Span (Lit (pos 8)) (Lit (pos 16)) ∷ []) ∷ [])) end;
}

may_run : MayRun [] 1 (copy ∷ []) halves
may_run = record {
  unit = (record { params = refl; asserts = refl; body = refl; filled = refl; ids = refl; distinct = refl; paths = refl; template = refl }, tt);
  procedure = record { params = refl; asserts = refl; body = refl; filled = refl; ids = refl; distinct = refl; paths = refl; template = refl };
}

halves_input : IsAdmissible (program_world unit) halves input
halves_input = record {
  arguments = admissible.arguments;
  no_others = admissible.no_others;
  cells = admissible.cells;
  tidy = admissible.tidy;
  fields = λ f. tt;
  asserts = refl;
}

abbrev sum : ℤ → ℤ → ℤ → Affine
sum k a b = record { constant = k; coefficients = a ∷ b ∷ [] }

-- over an index of each half: they are equal
abbrev one_cell : Constraints
one_cell = record {
  variables = 2;
  equations = sum (pos 0) (pos 1) (negsuc 0) ∷ [];
  rows = sum (pos 0) (pos 1) (pos 0) ∷ sum (pos 7) (negsuc 0) (pos 0)
      ∷ sum (negsuc 7) (pos 0) (pos 1) ∷ sum (pos 15) (pos 0) (negsuc 0) ∷ [];
}

no_point : HasNoIntegerPoint one_cell
no_point [] h = let e = h.one_each in absurd (omega (arith, e))
no_point (a ∷ []) h = let e = h.one_each in absurd (omega (arith, e))
no_point (a ∷ b ∷ []) h =
    let e = h.equations_hold.0 in
    let below = h.rows_hold.1.0 in
    let above = h.rows_hold.1.1.0 in
    absurd (omega (arith, ints, e, below, above))
no_point (a ∷ b ∷ c ∷ rest) h = let e = h.one_each in absurd (omega (arith, e))

is_shown : IsPairShown unit halves place 0 1
is_shown = (no_point, tt)

abbrev the_call : Opened
the_call = record { around = Here end; piece = halves.body }

are_apart : PairsAreApart → are_apart_at input.scene (call_arguments halves.body) 0 1 ≡ true
are_apart law = law unit halves place the_call 0 1 may_run refl is_shown input input halves_input refl
