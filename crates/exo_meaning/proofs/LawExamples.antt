-- Each law at a closed run: both sides compute to the same cells.
use Rattle.std.proofs.Common.{◌≡◌, ℕ, ℤ, pos, negsuc, true, false, [], ◌∷◌, Option, Some, None, refl}
use Rattle.std.specs.Int.{int_wrap}
use Rattle.exo_tree.specs.Tree.{Binder, Block, end, next, joined, Statement, Assign, Reduce, For, Const, Lit, Var, Add, Mul, I8, I32, Size, Span, Procedure, ControlParam, WindowParam, Program, ControlArg, Window, Call}
use Rattle.exo_meaning.specs.Value.{Undefined, Number}
use Rattle.exo_meaning.specs.Scene.{then_do}
use Rattle.exo_meaning.specs.State.{State, with_buffer, with_contents, on_scene, with_control}
use Rattle.exo_meaning.specs.Calls.{bare}
use Rattle.exo_meaning.specs.Run.{run, step, tensor, turn}
use Rattle.exo_meaning.specs.Nests.{nest}
use Rattle.exo_meaning.specs.Units.{IsUnit, is_block, scope_of, are_for}
use Rattle.exo_meaning.proofs.Compose.{runs_compose}
use Rattle.exo_meaning.proofs.Commute.{reductions_commute}
use Rattle.exo_meaning.proofs.Examples.{binder, start, world, seen, evens, hundred}

-- the same cells, undefined
abbrev blank : State
blank = with_contents 0 (λ at. Undefined) (on_scene (with_buffer 0 (tensor I32 (pos 8 ∷ []))) (bare (λ x. pos 0) (λ f. pos 1)))

-- a run from less defined cells is less defined
from_blank : seen (pos 6) (run world evens blank) ≡ Undefined
unfolding int_wrap
from_blank = refl

-- a run of two blocks is the one and then the other
in_two : run world (joined evens hundred) start ≡ then_do (run world evens start) (run world hundred)
in_two = runs_compose world evens hundred start

first_of_two : seen (pos 0) (run world (joined evens hundred) start) ≡ Number (pos 710)
unfolding int_wrap
first_of_two = refl

abbrev at_one : Statement
at_one = Assign 0 (Lit (pos 1) ∷ []) (Const (pos 5))

abbrev at_two : Statement
at_two = Assign 0 (Lit (pos 2) ∷ []) (Const (pos 6))

-- stores in different cells commute
either_store : seen (pos 1) (run world (next at_one (next at_two end)) start) ≡ seen (pos 1) (run world (next at_two (next at_one end)) start)
unfolding int_wrap
either_store = refl

abbrev add_high : Statement
add_high = Reduce 0 (Lit (pos 1) ∷ []) (Const (pos 2147483647))

abbrev add_seven : Statement
add_seven = Reduce 0 (Lit (pos 1) ∷ []) (Const (pos 7))

-- reductions into one cell commute, also where they wrap
either_reduction : run world (next add_high (next add_seven end)) start ≡ run world (next add_seven (next add_high end)) start
either_reduction = reductions_commute world 0 0 (Lit (pos 1) ∷ []) (Lit (pos 1) ∷ []) (pos 2147483647) (pos 7) start

wrapped : seen (pos 1) (run world (next add_high (next add_seven end)) start) ≡ Number (negsuc 2147483638)
unfolding int_wrap
wrapped = refl

-- for i in seq(0, 2): for j in seq(0, 3): x[2 * i + j] += 1, in both orders
abbrev added : Block
added = next (Reduce 0 (Add (Mul (Lit (pos 2)) (Var 1)) (Var 2) ∷ []) (Const (pos 1))) end

by_rows : seen (pos 2) (step world (nest (binder 1) (Lit (pos 0)) (Lit (pos 2)) (binder 2) (Lit (pos 0)) (Lit (pos 3)) added) start) ≡ Number (pos 5)
unfolding int_wrap
by_rows = refl

by_columns : seen (pos 2) (step world (nest (binder 2) (Lit (pos 0)) (Lit (pos 3)) (binder 1) (Lit (pos 0)) (Lit (pos 2)) added) start) ≡ Number (pos 5)
unfolding int_wrap
by_columns = refl

-- two turns of the loop that adds to even cells, in both orders
abbrev even_turn : ℤ → State → Option State
even_turn n = turn 1 (run world (next (Reduce 0 (Mul (Lit (pos 2)) (Var 1) ∷ []) (Const (pos 7))) end)) n

either_turn : seen (pos 2) (then_do (even_turn (pos 1) start) (even_turn (pos 3))) ≡ seen (pos 2) (then_do (even_turn (pos 3) start) (even_turn (pos 1)))
unfolding int_wrap
either_turn = refl

-- an id that the block does not mention makes no difference
unmentioned : seen (pos 6) (run world evens (on_scene (with_control 9 (pos 4)) start)) ≡ seen (pos 6) (run world evens start)
unfolding int_wrap
unmentioned = refl

-- ---- a well-formed unit

-- def g(n: size, w: [i32][n]): fill(n, w[0:n]), after fill; with names `fill`, `n`, `w`, `l` and `g`
abbrev named : ℕ → ℕ → Binder
named n letter = record { id = n; name = letter ∷ [] }

abbrev fill_named : Procedure
fill_named = record {
  name = 102 ∷ [];
  template = None;
  params = record { binder = named 0 110; kind = ControlParam Size } ∷ record { binder = named 1 119; kind = WindowParam I32 (Var 0 ∷ []) 0 } ∷ [];
  asserts = [];
  body = next (For (named 2 108) (Lit (pos 0)) (Var 0) (next (Assign 1 (Var 2 ∷ []) (Const (pos 5))) end)) end;
}

abbrev caller : Procedure
caller = record {
  name = 103 ∷ [];
  template = Some (123 ∷ 110 ∷ 125 ∷ 123 ∷ 123 ∷ []);
  params = fill_named.params;
  asserts = [];
  body = next (Call 0 (ControlArg (Var 0) ∷ Window 1 (Span (Lit (pos 0)) (Var 0) ∷ []) ∷ [])) end;
}

abbrev unit : Program
unit = record {
  procedures = fill_named ∷ caller ∷ [];
  fields = [];
  memories = record { name = 68 ∷ []; ctype = []; lanes = 0; cell = None; stack = false; read = true; write = true; reduce = true; header = [] } ∷ [];
}

is_unit : IsUnit unit
is_unit = record {
  procedures = (
    record { params = refl; asserts = refl; body = refl; filled = refl; ids = refl; distinct = refl; paths = refl; template = refl },
    (record { params = refl; asserts = refl; body = refl; filled = refl; ids = refl; distinct = refl; paths = refl; template = refl }, tt),
  );
  fields = refl;
  memories = refl;
  spaces = refl;
  counts = refl;
}

-- a name that is not in scope, a number where a window is asked, and a window of another cell type are refused
out_of_scope : is_block (λ f. None) 1 (λ k. None) (scope_of [] fill_named.params) (λ x. x) (next (Assign 1 (Var 7 ∷ []) (Const (pos 5))) end) ≡ false
out_of_scope = refl

wrong_kind : are_for (λ f. None) (scope_of [] fill_named.params) fill_named.params (ControlArg (Var 0) ∷ ControlArg (Var 0) ∷ []) ≡ false
wrong_kind = refl

wrong_cell : are_for (λ f. None) (scope_of [] fill_named.params) (record { binder = named 5 120; kind = WindowParam I8 (Var 0 ∷ []) 0 } ∷ []) (Window 1 (Span (Lit (pos 0)) (Var 0) ∷ []) ∷ []) ≡ false
wrong_cell = refl
