-- Runs that compute.
use Rattle.std.proofs.Common.{◌≡◌, ℕ, ℤ, pos, List, [], ◌∷◌, Option, Some, None, refl}
use Rattle.std.specs.Int.{int_wrap}
use Rattle.exo_tree.specs.Tree.{Binder, Block, end, next, Assign, Reduce, For, Call, Const, Lit, Var, Mul, I32, Size, Window, Span, ControlArg, Procedure, ControlParam, WindowParam}
use Rattle.exo_meaning.specs.Value.{Value, Undefined, Number}
use Rattle.exo_meaning.specs.State.{State, with_buffer, with_contents, on_scene}
use Rattle.exo_meaning.specs.Calls.{bare}
use Rattle.exo_meaning.specs.Run.{World, run, tensor, world_of, callees}

abbrev pub binder : ℕ → Binder
binder n = record { id = n; name = [] }

one : ℤ → List ℤ
one n = n ∷ []

-- x (number 0) has 8 cells of value 3
abbrev pub start : State
start = with_contents 0 (λ at. Number (pos 3)) (on_scene (with_buffer 0 (tensor I32 (pos 8 ∷ []))) (bare (λ x. pos 0) (λ f. pos 1)))

abbrev pub world : World
world = world_of (λ f. Size) []

abbrev pub seen : ℤ → Option State → Value
seen n None = Undefined
seen n (Some s) = s.cells 0 (n ∷ [])

-- for i in seq(0, 4): x[2 * i] += 7
abbrev pub evens : Block
evens = next (For (binder 1) (Lit (pos 0)) (Lit (pos 4)) (next (Reduce 0 (Mul (Lit (pos 2)) (Var 1) ∷ []) (Const (pos 7))) end)) end

even_added : seen (pos 6) (run world evens start) ≡ Number (pos 10)
unfolding int_wrap
even_added = refl

odd_kept : seen (pos 5) (run world evens start) ≡ Number (pos 3)
unfolding int_wrap
odd_kept = refl

-- a loop of a hundred turns
abbrev pub hundred : Block
hundred = next (For (binder 1) (Lit (pos 0)) (Lit (pos 100)) (next (Reduce 0 (Lit (pos 0) ∷ []) (Const (pos 7))) end)) end

summed : seen (pos 0) (run world hundred start) ≡ Number (pos 703)
unfolding int_wrap
summed = refl

-- def fill(n: size, w: [i32][n]): for l in seq(0, n): w[l] = 5
abbrev pub fill : Procedure
fill = record {
  name = [];
  template = None;
  params = record { binder = binder 0; kind = ControlParam Size } ∷ record { binder = binder 1; kind = WindowParam I32 (Var 0 ∷ []) 0 } ∷ [];
  asserts = [];
  body = next (For (binder 2) (Lit (pos 0)) (Var 0) (next (Assign 1 (Var 2 ∷ []) (Const (pos 5))) end)) end;
}

-- fill(3, x[2:5])
filled : seen (pos 4) (run (world_of (λ f. Size) (callees (λ f. Size) [] (fill ∷ []))) (next (Call 0 (ControlArg (Lit (pos 3)) ∷ Window 0 (Span (Lit (pos 2)) (Lit (pos 5)) ∷ []) ∷ [])) end) start) ≡ Number (pos 5)
unfolding int_wrap
filled = refl

not_filled : seen (pos 5) (run (world_of (λ f. Size) (callees (λ f. Size) [] (fill ∷ []))) (next (Call 0 (ControlArg (Lit (pos 3)) ∷ Window 0 (Span (Lit (pos 2)) (Lit (pos 5)) ∷ []) ∷ [])) end) start) ≡ Number (pos 3)
unfolding int_wrap
not_filled = refl
