-- What the steps on buffers make of gemm(M, N, K, A: i32[M, K], B: i32[K, N], C: i32[M, N]), and of
-- half(x: i32[8]), with the simplifier of made indices.
use Rattle.std.proofs.Common.{◌≡◌, ℕ, pos, true, List, [], ◌∷◌, refl}
use Rattle.std.specs.Fmt.{digits}
use Rattle.exo_tree.specs.Tree.{I32, Control, Lit, Var, Add, Mul, Coord, At, Span, Datum}
use Rattle.exo_tree.specs.Tree.{Const, Read, Times, Reduce, Assign, For, Alloc, Block, end, next}
use Rattle.exo_tree.specs.Tree.{Statement}
use Rattle.buffer_laws.specs.Bound.{Top, TimesIn, bound, bound_cell}
use Rattle.buffer_laws.specs.Buffers.{Buffer, allocation, in_memory}
use Rattle.buffer_laws.specs.Expanded.{expanded}
use Rattle.buffer_laws.specs.Lifted.{lifted_from_loop, with_buffer_in}
use Rattle.buffer_laws.specs.MadeIndices.{made_simpler}
use Rattle.buffer_laws.specs.Simplified.{IsSimplifier}
use Rattle.buffer_laws.specs.StageAccum.{sums_of}
use Rattle.buffer_laws.specs.StageLaws.{staging_of}
use Rattle.buffer_laws.specs.StageMem.{staged_block}
use Rattle.buffer_laws.proofs.MadeIndices.{made_simpler_law}
use Rattle.buffer_laws.proofs.StageMem.{named, sevens}
use Rattle.place_laws.specs.Scope.UnrollLoop.{only_loop}

it_is_a_simplifier : IsSimplifier made_simpler
it_is_a_simplifier = made_simpler_law

-- ---- half: t : i32[8]; two nests over i0, and the loop on t

half_text : staged_block made_simpler (staging_of 0 (Span (Lit (pos 0)) (Lit (pos 8)) ∷ [])
    (116 ∷ [])) I32 0 2 true sevens
    ≡ next (Alloc (named 2 (116 ∷ [])) I32 (Lit (pos 8) ∷ []) 0)
    (next (For (named 3 (105 ∷ 48 ∷ [])) (Lit (pos 0)) (Lit (pos 8))
    (next (Assign 2 (Var 3 ∷ []) (Read 0 (Var 3 ∷ []))) end))
    (next (For (named 1 (105 ∷ [])) (Lit (pos 0)) (Lit (pos 4))
    (next (Assign 2 (Mul (Lit (pos 2)) (Var 1) ∷ []) (Const (pos 7))) end))
    (next (For (named 4 (105 ∷ 48 ∷ [])) (Lit (pos 0)) (Lit (pos 8))
    (next (Assign 0 (Var 4 ∷ []) (Read 2 (Var 4 ∷ []))) end)) end)))
unfolding digits
half_text = refl

-- ---- gemm: M to K are 0 to 2, A to C are 3 to 5; the loops i, jo, k and ji are 6 to 9

abbrev loop : ℕ → Control → Block → Block
loop n hi b = next (For (named n (105 ∷ n ∷ [])) (Lit (pos 0)) hi b) end

-- 8 * jo
abbrev first_column : Control
first_column = Mul (Lit (pos 8)) (Var 7)

-- 8 * jo + ji
abbrev column : Control
column = Add first_column (Var 9)

abbrev of_a : Datum
of_a = Read 3 (Var 6 ∷ Var 8 ∷ [])

abbrev of_b : Datum
of_b = Read 4 (Var 8 ∷ column ∷ [])

-- for k in seq(0, K): for ji in seq(0, 8): C[i, 8 * jo + ji] += A[i, k] * B[k, 8 * jo + ji]
abbrev products : Block
products = loop 8 (Var 2) (loop 9 (Lit (pos 8))
    (next (Reduce 5 (Var 6 ∷ column ∷ []) (Times of_a of_b)) end))

-- C[i, 8 * jo:8 * jo + 8]
abbrev row : List Coord
row = At (Var 6) ∷ Span first_column (Add first_column (Lit (pos 8))) ∷ []

-- c[ji] += A[i, k] * B[k, 8 * jo + ji]
abbrev on_c : Block
on_c = loop 8 (Var 2) (loop 9 (Lit (pos 8))
    (next (Reduce 10 (Var 9 ∷ []) (Times of_a of_b)) end))

-- for i0 in seq(0, 8)
abbrev each_of_eight : ℕ → Statement → Block → Block
each_of_eight n a b =
    next (For (named n (105 ∷ 48 ∷ [])) (Lit (pos 0)) (Lit (pos 8)) (next a end)) b

-- 8 * jo + i0
abbrev at_column : ℕ → List Control
at_column n = Var 6 ∷ Add first_column (Var n) ∷ []

gemm_text : staged_block made_simpler (staging_of 5 row (99 ∷ [])) I32 0 10 true products
    ≡ next (Alloc (named 10 (99 ∷ [])) I32 (Lit (pos 8) ∷ []) 0)
    (each_of_eight 11 (Assign 10 (Var 11 ∷ []) (Read 5 (at_column 11)))
    (next (For (named 8 (105 ∷ 8 ∷ [])) (Lit (pos 0)) (Var 2) (loop 9 (Lit (pos 8))
    (next (Reduce 10 (Var 9 ∷ []) (Times of_a of_b)) end)))
    (each_of_eight 12 (Assign 5 (at_column 12) (Read 10 (Var 12 ∷ []))) end)))
unfolding digits
gemm_text = refl

-- with accum: 0 before, and a sum behind
gemm_sums_text : staged_block made_simpler (sums_of 5 row (99 ∷ [])) I32 0 10 true products
    ≡ next (Alloc (named 10 (99 ∷ [])) I32 (Lit (pos 8) ∷ []) 0)
    (each_of_eight 11 (Assign 10 (Var 11 ∷ []) (Const (pos 0)))
    (next (For (named 8 (105 ∷ 8 ∷ [])) (Lit (pos 0)) (Var 2) (loop 9 (Lit (pos 8))
    (next (Reduce 10 (Var 9 ∷ []) (Times of_a of_b)) end)))
    (each_of_eight 12 (Reduce 5 (at_column 12) (Read 10 (Var 12 ∷ []))) end)))
unfolding digits
gemm_sums_text = refl

-- ---- b : i32; b = B[k, 8 * jo + ji]; c[ji] += A[i, k] * b

abbrev b_cell : Buffer
b_cell = record {
  binder = named 13 (98 ∷ []);
  cell = bound_cell (λ y. I32) of_b;
  dims = [];
  memory = 0;
}

abbrev with_b : Block
with_b = next (Assign 13 [] of_b) (next (Reduce 10 (Var 9 ∷ []) (Times of_a (Read 13 []))) end)

bound_text : bound b_cell true 10 (Var 9 ∷ []) (TimesIn of_a Top) of_b
    ≡ next (allocation b_cell) with_b
bound_text = refl

-- b : i32[8], b[ji] for b
abbrev b_row : Buffer
b_row = record b_cell { dims = Lit (pos 8) ∷ [] }

abbrev with_row : Block
with_row = next (Assign 13 (Var 9 ∷ []) of_b)
    (next (Reduce 10 (Var 9 ∷ []) (Times of_a (Read 13 (Var 9 ∷ [])))) end)

expanded_text : expanded (Lit (pos 8)) (Var 9) b_cell with_b ≡ next (allocation b_row) with_row
expanded_text = refl

-- before the loop over ji
lifted_text : lifted_from_loop (named 9 (105 ∷ 9 ∷ [])) (Lit (pos 0)) (Lit (pos 8)) end b_row with_row
    ≡ next (allocation b_row) (loop 9 (Lit (pos 8)) with_row)
lifted_text = refl

lifted_from : only_loop (named 9 (105 ∷ 9 ∷ [])) (Lit (pos 0)) (Lit (pos 8))
    (with_buffer_in end b_row with_row)
    ≡ loop 9 (Lit (pos 8)) (next (allocation b_row) with_row)
lifted_from = refl

-- in the memory of number 1
moved_text : allocation (in_memory 1 b_row)
    ≡ Alloc (named 13 (98 ∷ [])) I32 (Lit (pos 8) ∷ []) 1
moved_text = refl
