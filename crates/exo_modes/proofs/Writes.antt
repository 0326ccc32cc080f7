-- What is written is what is touched by writing or by reducing.
use Rattle.std.proofs.Common.{◌≡◌, ℕ, zero, suc, ◌||◌, ◌&&◌, ◌==◌, Bool, true, false, List, [], ◌∷◌, map, slice_get, refl, ap, sym, ◌∙◌}
use Rattle.exo_tree.specs.Tree.{Argument, Param, Statement, Assign, Reduce, Config, Pass, If, For, Alloc, View, Call, Block, end, next, Procedure}
use Rattle.exo_meaning.specs.Run.{is_root, roots_after, call_writes, call_to_writes, writes, step_writes}
use Rattle.exo_meaning.specs.Modes.{Writing, Reducing, Modes}
use Rattle.exo_modes.specs.Marks.{block_marks, step_marks, call_marks, callees_by, writing}
use Rattle.exo_modes.specs.Written.{world_by, block_writes}
use Rattle.exo_modes.specs.declared.row.ModesRow.{ModesRow}
use Rattle.exo_modes.specs.Seen.{row_writes, rows_write, rows_say}
use Rattle.exo_modes.proofs.Unions.{or_false}

-- four marks in another order
crossed : (a b c d : Bool) → ((a || b) || (c || d)) ≡ ((a || c) || (b || d))
crossed true b c d = refl
crossed false true true d = refl
crossed false true false d = refl
crossed false false c d = refl

shared : (a b r : Bool) → ((a || b) && r) ≡ ((a && r) || (b && r))
shared true b true = refl
shared true true false = refl
shared true false false = refl
shared false b r = refl

either_same : {a b c d : Bool} → a ≡ c → b ≡ d → (a || b) ≡ (c || d)
either_same p q = λ i. p i || q i

module _ (f : Modes) (root : ℕ → ℕ) (y : ℕ) where
  arguments_written : (ps : List Param) (args : List Argument) → call_writes (writing f) root y ps args ≡ (call_writes (f Writing) root y ps args || call_writes (f Reducing) root y ps args)
  arguments_written [] args = refl
  arguments_written (p ∷ ps) [] = refl
  arguments_written (p ∷ ps) (a ∷ args) =
      let w = f Writing p.binder.id in
      let d = f Reducing p.binder.id in
      let r = is_root root y a in
      either_same (shared w d r) (arguments_written ps args)
      ∙ crossed (w && r) (d && r) (call_writes (f Writing) root y ps args) (call_writes (f Reducing) root y ps args)

call_written : (ps : List Procedure) (ms : List Modes) (k : ℕ) (root : ℕ → ℕ) (y : ℕ) (args : List Argument) → call_to_writes (slice_get (callees_by ps (map writing ms)) k) root y args ≡ writing (call_marks ps ms root k args) y
call_written [] ms k root y args = refl
call_written (p ∷ ps) [] k root y args = refl
call_written (p ∷ ps) (m ∷ ms) zero root y args = arguments_written m root y p.params args
call_written (p ∷ ps) (m ∷ ms) (suc k) root y args = call_written ps ms k root y args

module _ (ps : List Procedure) (ms : List Modes) where
  mutual
    block_written : (root : ℕ → ℕ) (b : Block) (y : ℕ) → writes (world_by ps (map writing ms)) root b y ≡ writing (block_marks ps ms root b) y
    block_written root end y = refl
    block_written root (next a b) y =
        either_same (step_written root a y) (block_written (roots_after a root) b y)
        ∙ crossed (step_marks ps ms root a Writing y) (step_marks ps ms root a Reducing y) (block_marks ps ms (roots_after a root) b Writing y) (block_marks ps ms (roots_after a root) b Reducing y)

    step_written : (root : ℕ → ℕ) (a : Statement) (y : ℕ) → step_writes (world_by ps (map writing ms)) root a y ≡ writing (step_marks ps ms root a) y
    step_written root (Assign x is e) y = sym (or_false (y == root x))
    step_written root (Reduce x is e) y = refl
    step_written root (Config f a) y = refl
    step_written root Pass y = refl
    step_written root (If c a b) y =
        either_same (block_written root a y) (block_written root b y)
        ∙ crossed (block_marks ps ms root a Writing y) (block_marks ps ms root a Reducing y) (block_marks ps ms root b Writing y) (block_marks ps ms root b Reducing y)
    step_written root (For i lo hi b) y = block_written root b y
    step_written root (Alloc x cell dims memory) y = sym (or_false (y == x.id))
    step_written root (View w x coords) y = refl
    step_written root (Call k args) y = call_written ps ms k root y args

rows_written : (rows : List ModesRow) → rows_write rows ≡ map writing (rows_say rows)
rows_written [] = refl
rows_written (r ∷ rows) = ap (λ l. row_writes r ∷ l) (rows_written rows)

-- what the rows say to be written is written
pub written_is : (ps : List Procedure) (rows : List ModesRow) (root : ℕ → ℕ) (b : Block) → writing (block_marks ps (rows_say rows) root b) ≡ block_writes ps (rows_write rows) root b
written_is ps rows root b =
    (λ i y. sym (block_written ps (rows_say rows) root b y) i) ∙ ap (λ ws. block_writes ps ws root b) (sym (rows_written rows))
