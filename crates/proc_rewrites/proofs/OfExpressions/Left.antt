-- Where statements go, a statement at a time.
use Rattle.std.proofs.Common.{◌≡◌, ℕ, suc, ◌+◌, Bool, true, false, List, [], ◌∷◌, ◌++◌, length, append_assoc, append-nil}
use Rattle.std.proofs.Common.{Some, refl, ap, sym, ◌∙◌, arith, add-one, if◌then◌else◌}
use Rattle.exo_tree.specs.Tree.{Statement, Assign, Reduce, Config, Pass, If, For, Alloc, View, Call}
use Rattle.exo_tree.specs.Tree.{Block, end, next, block}
use Rattle.exo_tree.specs.Places.{Branch, Path}
use Rattle.cursor_forward.specs.Shifts.{Shift, alone}
use Rattle.proc_laws.specs.Expression.Passes.{down, behind, is_one_pass, shifted, shifted_statement, shifted_block}
use Rattle.proc_rewrites.specs.Expressions.Passing.{is_pass}

module _ (from to : Path) (branch : Branch) where
  -- one statement more
  pub told_more : (out more all : List Shift) (k j : ℕ) (ss rest : List Statement) (a : Statement)
      → out ++ shifted from to branch k j (block ss) ≡ all
      → ss ≡ a ∷ rest
      → more ≡ out ++ shifted_statement (down from branch k) (down to branch j) a
      → more ++ shifted from to branch (k + 1) (behind a j) (block rest) ≡ all
  told_more out more all k j ss rest a h e m =
      let one = shifted_statement (down from branch k) (down to branch j) a in
      ap (λ (n : ℕ). more ++ shifted from to branch n (behind a j) (block rest)) (add-one k)
      ∙ ap (λ (x : List Shift). x ++ shifted from to branch (suc k) (behind a j) (block rest)) m
      ∙ append_assoc out one (shifted from to branch (suc k) (behind a j) (block rest))
      ∙ ap (λ (x : List Statement). out ++ shifted from to branch k j (block x)) (sym e)
      ∙ h

  -- all of them
  pub told_all : (out all : List Shift) (k j : ℕ) (ss : List Statement)
      → out ++ shifted from to branch k j (block ss) ≡ all → ss ≡ [] → out ≡ all
  told_all out all k j ss h e =
      sym (append-nil out)
      ∙ ap (λ (x : List Statement). out ++ shifted from to branch k j (block x)) (sym e)
      ∙ h

  pub shifted_all : (b : Block) → is_one_pass b ≡ false
      → shifted from to branch 0 0 b ≡ shifted_block from to branch b
  shifted_all end h = refl
  shifted_all (next a b) h =
      sym (ap (λ (t : Bool). if t then alone (down from branch 0) (Some (down to branch 0)) ∷ [] else
      (shifted_statement (down from branch 0) (down to branch 0) a ++ shifted from to branch 1 (behind a 0) b)) h)

  pub shifted_one : (b : Block) → is_one_pass b ≡ true
      → alone (down from branch 0) (Some (down to branch 0)) ∷ [] ≡ shifted_block from to branch b
  shifted_one end h = cc
  shifted_one (next a b) h =
      sym (ap (λ (t : Bool). if t then alone (down from branch 0) (Some (down to branch 0)) ∷ [] else
      (shifted_statement (down from branch 0) (down to branch 0) a ++ shifted from to branch 1 (behind a 0) b)) h)

-- ---- blocks of one pass

pub one_pass : (ss rest : List Statement) (a : Statement) → ss ≡ a ∷ rest → length ss ≡ 1
    → is_pass a ≡ is_one_pass (block ss)
one_pass [] rest a e h = cc
one_pass (b ∷ c ∷ ss) rest a e h = absurd (omega (arith, h))
one_pass (b ∷ []) rest a e h = let same : a ≡ b = cc in ap is_pass same ∙ by b
  where
    by : (x : Statement) → is_pass x ≡ is_one_pass (next x end)
    by (Assign x is d) = refl
    by (Reduce x is d) = refl
    by (Config f d) = refl
    by Pass = refl
    by (If t c d) = refl
    by (For i lo hi d) = refl
    by (Alloc x cell dims memory) = refl
    by (View w x coords) = refl
    by (Call k args) = refl

pub many_passes : (ss : List Statement) → (length ss ≡ 1 → ⊥) → false ≡ is_one_pass (block ss)
many_passes [] h = refl
many_passes (a ∷ []) h = absurd (h refl)
many_passes (a ∷ b ∷ ss) h = by a
  where
    by : (x : Statement) → false ≡ is_one_pass (next x (next b (block ss)))
    by (Assign x is d) = refl
    by (Reduce x is d) = refl
    by (Config f d) = refl
    by Pass = refl
    by (If t c d) = refl
    by (For i lo hi d) = refl
    by (Alloc x cell dims memory) = refl
    by (View w x coords) = refl
    by (Call k args) = refl
