-- Statements of blocks, by the paths to them.
use Rattle.std.proofs.Common.{◌≡◌, ℕ, zero, suc, ◌+◌, List, [], ◌∷◌, ◌++◌, Some, None, refl}
use Rattle.std.proofs.Common.{sym, ap, ◌∙◌, arith, option_map, append_assoc}
use Rattle.std.specs.Prelude.{Bool, true, false, if◌then◌else◌, slice_get}
use Rattle.exo_tree.specs.Tree.{Statement, Assign, Reduce, Config, Pass, If, For, Alloc, View, Call}
use Rattle.exo_tree.specs.Tree.{Block, end, next, statements}
use Rattle.exo_tree.specs.Context.{Here, After, InLoop, InThen, InElse}
use Rattle.exo_tree.specs.Places.{Branch, Main, Else, Step, Path, Opened, opened, opened_in}
use Rattle.exo_tree.specs.Branches.{branch_of}
use Rattle.place_laws.specs.Scope.PlacesCompose.{onward, inside}
use Rattle.place_laws.proofs.OfScope.PlacesCompose.{places_compose}
use Rattle.cursor_forward.specs.Shifts.{Shift}
use Rattle.proc_laws.specs.Expression.Passes.{down}

-- what is so of either list is so of the one that is taken
pub of_either : (P : List Shift → Type 0) (t : Bool) (xs ys : List Shift) → (t ≡ true → P xs) → P ys
    → P (if t then xs else ys)
of_either P true xs ys f g = f refl
of_either P false xs ys f g = g

-- one statement stands at the path
pub record Stands (q : Path) (root : Block) (a : Statement) : Type 0 where
  pub o : Opened
  pub opens : opened 1 q root ≡ Some o
  pub piece : o.piece ≡ next a end

-- the same within a block, whose first step is into no branch
pub record StandsIn (q : Path) (root : Block) (a : Statement) : Type 0 where
  pub o : Opened
  pub opens : opened_in 1 q root ≡ Some o
  pub piece : o.piece ≡ next a end

nothing : {A : Type 0} {a : A} → None ≡ Some a → ⊥
nothing e = cc

same_some : {A : Type 0} {a b : A} → Some a ≡ Some b → a ≡ b
same_some e = cc

-- in a block, by its number
pub stands_in : (branch : Branch) (k : ℕ) (b : Block) (a : Statement)
    → slice_get (statements b) k ≡ Some a
    → StandsIn (record { branch = branch; index = k } ∷ []) b a
stands_in branch zero end a h = absurd (nothing h)
stands_in branch (suc k) end a h = absurd (nothing h)
stands_in branch zero (next x b) a h = record {
  o = record { around = Here b; piece = next x end };
  opens = refl;
  piece = ap (λ y. next y end) (same_some h);
}
stands_in branch (suc k) (next x b) a h =
    let t = stands_in branch k b a h in
    record {
      o = record { around = After x t.o.around; piece = t.o.piece };
      opens = ap (option_map (λ (o : Opened). record { around = After x o.around; piece = o.piece }))
          t.opens;
      piece = t.piece;
    }

-- in a branch of a statement that is alone
in_branch : (branch : Branch) (k : ℕ) (a x : Statement) (d : Block)
    → branch_of branch a ≡ Some d → slice_get (statements d) k ≡ Some x
    → StandsIn (record { branch = Main; index = 0 } ∷ record { branch = branch; index = k } ∷ [])
    (next a end) x
in_branch Main k (For i lo hi b) x d e h =
    let t = stands_in Main k d x h in
    let is : opened_in 1 (record { branch = Main; index = k } ∷ []) b ≡ Some t.o =
    ap (opened_in 1 (record { branch = Main; index = k } ∷ [])) (same_some e) ∙ t.opens in
    record {
      o = record { around = InLoop i lo hi t.o.around end; piece = t.o.piece };
      opens =
          ap (option_map (λ (o : Opened). record {
            around = InLoop i lo hi o.around end;
            piece = o.piece;
          })) is;
      piece = t.piece;
    }
in_branch Main k (If c a b) x d e h =
    let t = stands_in Main k d x h in
    let is : opened_in 1 (record { branch = Main; index = k } ∷ []) a ≡ Some t.o =
    ap (opened_in 1 (record { branch = Main; index = k } ∷ [])) (same_some e) ∙ t.opens in
    record {
      o = record { around = InThen c t.o.around b end; piece = t.o.piece };
      opens =
          ap (option_map (λ (o : Opened). record {
            around = InThen c o.around b end;
            piece = o.piece;
          })) is;
      piece = t.piece;
    }
in_branch Else k (If c a b) x d e h =
    let t = stands_in Else k d x h in
    let is : opened_in 1 (record { branch = Else; index = k } ∷ []) b ≡ Some t.o =
    ap (opened_in 1 (record { branch = Else; index = k } ∷ [])) (same_some e) ∙ t.opens in
    record {
      o = record { around = InElse c a t.o.around end; piece = t.o.piece };
      opens =
          ap (option_map (λ (o : Opened). record {
            around = InElse c a o.around end;
            piece = o.piece;
          })) is;
      piece = t.piece;
    }
in_branch Else k (For i lo hi b) x d e h = absurd (nothing e)
in_branch r k (Assign y is v) x d e h = absurd (none r e)
  where
    none : (r : Branch) → branch_of r (Assign y is v) ≡ Some d → ⊥
    none Main e = nothing e
    none Else e = nothing e
in_branch r k (Reduce y is v) x d e h = absurd (none r e)
  where
    none : (r : Branch) → branch_of r (Reduce y is v) ≡ Some d → ⊥
    none Main e = nothing e
    none Else e = nothing e
in_branch r k (Config f v) x d e h = absurd (none r e)
  where
    none : (r : Branch) → branch_of r (Config f v) ≡ Some d → ⊥
    none Main e = nothing e
    none Else e = nothing e
in_branch r k Pass x d e h = absurd (none r e)
  where
    none : (r : Branch) → branch_of r Pass ≡ Some d → ⊥
    none Main e = nothing e
    none Else e = nothing e
in_branch r k (Alloc y cell dims memory) x d e h = absurd (none r e)
  where
    none : (r : Branch) → branch_of r (Alloc y cell dims memory) ≡ Some d → ⊥
    none Main e = nothing e
    none Else e = nothing e
in_branch r k (View y z coords) x d e h = absurd (none r e)
  where
    none : (r : Branch) → branch_of r (View y z coords) ≡ Some d → ⊥
    none Main e = nothing e
    none Else e = nothing e
in_branch r k (Call n args) x d e h = absurd (none r e)
  where
    none : (r : Branch) → branch_of r (Call n args) ≡ Some d → ⊥
    none Main e = nothing e
    none Else e = nothing e

-- on from the first statement of a place
onward_first : (p : Path) (s : Step) (rest : Path)
    → onward (p ++ s ∷ []) (record { branch = Main; index = 0 }) rest ≡ p ++ s ∷ rest
onward_first [] s rest =
    let same : s.index + 0 ≡ s.index = omega arith in
    ap (λ n. record s { index = n } ∷ rest) same
onward_first (r ∷ []) s rest = ap (λ q. r ∷ q) (onward_first [] s rest)
onward_first (r ∷ t ∷ p) s rest = ap (λ q. r ∷ q) (onward_first (t ∷ p) s rest)

-- each statement of the block stands in a branch of the statement at the path
abbrev pub BlockAt : Path → Branch → Block → Block → Type 0
BlockAt p branch root b =
    (k : ℕ) (a : Statement)
    → slice_get (statements b) k ≡ Some a
    → Stands (down p branch k) root a

-- so it does of the whole block
pub whole_at : (root : Block) → BlockAt [] Main root root
whole_at root k a h =
    let t = stands_in Main k root a h in
    record { o = t.o; opens = t.opens; piece = t.piece }

-- and of a block of a statement that stands somewhere
pub branch_at : (p : Path) (from : Branch) (j : ℕ) (root : Block) (a : Statement)
    (branch : Branch) (d : Block) → Stands (down p from j) root a → branch_of branch a ≡ Some d
    → BlockAt (down p from j) branch root d
branch_at p from j root a branch d at e k x h =
    let s : Step = record { branch = from; index = j } in
    let t : Step = record { branch = branch; index = k } in
    let i = in_branch branch k a x d e h in
    let first : Step = record { branch = Main; index = 0 } in
    let inner : opened_in 1 (first ∷ t ∷ []) at.o.piece ≡ Some i.o =
    ap (opened_in 1 (first ∷ t ∷ [])) at.piece ∙ i.opens in
    let on = places_compose 1 1 (down p from j) first (t ∷ []) root at.o i.o at.opens inner in
    record {
      o = inside at.o i.o;
      opens =
          ap (λ q. opened 1 q root)
          (append_assoc p (s ∷ []) (t ∷ []) ∙ sym (onward_first p s (t ∷ []))) ∙ on.there;
      piece = i.piece;
    }
