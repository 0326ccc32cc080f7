-- Where two blocks differ in one store.
use Rattle.std.specs.Prelude.{◌≡◌, ◌++◌, ◌==◌, ◌&&◌, ℕ, Bool, true, false, [], ◌∷◌, Some}
use Rattle.exo_tree.specs.Tree.{Binder, Statement, Assign, Reduce, Config, Pass, If, For, Alloc}
use Rattle.exo_tree.specs.Tree.{View, Call, Block, end, next}
use Rattle.exo_tree.specs.Context.{Context, fill}
use Rattle.exo_tree.specs.Places.{Branch, Step, Path, opened_in}
use Rattle.exo_meaning.specs.Units.{is_text}
use Rattle.loop_laws.specs.SameTrees.{same_statement}
use Rattle.schedule_laws.specs.Owed.Stores.{IsStore}

-- ---- the names of binders

abbrev pub same_binder : Binder → Binder → Bool
same_binder x y = (x.id == y.id) && is_text x.name y.name

-- of trees that are the same but for the names of binders: these are the same too
abbrev mutual
  pub same_names : Statement → Statement → Bool
  same_names (If c a b) (If d e f) = all_same_names a e && all_same_names b f
  same_names (For i lo hi b) (For j low high c) = same_binder i j && all_same_names b c
  same_names (Alloc x cell dims k) (Alloc y other extents l) = same_binder x y
  same_names (View w x cs) (View v y ds) = same_binder w v
  same_names a b = true

  pub all_same_names : Block → Block → Bool
  all_same_names end end = true
  all_same_names (next a b) (next c d) = same_names a c && all_same_names b d
  all_same_names a b = false

abbrev pub is_same : Statement → Statement → Bool
is_same a b = same_statement a b && same_names a b

-- ---- paths to the store

abbrev pub to : Branch → ℕ → Step
to branch index = record { branch = branch; index = index }

-- a store in the one block at a path is another one in the other, and all else is the same; the
-- branch of the first step is the caller's to look at
pub record StoreIn (path : Path) (b c : Block) : Type 0 where
  pub around : Context
  pub old : Statement
  pub new : Statement
  pub opens : opened_in 1 path b ≡ Some (record { around = around; piece = next old end })
  pub is : c ≡ fill around (next new end)
  pub old_is : IsStore old
  pub new_is : IsStore new

-- such a path goes on behind some steps, into a branch where the blocks are
pub record ChangedIn (outer : Path) (branch : Branch) (found : Path) (b c : Block) : Type 0 where
  pub index : ℕ
  pub inner : Path
  pub goes : found ≡ outer ++ to branch index ∷ inner
  pub store : StoreIn (to branch index ∷ inner) b c

-- the statements are such stores, or have them inside, whatever follows
pub record StoreUnder (inner : Path) (a b : Statement) : Type 0 where
  pub around : Block → Context
  pub old : Statement
  pub new : Statement
  pub opens :
      (branch : Branch) (rest : Block) → opened_in 1 (to branch 0 ∷ inner) (next a rest)
      ≡ Some (record { around = around rest; piece = next old end })
  pub is : (rest : Block) → next b rest ≡ fill (around rest) (next new end)
  pub old_is : IsStore old
  pub new_is : IsStore new

-- a path goes on behind that of the statements
pub record ChangedAt (path found : Path) (a b : Statement) : Type 0 where
  pub inner : Path
  pub goes : found ≡ path ++ inner
  pub store : StoreUnder inner a b
