-- Copies with new binders.
use Rattle.std.specs.Prelude.{◌≡◌, ◌==◌, cond, ℕ, suc, List, [], ◌∷◌, ⊤}
use Rattle.exo_tree.specs.Tree.{Block, Procedure}
use Rattle.exo_meaning.specs.Binders.{binders}
use Rattle.exo_meaning.specs.Renaming.{Renaming}
use Rattle.meaning_laws.specs.Copies.{Moves, IsFree}
use Rattle.exo_tree.specs.Context.{Context}

abbrev pub swapped : ℕ → ℕ → ℕ → ℕ
swapped a b x = cond (x == a) b (cond (x == b) a x)

-- each id of the list changes places with the next new id
abbrev pub exchanged : List ℕ → ℕ → ℕ → ℕ
exchanged [] n x = x
exchanged (i ∷ is) n x = exchanged is (suc n) (swapped i n x)

-- which is undone from the last to the first
abbrev pub exchanged_back : List ℕ → ℕ → ℕ → ℕ
exchanged_back [] n x = x
exchanged_back (i ∷ is) n x = swapped i n (exchanged_back is (suc n) x)

-- the ids are free, and so are as many from n on
abbrev pub AreFree : (ℕ → Type 0) → List ℕ → ℕ → Type 0
AreFree Free [] n = ⊤
AreFree Free (i ∷ is) n = Free i × Free n × AreFree Free is (suc n)

-- a renaming that gives the binders of a block the ids from n on
pub record IsFresh (b : Block) (n : ℕ) (r : Renaming) : Type 0 where
  pub to : (x : ℕ) → r.to x ≡ exchanged (binders b) n x
  pub from : (x : ℕ) → r.from x ≡ exchanged_back (binders b) n x

-- there is one, and at a place where these ids are free it moves free names only
abbrev pub FreshCopyLaw : Type 0
FreshCopyLaw =
    (p : Procedure) (c : Context) (b : Block) (n : ℕ)
    → AreFree (IsFree p c) (binders b) n
    → (r : Renaming) × IsFresh b n r × Moves r (IsFree p c)
