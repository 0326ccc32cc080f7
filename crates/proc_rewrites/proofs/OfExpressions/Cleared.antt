-- What is left of a block without its passes, a statement at a time.
use Rattle.std.proofs.Common.{◌≡◌, ◌+◌, List, [], ◌∷◌, ◌++◌, length, refl, ap, sym, ◌∙◌}
use Rattle.exo_tree.specs.Tree.{Statement, Assign, Reduce, Config, Pass, If, For, Alloc, View, Call}
use Rattle.exo_tree.specs.Tree.{Block, end, next, joined, block, statements}
use Rattle.exo_tree.proofs.Openings.{joined_block}
use Rattle.place_laws.proofs.OfScope.SamePlace.{joined_assoc}
use Rattle.proc_laws.specs.Expression.Passes.{without, before, cleared}
use Rattle.tree_edits.specs.Made.Passes.{or_one_pass}

block_of : (b : Block) → block (statements b) ≡ b
block_of end = refl
block_of (next a b) = ap (next a) (block_of b)

joined_end : (b : Block) → joined b end ≡ b
joined_end end = refl
joined_end (next a b) = ap (next a) (joined_end b)

before_joined : (a : Statement) (rest : Block) → joined (before a end) rest ≡ before a rest
before_joined (Assign x is e) rest = refl
before_joined (Reduce x is e) rest = refl
before_joined (Config f a) rest = refl
before_joined Pass rest = refl
before_joined (If c a b) rest = refl
before_joined (For i lo hi b) rest = refl
before_joined (Alloc x cell dims memory) rest = refl
before_joined (View w x coords) rest = refl
before_joined (Call k args) rest = refl

-- one statement more
pub kept_more : (made more ss rest : List Statement) (a : Statement) (all : Block)
    → joined (block made) (without (block ss)) ≡ all
    → ss ≡ a ∷ rest → more ≡ made ++ statements (before a end)
    → joined (block more) (without (block rest)) ≡ all
kept_more made more ss rest a all h e k =
    ap (λ (x : List Statement). joined (block x) (without (block rest))) k
    ∙ ap (λ b. joined b (without (block rest))) (sym (joined_block made (statements (before a end))))
    ∙ joined_assoc (block made) (block (statements (before a end))) (without (block rest))
    ∙ ap (λ b. joined (block made) (joined b (without (block rest)))) (block_of (before a end))
    ∙ ap (joined (block made)) (before_joined a (without (block rest)))
    ∙ ap (λ (x : List Statement). joined (block made) (without (block x))) (sym e)
    ∙ h

-- all of them
pub kept_all : (made ss : List Statement) (all : Block)
    → joined (block made) (without (block ss)) ≡ all → ss ≡ [] → block made ≡ all
kept_all made ss all h e =
    sym (joined_end (block made))
    ∙ ap (λ (x : List Statement). joined (block made) (without (block x))) (sym e)
    ∙ h

-- a block that has a statement
pub cleared_some : (ss : List Statement) (made : Block) → (ss ≡ [] → ⊥) → made ≡ without (block ss)
    → or_one_pass made ≡ cleared (block ss)
cleared_some [] made h e = absurd (h refl)
cleared_some (a ∷ ss) made h e = ap or_one_pass e

pub one_pass_some : (ss : List Statement) → (length ss ≡ 0 → ⊥) → block ss ≡ or_one_pass (block ss)
one_pass_some [] h = absurd (h refl)
one_pass_some (a ∷ ss) h = refl
