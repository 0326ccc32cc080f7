-- A block made statement by statement.
use Rattle.std.proofs.Common.{◌≡◌, ℕ, ◌≤◌, List, [], ◌∷◌, ◌++◌, length, drop, refl, ap, sym, ◌∙◌}
use Rattle.std.proofs.lemmas.List.{drop_all}
use Rattle.exo_tree.specs.Tree.{Statement, Block, end, next, block, joined}

joined_to_end : (b : Block) → joined b end ≡ b
joined_to_end end = refl
joined_to_end (next a b) = ap (next a) (joined_to_end b)

joined_one : (made : List Statement) (t : Statement) (b : Block) → joined (block (made ++ t ∷ [])) b ≡ joined (block made) (next t b)
joined_one [] t b = refl
joined_one (s ∷ made) t b = ap (next s) (joined_one made t b)

-- one more statement is changed
pub walk_on : (change : Block → Block) (one : Statement → Statement) → ((a : Statement) (b : Block) → change (next a b) ≡ next (one a) (change b)) → (made new ss rest : List Statement) (k : ℕ) (a t : Statement) (whole : Block) → drop k ss ≡ a ∷ rest → t ≡ one a → new ≡ made ++ t ∷ [] → joined (block made) (change (block (drop k ss))) ≡ whole → joined (block new) (change (block rest)) ≡ whole
walk_on change one e made new ss rest k a t whole d f g h =
    ap (λ (ts : List Statement). joined (block ts) (change (block rest))) g
    ∙ joined_one made t (change (block rest))
    ∙ ap (λ (s : Statement). joined (block made) (next s (change (block rest)))) f
    ∙ ap (joined (block made)) (sym (e a (block rest)) ∙ ap (λ (ts : List Statement). change (block ts)) (sym d))
    ∙ h

-- all statements are changed
pub walk_end : (change : Block → Block) → change end ≡ end → (made ss : List Statement) (k : ℕ) (whole : Block) → length ss ≤ k → joined (block made) (change (block (drop k ss))) ≡ whole → block made ≡ whole
walk_end change e made ss k whole l h =
    sym (joined_to_end (block made)) ∙ ap (joined (block made)) (sym (ap (λ (ts : List Statement). change (block ts)) (drop_all k ss l) ∙ e)) ∙ h
