-- The buffers of names after one more alias.
use Rattle.std.proofs.Common.{◌≡◌, ℕ, ◌==◌, List, [], ◌∷◌, ◌++◌, if◌then◌else◌, refl}
use Rattle.exo_meaning.specs.Scene.{updated}
use Rattle.exo_modes.specs.declared.aliases.Alias.{Alias}
use Rattle.exo_modes.specs.Aliases.{root_among, roots_in}

pub among_push : (aliases : List Alias) (a : Alias) (x y : ℕ) → root_among (aliases ++ a ∷ []) x y ≡ (if x == a.name then a.root else root_among aliases x y)
among_push [] a x y = refl
among_push (b ∷ aliases) a x y = among_push aliases a x (if x == b.name then b.root else y)

pub root_by_push : (aliases : List Alias) (a : Alias) → roots_in (aliases ++ a ∷ []) ≡ updated (roots_in aliases) a.name a.root
root_by_push aliases a = λ i x. among_push aliases a x x i
