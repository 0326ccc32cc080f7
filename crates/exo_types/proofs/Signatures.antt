-- The signatures of the procedures above, by their numbers.
use Rattle.std.proofs.Common.{◌≡◌, ℕ, zero, suc, ◌<◌, ◌≤◌, Bool, List, [], ◌∷◌, Some, None, slice_get, get_or, length, map, refl, ap, sym, ◌∙◌, arith}
use Rattle.exo_tree.specs.Tree.{Procedure}
use Rattle.exo_types.specs.ArgumentRules.{Signature}
use Rattle.exo_types.specs.Walks.{signatures_by}

abbrev pub signed : Procedure → (ℕ → Bool) → Signature
signed p w = record { params = p.params; writes = w }

pub found_signature : (ps : List Procedure) (ws : List (ℕ → Bool)) (k : ℕ) (p : Procedure) (w : ℕ → Bool) → slice_get ps k ≡ Some p → slice_get ws k ≡ Some w → slice_get (signatures_by ps ws) k ≡ Some (signed p w)
found_signature [] ws k p w e h = cc
found_signature (q ∷ ps) [] k p w e h = cc
found_signature (q ∷ ps) (v ∷ ws) zero p w e h = cc
found_signature (q ∷ ps) (v ∷ ws) (suc k) p w e h = found_signature ps ws k p w e h

pub no_row : (ps : List Procedure) (ws : List (ℕ → Bool)) (k : ℕ) → length ws ≤ k → slice_get (signatures_by ps ws) k ≡ None
no_row [] ws k h = refl
no_row (p ∷ ps) [] k h = refl
no_row (p ∷ ps) (w ∷ ws) zero h = absurd (omega (arith, h))
no_row (p ∷ ps) (w ∷ ws) (suc k) h = no_row ps ws k (omega (arith, h))

pub no_procedure : (ps : List Procedure) (ws : List (ℕ → Bool)) (k : ℕ) → slice_get ps k ≡ None → slice_get (signatures_by ps ws) k ≡ None
no_procedure [] ws k e = refl
no_procedure (p ∷ ps) [] k e = refl
no_procedure (p ∷ ps) (w ∷ ws) zero e = cc
no_procedure (p ∷ ps) (w ∷ ws) (suc k) e = no_procedure ps ws k e

-- the item at an index, as it is seen
pub get_read : {X Y : Type 0} (f : X → Y) (xs : List X) (k : ℕ) (x : X) (ys : List Y) → ys ≡ map f xs → x ≡ get_or xs k x → k < length xs → slice_get ys k ≡ Some (f x)
get_read f [] k x ys m e h = absurd (omega (arith, h))
get_read f (y ∷ xs) zero x ys m e h = ap (λ zs. slice_get zs zero) m ∙ ap (λ z. Some (f z)) (sym e)
get_read f (y ∷ xs) (suc k) x ys m e h = ap (λ zs. slice_get zs (suc k)) m ∙ get_read f xs k x _ refl e (omega (arith, h))
