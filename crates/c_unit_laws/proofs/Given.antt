-- What callers give is within the bounds of parameters.
use Rattle.std.proofs.Common.{◌≡◌, ◌≤◌, ◌==◌, ℕ, suc, max, Bool, true, false, ◌||◌, cond, List, [], ◌∷◌, refl, sym, ap, ◌∙◌, subst, arith, true≢false, eqb-true, eq-eqb}
use Rattle.exo_tree.specs.Tree.{Param}
use Rattle.exo_meaning.specs.Inputs.{is_buffer_of}
use Rattle.inplace_laws.specs.CallInPlace.{AreDistinct}
use Rattle.c_widths.specs.Widths.{most_of_param}
use Rattle.c_widths.specs.Raises.{most_from}
use Rattle.c_unit_laws.proofs.Arguments.{AreWithin}

-- where bounds grow and places move up by one
moved_up : (b c given : ℕ → ℕ) (ps : List Param) (i : ℕ) → ((x : ℕ) → is_buffer_of x ps ≡ true → b x ≤ c x) → AreWithin b (λ j. given (suc j)) i ps → AreWithin c given (suc i) ps
moved_up b c given [] i h k = tt
moved_up b c given (p ∷ ps) i h k = (
  below (given (suc i)) (b p.binder.id) (c p.binder.id) k.0 (h p.binder.id (ap (λ t. t || is_buffer_of p.binder.id ps) (eq-eqb p.binder.id p.binder.id refl))),
  moved_up b c given ps (suc i) (λ x e. h x (late (x == p.binder.id) (is_buffer_of x ps) e)) k.1,
)
  where
    below : (l m n : ℕ) → l ≤ m → m ≤ n → l ≤ n
    below l m n e f = omega (arith, e, f)

    late : (s t : Bool) → t ≡ true → (s || t) ≡ true
    late true t e = refl
    late false t e = e

-- the bound of a later parameter is that among the later ones
pub later_bound : (p : Param) (ps : List Param) (given : ℕ → ℕ) → is_buffer_of p.binder.id ps ≡ false → (x : ℕ) → is_buffer_of x ps ≡ true → most_from ps (λ i. given (suc i)) x ≤ most_from (p ∷ ps) given x
later_bound p ps given d x e = go (x == p.binder.id) refl
  where
    same : (n : ℕ) → n ≤ n
    same n = omega arith

    go : (t : Bool) → (x == p.binder.id) ≡ t → most_from ps (λ i. given (suc i)) x ≤ cond t (max (most_of_param p.kind) (given 0)) (most_from ps (λ i. given (suc i)) x)
    go true f = absurd (true≢false (sym e ∙ (ap (λ z. is_buffer_of z ps) (eqb-true x p.binder.id f) ∙ d)))
    go false f = same (most_from ps (λ i. given (suc i)) x)

pub given_within : (ps : List Param) (given : ℕ → ℕ) → AreDistinct ps → AreWithin (most_from ps given) given 0 ps
given_within [] given d = tt
given_within (p ∷ ps) given d = (
  subst (λ t. given 0 ≤ cond t (max (most_of_param p.kind) (given 0)) (most_from ps (λ i. given (suc i)) p.binder.id)) (sym (eq-eqb p.binder.id p.binder.id refl)) (greater (most_of_param p.kind) (given 0)),
  moved_up (most_from ps (λ i. given (suc i))) (most_from (p ∷ ps) given) given ps 0 (later_bound p ps given d.0) (given_within ps (λ i. given (suc i)) d.1),
)
  where
    greater : (m n : ℕ) → n ≤ max m n
    greater m n = omega arith
