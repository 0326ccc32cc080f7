-- Two changes of cells.
use Rattle.std.proofs.Common.{◌≡◌, ℕ, ℤ, ◌==◌, Bool, true, false, cond, List, refl, sym, ◌∙◌, subst, eqb-true, eq-eqb, true≢false}
use Rattle.std.proofs.Math.Path.{fun_ext}
use Rattle.std.specs.Cmp.Rules.{signed_items}
use Rattle.std.proofs.lemmas.Bool.{and_parts, and_from}
use Rattle.exo_meaning.specs.Value.{Value}
use Rattle.exo_meaning.specs.State.{Cells, same_index, Place, is_there, changed}

-- the test of places decides their equality
pub there_is : (p : Place) (b : ℕ) (at : List ℤ) → is_there p b at ≡ true → (b ≡ p.buffer) × (at ≡ p.at)
there_is p b at h =
    let parts = and_parts (b == p.buffer) (same_index at p.at) h in
    (eqb-true b p.buffer parts.0, (signed_items at p.at).0 parts.1)

pub is_there_self : (p : Place) → is_there p p.buffer p.at ≡ true
is_there_self p = and_from (p.buffer == p.buffer) (same_index p.at p.at) (eq-eqb p.buffer p.buffer refl) ((signed_items p.at p.at).1 refl)

-- no cell is at two different places
pub one_place : (p q : Place) → is_there p q.buffer q.at ≡ false → (b : ℕ) (at : List ℤ) → is_there q b at ≡ true → is_there p b at ≡ true → ⊥
one_place p q h b at i j =
    let here = there_is q b at i in
    let there = subst (λ x. is_there p x q.at ≡ true) here.0 (subst (λ y. is_there p b y ≡ true) here.1 j) in
    true≢false (sym there ∙ h)

cond_swap : (s t : Bool) (f g : Value → Value) (x : Value) → ((s ≡ true) → (t ≡ true) → f (g x) ≡ g (f x)) → cond s (f (cond t (g x) x)) (cond t (g x) x) ≡ cond t (g (cond s (f x) x)) (cond s (f x) x)
cond_swap true true f g x h = h refl refl
cond_swap true false f g x h = refl
cond_swap false true f g x h = refl
cond_swap false false f g x h = refl

-- changes of different cells change places, and so do changes of one cell that do
pub changes_swap : (c : Cells) (p q : Place) (f g : Value → Value) → ((b : ℕ) (at : List ℤ) → is_there q b at ≡ true → is_there p b at ≡ true → (x : Value) → g (f x) ≡ f (g x)) → changed (changed c p f) q g ≡ changed (changed c q g) p f
changes_swap c p q f g h = fun_ext (λ b. fun_ext (λ at. cond_swap (is_there q b at) (is_there p b at) g f (c b at) (λ i j. h b at i j (c b at))))
