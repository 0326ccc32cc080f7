-- Copies with new binders.
use Rattle.std.proofs.Common.{◌≡◌, inl, inr, ⊎_elim, ℕ, suc, List, [], ◌∷◌, refl, sym, ap, ◌∙◌, subst}
use Rattle.exo_meaning.specs.Renaming.{Renaming}
use Rattle.meaning_laws.specs.Copies.{Moves, IsFree}
use Rattle.exo_meaning.specs.Binders.{binders}
use Rattle.meaning_laws.specs.Fresh.{swapped, exchanged, exchanged_back, AreFree, FreshCopyLaw}
use Rattle.meaning_laws.proofs.Swaps.{swap_moves, swapped_twice}

pub there_and_back : (is : List ℕ) (n x : ℕ) → exchanged_back is n (exchanged is n x) ≡ x
there_and_back [] n x = refl
there_and_back (i ∷ is) n x = ap (swapped i n) (there_and_back is (suc n) (swapped i n x)) ∙ swapped_twice i n x

pub back_and_there : (is : List ℕ) (n x : ℕ) → exchanged is n (exchanged_back is n x) ≡ x
back_and_there [] n x = refl
back_and_there (i ∷ is) n x = ap (exchanged is (suc n)) (swapped_twice i n (exchanged_back is (suc n) x)) ∙ back_and_there is (suc n) x

-- the ids of the list and the new ones change places
abbrev pub exchanging : List ℕ → ℕ → Renaming
exchanging is n =
    record {
      to = exchanged is n;
      from = exchanged_back is n;
      to_from = back_and_there is n;
      from_to = there_and_back is n;
    }

pub exchanging_moves : (Free : ℕ → Type 0) (is : List ℕ) (n : ℕ) → AreFree Free is n → Moves (exchanging is n) Free
exchanging_moves Free [] n h x = inl refl
exchanging_moves Free (i ∷ is) n h x =
    let y = exchanged_back is (suc n) x in
    ⊎_elim
    (λ e. ⊎_elim (λ k. inl (ap (swapped i n) e ∙ k)) (λ k. inr (k.0, subst (λ z. Free (swapped i n z)) (sym e) k.1)) (swap_moves i n Free h.0 h.1 x))
    (λ f. ⊎_elim (λ k. inr (f.0, subst Free (sym k) f.1)) (λ k. inr (f.0, k.1)) (swap_moves i n Free h.0 h.1 y))
    (exchanging_moves Free is (suc n) h.2 x)

pub fresh_copy_law : FreshCopyLaw
fresh_copy_law p c b n h = (
  exchanging (binders b) n,
  record { to = λ x. refl; from = λ x. refl },
  exchanging_moves (IsFree p c) (binders b) n h,
)
