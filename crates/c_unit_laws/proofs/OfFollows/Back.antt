-- What a cell holds after a call by copies.
use Rattle.std.proofs.Common.{◌≡◌, ◌==◌, ◌||◌, ℕ, ℤ, Bool, true, false, cond, List, [], ◌∷◌, Option, Some, None, refl, sym, ap, ◌∙◌, ◌⊎◌, ⊎_elim, inl, inr, true≢false, eqb-true, eq-eqb}
use Rattle.exo_tree.specs.Tree.{Param}
use Rattle.exo_meaning.specs.Value.{Value}
use Rattle.exo_meaning.specs.Scene.{Seen, index_of}
use Rattle.exo_meaning.specs.State.{Cells}
use Rattle.exo_meaning.specs.Calls.{Given, GivenNumber, GivenView, copy_back, copied_back, value_or}
use Rattle.exo_meaning.specs.Inputs.{is_buffer_of}
use Rattle.exo_meaning.proofs.Windows.{none_is_some, one_value}
use Rattle.inplace_laws.specs.CallInPlace.{base_of, seen_of, AreDistinct}
use Rattle.inplace_laws.proofs.CallInPlace.{IsMissed}

module _ (writes : ℕ → Bool) (copies : Cells) (b : ℕ) (at : List ℤ) where
  -- a parameter that is written has the cell, and its copy the value
  pub record IsWritten (ps : List Param) (gs : List Given) (v : Value) : Type 0 where
    pub param : ℕ
    pub is_param : is_buffer_of param ps ≡ true
    pub may : writes param ≡ true
    pub seen : Seen
    pub base : base_of ps gs param ≡ Some seen
    pub buffer : seen.buffer ≡ b
    pub indices : List ℤ
    pub index : index_of seen.sides at ≡ Some indices
    pub value : v ≡ copies param indices

  -- one argument
  record HasTaken (x : ℕ) (g : Given) (v : Value) : Type 0 where
    may : writes x ≡ true
    seen : Seen
    view : seen_of g ≡ Some seen
    buffer : seen.buffer ≡ b
    indices : List ℤ
    index : index_of seen.sides at ≡ Some indices
    value : v ≡ copies x indices

  abbrev HasMissed : ℕ → Given → Type 0
  HasMissed x g = (z : Seen) → writes x ≡ true → seen_of g ≡ Some z → z.buffer ≡ b → index_of z.sides at ≡ None

  one_back : (x : ℕ) (g : Given) (c : Cells) → HasTaken x g (copy_back (writes x) g (copies x) c b at) ⊎ (HasMissed x g × (copy_back (writes x) g (copies x) c b at ≡ c b at))
  one_back x g c = go (writes x) refl g
    where
      go : (t : Bool) → writes x ≡ t → (g : Given) → HasTaken x g (copy_back t g (copies x) c b at) ⊎ (HasMissed x g × (copy_back t g (copies x) c b at ≡ c b at))
      go false e g = inr ((λ z f h k. absurd (true≢false (sym f ∙ e))), refl)
      go true e (GivenNumber n) = inr ((λ z f h k. absurd (none_is_some h)), refl)
      go true e (GivenView z) = there (b == z.buffer) refl (index_of z.sides at) refl
        where
          there : (d : Bool) → (b == z.buffer) ≡ d → (o : Option (List ℤ)) → index_of z.sides at ≡ o → HasTaken x (GivenView z) (cond d (value_or o (copies x) (c b at)) (c b at)) ⊎ (HasMissed x (GivenView z) × (cond d (value_or o (copies x) (c b at)) (c b at) ≡ c b at))
          there false d o i = inr ((λ y f h k. absurd (true≢false (sym (eq-eqb b z.buffer (sym k ∙ ap (λ w. w.buffer) (one_value y z (sym h)))) ∙ d))), refl)
          there true d None i = inr ((λ y f h k. ap (λ w. index_of w.sides at) (one_value y z (sym h)) ∙ i), refl)
          there true d (Some is) i = inl (record { may = e; seen = z; view = refl; buffer = sym (eqb-true b z.buffer d); indices = is; index = i; value = refl })

  or_right : (p q : Bool) → q ≡ true → (p || q) ≡ true
  or_right true q h = refl
  or_right false q h = h

  -- of a later argument
  later : (p : Param) (ps : List Param) (g : Given) (gs : List Given) (v : Value) → is_buffer_of p.binder.id ps ≡ false → IsWritten ps gs v → IsWritten (p ∷ ps) (g ∷ gs) v
  later p ps g gs v d h = record {
    param = h.param;
    is_param = or_right (h.param == p.binder.id) (is_buffer_of h.param ps) h.is_param;
    may = h.may;
    seen = h.seen;
    base = ap (λ t. cond t (seen_of g) (base_of ps gs h.param)) (far (h.param == p.binder.id) refl) ∙ h.base;
    buffer = h.buffer;
    indices = h.indices;
    index = h.index;
    value = h.value;
  }
    where
      far : (t : Bool) → (h.param == p.binder.id) ≡ t → t ≡ false
      far false e = refl
      far true e = absurd (true≢false (sym h.is_param ∙ ap (λ y. is_buffer_of y ps) (eqb-true h.param p.binder.id e) ∙ d))

  first_of : (p : Param) (ps : List Param) (g : Given) (gs : List Given) (v w : Value) → w ≡ v → HasTaken p.binder.id g v → IsWritten (p ∷ ps) (g ∷ gs) w
  first_of p ps g gs v w same h = record {
    param = p.binder.id;
    is_param = ap (λ t. t || is_buffer_of p.binder.id ps) (eq-eqb p.binder.id p.binder.id refl);
    may = h.may;
    seen = h.seen;
    base = ap (λ t. cond t (seen_of g) (base_of ps gs p.binder.id)) (eq-eqb p.binder.id p.binder.id refl) ∙ h.view;
    buffer = h.buffer;
    indices = h.indices;
    index = h.index;
    value = same ∙ h.value;
  }

  -- a cell has the value that the last parameter left that is written and has it, or is as it was
  pub back_cases : (ps : List Param) (gs : List Given) (c : Cells) → AreDistinct ps → IsWritten ps gs (copied_back writes ps gs copies c b at) ⊎ (IsMissed b at writes ps gs × (copied_back writes ps gs copies c b at ≡ c b at))
  back_cases [] gs c d = inr (tt, refl)
  back_cases (p ∷ ps) [] c d = inr (tt, refl)
  back_cases (p ∷ ps) (g ∷ gs) c d =
      ⊎_elim
      (λ h. inl (later p ps g gs _ d.0 h))
      (λ h. ⊎_elim (λ k. inl (first_of p ps g gs _ _ h.1 k)) (λ k. inr ((k.0, h.0), h.1 ∙ k.1)) (one_back p.binder.id g c))
      (back_cases ps gs (copy_back (writes p.binder.id) g (copies p.binder.id) c) d.1)
