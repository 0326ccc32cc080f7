-- Where no field passes a test, none passes it and another one.
use Rattle.std.proofs.Common.{◌≡◌, ℕ, zero, suc, Bool, true, false, ◌&&◌, List, ◌∷◌, if◌then◌else◌, refl, sym, ◌∙◌}
use Rattle.config_state.specs.FieldSets.{fields_from}
use Rattle.config_state.specs.Steps.Fields.{some_listed, some_where}

one_more : (t s : Bool) (k : ℕ) (fs gs : List ℕ) → (some_listed fs ≡ false → some_listed gs ≡ false)
    → some_listed (if t then k ∷ fs else fs) ≡ false → some_listed (if t && s then k ∷ gs else gs) ≡ false
one_more true s k fs gs onward h = let no : true ≡ false = h in cc (no)
one_more false s k fs gs onward h = onward h

none_of_both : (n k : ℕ) (p q : ℕ → Bool) → some_listed (fields_from k n p) ≡ false
    → some_listed (fields_from k n (λ f. p f && q f)) ≡ false
none_of_both zero k p q h = refl
none_of_both (suc n) k p q h =
    one_more (p k) (q k) k (fields_from (suc k) n p) (fields_from (suc k) n (λ f. p f && q f))
    (none_of_both n (suc k) p q) h

pub none_shared : (n : ℕ) (p q : ℕ → Bool) (some : Bool) → some ≡ some_where n p → some ≡ false
    → false ≡ some_where n (λ f. p f && q f)
none_shared n p q some is none = sym (none_of_both n 0 p q (sym is ∙ none))
