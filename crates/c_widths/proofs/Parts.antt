-- What is told of a tree by its parts; of an expression's magnitude above all.
use Rattle.std.proofs.Common.{◌≡◌, ◌⊎◌, ◌+◌, ◌*◌, ℕ, Bool, true, false, ◌&&◌, is_some, IfSome}
use Rattle.std.proofs.Common.{Option, None, Result, IfOk, sym, ap, ap₂, subst, ◌∙◌, ⊎_elim}
use Rattle.exo_tree.specs.Tree.{Control, Add, Sub, Mul}
use Rattle.c_widths.specs.Magnitude.{magnitude, fits, is_narrow}

-- a value that is the same is told alike
pub some_same : (o : Option ℕ) {v w : ℕ} → v ≡ w → IfSome o (λ n. n ≡ v) → IfSome o (λ n. n ≡ w)
some_same o e h = subst (λ v. IfSome o (λ n. n ≡ v)) e h

-- of no value nothing is told
pub of_none : (o : Option ℕ) (P : ℕ → Type 0) → o ≡ None → IfSome o P
of_none o P e = subst (λ o. IfSome o P) (sym e) tt

pub ok_same : {E : Type 0} (r : Result Bool E) {v w : Bool} → v ≡ w → IfOk r (λ t. t ≡ v)
    → IfOk r (λ t. t ≡ w)
ok_same r e h = subst (λ v. IfOk r (λ t. t ≡ v)) e h

-- of one of two nodes, of which the same is told
pub of_either : {X S V : Type 0} (f : S → V) (v : V) {s : S} {m n : X → S}
    → ((x : X) × (s ≡ m x)) ⊎ ((x : X) × (s ≡ n x)) → ((x : X) → f (m x) ≡ v)
    → ((x : X) → f (n x) ≡ v) → f s ≡ v
of_either {X} f v {s} {m} {n} is h g = ⊎_elim first second is
  where
    first : ((x : X) × (s ≡ m x)) → f s ≡ v
    first w = ap f w.1 ∙ h w.0

    second : ((x : X) × (s ≡ n x)) → f s ≡ v
    second w = ap f w.1 ∙ g w.0

-- ---- magnitudes

module _ (most : ℕ → ℕ) where
  -- an expression of one part, and what its magnitude is by that of the part
  pub record OfOne (f : ℕ → ℕ) (whole x : Control) : Type 0 where
    pub narrow : is_narrow most whole ≡ (is_narrow most x && fits (f (magnitude most x)))
    pub large : magnitude most whole ≡ f (magnitude most x)

  pub one_off : (f : ℕ → ℕ) {whole x : Control} {out : Option ℕ} → OfOne f whole x → out ≡ None
      → false ≡ is_narrow most x → is_some out ≡ is_narrow most whole
  one_off f {x = x} node none h = ap is_some none ∙ ap (λ t. t && fits (f (magnitude most x))) h
      ∙ sym node.narrow

  pub one_there : (f : ℕ → ℕ) {whole x : Control} {l : ℕ} {t : Bool} → OfOne f whole x
      → true ≡ is_narrow most x → l ≡ magnitude most x → t ≡ fits (f l) → t ≡ is_narrow most whole
  one_there f {x = x} node h e is = is ∙ ap (λ n. fits (f n)) e
      ∙ ap (λ t. t && fits (f (magnitude most x))) h ∙ sym node.narrow

  pub one_value : (f : ℕ → ℕ) {whole x : Control} {l : ℕ} → OfOne f whole x → l ≡ magnitude most x
      → f l ≡ magnitude most whole
  one_value f node e = ap f e ∙ sym node.large

  -- an expression of two parts
  pub record OfTwo (f : ℕ → ℕ → ℕ) (whole x y : Control) : Type 0 where
    pub narrow : is_narrow most whole
        ≡ (is_narrow most x && is_narrow most y && fits (f (magnitude most x) (magnitude most y)))
    pub large : magnitude most whole ≡ f (magnitude most x) (magnitude most y)

  pub of_product : {whole a b x y : Control} → whole ≡ Mul a b → x ≡ a → y ≡ b → OfTwo ◌*◌ whole x y
  of_product is ax by =
      let e = is ∙ ap₂ Mul (sym ax) (sym by) in
      record { narrow = ap (is_narrow most) e; large = ap (magnitude most) e }

  -- a sum or a difference
  pub of_sum : {S : Type 0} (plain : S → Control) {s m n : S} {a b x y : Control}
      → (s ≡ m) ⊎ (s ≡ n) → plain m ≡ Add a b → plain n ≡ Sub a b → x ≡ a → y ≡ b
      → OfTwo ◌+◌ (plain s) x y
  of_sum plain {s = s} {m = m} {n = n} {a = a} {b = b} {x = x} {y = y} is first second ax by =
      ⊎_elim added taken is
    where
      added : s ≡ m → OfTwo ◌+◌ (plain s) x y
      added i =
          let e = ap plain i ∙ first ∙ ap₂ Add (sym ax) (sym by) in
          record { narrow = ap (is_narrow most) e; large = ap (magnitude most) e }

      taken : s ≡ n → OfTwo ◌+◌ (plain s) x y
      taken i =
          let e = ap plain i ∙ second ∙ ap₂ Sub (sym ax) (sym by) in
          record { narrow = ap (is_narrow most) e; large = ap (magnitude most) e }

  pub first_off : (f : ℕ → ℕ → ℕ) {whole x y : Control} {out : Option ℕ} → OfTwo f whole x y
      → out ≡ None → false ≡ is_narrow most x → is_some out ≡ is_narrow most whole
  first_off f {x = x} {y = y} node none h =
      let whole = fits (f (magnitude most x) (magnitude most y)) in
      ap is_some none ∙ ap (λ t. t && is_narrow most y && whole) h ∙ sym node.narrow

  pub second_off : (f : ℕ → ℕ → ℕ) {whole x y : Control} {out : Option ℕ} → OfTwo f whole x y
      → out ≡ None → true ≡ is_narrow most x → false ≡ is_narrow most y
      → is_some out ≡ is_narrow most whole
  second_off f {x = x} {y = y} node none h g =
      ap is_some none ∙ ap₂ (λ s t. s && t && fits (f (magnitude most x) (magnitude most y))) h g
      ∙ sym node.narrow

  pub two_there : (f : ℕ → ℕ → ℕ) {whole x y : Control} {l r : ℕ} {t : Bool} → OfTwo f whole x y
      → true ≡ is_narrow most x → true ≡ is_narrow most y → l ≡ magnitude most x
      → r ≡ magnitude most y → t ≡ fits (f l r) → t ≡ is_narrow most whole
  two_there f {x = x} {y = y} node h g el er is =
      is ∙ ap₂ (λ n m. fits (f n m)) el er
      ∙ ap₂ (λ s t. s && t && fits (f (magnitude most x) (magnitude most y))) h g ∙ sym node.narrow

  pub two_value : (f : ℕ → ℕ → ℕ) {whole x y : Control} {l r : ℕ} → OfTwo f whole x y
      → l ≡ magnitude most x → r ≡ magnitude most y → f l r ≡ magnitude most whole
  two_value f node el er = ap₂ f el er ∙ sym node.large
