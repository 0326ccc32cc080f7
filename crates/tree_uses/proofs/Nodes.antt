-- What is read off a node of a tree, by its parts; and calls that end at an error.
use Rattle.std.proofs.Common.{◌≡◌, Bool, true, false, ◌&&◌, refl, sym, ap, ap₂, subst, ◌∙◌, Result, Ok, Err}
use Rattle.std.specs.Result.{IfOk, IsErrAnd}
use Rattle.affine_forms.specs.Outcomes.{IsWide}
use Rattle.affine_forms.specs.declared.error.FormError.{FormError}
use Rattle.affine_forms.specs.declared.error.FormError.TheVariants.{Memory}
use Rattle.tree_uses.specs.Outcomes.{ComesIf}
use Rattle.tree_uses.proofs.Wide.{told_wide}

-- a node of one part
pub of_one : {N P V W : Type 0} (F : N → V) (u : P → W) (g : W → V) {n m : N} {a x : P} {l : W}
    → n ≡ m → x ≡ a → F m ≡ g (u a) → l ≡ u x → g l ≡ F n
of_one F u g is ax same el = ap g (el ∙ ap u ax) ∙ sym same ∙ sym (ap F is)

-- a node of two parts
pub of_two : {N P V W : Type 0} (F : N → V) (u : P → W) (g : W → W → V) {n m : N} {a b x y : P} {l r : W}
    → n ≡ m → x ≡ a → y ≡ b → F m ≡ g (u a) (u b) → l ≡ u x → r ≡ u y → g l r ≡ F n
of_two F u g is ax by same el er = ap₂ g (el ∙ ap u ax) (er ∙ ap u by) ∙ sym same ∙ sym (ap F is)

-- a node of four parts
pub of_four : {N P V W : Type 0} (F : N → V) (u : P → W) (g : W → W → W → W → V) {n m : N} {a b c d x y z w : P}
    {k l r s : W} → n ≡ m → x ≡ a → y ≡ b → z ≡ c → w ≡ d → F m ≡ g (u a) (u b) (u c) (u d)
    → k ≡ u x → l ≡ u y → r ≡ u z → s ≡ u w → g k l r s ≡ F n
of_four F u g {a = a} {b = b} {r = r} {s = s} is ax by cz dw same ek el er es =
    ap₂ (λ i j. g i j r s) (ek ∙ ap u ax) (el ∙ ap u by) ∙ ap₂ (λ i j. g (u a) (u b) i j) (er ∙ ap u cz) (es ∙ ap u dw)
    ∙ sym same ∙ sym (ap F is)

-- what stands for a node, and whether it can be written down
module _ {N V : Type 0} (used : N → V) (fit : N → Bool) {n m : N} (is : n ≡ m) where
  pub node_made : {v : V} → v ≡ used m → fit m ≡ true
      → record { value : v ≡ used n; fits : fit n ≡ true }
  node_made e f = record { value = e ∙ sym (ap used is); fits = ap fit is ∙ f }

  -- by what stands for a pair
  pub pair_made : {P : Type 0} (g : P → P → V) {a b l r : P} → g a b ≡ used m
      → record { first : l ≡ a; second : r ≡ b; fits : fit m ≡ true }
      → record { value : g l r ≡ used n; fits : fit n ≡ true }
  pair_made g same pair = node_made (ap₂ g pair.first pair.second ∙ same) pair.fits

  -- by what stands for its part, in a box
  module _ {a x : N} (ax : x ≡ a) where
    pub one_fits : fit m ≡ fit a → fit x ≡ fit n
    one_fits same = of_one fit fit (λ p. p) is ax same refl

    pub one_made : (g : V → V) {l : V} → used m ≡ g (used a) → fit m ≡ fit a
        → record { value : l ≡ used x; fits : fit x ≡ true }
        → record { value : g l ≡ used n; fits : fit n ≡ true }
    one_made g same also part =
        let value = of_one used used g is ax same part.value in
        record { value = value; fits = sym (one_fits also) ∙ part.fits }

    -- by what stands for its two parts, in boxes
    module _ {b y : N} (by : y ≡ b) where
      pub two_fit : fit m ≡ (fit a && fit b) → (fit x && fit y) ≡ fit n
      two_fit same = of_two fit fit (λ p q. p && q) is ax by same refl refl

      pub two_made : (g : V → V → V) {l r : V} → used m ≡ g (used a) (used b)
          → fit m ≡ (fit a && fit b)
          → record { first : l ≡ used x; second : r ≡ used y; fits : (fit x && fit y) ≡ true }
          → record { value : g l r ≡ used n; fits : fit n ≡ true }
      two_made g same also pair =
          let value = of_two used used g is ax by same pair.first pair.second in
          record { value = value; fits = sym (two_fit also) ∙ pair.fits }

-- what is made is also what equals it
pub on_same : {T E V : Type 0} (r : Result T E) (f : T → V) (v w : V) → IfOk r (λ x. f x ≡ v) → v ≡ w
    → IfOk r (λ x. f x ≡ w)
on_same r f v w h e = subst (λ z. IfOk r (λ x. f x ≡ z)) e h

-- parts that hold change nothing, and one that does not decides
pub with_one : (a b : Bool) → b ≡ true → a ≡ (a && b)
with_one true b h = sym h
with_one false b h = refl

pub with_two : (a b c : Bool) → b ≡ true → c ≡ true → a ≡ (a && (b && c))
with_two a b c h k = with_one a (b && c) (ap₂ (λ s t. s && t) h k)

pub last_off : (a b : Bool) → b ≡ false → (a && b) ≡ false
last_off true b h = h
last_off false b h = refl

-- what a call makes of a part is made of the whole
pub passed_on : {T V : Type 0} (r : Result T FormError) (f : T → V) {v w : V} {part whole : Bool}
    → IfOk r (λ x. f x ≡ v) → ComesIf r part → v ≡ w → part ≡ whole
    → record { value : IfOk r (λ x. f x ≡ w); fits : ComesIf r whole }
passed_on r f {v = v} {w = w} made comes e h =
    record { value = on_same r f v w made e; fits = subst (ComesIf r) h comes }

-- where there is an error, nothing is made
nothing_made : {T : Type 0} (r : Result T FormError) (e : FormError) (P : T → Type 0)
    → IsErrAnd r (λ x. x ≡ e) → IfOk r P
nothing_made (Ok made) e P is = absurd is
nothing_made (Err x) e P is = tt

-- an error is handed on, of what makes the whole too wide
pub handed_wide : {T : Type 0} (r : Result T FormError) (e : FormError) (P : T → Type 0)
    {part whole : Bool} → IsErrAnd r (λ x. x ≡ e) → IsWide e part → (part ≡ false → whole ≡ false)
    → record { value : IfOk r P; fits : ComesIf r whole }
handed_wide r e P {part = part} {whole = whole} is w f =
    record { value = nothing_made r e P is; fits = told_wide r e part whole is w f }

pub handed_on : {T : Type 0} (r : Result T FormError) (e : FormError) (P : T → Type 0)
    {part whole : Bool} → IsErrAnd r (λ x. x ≡ e) → IsWide e part → part ≡ whole
    → record { value : IfOk r P; fits : ComesIf r whole }
handed_on r e P is w f = handed_wide r e P is w (λ h. sym f ∙ h)

-- two in a pair
pub both_made : {A B : Type 0} {p q : Bool} → record { value : A; fits : p ≡ true }
    → record { value : B; fits : q ≡ true }
    → record { first : A; second : B; fits : (p && q) ≡ true }
both_made a b =
    record { first = a.value; second = b.value; fits = ap₂ (λ s t. s && t) a.fits b.fits }

-- of two, an error is that of the first or of the second
pub first_handed_on : {T : Type 0} (r : Result T FormError) (e : FormError) (P Q : T → Type 0)
    (a b : Bool) → IsErrAnd r (λ x. x ≡ e) → IsWide e a
    → record { first : IfOk r P; second : IfOk r Q; fits : ComesIf r (a && b) }
first_handed_on r e P Q a b is w =
    let fits = told_wide r e a (a && b) is w (λ h. ap (λ (s : Bool). s && b) h) in
    record { first = nothing_made r e P is; second = nothing_made r e Q is; fits = fits }

pub second_handed_on : {T : Type 0} (r : Result T FormError) (e : FormError) (P Q : T → Type 0)
    (a b : Bool) → IsErrAnd r (λ x. x ≡ e) → IsWide e b
    → record { first : IfOk r P; second : IfOk r Q; fits : ComesIf r (a && b) }
second_handed_on r e P Q a b is w =
    let fits = told_wide r e b (a && b) is w (last_off a b) in
    record { first = nothing_made r e P is; second = nothing_made r e Q is; fits = fits }

-- memory is wanting
pub no_memory : {T : Type 0} (r : Result T FormError) (P : T → Type 0) (whole : Bool)
    → IsErrAnd r (λ x. x ≡ Memory) → record { value : IfOk r P; fits : ComesIf r whole }
no_memory (Ok made) P whole is = absurd is
no_memory (Err x) P whole is =
    record { value = tt; fits = subst (λ y. IsWide y whole) (sym is) tt }
