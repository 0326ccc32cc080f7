-- What is too wide makes that too wide of which it is a part.
use Rattle.std.proofs.Common.{◌≡◌, ℕ, ◌<◌, Bool, false, List, length, get_or, map, sym, ap, ◌∙◌, subst}
use Rattle.std.proofs.lemmas.List.Folds.{list_all-map, list_all_at}
use Rattle.std.specs.Prelude.{Result, Ok, Err}
use Rattle.std.specs.List.{list_all}
use Rattle.std.specs.Result.{IsErrAnd}
use Rattle.affine_forms.specs.Outcomes.{IsWide}
use Rattle.affine_forms.specs.declared.error.FormError.{FormError}
use Rattle.affine_forms.specs.declared.error.FormError.TheVariants.{TooManyCases, SystemTooLarge, WideNumber, TooManySystems, Memory}
use Rattle.tree_uses.specs.Outcomes.{ComesIf}

pub wide_as : (e : FormError) (a b : Bool) → (a ≡ false → b ≡ false) → IsWide e a → IsWide e b
wide_as TooManyCases a b f h = h
wide_as SystemTooLarge a b f h = h
wide_as WideNumber a b f h = f h
wide_as TooManySystems a b f h = h
wide_as Memory a b f h = h

-- an error that is handed on
pub told_wide : {T : Type 0} (r : Result T FormError) (e : FormError) (part whole : Bool)
    → IsErrAnd r (λ x. x ≡ e) → IsWide e part → (part ≡ false → whole ≡ false)
    → ComesIf r whole
told_wide (Ok made) e part whole is w f = absurd is
told_wide (Err x) e part whole is w f =
    wide_as x part whole f (subst (λ y. IsWide y part) (sym is) w)

-- the item of a list
pub item_wide : {X Y : Type 0} (p : Y → Bool) (f : X → Y) (xs : List X) (ys : List Y) (i : ℕ) (x : X)
    → map f xs ≡ ys → x ≡ get_or xs i x → i < length xs → p (f x) ≡ false
    → list_all p ys ≡ false
item_wide p f xs ys i x same is below h =
    ap (list_all p) (sym same)
    ∙ list_all-map p f xs
    ∙ list_all_at (λ y. p (f y)) xs i x below (ap (λ y. p (f y)) (sym is) ∙ h)
