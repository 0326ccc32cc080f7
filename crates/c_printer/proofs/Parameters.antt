-- What the parameters are in the body, from the last to the first.
use Rattle.std.proofs.Common.{◌≡◌, ◌<◌, ◌+◌, ◌-◌, ℕ, List, ◌∷◌, map, length, drop, get_or, arith, refl, sym, ap, ap₂, ◌∙◌}
use Rattle.std.proofs.lemmas.List.{drop_more}
use Rattle.exo_tree.specs.PlainParam.{parameter, parameter_kind}
use Rattle.exo_tree.specs.declared.param.Param.{Param}
use Rattle.exo_meaning.specs.Scene.{updated}
use Rattle.c_lowering.specs.Made.Lowered as lowered
use Rattle.c_lowering.specs.Made.Lowered.{param_forms}

param_first : (p : Param) (ps : List Param) → updated (param_forms (map parameter ps)) p.binder.id.0 (lowered.form_of (parameter_kind p.kind)) ≡ param_forms (map parameter (p ∷ ps))
param_first p ps = let same : (x : ℕ) → updated (param_forms (map parameter ps)) p.binder.id.0 (lowered.form_of (parameter_kind p.kind)) x ≡ param_forms (map parameter (p ∷ ps)) x = λ x. refl in λ i x. same x i

-- one parameter more
pub param_more : (ps : List Param) (k : ℕ) (p : Param) (forms more : lowered.Forms) (form : lowered.Form) → k < length ps → p ≡ get_or ps (length ps - 1 - k) p → form ≡ lowered.form_of (parameter_kind p.kind) → more ≡ updated forms p.binder.id.0 form → forms ≡ param_forms (map parameter (drop (length ps - k) ps)) → more ≡ param_forms (map parameter (drop (length ps - (k + 1)) ps))
param_more ps k p forms more form h is form_is entered so_far =
    let at = length ps - 1 - k in
    let inside : at < length ps = omega (arith, h) in
    let now : length ps - k ≡ at + 1 = omega (arith, h) in
    let after : at ≡ length ps - (k + 1) = omega (arith, h) in
    let here : p ∷ drop (at + 1) ps ≡ drop at ps = ap (λ q. q ∷ drop (at + 1) ps) is ∙ sym (drop_more ps at p inside) in
    let before_it : forms ≡ param_forms (map parameter (drop (at + 1) ps)) = so_far ∙ ap (λ n. param_forms (map parameter (drop n ps))) now in
    entered
    ∙ ap₂ (λ f v. updated f p.binder.id.0 v) before_it form_is
    ∙ param_first p (drop (at + 1) ps)
    ∙ ap (λ qs. param_forms (map parameter qs)) here
    ∙ ap (λ n. param_forms (map parameter (drop n ps))) after
