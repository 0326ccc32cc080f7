-- The names in scope, entry by entry.
use Rattle.std.proofs.Common.{◌≡◌, ◌≤◌, ◌<◌, ◌+◌, ◌-◌, ℕ, ◌==◌, if◌then◌else◌, List, [], ◌∷◌, ◌++◌, length, take, get_or, arith, refl, sym, ap, ◌∙◌, eq-eqb, ne_eqb}
use Rattle.std.proofs.lemmas.List.{take_more, take-take, take_at, length-take}
use Rattle.exo_meaning.specs.Scene.{updated}
use Rattle.c_lowering.specs.Made.Lowered as lowered
use Rattle.c_lowering.specs.Made.Lowered.{NoForm}
use Rattle.c_lowering.specs.Scope.{form_of, found_in, forms_in}
use Rattle.c_lowering.specs.declared.scope.Entry.{Entry}

found_more : (found : lowered.Form) (es : List Entry) (e : Entry) (x : ℕ) → found_in found (es ++ e ∷ []) x ≡ (if x == e.id.0 then form_of e.form else found_in found es x)
found_more found [] e x = refl
found_more found (d ∷ es) e x = found_more (if x == d.id.0 then form_of d.form else found) es e x

-- a further entry
pub forms_more : (es : List Entry) (e : Entry) → forms_in (es ++ e ∷ []) ≡ updated (forms_in es) e.id.0 (form_of e.form)
forms_more es e = λ i x. found_more NoForm es e x i

-- behind those that are there
pub still_there : (es : List Entry) (e : Entry) → take (length es) (es ++ e ∷ []) ≡ es
still_there es e = take_at es (e ∷ []) (length es) refl

-- ---- the search from the last entry on

last_of : (es : List Entry) (k : ℕ) (e : Entry) (x : ℕ) → k < length es → e ≡ get_or es (length es - 1 - k) e → forms_in (take (length es - k) es) x ≡ (if x == e.id.0 then form_of e.form else forms_in (take (length es - (k + 1)) es) x)
last_of es k e x h is =
    let at = length es - 1 - k in
    let inside : at < length es = omega (arith, h) in
    let now : length es - k ≡ at + 1 = omega (arith, h) in
    let after : at ≡ length es - (k + 1) = omega (arith, h) in
    let last : take (at + 1) es ≡ take at es ++ e ∷ [] = take_more es at e inside ∙ ap (λ d. take at es ++ d ∷ []) (sym is) in
    ap (λ n. forms_in (take n es) x) now
    ∙ ap (λ ds. forms_in ds x) last
    ∙ found_more NoForm (take at es) e x
    ∙ ap (λ n. if x == e.id.0 then form_of e.form else forms_in (take n es) x) after

-- the last entry of the number
pub found_here : (es : List Entry) (k : ℕ) (e : Entry) (x : ℕ) (whole : lowered.Form) → k < length es → e ≡ get_or es (length es - 1 - k) e → x ≡ e.id.0 → forms_in (take (length es - k) es) x ≡ whole → form_of e.form ≡ whole
found_here es k e x whole h is same so_far = sym (last_of es k e x h is ∙ ap (λ t. if t then form_of e.form else forms_in (take (length es - (k + 1)) es) x) (eq-eqb x e.id.0 same)) ∙ so_far

-- one of another number
pub passed_by : (es : List Entry) (k : ℕ) (e : Entry) (x : ℕ) (whole : lowered.Form) → k < length es → e ≡ get_or es (length es - 1 - k) e → (x ≡ e.id.0 → ⊥) → forms_in (take (length es - k) es) x ≡ whole → forms_in (take (length es - (k + 1)) es) x ≡ whole
passed_by es k e x whole h is other so_far = sym (last_of es k e x h is ∙ ap (λ t. if t then form_of e.form else forms_in (take (length es - (k + 1)) es) x) (ne_eqb x e.id.0 other)) ∙ so_far

-- no entry has it
pub not_found : (es : List Entry) (k x : ℕ) (whole : lowered.Form) → length es ≤ k → forms_in (take (length es - k) es) x ≡ whole → NoForm ≡ whole
not_found es k x whole h so_far = let none : 0 ≡ length es - k = omega (arith, h) in ap (λ n. forms_in (take n es) x) none ∙ so_far

-- ---- what stays in scope

pub still_kept : (first mid last : List Entry) → take (length first) mid ≡ first → take (length mid) last ≡ mid → take (length first) last ≡ first
still_kept first mid last h k =
    let short : length first ≤ length mid = omega (arith, length-take (length first) mid, ap length h) in
    sym (take-take (length first) (length mid) last short) ∙ ap (take (length first)) k ∙ h
