-- Bounds of names in a list that grows at its end.
use Rattle.std.proofs.Common.{◌≡◌, ◌<◌, ◌≤◌, ◌+◌, ℕ, zero, suc, ◌==◌, if◌then◌else◌, List, [], ◌∷◌, ◌++◌, map, drop, get_or, length, max, refl, sym, ap, ◌∙◌, arith}
use Rattle.std.proofs.lemmas.List.{at_drop_more}
use Rattle.exo_tree.specs.PlainParam.{parameter, parameter_kind}
use Rattle.exo_tree.specs.declared.param.Param.{Param}
use Rattle.c_widths.specs.declared.magnitudes.Bound.{Bound}
use Rattle.c_widths.specs.Bounds.{most_in}
use Rattle.c_widths.specs.Widths.{most_of_param}
use Rattle.c_widths.specs.Raises.{most_from}

-- the first bound of that name, else what the others give
abbrev pub most_before : List Bound → (ℕ → ℕ) → ℕ → ℕ
most_before [] most x = most x
most_before (b ∷ bs) most x = if x == b.id.0 then b.most else most_before bs most x

pub before_nothing : (bs : List Bound) → most_before bs (λ x. 0) ≡ most_in bs
before_nothing [] = refl
before_nothing (b ∷ bs) = λ i x. if x == b.id.0 then b.most else before_nothing bs i x

one_more : (bs : List Bound) (b : Bound) (most : ℕ → ℕ) → most_before (bs ++ b ∷ []) most ≡ most_before bs (λ x. if x == b.id.0 then b.most else most x)
one_more [] b most = refl
one_more (c ∷ bs) b most = λ i x. if x == c.id.0 then c.most else one_more bs b most i x

pub drop_here : {A : Type 0} (xs : List A) (i : ℕ) (x : A) → i < length xs → x ≡ get_or xs i x → drop i xs ≡ x ∷ drop (i + 1) xs
drop_here xs i x h is = at_drop_more (λ l. l) xs i x h ∙ ap (λ v. v ∷ drop (i + 1) xs) (sym is)

-- by what is given from the place i on
abbrev pub most_later : List Param → (ℕ → ℕ) → ℕ → ℕ → ℕ
most_later params given i = most_from (map parameter (drop i params)) (λ n. given (i + n))

pub all_later : (params : List Param) (given : ℕ → ℕ) → most_later params given 0 ≡ most_from (map parameter params) given
all_later params given = ap (most_from (map parameter params)) (λ t n. given (start n t))
  where
    start : (n : ℕ) → 0 + n ≡ n
    start n = omega arith

-- the next parameter, and then the others
later_more : (params : List Param) (given : ℕ → ℕ) (i : ℕ) (p : Param) → i < length params → p ≡ get_or params i p → most_later params given i ≡ (λ x. if x == p.binder.id.0 then max (most_of_param (parameter_kind p.kind)) (given i) else most_later params given (i + 1) x)
later_more params given i p h is =
    ap (λ l. most_from (map parameter l) (λ n. given (i + n))) (drop_here params i p h is)
    ∙ (λ t x. if x == p.binder.id.0 then max (most_of_param (parameter_kind p.kind)) (given (here t)) else most_from (map parameter (drop (i + 1) params)) (λ n. given (next n t)) x)
  where
    here : i + 0 ≡ i
    here = omega arith

    next : (n : ℕ) → i + suc n ≡ (i + 1) + n
    next n = omega arith

-- the bound of the next parameter goes last
pub next_bound : (params : List Param) (given : ℕ → ℕ) (i : ℕ) (p : Param) (bs all : List Bound) (m : ℕ) (whole : ℕ → ℕ) → i < length params → p ≡ get_or params i p → m ≡ max (most_of_param (parameter_kind p.kind)) (given i) → all ≡ bs ++ record { id = p.binder.id; most = m } ∷ [] → most_before bs (most_later params given i) ≡ whole → most_before all (most_later params given (i + 1)) ≡ whole
next_bound params given i p bs all m whole h is e g inv =
    let rest = most_later params given (i + 1) in
    ap (λ l. most_before l rest) g
    ∙ one_more bs (record { id = p.binder.id; most = m }) rest
    ∙ ap (λ v. most_before bs (λ x. if x == p.binder.id.0 then v else rest x)) e
    ∙ ap (most_before bs) (sym (later_more params given i p h is))
    ∙ inv

pub all_bounds : (params : List Param) (given : ℕ → ℕ) (i : ℕ) (bs : List Bound) (whole : ℕ → ℕ) → drop i params ≡ [] → most_before bs (most_later params given i) ≡ whole → most_in bs ≡ whole
all_bounds params given i bs whole e inv = sym (before_nothing bs) ∙ ap (λ l. most_before bs (most_from (map parameter l) (λ n. given (i + n)))) (sym e) ∙ inv

pub drop_none : {A : Type 0} (xs : List A) → drop zero xs ≡ xs
drop_none [] = refl
drop_none (x ∷ xs) = refl

pub nothing_left : {A : Type 0} (k : ℕ) (xs : List A) → length xs ≤ k → drop k xs ≡ []
nothing_left zero [] h = refl
nothing_left (suc k) [] h = refl
nothing_left zero (x ∷ xs) h = absurd (omega arith)
nothing_left (suc k) (x ∷ xs) h = nothing_left k xs (omega arith)
