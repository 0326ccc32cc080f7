-- Names whose ids fall from the innermost to the outermost: a name is found by its id too.
use Rattle.std.proofs.Common.{◌≡◌, ℕ, ◌==◌, ◌<◌, ◌≤◌, Bool, true, false, List, [], ◌∷◌, Some, None, if◌then◌else◌, ap, sym, ◌∙◌, arith}
use Rattle.std.proofs.lemmas.Bool.{eq-eqb, ne_eqb}
use Rattle.exo_meaning.specs.Units.{Named, Scope, is_text, sort_in}
use Rattle.rules_names.specs.Names.{named_in, sort_of, id_in}
use Rattle.exo_types.specs.Walks.{Falls}

-- a larger bound
pub falls_more : (a b : ℕ) (scope : Scope) → a ≤ b → Falls a scope → Falls b scope
falls_more a b [] h f = tt
falls_more a b (n ∷ scope) h f = (omega (arith, h, f.0), f.1)

-- the id of a name in scope is below the bound
below : (id : ℕ) (scope : Scope) (x : List ℕ) (m : Named) → Falls id scope → named_in scope x ≡ Some m → m.binder.id < id
below id [] x m f h = cc
below id (n ∷ scope) x m f h = by (is_text n.binder.name x) (below n.binder.id scope x m f.1) h
  where
    by : (t : Bool) → (named_in scope x ≡ Some m → m.binder.id < n.binder.id) → (if t then Some n else named_in scope x) ≡ Some m → m.binder.id < id
    by true lower e = let same : n ≡ m = cc in rw (sym same) f.0
    by false lower e = let l = lower e in omega (arith, l, f.0)

by_id : (id : ℕ) (scope : Scope) (x : List ℕ) (m : Named) → Falls id scope → named_in scope x ≡ Some m → sort_in scope m.binder.id ≡ Some m.sort
by_id id [] x m f h = cc
by_id id (n ∷ scope) x m f h = by (is_text n.binder.name x) (by_id n.binder.id scope x m f.1) h
  where
    by : (t : Bool) → (named_in scope x ≡ Some m → sort_in scope m.binder.id ≡ Some m.sort) → (if t then Some n else named_in scope x) ≡ Some m → (if m.binder.id == n.binder.id then Some n.sort else sort_in scope m.binder.id) ≡ Some m.sort
    by true rest e =
        let same : n ≡ m = cc in
        ap (λ t. if t then Some n.sort else sort_in scope m.binder.id) (eq-eqb m.binder.id n.binder.id (ap (λ k. k.binder.id) (sym same)))
        ∙ ap (λ k. Some k.sort) same
    by false rest e =
        let lower = below n.binder.id scope x m f.1 e in
        ap (λ t. if t then Some n.sort else sort_in scope m.binder.id) (ne_eqb m.binder.id n.binder.id (λ same. omega (arith, lower, same)))
        ∙ rest e

-- what a name that is in scope stands for, by its id
pub sort_by_id : (id : ℕ) (scope : Scope) (x : List ℕ) (m : Named) → Falls id scope → named_in scope x ≡ Some m → sort_in scope (id_in scope x) ≡ sort_of (named_in scope x)
sort_by_id id scope x m f h =
    ap (λ o. sort_in scope (elim o [ None ↦ 4294967295 | Some n ↦ n.binder.id ])) h ∙ by_id id scope x m f h ∙ ap sort_of (sym h)
