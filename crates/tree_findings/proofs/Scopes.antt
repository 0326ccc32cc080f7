-- The names of a walk, as a scope.
use Rattle.std.proofs.Common.{◌≡◌, ℕ, ◌==◌, Bool, true, false, not, ◌||◌, List, [], ◌∷◌, ◌++◌, length, take, Option, None, Some, refl, ap, sym, ◌∙◌, if◌then◌else◌}
use Rattle.std.specs.List.{list_any}
use Rattle.exo_tree.specs.Tree.{Binder}
use Rattle.exo_meaning.specs.Units.{Sort, Scope, sort_in}
use Rattle.tree_findings.specs.declared.scope.ScopeEntry.{ScopeEntry}
use Rattle.exo_modes.specs.Sorts.{sort_meant}
use Rattle.tree_findings.specs.Seen.{named, scope_among, scope_in, clash}

-- the sort of a name by the entries that are left; so far it is o
abbrev pub sort_among : List ScopeEntry → ℕ → Option Sort → Option Sort
sort_among [] x o = o
sort_among (e ∷ es) x o = sort_among es x (if x == e.binder.now.id.0 then Some (sort_meant e.sort) else o)

sort_is : (es : List ScopeEntry) (x : ℕ) (scope : Scope) → sort_among es x (sort_in scope x) ≡ sort_in (scope_among es scope) x
sort_is [] x scope = refl
sort_is (e ∷ es) x scope = sort_is es x (named e ∷ scope)

pub sort_first : (es : List ScopeEntry) (x : ℕ) → sort_among es x None ≡ sort_in (scope_in es) x
sort_first es x = sort_is es x []

-- some entry that is left clashes with the binder
abbrev pub clashes : Binder → List ScopeEntry → Bool
clashes x [] = false
clashes x (e ∷ es) = clash x (named e) || clashes x es

moved : (a b c : Bool) → (a || (b || c)) ≡ ((b || a) || c)
moved true true c = refl
moved true false c = refl
moved false true c = refl
moved false false c = refl

clash_is : (x : Binder) (es : List ScopeEntry) (scope : Scope) → list_any (clash x) (scope_among es scope) ≡ (clashes x es || list_any (clash x) scope)
clash_is x [] scope = refl
clash_is x (e ∷ es) scope = clash_is x es (named e ∷ scope) ∙ moved (clashes x es) (clash x (named e)) (list_any (clash x) scope)

or_none : (a : Bool) → (a || false) ≡ a
or_none true = refl
or_none false = refl

pub clash_first : (x : Binder) (es : List ScopeEntry) → not (clashes x es) ≡ not (list_any (clash x) (scope_in es))
clash_first x es = ap not (sym (clash_is x es [] ∙ or_none (clashes x es)))

-- one more name
among_push : (es : List ScopeEntry) (e : ScopeEntry) (scope : Scope) → scope_among (es ++ e ∷ []) scope ≡ named e ∷ scope_among es scope
among_push [] e scope = refl
among_push (d ∷ es) e scope = among_push es e (named d ∷ scope)

pub scope_push : (es : List ScopeEntry) (e : ScopeEntry) → scope_in (es ++ e ∷ []) ≡ named e ∷ scope_in es
scope_push es e = among_push es e []

-- what was there before is still there
pub taken_push : {X : Type 0} (xs : List X) (x : X) → take (length xs) (xs ++ x ∷ []) ≡ xs
taken_push [] x = refl
taken_push (y ∷ xs) x = ap (λ l. y ∷ l) (taken_push xs x)

pub taken_all : {X : Type 0} (xs : List X) → take (length xs) xs ≡ xs
taken_all [] = refl
taken_all (y ∷ xs) = ap (λ l. y ∷ l) (taken_all xs)
