-- Down a block, statement by statement.
use Rattle.std.proofs.Common.{◌≡◌, ℕ, zero, suc, ◌+◌, ◌-◌, ◌<◌, ◌≤◌, true, List, [], ◌∷◌, length, drop, min, refl, sym, ap, ◌∙◌, arith}
use Rattle.exo_tree.specs.Tree.{Statement, block}
use Rattle.exo_meaning.specs.Units.{Scope}
use Rattle.rules_names.specs.Scopes.PlaceScope.{naming_after, scope_behind}
use Rattle.rules_names.specs.Scopes.NewNames.{binds_new, step_binds_new}
use Rattle.rules_names.proofs.OfScopes.Fresh.{both}

-- one statement more
pub behind_on : (n k : ℕ) (scope after : Scope) (s : Statement) (ss rest : List Statement) → k < n → ss ≡ s ∷ rest → after ≡ naming_after s scope → scope_behind (n - (k + 1)) after (block rest) ≡ scope_behind (n - k) scope (block ss)
behind_on n k scope after s ss rest h d a =
    let step : suc (n - (k + 1)) ≡ n - k = omega (arith, h) in
    ap (λ c. scope_behind (n - (k + 1)) c (block rest)) a
    ∙ ap (λ m. scope_behind m scope (block (s ∷ rest))) step
    ∙ ap (λ ts. scope_behind (n - k) scope (block ts)) (sym d)

-- nothing is left
pub behind_done : (n k : ℕ) (scope : Scope) (ss : List Statement) → min n (length ss) ≤ k → scope_behind (n - k) scope (block (drop k ss)) ≡ scope
behind_done n k scope [] h = ended (n - k) k
  where
    ended : (m j : ℕ) → scope_behind m scope (block (drop j [])) ≡ scope
    ended zero zero = refl
    ended zero (suc j) = refl
    ended (suc m) zero = refl
    ended (suc m) (suc j) = refl
behind_done zero k scope (s ∷ ss) h =
    let none : 0 - k ≡ 0 = omega arith in
    ap (λ m. scope_behind m scope (block (drop k (s ∷ ss)))) none
behind_done (suc n) zero scope (s ∷ ss) h = absurd (omega (arith, h))
behind_done (suc n) (suc k) scope (s ∷ ss) h =
    let less : suc n - suc k ≡ n - k = omega arith in
    ap (λ m. scope_behind m scope (block (drop k ss))) less ∙ behind_done n k scope ss (omega (arith, h))

-- the rest of a block that binds new names does so behind the statement
pub new_on : (scope after : Scope) (s : Statement) (ss rest : List Statement) → ss ≡ s ∷ rest → after ≡ naming_after s scope → binds_new scope (block ss) ≡ true → binds_new after (block rest) ≡ true
new_on scope after s ss rest d a h =
    ap (λ c. binds_new c (block rest)) a ∙ (both (step_binds_new scope s) (binds_new (naming_after s scope) (block rest)) (ap (λ ts. binds_new scope (block ts)) (sym d) ∙ h)).1

pub new_here : (scope : Scope) (s : Statement) (ss rest : List Statement) → ss ≡ s ∷ rest → binds_new scope (block ss) ≡ true → step_binds_new scope s ≡ true
new_here scope s ss rest d h = (both (step_binds_new scope s) (binds_new (naming_after s scope) (block rest)) (ap (λ ts. binds_new scope (block ts)) (sym d) ∙ h)).0
