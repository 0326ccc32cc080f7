-- What is found in two parts.
use Rattle.std.proofs.Common.{◌≡◌, Bool, true, false, ◌&&◌, List, [], ◌∷◌, Option, Some, None, refl, sym, true≢false}
use Rattle.std.specs.List.{list_all}
use Rattle.std.proofs.lemmas.Bool.{and_parts}
use Rattle.exo_meaning.specs.Units.{Sort}
use Rattle.tree_findings.specs.declared.findings.Findings.{Findings}
use Rattle.tree_findings.specs.Classes.{both, all_of, use_of, all_kept, all_but_names, first_broken}

-- all but the names of binders
pub record Obeys (f : Findings) : Type 0 where
  pub rules : f.rules ≡ true
  pub scope : f.scope ≡ true
  pub limits : f.limits ≡ true

pub obeys_of : (f : Findings) → all_but_names f ≡ true → Obeys f
obeys_of f h =
    let a = and_parts (f.rules && f.scope) f.limits h in
    let b = and_parts f.rules f.scope a.0 in
    record { rules = b.0; scope = b.1; limits = a.1 }

pub kept_parts : (f : Findings) → all_kept f ≡ true → Obeys f × (f.names ≡ true)
kept_parts f h =
    let a = and_parts (f.rules && f.scope) (f.names && f.limits) h in
    let b = and_parts f.rules f.scope a.0 in
    let c = and_parts f.names f.limits a.1 in
    (record { rules = b.0; scope = b.1; limits = c.1 }, c.0)

pub split : (f g : Findings) → Obeys (both f g) → Obeys f × Obeys g
split f g h =
    let r = and_parts f.rules g.rules h.rules in
    let s = and_parts f.scope g.scope h.scope in
    let l = and_parts f.limits g.limits h.limits in
    (record { rules = r.0; scope = s.0; limits = l.0 }, record { rules = r.1; scope = s.1; limits = l.1 })

pub use_is : (suits : Option Sort → Bool) (o : Option Sort) → Obeys (use_of suits o) → suits o ≡ true
use_is suits None h = absurd (true≢false (sym h.scope))
use_is suits (Some sort) h = h.rules

-- each of several
pub each : {A : Type 0} → (found : A → Findings) (test : A → Bool) → ((a : A) → Obeys (found a) → test a ≡ true)
    → (as' : List A) → Obeys (all_of found as') → list_all test as' ≡ true
each found test one [] h = refl
each found test one (a ∷ rest) h =
    let p = split (found a) (all_of found rest) h in
    let first = one a p.0 in
    let others = each found test one rest p.1 in
    λ i. first i && others i

-- where no class is the first that is broken, all is kept
pub none_broken : {C : Type 0} (r s n l : C) (f : Findings) → first_broken r s n l f ≡ None → all_kept f ≡ true
none_broken r s n l f h = none f.rules f.scope f.names f.limits h
  where
    none : (a b c d : Bool) → first_broken r s n l (record { rules = a; scope = b; names = c; limits = d }) ≡ None → all_kept (record { rules = a; scope = b; names = c; limits = d }) ≡ true
    none true true true true h = refl
    none true true true false h = cc
    none true true false d h = cc
    none true false c d h = cc
    none false b c d h = cc
