-- How many terms lists of obligations have.
use Rattle.std.proofs.Common.{◌≡◌, ℕ, ◌+◌, ◌-◌, ◌==◌, ◌++◌, ◌&&◌, ap₂, ◌*◌, ◌≤◌, nat_le, true, List, [], ◌∷◌, map, length, refl, sym, ap, ◌∙◌, arith}
use Rattle.std.proofs.lemmas.Bool.{and_parts}
use Rattle.std.proofs.lemmas.Bool.Decides.{nat_tests}
use Rattle.std.proofs.lemmas.List.Sums.{sum_by-cons, sum_by-append}
use Rattle.std.proofs.lemmas.List.{map-append, length-map, length-append, nil_from_length}
use Rattle.std.specs.List.{sum_by}
use Rattle.affine_forms.specs.System.{plain_system}
use Rattle.affine_systems.proofs.Terms.{system_few}
use Rattle.affine_systems.specs.Outcomes.{Owed, plain_obligation}
use Rattle.affine_systems.specs.declared.obligation.Obligation.{Obligation}
use Rattle.affine_systems.specs.Limits.{system_terms, terms_in, are_within}

least : (m n : ℕ) → nat_le m n ≡ true → m ≤ n
least m n h = grind (arith, nat_tests)

pub few_terms : (os : List Owed) (n : ℕ) → n ≡ terms_in os → are_within os ≡ true → n ≤ 4194304
few_terms os n e h = let k = least (terms_in os) 4194304 (and_parts (nat_le (length os) 65536) (nat_le (terms_in os) 4194304) h).1 in omega (arith, e, k)

-- the terms of obligations, counted by their systems
abbrev pub all_terms : List Obligation → ℕ
all_terms os = sum_by (λ (o : Obligation). system_terms (plain_system o.system)) os

pub terms_by_system : (os : List Obligation) → all_terms os ≡ terms_in (map plain_obligation os)
terms_by_system [] = refl
terms_by_system (o ∷ os) =
    sum_by-cons (λ (o : Obligation). system_terms (plain_system o.system)) o os
    ∙ ap (λ n. system_terms (plain_system o.system) + n) (terms_by_system os)
    ∙ sym (sum_by-cons (λ (o : Owed). system_terms o.system) (plain_obligation o) (map plain_obligation os))

-- at most 65,536 each
pub all_terms_few : (os : List Obligation) → all_terms os ≤ 65536 * length os
all_terms_few [] = omega arith
all_terms_few (o ∷ os) =
    omega (arith, system_few o.system, all_terms_few os, sum_by-cons (λ (o : Obligation). system_terms (plain_system o.system)) o os)

holds : (m n : ℕ) → m ≤ n → nat_le m n ≡ true
holds m n h = grind (arith, nat_tests)

-- obligations put behind others pass no limit where their numbers do not
pub both_within : (old more : List Obligation) (n m : ℕ) → n ≡ terms_in (map plain_obligation old)
    → are_within (map plain_obligation old) ≡ true → m ≡ terms_in (map plain_obligation more)
    → length more ≤ 65536 - length old → n + m ≤ 4194304
    → (n + m ≡ terms_in (map plain_obligation (old ++ more))) × (are_within (map plain_obligation (old ++ more)) ≡ true)
both_within old more n m a w b l k = (
  total,
  ap₂ (λ s t. s && t) (holds (length both) 65536 few)
      (holds (terms_in both) 4194304 (omega (arith, total, k))),
)
  where
    both : List Owed
    both = map plain_obligation (old ++ more)

    total : n + m ≡ terms_in both
    total = ap₂ (λ x y. x + y) a b ∙ sym (sum_by-append (λ (o : Owed). system_terms o.system)
        (map plain_obligation old) (map plain_obligation more))
        ∙ ap terms_in (sym (map-append plain_obligation old more))

    few : length both ≤ 65536
    few =
        let some = least (length (map plain_obligation old)) 65536
        (and_parts (nat_le (length (map plain_obligation old)) 65536)
        (nat_le (terms_in (map plain_obligation old)) 4194304) w).0 in
        omega (
          arith,
          some,
          length-map old plain_obligation,
          length-map
              (old ++ more) plain_obligation,
          length-append old more,
          l,
        )

-- none are there before
pub none_before : (old : List Obligation) (n : ℕ) → length old ≡ n → true ≡ (n == 0) → old ≡ []
none_before old n e h = nil_from_length old (e ∙ is_zero n h)
  where
    is_zero : (n : ℕ) → true ≡ (n == 0) → n ≡ 0
    is_zero n h = grind (arith, nat_tests)
