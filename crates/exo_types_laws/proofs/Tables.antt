-- What names of memories and fields are found as.
use Rattle.std.proofs.Common.{◌≡◌, ℕ, suc, ◌+◌, ◌≤◌, ◌<◌, nat_lt, Bool, true, false, ◌&&◌, List, [], ◌∷◌, length, Option, Some, None, refl, ap, ◌∙◌, arith, lt-ltb, if◌then◌else◌}
use Rattle.exo_tree.specs.Tree.{Kind, ConfigField}
use Rattle.exo_meaning.specs.Units.{is_text, field_kind}
use Rattle.rules_names.specs.Names.{number_from, name_number, field_from, field_in}
use Rattle.exo_types.specs.TypeRules.{memory_faults, named_memory_faults, memory_of, number_or}
use Rattle.exo_types_laws.proofs.Unbroken.{fault_none}

-- ---- memories

numbered : (n : ℕ) (names : List (List ℕ)) (x : List ℕ) (k : ℕ) → number_from n names x ≡ Some k → k < n + length names
numbered n [] x k h = cc
numbered n (y ∷ names) x k h = by (is_text y x) h (numbered (n + 1) names x k)
  where
    by : (t : Bool) → (if t then Some n else number_from (n + 1) names x) ≡ Some k → (number_from (n + 1) names x ≡ Some k → k < n + 1 + length names) → k < n + length (y ∷ names)
    by true h rest = let same : n ≡ k = cc in omega (arith, same)
    by false h rest = let l = rest h in omega (arith, l)

pub memory_formed : (memories : List (List ℕ)) (M : ℕ) → 0 < M → length memories ≤ M → (n : ℕ) (m : Option (List ℕ)) → memory_faults memories n m ≡ [] → nat_lt (memory_of memories m) M ≡ true
memory_formed memories M some within n None h = lt-ltb 0 M some
memory_formed memories M some within n (Some x) h = by (name_number memories x) refl h
  where
    by : (o : Option ℕ) → name_number memories x ≡ o → named_memory_faults o (n + 1) ≡ [] → nat_lt (number_or 0 o) M ≡ true
    by None p h = absurd (fault_none _ (n + 1) h)
    by (Some k) p h = lt-ltb k M (let l = numbered 0 memories x k p in omega (arith, l, within))

-- ---- fields

record At (fs : List ConfigField) (n : ℕ) (p : ℕ × Kind) : Type 0 where
  place : ℕ
  number : p.0 ≡ n + place
  kind : field_kind fs place ≡ Some p.1

field_at : (n : ℕ) (fs : List ConfigField) (c x : List ℕ) (p : ℕ × Kind) → field_from n fs c x ≡ Some p → At fs n p
field_at n [] c x p h = cc
field_at n (f ∷ fs) c x p h = by (is_text f.config c && is_text f.name x) h (field_at (n + 1) fs c x p)
  where
    by : (t : Bool) → (if t then Some (n, f.kind) else field_from (n + 1) fs c x) ≡ Some p → (field_from (n + 1) fs c x ≡ Some p → At fs (n + 1) p) → At (f ∷ fs) n p
    by true h more =
        let same : (n, f.kind) ≡ p = cc in
        record { place = 0; number = let e = ap (λ q. q.0) same in omega arith; kind = ap (λ q. Some q.1) same }
    by false h more =
        let r = more h in
        record { place = suc r.place; number = let e = r.number in omega arith; kind = r.kind }

pub field_kept : (fields : List ConfigField) (c x : List ℕ) (p : ℕ × Kind) → field_in fields c x ≡ Some p → field_kind fields p.0 ≡ Some p.1
field_kept fields c x p h =
    let r = field_at 0 fields c x p h in
    let same : p.0 ≡ r.place = let e = r.number in omega arith in
    ap (field_kind fields) same ∙ r.kind
