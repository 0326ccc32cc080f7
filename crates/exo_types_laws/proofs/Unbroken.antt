-- Where no rule is broken: each of several lists of broken rules is empty, and so each test holds.
use Rattle.std.proofs.Common.{◌≡◌, ℕ, ◌==◌, Bool, true, false, not, ◌&&◌, ◌||◌, List, [], ◌∷◌, ◌++◌, Option, Some, None, refl, sym, ap, ◌∙◌, true≢false, if◌then◌else◌}
use Rattle.std.specs.List.{list_all, list_any}
use Rattle.std.proofs.lemmas.List.Folds.{list_any-append, list_all-append}
use Rattle.std.proofs.lemmas.Bool.Decides.{Decides-eqb}
use Rattle.rules_names.specs.declared.error.TypeKind.{TypeKind}
use Rattle.rules_names.specs.declared.fault.Fault.{Fault}
use Rattle.rules_names.specs.Faults.{fault, unless, earlier, least, is_before, or_else, parts_then_whole}

-- ---- tests

pub both : (a b : Bool) → (a && b) ≡ true → (a ≡ true) × (b ≡ true)
both true b h = (refl, h)
both false b h = cc

pub pair : {a b : Bool} → a ≡ true → b ≡ true → (a && b) ≡ true
pair {b = b} p q = ap (λ t. t && b) p ∙ q

pub neither : (a b : Bool) → (a || b) ≡ false → (a ≡ false) × (b ≡ false)
neither false b h = (refl, h)
neither true b h = cc

pub nor : {a b : Bool} → a ≡ false → b ≡ false → (a || b) ≡ false
nor {b = b} p q = ap (λ t. t || b) p ∙ q

pub negated : {a : Bool} → a ≡ false → not a ≡ true
negated p = ap not p

pub not_true : (a : Bool) → not a ≡ true → a ≡ false
not_true false h = refl
not_true true h = absurd (true≢false (sym h))

pub turned : (a b : ℕ) → (a == b) ≡ true → (b == a) ≡ true
turned a b h = (Decides-eqb b a).1 (sym ((Decides-eqb a b).0 h))

-- ---- lists

pub none_of_both : {X : Type 0} (p : X → Bool) (xs ys : List X) → list_any p (xs ++ ys) ≡ false → (list_any p xs ≡ false) × (list_any p ys ≡ false)
none_of_both p xs ys h = neither (list_any p xs) (list_any p ys) (sym (list_any-append p xs ys) ∙ h)

pub no_more : {X : Type 0} (p : X → Bool) (xs ys : List X) → list_any p xs ≡ false → list_any p ys ≡ false → list_any p (xs ++ ys) ≡ false
no_more p xs ys h k = list_any-append p xs ys ∙ nor h k

pub all_of_both : {X : Type 0} (p : X → Bool) (xs ys : List X) → list_all p (xs ++ ys) ≡ true → (list_all p xs ≡ true) × (list_all p ys ≡ true)
all_of_both p xs ys h = both (list_all p xs) (list_all p ys) (sym (list_all-append p xs ys) ∙ h)

pub all_more : {X : Type 0} (p : X → Bool) (xs ys : List X) → list_all p xs ≡ true → list_all p ys ≡ true → list_all p (xs ++ ys) ≡ true
all_more p xs ys h k = list_all-append p xs ys ∙ pair h k

-- ---- broken rules

some_first : (a : Fault) (o : Option Fault) → earlier (Some a) o ≡ None → ⊥
some_first a None h = cc
some_first a (Some b) h = by (is_before b a) h
  where
    by : (t : Bool) → (if t then Some b else Some a) ≡ None → ⊥
    by true h = cc
    by false h = cc

pub none_of : (fs : List Fault) → least fs ≡ None → fs ≡ []
none_of [] h = refl
none_of (f ∷ fs) h = absurd (some_first f (least fs) h)

pub left_none : (xs ys : List Fault) → xs ++ ys ≡ [] → xs ≡ []
left_none [] ys h = refl
left_none (x ∷ xs) ys h = cc

pub right_none : (xs ys : List Fault) → xs ++ ys ≡ [] → ys ≡ []
right_none [] ys h = h
right_none (x ∷ xs) ys h = cc

pub parts_none : (parts whole : List Fault) → parts_then_whole parts whole ≡ [] → (parts ≡ []) × (whole ≡ [])
parts_none [] whole h = (refl, h)
parts_none (x ∷ parts) whole h = cc

pub fault_none : (rule : TypeKind) (n : ℕ) → fault rule n ≡ [] → ⊥
fault_none rule n h = cc

pub unless_none : (b : Bool) (rule : TypeKind) (n : ℕ) → unless b rule n ≡ [] → b ≡ true
unless_none true rule n h = refl
unless_none false rule n h = cc

pub neither_broken : (a b : Option Fault) → or_else a b ≡ None → (a ≡ None) × (b ≡ None)
neither_broken None b h = (refl, h)
neither_broken (Some f) b h = cc
