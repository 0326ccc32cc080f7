-- The first of some names that is looked for.
use Rattle.std.proofs.Common.{◌≡◌, ◌+◌, ◌<◌, ◌^◌, ℕ, Bool, true, false, List, [], ◌∷◌, length}
use Rattle.std.proofs.Common.{Option, Some, zero, suc, get_or, refl, ap, ◌∙◌, arith}
use Rattle.std.specs.Prelude.{◌&&◌, nat_lt, if◌then◌else◌}
use Rattle.std.proofs.lemmas.Bool.{and_parts}
use Rattle.exo_tree.specs.Tree.{Kind, ConfigField, Program}
use Rattle.exo_meaning.specs.Units.{IsUnit, is_text}
use Rattle.rules_names.specs.Names.{number_from, field_from}

-- ---- names

module _ (x : List ℕ) (all : Option ℕ) (n : ℕ) (y : List ℕ) (more : List (List ℕ))
    (h : all ≡ number_from n (y ∷ more) x) where
  by : (t : Bool) → is_text y x ≡ t → all ≡ (if t then Some n else number_from (n + 1) more x)
  by t is = h ∙ ap (λ (b : Bool). if b then Some n else number_from (n + 1) more x) is

  pub named_here : is_text y x ≡ true → all ≡ Some n
  named_here = by true

  pub named_further : is_text y x ≡ false → all ≡ number_from (n + 1) more x
  named_further = by false

-- ---- fields

module _ (config x : List ℕ) (all : Option (ℕ × Kind)) (n : ℕ) (f : ConfigField)
    (more : List ConfigField) (h : all ≡ field_from n (f ∷ more) config x) where
  by_field : (t : Bool) → (is_text f.config config && is_text f.name x) ≡ t
      → all ≡ (if t then Some (n, f.kind) else field_from (n + 1) more config x)
  by_field t is =
      h ∙ ap (λ (b : Bool). if b then Some (n, f.kind) else field_from (n + 1) more config x) is

  pub field_here : (is_text f.config config && is_text f.name x) ≡ true → all ≡ Some (n, f.kind)
  field_here = by_field true

  pub field_further : (is_text f.config config && is_text f.name x) ≡ false
      → all ≡ field_from (n + 1) more config x
  field_further = by_field false

-- an item of a list that has it, whatever stands for one that it has not
pub same_item : {A : Type 0} (xs : List A) (k : ℕ) (d e : A) → k < length xs
    → get_or xs k d ≡ get_or xs k e
same_item [] k d e h = absurd (none k h)
  where
    none : (k : ℕ) → k < 0 → ⊥
    none k h = omega arith
same_item (x ∷ xs) zero d e h = refl
same_item (x ∷ xs) (suc k) d e h = same_item xs k d e (fewer (length xs) h)
  where
    fewer : (n : ℕ) → suc k < suc n → k < n
    fewer n h = omega arith

-- ---- their numbers fit 32 bits

module _ (u : Program) (is : IsUnit u) where
  counts : (nat_lt (length u.fields) (2 ^ 31) ≡ true) × (nat_lt (length u.memories) (2 ^ 31) ≡ true)
  counts =
      and_parts (nat_lt (length u.fields) (2 ^ 31)) (nat_lt (length u.memories) (2 ^ 31))
      (and_parts (nat_lt (length u.procedures) (2 ^ 31)) _ is.counts).1

  less : (n : ℕ) → nat_lt n (2 ^ 31) ≡ true → n < 2 ^ 32
  less n h = grind (arith, h)

  pub few_fields : length u.fields < 2 ^ 32
  few_fields = less (length u.fields) counts.0

  pub few_memories : length u.memories < 2 ^ 32
  few_memories = less (length u.memories) counts.1
