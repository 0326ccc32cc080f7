-- Fields, memories and procedures are found by their names.
use Rattle.std.proofs.Common.{◌≡◌, ℕ, zero, suc, pred, ◌+◌, nat_lt, Bool, true, false, not, ◌&&◌, if◌then◌else◌, List, [], ◌∷◌, length, map, Some, None, slice_get, refl, sym, ap, ap₂, ◌∙◌, arith}
use Rattle.std.specs.List.{list_any}
use Rattle.std.proofs.lemmas.Bool.Decides.{nat_tests}
use Rattle.exo_tree.specs.Tree.{ConfigField, MemoryKind, Procedure}
use Rattle.exo_meaning.specs.Units.{is_text, same_field, all_differ}
use Rattle.rules_names.specs.Names.{field_from, number_from, name_number}
use Rattle.text_show.specs.Words.{memory_name}
use Rattle.text_show.specs.Names.{unknown}
use Rattle.exo_types_laws.proofs.OfShown.Scoped.{both, neither, denied, same_text, text_same}
use Rattle.exo_types_laws.proofs.OfShown.Resolved.{FindsFields}

any_false : {A : Type 0} (P : A → Bool) (xs : List A) (k : ℕ) (x : A) → list_any P xs ≡ false → slice_get xs k ≡ Some x → P x ≡ false
any_false P [] k x h g = cc
any_false P (y ∷ ys) zero x h g = let same : y ≡ x = cc in ap P (sym same) ∙ (neither (P y) (list_any P ys) h).0
any_false P (y ∷ ys) (suc k) x h g = any_false P ys k x (neither (P y) (list_any P ys) h).1 g

-- ---- fields

field_at : (n : ℕ) (fs : List ConfigField) (f : ℕ) (x : ConfigField) → all_differ same_field fs ≡ true → slice_get fs f ≡ Some x → field_from n fs x.config x.name ≡ Some (n + f, x.kind)
field_at n [] f x d g = cc
field_at n (y ∷ fs) zero x d g =
    let same : y ≡ x = cc in
    let hit : (is_text y.config x.config && is_text y.name x.name) ≡ true = ap₂ ◌&&◌ (ap (λ z. is_text y.config z.config) (sym same) ∙ text_same y.config) (ap (λ z. is_text y.name z.name) (sym same) ∙ text_same y.name) in
    let number : n ≡ n + 0 = omega arith in
    ap (λ t. if t then Some (n, y.kind) else field_from (n + 1) fs x.config x.name) hit ∙ ap₂ (λ m z. Some (m, z.kind)) number same
field_at n (y ∷ fs) (suc f) x d g =
    let s = both (not (list_any (same_field y) fs)) _ d in
    let miss : (is_text y.config x.config && is_text y.name x.name) ≡ false = any_false (same_field y) fs f x (denied _ s.0) g in
    let number : n + 1 + f ≡ n + suc f = omega arith in
    ap (λ t. if t then Some (n, y.kind) else field_from (n + 1) fs x.config x.name) miss ∙ field_at (n + 1) fs f x s.1 g ∙ ap (λ m. Some (m, x.kind)) number

pub fields_found : (fields : List ConfigField) → all_differ same_field fields ≡ true → FindsFields fields
fields_found fields d = record { found = λ f x g. field_at 0 fields f x d g ∙ ap (λ m. Some (m, x.kind)) (omega arith) }

-- ---- memories

present : {A : Type 0} (xs : List A) (k : ℕ) → nat_lt k (length xs) ≡ true → (x : A) × (slice_get xs k ≡ Some x)
present [] k h = absurd (grind (arith, nat_tests, h))
present (x ∷ xs) zero h = (x, refl)
present (x ∷ xs) (suc k) h = present xs k (grind (arith, nat_tests, h))

memory_at : (n : ℕ) (ms : List MemoryKind) (m : ℕ) (x : MemoryKind) → all_differ (λ a b. is_text a.name b.name) ms ≡ true → slice_get ms m ≡ Some x → number_from n (map (λ a. a.name) ms) x.name ≡ Some (n + m)
memory_at n [] m x d g = cc
memory_at n (y ∷ ms) zero x d g =
    let same : y ≡ x = cc in
    let hit : is_text y.name x.name ≡ true = ap (λ z. is_text y.name z.name) (sym same) ∙ text_same y.name in
    let number : n ≡ n + 0 = omega arith in
    ap (λ t. if t then Some n else number_from (n + 1) (map (λ a. a.name) ms) x.name) hit ∙ ap Some number
memory_at n (y ∷ ms) (suc m) x d g =
    let s = both (not (list_any (λ b. is_text y.name b.name) ms)) _ d in
    let miss : is_text y.name x.name ≡ false = any_false (λ b. is_text y.name b.name) ms m x (denied _ s.0) g in
    let number : n + 1 + m ≡ n + suc m = omega arith in
    ap (λ t. if t then Some n else number_from (n + 1) (map (λ a. a.name) ms) x.name) miss ∙ memory_at (n + 1) ms m x s.1 g ∙ ap Some number

pub memory_found : (ms : List MemoryKind) (m : ℕ) → all_differ (λ a b. is_text a.name b.name) ms ≡ true → nat_lt m (length ms) ≡ true → name_number (map (λ a. a.name) ms) (memory_name ms m) ≡ Some m
memory_found ms m d h =
    let p = present ms m h in
    let named : memory_name ms m ≡ p.0.name = ap (λ o. elim o [ None ↦ unknown m | Some x ↦ x.name ]) p.1 in
    ap (number_from 0 (map (λ a. a.name) ms)) named ∙ memory_at 0 ms m p.0 d p.1 ∙ ap Some (omega arith)

-- ---- procedures

-- the first of its name
number_at : (n : ℕ) (names : List (List ℕ)) (k : ℕ) (x : List ℕ) → slice_get names k ≡ Some x → ((j : ℕ) (y : List ℕ) → slice_get names j ≡ Some y → y ≡ x → j ≡ k) → number_from n names x ≡ Some (n + k)
number_at n [] k x g once = cc
number_at n (y ∷ names) zero x g once =
    let same : y ≡ x = cc in
    let hit : is_text y x ≡ true = ap (is_text y) (sym same) ∙ text_same y in
    let number : n ≡ n + 0 = omega arith in
    ap (λ t. if t then Some n else number_from (n + 1) names x) hit ∙ ap Some number
number_at n (y ∷ names) (suc k) x g once =
    let number : n + 1 + k ≡ n + suc k = omega arith in
    ap (λ t. if t then Some n else number_from (n + 1) names x) (by (is_text y x) refl) ∙ number_at (n + 1) names k x g (λ j z p e. ap pred (once (suc j) z p e)) ∙ ap Some number
  where
    by : (t : Bool) → is_text y x ≡ t → is_text y x ≡ false
    by true p = let e : 0 ≡ suc k = once 0 y refl (same_text y x p) in absurd (omega (arith, e))
    by false p = p

names_at : (ps : List Procedure) (j : ℕ) (y : List ℕ) → slice_get (map (λ q. q.name) ps) j ≡ Some y → (q : Procedure) × (slice_get ps j ≡ Some q) × (q.name ≡ y)
names_at [] j y g = cc
names_at (p ∷ ps) zero y g = let same : p.name ≡ y = cc in (p, refl, same)
names_at (p ∷ ps) (suc j) y g = names_at ps j y g

name_at : (ps : List Procedure) (k : ℕ) (q : Procedure) → slice_get ps k ≡ Some q → slice_get (map (λ q. q.name) ps) k ≡ Some q.name
name_at [] k q g = cc
name_at (p ∷ ps) zero q g = let same : p ≡ q = cc in ap (λ z. Some z.name) same
name_at (p ∷ ps) (suc k) q g = name_at ps k q g

pub procedure_found : (ps : List Procedure) (k : ℕ) (q : Procedure) → slice_get ps k ≡ Some q → ((j : ℕ) (other : Procedure) → slice_get ps j ≡ Some other → other.name ≡ q.name → j ≡ k) → name_number (map (λ p. p.name) ps) q.name ≡ Some k
procedure_found ps k q g once =
    number_at 0 (map (λ p. p.name) ps) k q.name (name_at ps k q g) (λ j y h e. let n = names_at ps j y h in once j n.0 n.1 (n.2 ∙ e)) ∙ ap Some (omega arith)
