-- A field that differs from all before it is found by no name among them.
use Rattle.std.proofs.Common.{◌≡◌, ℕ, ◌+◌, Bool, true, false, not, ◌||◌, List, [], ◌∷◌, ◌++◌, Some, None, if◌then◌else◌, refl, sym, ap, ◌∙◌, true≢false}
use Rattle.std.specs.List.{list_any}
use Rattle.exo_tree.specs.Tree.{ConfigField}
use Rattle.exo_meaning.specs.Units.{all_differ, same_field}
use Rattle.rules_names.specs.Names.{field_from, field_in}
use Rattle.rules_names.proofs.OfScopes.Fresh.{both}

not_true : (a : Bool) → not a ≡ true → a ≡ false
not_true true h = absurd (true≢false (sym h))
not_true false h = refl

none_of : (test : ConfigField → Bool) (gs : List ConfigField) (f : ConfigField) (ys : List ConfigField) → list_any test (gs ++ f ∷ ys) ≡ false → test f ≡ false
none_of test [] f ys h = by (test f) h
  where
    by : (t : Bool) → (t || list_any test ys) ≡ false → t ≡ false
    by true k = absurd (true≢false k)
    by false k = refl
none_of test (g ∷ gs) f ys h = none_of test gs f ys (by (test g) h)
  where
    by : (t : Bool) → (t || list_any test (gs ++ f ∷ ys)) ≡ false → list_any test (gs ++ f ∷ ys) ≡ false
    by true k = absurd (true≢false k)
    by false k = k

absent_from : (n : ℕ) (gs : List ConfigField) (f : ConfigField) (ys : List ConfigField) → all_differ same_field (gs ++ f ∷ ys) ≡ true → field_from n gs f.config f.name ≡ None
absent_from n [] f ys h = refl
absent_from n (g ∷ gs) f ys h =
    let p = both (not (list_any (same_field g) (gs ++ f ∷ ys))) (all_differ same_field (gs ++ f ∷ ys)) h in
    ap (λ t. if t then Some (n, g.kind) else field_from (n + 1) gs f.config f.name) (none_of (same_field g) gs f ys (not_true _ p.0)) ∙ absent_from (n + 1) gs f ys p.1

pub absent : (gs : List ConfigField) (f : ConfigField) (ys fs : List ConfigField) → gs ++ f ∷ ys ≡ fs → all_differ same_field fs ≡ true → field_in gs f.config f.name ≡ None
absent gs f ys fs d h = absent_from 0 gs f ys (ap (all_differ same_field) d ∙ h)
