-- What tables of fields and of names find is what stands in their lists.
use Rattle.std.proofs.Common.{◌≡◌, ℕ, ◌+◌, Bool, true, false, cond, ◌&&◌, ◌||◌, List, [], ◌∷◌, map, position, Option, Some, None, refl, sym, ap, ◌∙◌, if◌then◌else◌, Bor}
use Rattle.std.specs.List.{list_any, position_from}
use Rattle.std.proofs.lemmas.Iterator.Adapters.{position_from-zero}
use Rattle.std.specs.Map.{lookup, keys_of}
use Rattle.std.specs.Str.{bytes_eq}
use Rattle.exo_tree.specs.Tree as tree
use Rattle.exo_tree.specs.declared.number.Kind.{Kind}
use Rattle.exo_tree.specs.PlainBinder.{control_kind}
use Rattle.rules_names.specs.Names.{field_from, number_from, name_number}
use Rattle.rules_names.specs.Tables.{field_entry}
use Rattle.rules_names.proofs.InScope.{text_turned}

abbrev pub FieldEntry : Type 0
FieldEntry = (Bor (List ℕ) × Bor (List ℕ)) × Kind

abbrev pub is_field : List ℕ → List ℕ → Bor (List ℕ) × Bor (List ℕ) → Bool
is_field c x k = bytes_eq c k.0.now && bytes_eq x k.1.now

-- a place with a kind
abbrev pub placed : Option ℕ → Option Kind → Option (ℕ × tree.Kind)
placed None k = None
placed (Some i) None = None
placed (Some i) (Some k) = Some (i, control_kind k)

fields_from : (n : ℕ) (es : List FieldEntry) (c x : List ℕ) → field_from n (map field_entry es) c x ≡ placed (position_from (is_field c x) n (keys_of es)) (lookup (is_field c x) es)
fields_from n [] c x = refl
fields_from n (e ∷ es) c x = rw (text_turned e.0.0.now c, text_turned e.0.1.now x) (by (is_field c x e.0) (fields_from (n + 1) es c x))
  where
    by : (t : Bool) → field_from (n + 1) (map field_entry es) c x ≡ placed (position_from (is_field c x) (n + 1) (keys_of es)) (lookup (is_field c x) es)
        → (if t then Some (n, control_kind e.1) else field_from (n + 1) (map field_entry es) c x)
        ≡ placed (cond t (Some n) (position_from (is_field c x) (n + 1) (keys_of es))) (cond t (Some e.1) (lookup (is_field c x) es))
    by true h = refl
    by false h = h

pub field_found : (es : List FieldEntry) (c x : List ℕ) → field_from 0 (map field_entry es) c x ≡ placed (position (is_field c x) (keys_of es)) (lookup (is_field c x) es)
field_found es c x = fields_from 0 es c x ∙ ap (λ o. placed o (lookup (is_field c x) es)) (sym (position_from-zero (is_field c x) (keys_of es)))

names_from : (n : ℕ) (ks : List (Bor (List ℕ))) (x : List ℕ) → number_from n (map (λ k. k.now) ks) x ≡ position_from (λ k. bytes_eq x k.now) n ks
names_from n [] x = refl
names_from n (k ∷ ks) x = rw (text_turned k.now x) (ap (cond (bytes_eq x k.now) (Some n)) (names_from (n + 1) ks x))

pub name_found : (ks : List (Bor (List ℕ))) (x : List ℕ) → name_number (map (λ k. k.now) ks) x ≡ position (λ k. bytes_eq x k.now) ks
name_found ks x = names_from 0 ks x ∙ sym (position_from-zero (λ k. bytes_eq x k.now) ks)

-- where the list has no field of these names, the table finds none
absent_one : (t : Bool) (i : ℕ × tree.Kind) (k : Kind) (o : Option (ℕ × tree.Kind)) (p : Option Kind) → (o ≡ None → p ≡ None) → (if t then Some i else o) ≡ None → cond t (Some k) p ≡ None
absent_one true i k o p f h = cc
absent_one false i k o p f h = f h

absent_from : (n : ℕ) (es : List FieldEntry) (c x : List ℕ) → field_from n (map field_entry es) c x ≡ None → lookup (is_field c x) es ≡ None
absent_from n [] c x h = refl
absent_from n (e ∷ es) c x h =
    absent_one (is_field c x e.0) (n, control_kind e.1) e.1 (field_from (n + 1) (map field_entry es) c x) (lookup (is_field c x) es) (absent_from (n + 1) es c x)
    (rw (text_turned e.0.0.now c, text_turned e.0.1.now x) at h)

pub no_field : (es : List FieldEntry) (c x : List ℕ) → field_from 0 (map field_entry es) c x ≡ None → lookup (is_field c x) es ≡ None
no_field es c x h = absent_from 0 es c x h

-- and where it has no such name, none has it
nameless_one : (t : Bool) (n : ℕ) (o : Option ℕ) (u : Bool) → (o ≡ None → u ≡ false) → (if t then Some n else o) ≡ None → (t || u) ≡ false
nameless_one true n o u f h = cc
nameless_one false n o u f h = f h

nameless_from : (n : ℕ) (ks : List (Bor (List ℕ))) (x : List ℕ) → number_from n (map (λ k. k.now) ks) x ≡ None → list_any (λ k. bytes_eq x k.now) ks ≡ false
nameless_from n [] x h = refl
nameless_from n (k ∷ ks) x h =
    nameless_one (bytes_eq x k.now) n (number_from (n + 1) (map (λ k. k.now) ks) x) (list_any (λ k. bytes_eq x k.now) ks) (nameless_from (n + 1) ks x) (rw (text_turned k.now x) at h)

pub no_name : (ks : List (Bor (List ℕ))) (x : List ℕ) → name_number (map (λ k. k.now) ks) x ≡ None → list_any (λ k. bytes_eq x k.now) ks ≡ false
no_name ks x h = nameless_from 0 ks x h
