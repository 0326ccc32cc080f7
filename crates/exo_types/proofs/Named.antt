-- Names of the top level, in tables and in the unit.
use Rattle.std.proofs.Common.{◌≡◌, ℕ, suc, ◌+◌, ◌==◌, Bool, true, false, not, ◌&&◌, ◌||◌, List, [], ◌∷◌, ◌++◌, Option, Some, None, is_some, length, map, if◌then◌else◌, refl, ap, sym, ◌∙◌, arith}
use Rattle.std.specs.List.{list_any}
use Rattle.std.proofs.lemmas.Bool.Decides.{nat_tests}
use Rattle.std.proofs.lemmas.List.{append-nil}
use Rattle.std.proofs.lemmas.List.Folds.{list_any-append}
use Rattle.exo_tree.specs.Tree.{ConfigField}
use Rattle.exo_meaning.specs.Units.{is_text, same_field}
use Rattle.exo_reader.specs.Source as source
use Rattle.rules_names.specs.Names.{number_from, name_number, field_from, field_in}
use Rattle.exo_types.specs.ItemRules.{field_of}

if_some : {A : Type 0} (b : Bool) (a : A) (o : Option A) → is_some (if b then Some a else o) ≡ (b || is_some o)
if_some true a o = refl
if_some false a o = refl

-- a name is in a table of names exactly where something has it
from_named : {X : Type 0} (name : X → List ℕ) (n : ℕ) (qs : List X) (x : List ℕ) → is_some (number_from n (map name qs) x) ≡ list_any (λ q. is_text (name q) x) qs
from_named name n [] x = refl
from_named name n (q ∷ qs) x = if_some (is_text (name q) x) n (number_from (n + 1) (map name qs) x) ∙ ap (λ b. is_text (name q) x || b) (from_named name (n + 1) qs x)

pub named : {X : Type 0} (name : X → List ℕ) (qs : List X) (x : List ℕ) → is_some (name_number (map name qs) x) ≡ list_any (λ q. is_text (name q) x) qs
named name qs x = from_named name 0 qs x

from_more : (n : ℕ) (ys : List (List ℕ)) (y x : List ℕ) → is_some (number_from n (ys ++ y ∷ []) x) ≡ (is_some (number_from n ys x) || is_text y x)
from_more n [] y x = if_some (is_text y x) n None ∙ or_false (is_text y x)
  where
    or_false : (b : Bool) → (b || false) ≡ b
    or_false true = refl
    or_false false = refl
from_more n (z ∷ ys) y x = by (is_text z x) (from_more (n + 1) ys y x)
  where
    by : (b : Bool) → is_some (number_from (n + 1) (ys ++ y ∷ []) x) ≡ (is_some (number_from (n + 1) ys x) || is_text y x) → is_some (if b then Some n else number_from (n + 1) (ys ++ y ∷ []) x) ≡ (is_some (if b then Some n else number_from (n + 1) ys x) || is_text y x)
    by true h = refl
    by false h = h

-- one name more
pub named_more : (ys : List (List ℕ)) (y x : List ℕ) → is_some (name_number (ys ++ y ∷ []) x) ≡ (is_some (name_number ys x) || is_text y x)
named_more ys y x = from_more 0 ys y x

-- a name that is in no table has no number
pub no_number : (o : Option ℕ) → is_some o ≡ false → o ≡ None
no_number None h = refl
no_number (Some k) h = cc

pub nothing_found : {A : Type 0} (o : Option A) → is_some o ≡ false → o ≡ None
nothing_found None h = refl
nothing_found (Some k) h = cc

-- ---- fields

same_text : (x y : List ℕ) → is_text x y ≡ is_text y x
same_text [] [] = refl
same_text [] (b ∷ y) = refl
same_text (a ∷ x) [] = refl
same_text (a ∷ x) (b ∷ y) = let e = same_text x y in grind arith

-- a field is among those given exactly where its names have a number
from_field : (n : ℕ) (config : List ℕ) (f : source.ConfigField) (gs : List ConfigField) → is_some (field_from n gs config f.name) ≡ list_any (same_field (field_of config f)) gs
from_field n config f [] = refl
from_field n config f (g ∷ gs) =
    if_some (is_text g.config config && is_text g.name f.name) (n, g.kind) (field_from (n + 1) gs config f.name)
    ∙ (λ i. (same_text g.config config i && same_text g.name f.name i) || from_field (n + 1) config f gs i)

other_config : (config : List ℕ) (f : source.ConfigField) (gs : List ConfigField) → list_any (λ g. is_text g.config config) gs ≡ false → list_any (same_field (field_of config f)) gs ≡ false
other_config config f [] h = refl
other_config config f (g ∷ gs) h = by (is_text g.config config) (is_text config g.config) (same_text g.config config) h (other_config config f gs)
  where
    by : (a b : Bool) → a ≡ b → (a || list_any (λ k. is_text k.config config) gs) ≡ false → (list_any (λ k. is_text k.config config) gs ≡ false → list_any (same_field (field_of config f)) gs ≡ false) → ((b && is_text f.name g.name) || list_any (same_field (field_of config f)) gs) ≡ false
    by true b e k rest = cc
    by false true e k rest = cc
    by false false e k rest = rest k

-- above a new configuration there is no field of it
pub field_among : (config : List ℕ) (f : source.ConfigField) (above given : List ConfigField) → list_any (λ g. is_text g.config config) above ≡ false → is_some (field_in (above ++ given) config f.name) ≡ list_any (same_field (field_of config f)) given
field_among config f above given h =
    from_field 0 config f (above ++ given)
    ∙ list_any-append (same_field (field_of config f)) above given
    ∙ ap (λ b. b || list_any (same_field (field_of config f)) given) (other_config config f above h)

-- the fields of a configuration have its name
fields_named : (config x : List ℕ) (f : source.ConfigField) (fs : List source.ConfigField) → list_any (λ g. is_text g.config x) (map (field_of config) (f ∷ fs)) ≡ is_text config x
fields_named config x f [] = or_false (is_text config x)
  where
    or_false : (b : Bool) → (b || false) ≡ b
    or_false true = refl
    or_false false = refl
fields_named config x f (g ∷ fs) = ap (λ b. is_text config x || b) (fields_named config x g fs) ∙ twice (is_text config x)
  where
    twice : (b : Bool) → (b || b) ≡ b
    twice true = refl
    twice false = refl

pub configurations_more : (config x : List ℕ) (names : List (List ℕ)) (fields : List ConfigField) (f : source.ConfigField) (fs : List source.ConfigField) → is_some (name_number names x) ≡ list_any (λ g. is_text g.config x) fields → is_some (name_number (names ++ config ∷ []) x) ≡ list_any (λ g. is_text g.config x) (fields ++ map (field_of config) (f ∷ fs))
configurations_more config x names fields f fs h =
    named_more names config x
    ∙ (λ i. h i || sym (fields_named config x f fs) i)
    ∙ sym (list_any-append (λ g. is_text g.config x) fields (map (field_of config) (f ∷ fs)))

-- the names of configurations, with one more where it has fields
pub configurations_after : (config x : List ℕ) (names after : List (List ℕ)) (fields : List ConfigField) (fs : List source.ConfigField) (used : Bool) → used ≡ not (length fs == 0) → after ≡ names ++ (if used then config ∷ [] else []) → is_some (name_number names x) ≡ list_any (λ g. is_text g.config x) fields → is_some (name_number after x) ≡ list_any (λ g. is_text g.config x) (fields ++ map (field_of config) fs)
configurations_after config x names after fields [] used u p h =
    ap (λ l. is_some (name_number l x)) (p ∙ ap (λ b. names ++ (if b then config ∷ [] else [])) u ∙ append-nil names)
    ∙ h
    ∙ ap (list_any (λ g. is_text g.config x)) (sym (append-nil fields))
configurations_after config x names after fields (f ∷ fs) used u p h =
    ap (λ l. is_some (name_number l x)) (p ∙ ap (λ b. names ++ (if b then config ∷ [] else [])) (u ∙ some (length fs)))
    ∙ configurations_more config x names fields f fs h
  where
    some : (n : ℕ) → not (suc n == 0) ≡ true
    some n = grind (arith, nat_tests)
