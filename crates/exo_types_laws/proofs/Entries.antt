-- The tables of fields and memories of a unit that breaks no rule are those of a well-formed one.
use Rattle.std.proofs.Common.{◌≡◌, ℕ, ◌+◌, Bool, true, false, not, ◌&&◌, ◌||◌, List, [], ◌∷◌, ◌++◌, map, Option, Some, None, refl, sym, ap, ◌∙◌, append_assoc, append-nil as append_nil, subst}
use Rattle.std.specs.List.{list_any, list_all}
use Rattle.exo_tree.specs.Tree.{ConfigField, MemoryKind, Program}
use Rattle.exo_meaning.specs.Units.{is_text, all_differ, same_field, is_memory}
use Rattle.exo_reader.specs.Source as source
use Rattle.exo_reader.specs.Source.{Attribute, Setting, Item, procedure, instruction, configuration, memory}
use Rattle.rules_names.specs.declared.error.TypeKind.TheVariants.{Redefined}
use Rattle.rules_names.specs.declared.fault.Fault.{Fault}
use Rattle.rules_names.specs.Faults.{unless, least}
use Rattle.exo_types.specs.declared.attribute.Trait.{Trait}
use Rattle.exo_types.specs.declared.attribute.Trait.TheVariants.{Ctype, Lanes, CellType, Place, MayRead, MayWrite, MayReduce, Header}
use Rattle.exo_types.specs.TypeRules.{kind_faults}
use Rattle.exo_types.specs.ItemRules.{field_of, fields_fault}
use Rattle.exo_types.specs.MemoryRules.{plain_memory, trait_named, with_trait, with_attributes, attributes_fault, lanes_faults}
use Rattle.exo_types.specs.UnitRules.{Above, nothing_above, is_given, item_name_faults, item_fault, after_item, items_fault, after_items, item_width}
use Rattle.exo_types_laws.proofs.Unbroken.{both, pair, neither, nor, negated, not_true, no_more, all_more, none_of, left_none, right_none, unless_none, neither_broken}
use Rattle.exo_types_laws.proofs.Scopes.{text_turned}

-- ---- lists whose elements differ

any_from_two : {X : Type 0} (p q r : X → Bool) → ((x : X) → p x ≡ false → q x ≡ false → r x ≡ false) → (xs : List X) → list_any p xs ≡ false → list_any q xs ≡ false → list_any r xs ≡ false
any_from_two p q r f [] h k = refl
any_from_two p q r f (x ∷ xs) h k =
    let a = neither (p x) (list_any p xs) h in
    let b = neither (q x) (list_any q xs) k in
    nor (f x a.0 b.0) (any_from_two p q r f xs a.1 b.1)

any_from : {X : Type 0} (p q : X → Bool) → ((x : X) → p x ≡ false → q x ≡ false) → (xs : List X) → list_any p xs ≡ false → list_any q xs ≡ false
any_from p q f xs h = any_from_two p p q (λ x a b. f x a) xs h h

-- nothing of the first list is the same as something of the second
differ_append : {X : Type 0} (same : X → X → Bool) (xs ys : List X) → all_differ same xs ≡ true → all_differ same ys ≡ true → list_any (λ x. list_any (same x) ys) xs ≡ false → all_differ same (xs ++ ys) ≡ true
differ_append same [] ys h k apart = k
differ_append same (x ∷ xs) ys h k apart =
    let a = both (not (list_any (same x) xs)) (all_differ same xs) h in
    let b = neither (list_any (same x) ys) (list_any (λ z. list_any (same z) ys) xs) apart in
    pair (negated (no_more (same x) xs ys (not_true (list_any (same x) xs) a.0) b.0)) (differ_append same xs ys a.1 k b.1)

-- ---- fields

field_turned : (f g : ConfigField) → same_field f g ≡ false → same_field g f ≡ false
field_turned f g h = ap (λ t. t && is_text g.name f.name) (text_turned g.config f.config) ∙ ap (λ t. is_text f.config g.config && t) (text_turned g.name f.name) ∙ h

alone : {X : Type 0} (same : X → X → Bool) (y : X) → all_differ same (y ∷ []) ≡ true
alone same y = refl

among_one : {X : Type 0} (same : X → X → Bool) (y x : X) → same x y ≡ false → list_any (same x) (y ∷ []) ≡ false
among_one same y x h = nor h refl

fields_differ : (given : List ConfigField) (config : List ℕ) (n : ℕ) (fs : List source.ConfigField) → all_differ same_field given ≡ true → fields_fault given config n fs ≡ None → all_differ same_field (given ++ map (field_of config) fs) ≡ true
fields_differ given config n [] d h = subst (λ (l : List ConfigField). all_differ same_field l ≡ true) (sym (append_nil given)) d
fields_differ given config n (f ∷ fs) d h =
    let new : ConfigField = field_of config f in
    let own : List Fault = unless (not (list_any (same_field new) given)) Redefined n ++ kind_faults f.kind (n + 2) in
    let parts = neither_broken (least own) (fields_fault (given ++ new ∷ []) config (n + 4) fs) h in
    let none = left_none (unless (not (list_any (same_field new) given)) Redefined n) (kind_faults f.kind (n + 2)) (none_of own parts.0) in
    let absent = not_true (list_any (same_field new) given) (unless_none (not (list_any (same_field new) given)) Redefined n none) in
    let more = differ_append same_field given (new ∷ []) d (alone same_field new) (any_from (same_field new) (λ x. list_any (same_field x) (new ∷ [])) (λ x a. among_one same_field new x (field_turned new x a)) given absent) in
    subst (λ (l : List ConfigField). all_differ same_field l ≡ true) (append_assoc given (new ∷ []) (map (field_of config) fs)) (fields_differ (given ++ new ∷ []) config (n + 4) fs more parts.1)

-- a field of another configuration is none of these
others : (f : ConfigField) (config : List ℕ) (fs : List source.ConfigField) → is_text f.config config ≡ false → list_any (same_field f) (map (field_of config) fs) ≡ false
others f config [] h = refl
others f config (g ∷ fs) h = nor (ap (λ t. t && is_text f.name g.name) h) (others f config fs h)

-- a memory is no configuration of another name
no_config : (x config : List ℕ) (fs : List source.ConfigField) → is_text x config ≡ false → list_any (λ f. is_text x f.config) (map (field_of config) fs) ≡ false
no_config x config [] h = refl
no_config x config (g ∷ fs) h = nor h (no_config x config fs h)

-- ---- memories

trait_name : (m : MemoryKind) (o : Option Trait) (v : Setting) → (with_trait m o v).name ≡ m.name
trait_name m None v = refl
trait_name m (Some Ctype) v = refl
trait_name m (Some Lanes) v = refl
trait_name m (Some CellType) v = refl
trait_name m (Some Place) v = refl
trait_name m (Some MayRead) v = refl
trait_name m (Some MayWrite) v = refl
trait_name m (Some MayReduce) v = refl
trait_name m (Some Header) v = refl

attributes_name : (m : MemoryKind) (settings : List Attribute) → (with_attributes m settings).name ≡ m.name
attributes_name m [] = refl
attributes_name m (a ∷ settings) = attributes_name (with_trait m (trait_named a.name) a.value) settings ∙ trait_name m (trait_named a.name) a.value

-- ---- both tables

abbrev same_memory : MemoryKind → MemoryKind → Bool
same_memory m n = is_text m.name n.name

pub record Sound (p : Program) : Type 0 where
  pub fields : all_differ same_field p.fields ≡ true
  pub memories : (all_differ (λ m n. is_text m.name n.name) p.memories && list_all is_memory p.memories) ≡ true
  pub spaces : list_any (λ m. list_any (λ f. is_text m.name f.config) p.fields) p.memories ≡ false

-- no procedure, configuration or memory has the name
record Free (p : Program) (x : List ℕ) : Type 0 where
  configurations : list_any (λ f. is_text f.config x) p.fields ≡ false
  memories : list_any (λ m. is_text m.name x) p.memories ≡ false

free : (above : Above) (n : ℕ) (x : List ℕ) → item_name_faults above n x ≡ [] → Free above.program x
free above n x h =
    let p : Program = above.program in
    let given = not_true (is_given p x) (unless_none (not (is_given p x)) Redefined n h) in
    let a = neither (list_any (λ q. is_text q.name x) p.procedures) (list_any (λ f. is_text f.config x) p.fields || list_any (λ m. is_text m.name x) p.memories) given in
    let b = neither (list_any (λ f. is_text f.config x) p.fields) (list_any (λ m. is_text m.name x) p.memories) a.1 in
    record { configurations = b.0; memories = b.1 }

with_fields : (p : Program) (x : List ℕ) (n : ℕ) (fs : List source.ConfigField) → Sound p → Free p x → fields_fault [] x n fs ≡ None → Sound (record p { fields = p.fields ++ map (field_of x) fs })
with_fields p x n fs s f h = record {
  fields = differ_append same_field p.fields (map (field_of x) fs) s.fields (fields_differ [] x n fs refl h) (any_from (λ g. is_text g.config x) (λ g. list_any (same_field g) (map (field_of x) fs)) (λ g a. others g x fs a) p.fields f.configurations);
  memories = s.memories;
  spaces =
      any_from_two (λ m. list_any (λ g. is_text m.name g.config) p.fields) (λ m. is_text m.name x) (λ m. list_any (λ g. is_text m.name g.config) (p.fields ++ map (field_of x) fs))
      (λ m a b. no_more (λ g. is_text m.name g.config) p.fields (map (field_of x) fs) a (no_config m.name x fs b)) p.memories s.spaces f.memories;
}

with_memory : (p : Program) (x : List ℕ) (m : MemoryKind) → Sound p → Free p x → m.name ≡ x → is_memory m ≡ true → Sound (record p { memories = p.memories ++ m ∷ [] })
with_memory p x m s f named formed =
    let kept = both (all_differ same_memory p.memories) (list_all is_memory p.memories) s.memories in
    let apart : list_any (λ z. list_any (same_memory z) (m ∷ [])) p.memories ≡ false = any_from (λ z. is_text z.name x) (λ z. list_any (same_memory z) (m ∷ [])) (λ z a. among_one same_memory m z (ap (is_text z.name) named ∙ a)) p.memories f.memories in
    record {
      fields = s.fields;
      memories = pair (differ_append same_memory p.memories (m ∷ []) kept.0 (alone same_memory m) apart) (all_more is_memory p.memories (m ∷ []) kept.1 (pair formed refl));
      spaces =
          no_more (λ z. list_any (λ g. is_text z.name g.config) p.fields) p.memories (m ∷ []) s.spaces
          (nor (any_from (λ g. is_text g.config x) (λ g. is_text m.name g.config) (λ g a. text_turned m.name g.config ∙ ap (is_text g.config) named ∙ a) p.fields f.configurations) refl);
    }

pub sound_after : (above : Above) (n : ℕ) (i : Item) → Sound above.program → item_fault above n i ≡ None → Sound (after_item above i).program
sound_after above n (procedure d) s h = record { fields = s.fields; memories = s.memories; spaces = s.spaces }
sound_after above n (instruction template d) s h = record { fields = s.fields; memories = s.memories; spaces = s.spaces }
sound_after above n (configuration x fs) s h =
    let parts = neither_broken (least (item_name_faults above (n + 3) x)) (fields_fault [] x (n + 7) fs) h in
    with_fields above.program x (n + 7) fs s (free above (n + 3) x (none_of (item_name_faults above (n + 3) x) parts.0)) parts.1
sound_after above n (memory x settings) s h =
    let own : Option Fault = attributes_fault [] (n + 7) settings in
    let m : MemoryKind = with_attributes (plain_memory x) settings in
    let parts = neither_broken (least (item_name_faults above (n + 3) x ++ lanes_faults own (n + 3) m)) own h in
    let none = none_of (item_name_faults above (n + 3) x ++ lanes_faults own (n + 3) m) parts.0 in
    let lanes : lanes_faults None (n + 3) m ≡ [] = ap (λ o. lanes_faults o (n + 3) m) (sym parts.1) ∙ right_none (item_name_faults above (n + 3) x) (lanes_faults own (n + 3) m) none in
    with_memory above.program x m s (free above (n + 3) x (left_none (item_name_faults above (n + 3) x) (lanes_faults own (n + 3) m) none)) (attributes_name (plain_memory x) settings) (unless_none (is_memory m) _ (n + 3) lanes)

pub sound_at_end : (above : Above) (n : ℕ) (items : List Item) → Sound above.program → items_fault above n items ≡ None → Sound (after_items above items).program
sound_at_end above n [] s h = s
sound_at_end above n (i ∷ more) s h =
    let parts = neither_broken (item_fault above n i) (items_fault (after_item above i) (n + item_width i) more) h in
    sound_at_end (after_item above i) (n + item_width i) more (sound_after above n i s parts.0) parts.1

pub sound_at_first : Sound nothing_above.program
sound_at_first = record { fields = refl; memories = refl; spaces = refl }
