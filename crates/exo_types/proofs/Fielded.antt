-- The fields of a configuration, one after another.
use Rattle.std.proofs.Common.{◌≡◌, ℕ, ◌+◌, ◌*◌, false, not, List, [], ◌∷◌, ◌++◌, Option, None, length, map, refl, ap, sym, ◌∙◌, append_assoc, arith}
use Rattle.std.specs.List.{list_any}
use Rattle.std.proofs.lemmas.List.{append-nil, length-append, length-map}
use Rattle.exo_tree.specs.Tree.{ConfigField}
use Rattle.exo_meaning.specs.Units.{is_text, same_field}
use Rattle.exo_reader.specs.Source as source
use Rattle.rules_names.specs.declared.fault.Fault.{Fault}
use Rattle.rules_names.specs.declared.error.TypeKind.TheVariants.{Redefined}
use Rattle.rules_names.specs.Faults.{or_else, least, unless}
use Rattle.exo_types.specs.declared.refusal.Refusal.{Refusal}
use Rattle.exo_types.specs.Refusals.{Refuses}
use Rattle.exo_types.specs.TypeRules.{kind_faults}
use Rattle.exo_types.specs.ItemRules.{field_of, fields_fault}
use Rattle.exo_types.specs.Standing.{field_fault}
use Rattle.exo_types.proofs.Broken.{refuses_same, refuses_first}
use Rattle.exo_types.proofs.Named.{field_among}

-- those given were put behind the fields above; the next one begins at token k
pub record Given (config : List ℕ) (first table first_fields fields : List ConfigField) (n k : ℕ) (whole rest : List source.ConfigField) : Type 0 where
  pub given : List ConfigField
  pub fault : fields_fault given config k rest ≡ fields_fault [] config n whole
  pub all : given ++ map (field_of config) rest ≡ map (field_of config) whole
  pub in_table : table ≡ first ++ given
  pub in_fields : fields ≡ first_fields ++ given
  pub width : k + 4 * length rest ≡ n + 4 * length whole

pub none_given : (config : List ℕ) (first first_fields : List ConfigField) (n : ℕ) (whole : List source.ConfigField) → Given config first first first_fields first_fields n n whole whole
none_given config first first_fields n whole = record {
  given = [];
  fault = refl;
  all = refl;
  in_table = sym (append-nil first);
  in_fields = sym (append-nil first_fields);
  width = refl;
}

same_fault : (config : List ℕ) (above given table : List ConfigField) (k : ℕ) (f : source.ConfigField) → list_any (λ g. is_text g.config config) above ≡ false → table ≡ above ++ given → field_fault table config k f ≡ least (unless (not (list_any (same_field (field_of config f)) given)) Redefined k ++ kind_faults f.kind (k + 2))
same_fault config above given table k f new h =
    ap (λ t. field_fault t config k f) h ∙ ap (λ b. least (unless (not b) Redefined k ++ kind_faults f.kind (k + 2))) (field_among config f above given new)

goes_on : (a b c whole : Option Fault) → or_else a b ≡ whole → a ≡ None → c ≡ b → c ≡ whole
goes_on a b c whole h e k = k ∙ ap (λ o. or_else o b) (sym e) ∙ h

pub one_given : (config : List ℕ) (first table after first_fields fields new_fields : List ConfigField) (n k m : ℕ) (whole : List source.ConfigField) (f : source.ConfigField) (more : List source.ConfigField) → list_any (λ g. is_text g.config config) first ≡ false → Given config first table first_fields fields n k whole (f ∷ more) → field_fault table config k f ≡ None → after ≡ table ++ field_of config f ∷ [] → new_fields ≡ fields ++ field_of config f ∷ [] → m ≡ k + 4 → Given config first after first_fields new_fields n m whole more
one_given config first table after first_fields fields new_fields n k m whole f more new g keeps pushed put next = record {
  given = g.given ++ field_of config f ∷ [];
  fault = goes_on _ _ _ _ g.fault (sym (same_fault config first g.given table k f new g.in_table) ∙ keeps) (ap (λ j. fields_fault (g.given ++ field_of config f ∷ []) config j more) next);
  all = append_assoc g.given (field_of config f ∷ []) (map (field_of config) more) ∙ g.all;
  in_table = pushed ∙ ap (λ t. t ++ field_of config f ∷ []) g.in_table ∙ append_assoc first g.given (field_of config f ∷ []);
  in_fields = put ∙ ap (λ t. t ++ field_of config f ∷ []) g.in_fields ∙ append_assoc first_fields g.given (field_of config f ∷ []);
  width = omega (arith, g.width, next);
}

pub field_refused : (config : List ℕ) (first table first_fields fields : List ConfigField) (n k : ℕ) (whole : List source.ConfigField) (f : source.ConfigField) (more : List source.ConfigField) (e : Refusal) → list_any (λ g. is_text g.config config) first ≡ false → Given config first table first_fields fields n k whole (f ∷ more) → Refuses e (field_fault table config k f) → Refuses e (fields_fault [] config n whole)
field_refused config first table first_fields fields n k whole f more e new g r =
    refuses_same e _ _ g.fault (refuses_first e _ _ (refuses_same e _ _ (same_fault config first g.given table k f new g.in_table) r))

pub all_table : (config : List ℕ) (first table first_fields fields : List ConfigField) (n k : ℕ) (whole rest : List source.ConfigField) → rest ≡ [] → Given config first table first_fields fields n k whole rest → table ≡ first ++ map (field_of config) whole
all_table config first table first_fields fields n k whole rest none g = g.in_table ∙ ap (λ l. first ++ l) (sym (append-nil g.given) ∙ ap (λ r. g.given ++ map (field_of config) r) (sym none) ∙ g.all)

pub all_fields : (config : List ℕ) (first table first_fields fields : List ConfigField) (n k : ℕ) (whole rest : List source.ConfigField) → rest ≡ [] → Given config first table first_fields fields n k whole rest → fields ≡ first_fields ++ map (field_of config) whole
all_fields config first table first_fields fields n k whole rest none g = g.in_fields ∙ ap (λ l. first_fields ++ l) (sym (append-nil g.given) ∙ ap (λ r. g.given ++ map (field_of config) r) (sym none) ∙ g.all)

pub none_broken : (config : List ℕ) (first table first_fields fields : List ConfigField) (n k : ℕ) (whole rest : List source.ConfigField) → rest ≡ [] → Given config first table first_fields fields n k whole rest → fields_fault [] config n whole ≡ None
none_broken config first table first_fields fields n k whole rest none g = sym g.fault ∙ ap (fields_fault g.given config k) none

-- there is room for the field at hand
pub table_bound : (config : List ℕ) (first table first_fields fields : List ConfigField) (n k : ℕ) (whole rest : List source.ConfigField) → Given config first table first_fields fields n k whole rest → length table + length rest ≡ length first + length whole
table_bound config first table first_fields fields n k whole rest g =
    omega (arith, ap length g.in_table, length-append first g.given, ap length g.all, length-append g.given (map (field_of config) rest), length-map rest (field_of config), length-map whole (field_of config))
