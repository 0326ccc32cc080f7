-- Types of parameters: with dimensions or without.
use Rattle.std.proofs.Common.{◌≡◌, ℕ, ◌+◌, List, [], ◌∷◌, ◌++◌, Option, None, length, map, refl, ap, sym, ◌∙◌}
use Rattle.exo_tree.specs.Tree as tree
use Rattle.exo_tree.specs.Tree.{ConfigField}
use Rattle.exo_meaning.specs.Units.{Scope, Sort, plainly, with_name, param_sort}
use Rattle.text_expressions.specs.Expression.{Tree}
use Rattle.exo_reader.specs.Source.{TypeName, plain, Parameter}
use Rattle.rules_names.specs.ExpressionRules.{controls_faults}
use Rattle.exo_types.specs.declared.context.Context.{Context}
use Rattle.exo_types.specs.declared.context.ScopeState.{ScopeState}
use Rattle.exo_types.specs.TypeRules.{binder, cell_faults, memory_faults}
use Rattle.exo_types.specs.ArgumentRules.{dims_width}
use Rattle.exo_types.specs.ItemRules.{form_faults, form_of, parameter_width}
use Rattle.exo_types.specs.Definitions.{IsParam, IsPut, param_fault}

pub no_dims : {X : Type 0} (f : X → Tree) (xs : List X) → length xs ≡ 0 → map f xs ≡ []
no_dims f [] h = refl
no_dims f (x ∷ xs) h = cc

pub dims_faults : (fields : List ConfigField) (memories : List (List ℕ)) (scope : Scope) (n : ℕ) (type : TypeName) (ds : List Tree) (m : Option (List ℕ)) → (length ds ≡ 0 → ⊥) → form_faults fields memories scope n (plain type ds) m ≡ cell_faults type n ++ (controls_faults fields plainly scope (n + 2) ds ++ memory_faults memories (n + 1 + dims_width ds) m)
dims_faults fields memories scope n type [] m h = absurd (h refl)
dims_faults fields memories scope n type (d ∷ ds) m h = refl

module _ (c : Context) where
  -- a parameter whose name is bound
  pub is_param : (walk after : ScopeState) (n : ℕ) (b : tree.Binder) (p : Parameter) (y : List ℕ) (kind : tree.ParamKind) (sort : Sort) → param_fault c walk n p ≡ None → b ≡ binder walk.next_id y → y ≡ p.name → kind ≡ form_of c.fields.now c.memories.now walk.scope p.form p.memory → sort ≡ param_sort kind → after.scope ≡ with_name walk.scope (binder walk.next_id y) sort → after.next_id ≡ walk.next_id + 1 → after.aliases.items ≡ walk.aliases.items → after.lines ≡ walk.lines → IsParam c walk after (record { binder = b; kind = kind }) n p
  is_param walk after n b p y kind sort keeps is_b is_y is_kind is_sort scope ids aliases lines = record {
    keeps = keeps;
    means = λ i. record { binder = (is_b ∙ ap (binder walk.next_id) is_y) i; kind = is_kind i };
    scope = scope ∙ (λ i. with_name walk.scope (sym is_b i) (is_sort i));
    ids = ids;
    aliases = aliases;
    lines = lines;
  }

  -- it was put last
  pub put : (before after : ScopeState) (old new : List tree.Param) (made : tree.Param) (n m : ℕ) (p : Parameter) → IsParam c before after made n p → new ≡ old ++ made ∷ [] → m ≡ n + parameter_width p → IsPut c before after old new n m p
  put before after old new made n m p one last ends = record { made = made; one = one; last = last; ends = ends }
