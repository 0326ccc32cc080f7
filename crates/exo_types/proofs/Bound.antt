-- Statements that bind a name, and those that neither bind names nor have blocks.
use Rattle.std.proofs.Common.{◌≡◌, ℕ, ◌+◌, true, List, [], ◌∷◌, ◌++◌, Option, Some, None, length, take, refl, ap, sym, ◌∙◌}
use Rattle.std.proofs.lemmas.List.{append-nil, length-map}
use Rattle.exo_tree.specs.Tree as tree
use Rattle.exo_meaning.specs.Scene.{updated}
use Rattle.exo_meaning.specs.Units as units
use Rattle.exo_meaning.specs.Units.{Scope, Named, Sort, BufferName, with_name, view_sort, sort_in}
use Rattle.text_expressions.specs.Expression.{Tree}
use Rattle.exo_reader.specs.Source.{TypeName, Coordinate, allocate, view}
use Rattle.rules_names.specs.declared.fault.Fault.{Fault}
use Rattle.rules_names.specs.Faults.{or_else}
use Rattle.rules_names.specs.Names.{named_in, sort_of, id_in}
use Rattle.rules_names.specs.ExpressionRules.{is_buffer, name_faults}
use Rattle.rules_names.specs.Resolved.{controls_of}
use Rattle.rules_names.specs.WindowRules.{coordinates_of, window_faults}
use Rattle.exo_modes.specs.Aliases.{roots_in}
use Rattle.exo_types.specs.declared.context.Context.{Context}
use Rattle.exo_types.specs.declared.context.ScopeState.{ScopeState}
use Rattle.exo_types.specs.TypeRules.{binder, binder_faults, cell_of, memory_of}
use Rattle.exo_types.specs.ArgumentRules.{spans}
use Rattle.exo_types.specs.Walks.{Falls, IsStatement, own_fault}
use Rattle.exo_types.proofs.Broken.{none_broken, first_empty}
use Rattle.exo_types.proofs.Falling.{sort_by_id}
use Rattle.exo_types.proofs.Spans.{same_spans}

second_empty : (a b : List Fault) → a ++ b ≡ [] → b ≡ []
second_empty [] b h = h
second_empty (f ∷ a) b h = cc

-- the name of a view's buffer is in scope where no rule is broken
known : (o : Option Named) (n : ℕ) → name_faults is_buffer (sort_of o) n ≡ [] → (m : Named) × (o ≡ Some m)
known None n h = cc
known (Some m) n h = (m, refl)

module _ (c : Context) where
  pub allocated : (walk after : ScopeState) (n : ℕ) (x : List ℕ) (type : TypeName) (ds : List Tree) (m : Option (List ℕ)) (b : tree.Binder) (cell : tree.Cell) (is : List tree.Control) (rank home : ℕ) → own_fault c walk n (allocate x type ds m) ≡ None → b ≡ binder walk.next_id x → cell ≡ cell_of type → is ≡ controls_of c.fields.now walk.scope ds → home ≡ memory_of c.memories.now m → rank ≡ length ds → after.scope ≡ with_name walk.scope (binder walk.next_id x) (BufferName cell rank true) → roots_in after.aliases.items ≡ updated (roots_in walk.aliases.items) walk.next_id walk.next_id → take (length walk.aliases.items) after.aliases.items ≡ walk.aliases.items → after.next_id ≡ walk.next_id + 1 → after.lines ≡ walk.lines → IsStatement c walk after (tree.Alloc b cell is home) n (allocate x type ds m)
  allocated walk after n x type ds m b cell is rank home own is_b is_cell is_dims is_home ranked scope roots kept ids lines =
      let long : rank ≡ length is = ranked ∙ sym (length-map ds _) ∙ ap length (sym is_dims) in
      record {
        keeps = ap (λ o. or_else o None) own;
        means = λ i. tree.Alloc (is_b i) (is_cell i) (is_dims i) (is_home i);
        scope = scope ∙ (λ i. with_name walk.scope (sym is_b i) (BufferName cell (long i) true));
        roots = roots ∙ (λ i. updated (roots_in walk.aliases.items) (sym is_b i).id (sym is_b i).id);
        kept = kept;
        ids = ids;
        lines = lines ∙ sym (append-nil walk.lines);
      }

  pub viewed : (walk after : ScopeState) (n : ℕ) (w x : List ℕ) (cs : List Coordinate) (b : tree.Binder) (of : ℕ) (made : List tree.Coord) (sort : Sort) → own_fault c walk n (view w x cs) ≡ None → Falls walk.next_id walk.scope → b ≡ binder walk.next_id w → of ≡ id_in walk.scope x → made ≡ coordinates_of c.fields.now walk.scope cs → sort ≡ view_sort (sort_of (named_in walk.scope x)) (spans cs) → after.scope ≡ with_name walk.scope (binder walk.next_id w) sort → roots_in after.aliases.items ≡ updated (roots_in walk.aliases.items) walk.next_id (roots_in walk.aliases.items of) → take (length walk.aliases.items) after.aliases.items ≡ walk.aliases.items → after.next_id ≡ walk.next_id + 1 → after.lines ≡ walk.lines → IsStatement c walk after (tree.View b of made) n (view w x cs)
  viewed walk after n w x cs b of made sort own falls is_b is_of is_made is_sort scope roots kept ids lines =
      let none : window_faults c.fields.now is_buffer walk.scope (n + 2) x cs ≡ [] = second_empty (binder_faults walk.scope n w) (window_faults c.fields.now is_buffer walk.scope (n + 2) x cs) (none_broken (binder_faults walk.scope n w ++ window_faults c.fields.now is_buffer walk.scope (n + 2) x cs) own) in
      let found = known (named_in walk.scope x) (n + 2) (first_empty (name_faults is_buffer (sort_of (named_in walk.scope x)) (n + 2)) _ none) in
      let seen : sort_of (named_in walk.scope x) ≡ sort_in walk.scope of = sym (sort_by_id walk.next_id walk.scope x found.0 falls found.1) ∙ ap (sort_in walk.scope) (sym is_of) in
      let same : sort ≡ view_sort (sort_in walk.scope of) (units.spans made) = is_sort ∙ (λ i. view_sort (seen i) ((same_spans c.fields.now walk.scope cs ∙ ap units.spans (sym is_made)) i)) in
      record {
        keeps = ap (λ o. or_else o None) own;
        means = λ i. tree.View (is_b i) (is_of i) (is_made i);
        scope = scope ∙ (λ i. with_name walk.scope (sym is_b i) (same i));
        roots = roots ∙ (λ i. updated (roots_in walk.aliases.items) (sym is_b i).id (roots_in walk.aliases.items of));
        kept = kept;
        ids = ids;
        lines = lines ∙ sym (append-nil walk.lines);
      }
