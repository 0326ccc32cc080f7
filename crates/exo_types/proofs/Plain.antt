-- Statements that bind no name and have no blocks.
use Rattle.std.proofs.Common.{◌≡◌, ℕ, ◌+◌, ◌==◌, Bool, true, false, List, [], ◌++◌, Option, Some, None, map, slice_get, refl, ap, sym, ◌∙◌, arith}
use Rattle.std.proofs.lemmas.List.{append-nil}
use Rattle.std.proofs.lemmas.Bool.{eqb-true}
use Rattle.std.proofs.Math.Seq.{take-length}
use Rattle.exo_tree.specs.Tree as tree
use Rattle.exo_tree.specs.Tree.{Kind}
use Rattle.exo_meaning.specs.Run.{roots_after}
use Rattle.exo_meaning.specs.Units.{scope_after}
use Rattle.text_expressions.specs.Expression.{Tree}
use Rattle.exo_reader.specs.Source as source
use Rattle.exo_reader.specs.Source.{Statement, pass, call, configure, assign, reduce}
use Rattle.rules_names.specs.declared.fault.Fault.{Fault}
use Rattle.rules_names.specs.declared.error.TypeKind.TheVariants.{RankMismatch}
use Rattle.rules_names.specs.Faults.{or_else, least, unless}
use Rattle.rules_names.specs.Names.{id_in, name_number, field_in, no_id}
use Rattle.rules_names.specs.ExpressionRules.{width}
use Rattle.rules_names.specs.Resolved.{controls_of, datum_of, field_number}
use Rattle.exo_modes.specs.Aliases.{roots_in}
use Rattle.exo_types.specs.declared.context.Context.{Context}
use Rattle.exo_types.specs.declared.context.ScopeState.{ScopeState}
use Rattle.exo_types.specs.TypeRules.{number_or}
use Rattle.exo_types.specs.ArgumentRules.{Signature, dims_width, kind_value_of, arguments_of, params_of}
use Rattle.exo_types.specs.StatementRules.{statement_width, bound, store_faults, callee_named, written_of}
use Rattle.exo_types.specs.UnitLines.{inner_starts, line_at}
use Rattle.exo_types.specs.Walks.{signatures_in, IsStatement, own_faults, own_fault, statement_fault, statement_of, stored, stored_tree}
use Rattle.exo_types.proofs.Broken.{none_broken, first_empty}

-- the callee of a name
pub callee_unknown : (c : Context) (x : List ℕ) → name_number c.procedures.now x ≡ None → callee_named c.fields.now c.memories.now c.procedures.now (signatures_in c) x ≡ None
callee_unknown c x none = ap (λ o. elim o [ None ↦ None | Some j ↦ slice_get (signatures_in c) j ]) none

pub callee_found : (c : Context) (x : List ℕ) (k : ℕ) (f : Option Signature) → name_number c.procedures.now x ≡ Some k → slice_get (signatures_in c) k ≡ f → callee_named c.fields.now c.memories.now c.procedures.now (signatures_in c) x ≡ f
callee_found c x k f found seen = ap (λ o. elim o [ None ↦ None | Some j ↦ slice_get (signatures_in c) j ]) found ∙ seen

-- as many arguments as parameters, where no rule is broken
pub counted : (a b n : ℕ) (more : List Fault) → least (unless (a == b) RankMismatch n ++ more) ≡ None → a ≡ b
counted a b n more h = by (a == b) refl (first_empty (unless (a == b) RankMismatch n) more (none_broken (unless (a == b) RankMismatch n ++ more) h))
  where
    by : (t : Bool) → (a == b) ≡ t → unless t RankMismatch n ≡ [] → a ≡ b
    by true e k = eqb-true a b e
    by false e k = cc

pub written_width : (reduces : Bool) (x : List ℕ) (ds : List Tree) (e : Tree) → statement_width (stored reduces x ds e) ≡ 1 + dims_width ds + 1 + width e + 1
written_width true x ds e = refl
written_width false x ds e = refl

module _ (c : Context) where
  -- a statement that binds no name and has no blocks leaves the walk as it was
  settled : (w : ScopeState) (t : tree.Statement) (n : ℕ) (s : Statement) → statement_fault c w n s ≡ or_else (own_fault c w n s) None → scope_after (statement_of c w s) w.scope ≡ w.scope → roots_after (statement_of c w s) (roots_in w.aliases.items) ≡ roots_in w.aliases.items → bound s ≡ 0 → inner_starts n s ≡ [] → own_fault c w n s ≡ None → t ≡ statement_of c w s → IsStatement c w w t n s
  settled w t n s plain scope roots none inner own made = record {
    keeps = plain ∙ ap (λ o. or_else o None) own;
    means = made;
    scope = sym (ap (λ u. scope_after u w.scope) made ∙ scope);
    roots = sym (ap (λ u. roots_after u (roots_in w.aliases.items)) made ∙ roots);
    kept = take-length w.aliases.items;
    ids = omega (arith, none);
    lines = sym (append-nil w.lines) ∙ ap (λ l. w.lines ++ map (line_at c.places.now) l) (sym inner);
  }

  pub passed : (w : ScopeState) (n : ℕ) → IsStatement c w w tree.Pass n pass
  passed w n = settled w tree.Pass n pass refl refl refl refl refl refl refl

  -- a write of a cell
  pub written_faults : (w : ScopeState) (n : ℕ) (reduces : Bool) (x : List ℕ) (ds : List Tree) (e : Tree) → own_faults c w n (stored reduces x ds e) ≡ store_faults c.fields.now w.scope n x ds e
  written_faults w n true x ds e = refl
  written_faults w n false x ds e = refl

  pub written : (w : ScopeState) (n : ℕ) (reduces : Bool) (x : List ℕ) (ds : List Tree) (e : Tree) (id : ℕ) (is : List tree.Control) (d : tree.Datum) → own_fault c w n (stored reduces x ds e) ≡ None → id ≡ id_in w.scope x → is ≡ controls_of c.fields.now w.scope ds → d ≡ datum_of c.fields.now w.scope e → IsStatement c w w (stored_tree reduces id is d) n (stored reduces x ds e)
  written w n true x ds e id is d own a b f = settled w (tree.Reduce id is d) n (reduce x ds e) refl refl refl refl refl own (λ i. tree.Reduce (a i) (b i) (f i))
  written w n false x ds e id is d own a b f = settled w (tree.Assign id is d) n (assign x ds e) refl refl refl refl refl own (λ i. tree.Assign (a i) (b i) (f i))

  -- a field that there is
  pub configured : (w : ScopeState) (n : ℕ) (x y : List ℕ) (e : Tree) (f : ℕ × Kind) (a : tree.Argument) → field_in c.fields.now x y ≡ Some f → own_fault c w n (configure x y e) ≡ None → a ≡ kind_value_of c.fields.now w.scope f.1 e → IsStatement c w w (tree.Config f.0 a) n (configure x y e)
  configured w n x y e f a found own h =
      settled w (tree.Config f.0 a) n (configure x y e) refl refl refl refl refl own
      ((λ i. tree.Config f.0 (h i)) ∙ (λ i. tree.Config (field_number (sym found i)) (written_of c.fields.now (sym found i) w.scope e)))

  -- a procedure that there is
  pub called : (w : ScopeState) (n : ℕ) (x : List ℕ) (args : List source.Argument) (trailing : Bool) (k : ℕ) (f : Signature) (made : List tree.Argument) → name_number c.procedures.now x ≡ Some k → slice_get (signatures_in c) k ≡ Some f → own_fault c w n (call x args trailing) ≡ None → made ≡ arguments_of c.fields.now w.scope f.params args → IsStatement c w w (tree.Call k made) n (call x args trailing)
  called w n x args trailing k f made found seen own h =
      settled w (tree.Call k made) n (call x args trailing) refl refl refl refl refl own
      ((λ i. tree.Call k (h i)) ∙ (λ i. tree.Call (number_or no_id (sym found i)) (arguments_of c.fields.now w.scope (params_of (sym (callee_found c x k (Some f) found seen) i)) args)))
