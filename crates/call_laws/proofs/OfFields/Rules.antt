-- The rules on configuration writes are lawful, and carry statements.
use Rattle.std.proofs.Common.{◌≡◌, ◌<◌, ℕ, true, true≢false, List, [], ◌∷◌}
use Rattle.std.proofs.Common.{Option, Some, None, refl, sym, ap, ◌∙◌, subst, arith, ⊎_elim}
use Rattle.std.specs.Prelude.{length, nat_lt}
use Rattle.std.proofs.lemmas.Option.{slice_get_cases}
use Rattle.exo_tree.specs.Tree.{Argument, Assign, Reduce, Config, Pass, If, For, Alloc}
use Rattle.exo_tree.specs.Tree.{View, Call, Block, end, next, Procedure, ConfigField}
use Rattle.exo_tree.specs.Context.{Here, After, fill}
use Rattle.exo_tree.specs.Places.{first_of}
use Rattle.exo_tree.specs.Renaming.{binders}
use Rattle.exo_meaning.specs.Units.{Scope, field_kind, is_write, is_block}
use Rattle.meaning_laws.proofs.Substitute.{and_parts}
use Rattle.place_laws.specs.Scope.Roots.{own_roots_at}
use Rattle.place_laws.proofs.OfScope.WellAtPlace.{well_at_place}
use Rattle.tree_edits.specs.Made.Passes.{or_pass}
use Rattle.cursor_forward.specs.Forwards.{Carries}
use Rattle.config_laws.specs.FieldRule as config
use Rattle.config_laws.specs.FieldRule.{FieldRule, Side}
use Rattle.config_laws.specs.WriteConfig.{written, write_config}
use Rattle.config_laws.specs.DeleteConfig.{field_of, delete_config}
use Rattle.config_laws.specs.BindConfig.{Bound, bound_by, bound_call, number_of, write_and_call}
use Rattle.config_laws.specs.BindConfig.{bind_config}
use Rattle.config_laws.proofs.Rules.{write_config_refines, delete_config_refines, bind_config_refines}
use Rattle.step_rules.specs.Rule.{Got, Target}
use Rattle.step_rules.specs.Lawful.{Site, IsSite, around, old, with_body, scope_here, callees_for}
use Rattle.step_rules.specs.Lawful.{IsLawful, IsCarrying}
use Rattle.step_rules.proofs.Found.{and_true}
use Rattle.step_rules.proofs.Shapes.{or_pass_next}
use Rattle.call_laws.specs.Fields.FieldRules.{are_fields, moved_to, of_field_rule}
use Rattle.call_laws.specs.Fields.FieldRules.{write_rule, delete_rule, bind_rule}
use Rattle.call_laws.proofs.OfFields.Exact.{body_is_exact}
use Rattle.call_laws.proofs.OfFields.Stand.{tried_of, field_rules_are_lawful}

-- ---- fields of the unit

module _ (fields : List ConfigField) where
  -- a field that is written is there
  is_there : (scope : Scope) (f : ℕ) (e : Argument)
      → is_write (field_kind fields) scope (field_kind fields f) e ≡ true
      → nat_lt f (length fields) ≡ true
  is_there scope f e h =
      ⊎_elim (λ k. below k.1) (λ k. absurd (true≢false (sym h
      ∙ ap (λ o. is_write (field_kind fields) scope (elim o [ None ↦ None | Some field ↦ Some field.kind ]) e) k.1)))
      (slice_get_cases fields f).1
    where
      below : f < length fields → nat_lt f (length fields) ≡ true
      below k = grind (arith, k)

-- where a block keeps the rules, the field that its first statement writes is one of the unit
module _ (t : Target) (scope : Scope) (root : ℕ → ℕ) where
  abbrev Keeps : Block → Type 0
  Keeps b =
      is_block (field_kind t.unit.fields) (length t.unit.memories) (callees_for t) scope root b ≡ true

  first_is_there : (b : Block) → Keeps b → are_fields t (field_of (first_of b)) ≡ true
  first_is_there end h = refl
  first_is_there (next (Config f e) b) h =
      and_true (is_there t.unit.fields scope f e
      (and_parts (is_write (field_kind t.unit.fields) scope (field_kind t.unit.fields f) e) _ h).0) refl
  first_is_there (next (Assign x is e) b) h = refl
  first_is_there (next (Reduce x is e) b) h = refl
  first_is_there (next Pass b) h = refl
  first_is_there (next (If c a d) b) h = refl
  first_is_there (next (For i lo hi d) b) h = refl
  first_is_there (next (Alloc x cell dims memory) b) h = refl
  first_is_there (next (View w x coords) b) h = refl
  first_is_there (next (Call k args) b) h = refl

-- so it is of what stands there first
old_fields : (a : Site) (rule : Target → FieldRule) → IsSite (of_field_rule rule) a
    → are_fields a.spot.target (field_of (first_of (old a.spot))) ≡ true
old_fields a rule is =
    first_is_there a.spot.target (scope_here a.spot) (own_roots_at (around a.spot)) (old a.spot)
    is.spot.well.piece

-- and of a write that is put there first
new_fields : (a : Site) (rule : Target → FieldRule) → IsSite (of_field_rule rule) a → (f : ℕ)
    (e : Argument) (b : Block) → binders b ≡ [] → a.draft ≡ next (Config f e) b
    → are_fields a.spot.target (f ∷ []) ≡ true
new_fields a rule is f e b none drafted =
    let t = a.spot.target in
    let c = around a.spot in
    let body = body_is_exact (of_field_rule rule) a is (ap binders drafted ∙ none)
    ∙ ap (λ d. fill c (or_pass c d)) drafted ∙ ap (fill c) (or_pass_next c (Config f e) b) in
    first_is_there t (scope_here a.spot) (own_roots_at c) (next (Config f e) b)
    (well_at_place (field_kind t.unit.fields) (length t.unit.memories) (callees_for t)
    (with_body a.spot a.body) c (next (Config f e) b) is.runs.procedure body).piece

-- ---- write_config

write_drafts : (side : Side) (f : ℕ) (e : Argument) (a : Site) → IsSite (write_rule side f e) a
    → a.draft ≡ written f e
write_drafts side f e a is = sym (same_draft a.draft is.drafted)
  where
    same_draft : (b : Block) → Got (written f e) ≡ Got b → written f e ≡ b
    same_draft b h = cc

pub write_is_lawful : (side : Side) (f : ℕ) (e : Argument) → IsLawful (write_rule side f e)
write_is_lawful side f e =
    let rule = λ (t : Target). write_config t.unit.procedures side f e in
    field_rules_are_lawful rule
    (λ t versions. write_config_refines t.unit.fields (length t.unit.memories) t.unit.procedures side f e)
    (λ a is.
    let made : a.draft ≡ written f e = write_drafts side f e a is in
    record {
      binders = ap binders made;
      fields = new_fields a rule is f e end refl made;
    })

pub write_is_carrying : (side : Side) (f : ℕ) (e : Argument) → IsCarrying (write_rule side f e)
write_is_carrying side f e = record { carries = λ a is. tt; apart = λ a is. refl }

-- ---- delete_config

pub delete_is_lawful : IsLawful delete_rule
delete_is_lawful =
    let rule = λ (t : Target). delete_config t.unit.procedures in
    field_rules_are_lawful rule
    (λ t versions. delete_config_refines t.unit.fields (length t.unit.memories) t.unit.procedures)
    (λ a is. record {
      binders = nothing a.draft is.drafted;
      fields = old_fields a rule is;
    })
  where
    same : (b : Block) → Got end ≡ Got b → end ≡ b
    same b h = cc

    nothing : (b : Block) → Got end ≡ Got b → binders b ≡ []
    nothing b h = ap binders (sym (same b h))

pub delete_is_carrying : IsCarrying delete_rule
delete_is_carrying = record { carries = λ a is. tt; apart = λ a is. refl }

-- ---- bind_config

-- the draft is a write and a call, and the piece begins with a call
pub record IsBound (f : ℕ) (piece made : Block) : Type 0 where
  pub number : ℕ
  pub args : List Argument
  pub rest : Block
  pub was : piece ≡ next (Call number args) rest
  pub bound : Bound
  pub is : made ≡ write_and_call f number bound

module _ (ps : List Procedure) (name : List ℕ) (f : ℕ) where
  no_call : (made : Block) (b : Option Bound) → bound_call ps name f None b ≡ config.Got made
      → {A : Type 0} → A
  no_call made b h = cc

  pub bound_made : (b : Block) (made : Block)
      → bound_call ps name f (number_of ps name f (first_of b)) (bound_by ps name f (first_of b))
      ≡ config.Got made
      → IsBound f b made
  bound_made end made h = no_call made None h
  bound_made (next (Config g e) b) made h = no_call made None h
  bound_made (next (Assign x is e) b) made h = no_call made None h
  bound_made (next (Reduce x is e) b) made h = no_call made None h
  bound_made (next Pass b) made h = no_call made None h
  bound_made (next (If c a d) b) made h = no_call made None h
  bound_made (next (For i lo hi d) b) made h = no_call made None h
  bound_made (next (Alloc x cell dims memory) b) made h = no_call made None h
  bound_made (next (View w x coords) b) made h = no_call made None h
  bound_made (next (Call k args) b) made h = by (bound_by ps name f (Some (Call k args))) h
    where
      by : (o : Option Bound) → bound_call ps name f (Some k) o ≡ config.Got made
          → IsBound f (next (Call k args) b) made
      by None h = cc
      by (Some d) h =
          record { number = k; args = args; rest = b; was = refl; bound = d; is = cc }

is_bound : (name : List ℕ) (f : ℕ) (a : Site) → IsSite (bind_rule name f) a
    → IsBound f (old a.spot) a.draft
is_bound name f a is =
    let ps = a.spot.target.unit.procedures in
    let d = tried_of (bound_call ps name f (number_of ps name f (first_of (old a.spot)))
    (bound_by ps name f (first_of (old a.spot)))) (λ b. b) a.draft is.drafted in
    bound_made ps name f (old a.spot) a.draft (d.1 ∙ ap config.Got d.2)

pub bind_is_lawful : (name : List ℕ) (f : ℕ) → IsLawful (bind_rule name f)
bind_is_lawful name f =
    let rule = λ (t : Target). bind_config t.unit.procedures name f in
    field_rules_are_lawful rule
    (λ t versions. bind_config_refines t.unit.fields (length t.unit.memories) t.unit.procedures name f)
    (λ a is.
    let d = is_bound name f a is in
    record {
      binders = ap binders d.is;
      fields = new_fields a rule is f d.bound.value (next (Call d.number d.bound.args) end) refl d.is;
    })

pub bind_is_carrying : (name : List ℕ) (f : ℕ) → IsCarrying (bind_rule name f)
bind_is_carrying name f = record {
  carries = λ a is. (
      let d = is_bound name f a is in
      let call = next (Call d.number d.bound.args) end in
      subst (λ b. Carries (moved_to (Some 1)) b (or_pass (around a.spot) a.draft)) (sym d.was)
      (subst (λ b. Carries (moved_to (Some 1)) (next (Call d.number d.args) d.rest) b)
      (sym (ap (or_pass (around a.spot)) d.is
      ∙ or_pass_next (around a.spot) (Config f d.bound.value) call)) (
        record {
          was = record { around = Here d.rest; piece = next (Call d.number d.args) end };
          is = record { around = After (Config f d.bound.value) (Here end); piece = call };
          before = refl;
          after = refl;
          alike = refl;
        },
        tt,
      ))
      );
  apart = λ a is. refl;
}
