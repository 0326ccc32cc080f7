-- What is known of an expression that is found to keep the rules at a place.
use Rattle.std.proofs.Common.{◌≡◌, ℕ, Bool, true, false, ◌==◌, ◌||◌, ◌&&◌, true≢false, cond}
use Rattle.std.proofs.Common.{List, [], ◌∷◌, length, Option, Some, None, refl, sym, ap, ap₂, ◌∙◌}
use Rattle.exo_tree.specs.Tree.{Kind, Index, Binder, Control, Lit, Var, Field, StrideOf, Neg, Add, Sub}
use Rattle.exo_tree.specs.Tree.{Mul, Div, Mod, Statement, Assign, Reduce, Config, Pass, If, For, Alloc}
use Rattle.exo_tree.specs.Tree.{View, Call, Param, Procedure}
use Rattle.exo_tree.specs.Context.{Context, Here, After, InLoop, InThen, InElse}
use Rattle.exo_meaning.specs.Inputs.{is_buffer_of}
use Rattle.exo_meaning.specs.Unseen.{in_control as uses}
use Rattle.exo_meaning.specs.Units.{Sort, ControlName, BufferName, Scope, sort_in, with_name, param_sort}
use Rattle.exo_meaning.specs.Units.{scope_of, plainly, is_of_literals, is_number, has_dimension, spans, view_sort}
use Rattle.exo_meaning.proofs.Frame.{or_parts}
use Rattle.meaning_laws.specs.Copies.{IsFree}
use Rattle.meaning_laws.specs.Sound.{binds, on_way}
use Rattle.meaning_laws.specs.Substitute.{is_plain}
use Rattle.tree_findings.specs.declared.findings.Findings.{Findings}
use Rattle.tree_findings.specs.Classes.{both, rule, use_of}
use Rattle.tree_findings.specs.Findings.{found_in_control, found_in_divisor, scope_behind}
use Rattle.tree_findings.specs.Findings.{with_view}
use Rattle.step_rules.specs.Lawful.{found_scope_at}
use Rattle.step_rules.proofs.Formed.{HasShape, shape_parts}

-- ---- expressions

-- neither a field nor a stride stands in it, and it uses no name that is not in scope
pub record IsFormed (scope : Scope) (e : Control) : Type 0 where
  pub plain : is_plain e ≡ true
  pub used :
      (hidden : ℕ → Bool)
      → ((x : ℕ) → hidden x ≡ true → sort_in scope x ≡ None)
      → uses hidden e ≡ false

both_formed : (scope : Scope) (e a b : Control) → is_plain e ≡ (is_plain a && is_plain b)
    → ((hidden : ℕ → Bool) → uses hidden e ≡ (uses hidden a || uses hidden b))
    → IsFormed scope a → IsFormed scope b → IsFormed scope e
both_formed scope e a b p u f g = record {
  plain = p ∙ ap₂ ◌&&◌ f.plain g.plain;
  used = λ hidden h. u hidden ∙ ap₂ ◌||◌ (f.used hidden h) (g.used hidden h);
}

in_scope : (o : Option Sort) → HasShape (use_of is_number o) → o ≡ None → ⊥
in_scope None h e = absurd (true≢false (sym h))
in_scope (Some sort) h e = cc

name_used : (scope : Scope) (x : ℕ) → HasShape (use_of is_number (sort_in scope x))
    → (hidden : ℕ → Bool) → ((y : ℕ) → hidden y ≡ true → sort_in scope y ≡ None) → hidden x ≡ false
name_used scope x h hidden none = go (hidden x) refl
  where
    go : (t : Bool) → hidden x ≡ t → t ≡ false
    go true e = absurd (in_scope (sort_in scope x) h (none x e))
    go false e = refl

no_rule : (f : Findings) → HasShape (both (rule false) f) → ⊥
no_rule f h = true≢false (sym (shape_parts (rule false) f h).0)

pub formed : (fields : ℕ → Option Kind) (scope : Scope) (e : Control)
    → HasShape (found_in_control fields plainly scope e) → IsFormed scope e
formed fields scope (Lit n) h = record { plain = refl; used = λ hidden none. refl }
formed fields scope (Var x) h = record { plain = refl; used = name_used scope x h }
formed fields scope (Field f) h = absurd (true≢false (sym h))
formed fields scope (StrideOf x k) h = absurd (no_rule (use_of (has_dimension k) (sort_in scope x)) h)
formed fields scope (Neg a) h =
    let f = formed fields scope a h in record { plain = f.plain; used = f.used }
formed fields scope (Add a b) h =
    let p = shape_parts (found_in_control fields plainly scope a)
    (found_in_control fields plainly scope b) h in
    both_formed scope (Add a b) a b refl (λ hidden. refl) (formed fields scope a p.0)
    (formed fields scope b p.1)
formed fields scope (Sub a b) h =
    let p = shape_parts (found_in_control fields plainly scope a)
    (found_in_control fields plainly scope b) h in
    both_formed scope (Sub a b) a b refl (λ hidden. refl) (formed fields scope a p.0)
    (formed fields scope b p.1)
formed fields scope (Mul a b) h =
    let sides = both (found_in_control fields plainly scope a)
    (found_in_control fields plainly scope b) in
    let p = shape_parts (found_in_control fields plainly scope a)
    (found_in_control fields plainly scope b)
    (shape_parts sides (rule (is_of_literals a || is_of_literals b)) h).0 in
    both_formed scope (Mul a b) a b refl (λ hidden. refl) (formed fields scope a p.0)
    (formed fields scope b p.1)
formed fields scope (Div a c) h =
    let f = formed fields scope a
    (shape_parts (found_in_control fields plainly scope a) (found_in_divisor c) h).0 in
    record { plain = f.plain; used = f.used }
formed fields scope (Mod a c) h =
    let f = formed fields scope a
    (shape_parts (found_in_control fields plainly scope a) (found_in_divisor c) h).0 in
    record { plain = f.plain; used = f.used }

-- ---- free names are not in scope

other_name : (scope : Scope) (b : Binder) (sort : Sort) (x : ℕ) → (x == b.id) ≡ false
    → sort_in (with_name scope b sort) x ≡ sort_in scope x
other_name scope b sort x h = ap (λ t. cond t (Some sort) (sort_in scope x)) h

no_param_in_scope : (ps : List Param) (scope : Scope) (x : ℕ) → is_buffer_of x ps ≡ false
    → sort_in (scope_of scope ps) x ≡ sort_in scope x
no_param_in_scope [] scope x h = refl
no_param_in_scope (p ∷ ps) scope x h =
    let q = or_parts (x == p.binder.id) (is_buffer_of x ps) h in
    no_param_in_scope ps (with_name scope p.binder (param_sort p.kind)) x q.1
    ∙ other_name scope p.binder (param_sort p.kind) x q.0

view_behind : (scope : Scope) (w : Binder) (o : Option Sort) (rank x : ℕ) → (x == w.id) ≡ false
    → sort_in (with_view w o rank scope) x ≡ sort_in scope x
view_behind scope w None rank x h = refl
view_behind scope w (Some sort) rank x h = other_name scope w (view_sort (Some sort) rank) x h

behind_step : (a : Statement) (scope : Scope) (x : ℕ) → binds a x ≡ false
    → sort_in (scope_behind a scope) x ≡ sort_in scope x
behind_step (Assign y is e) scope x h = refl
behind_step (Reduce y is e) scope x h = refl
behind_step (Config f a) scope x h = refl
behind_step Pass scope x h = refl
behind_step (If c a b) scope x h = refl
behind_step (For i lo hi b) scope x h = refl
behind_step (Alloc y cell dims memory) scope x h =
    other_name scope y (BufferName cell (length dims) true) x h
behind_step (View w y coords) scope x h =
    view_behind scope w (sort_in scope y) (spans coords) x h
behind_step (Call k args) scope x h = refl

at_hole : (c : Context) (scope : Scope) (x : ℕ) → on_way c x ≡ false
    → sort_in (found_scope_at c scope) x ≡ sort_in scope x
at_hole (Here rest) scope x h = refl
at_hole (After a c) scope x h =
    let p = or_parts (binds a x) (on_way c x) h in
    at_hole c (scope_behind a scope) x p.1 ∙ behind_step a scope x p.0
at_hole (InLoop i lo hi c rest) scope x h =
    let p = or_parts (x == i.id) (on_way c x) h in
    at_hole c (with_name scope i (ControlName Index)) x p.1
    ∙ other_name scope i (ControlName Index) x p.0
at_hole (InThen t c other rest) scope x h = at_hole c scope x h
at_hole (InElse t other c rest) scope x h = at_hole c scope x h

pub free_not_in_scope : (p : Procedure) (c : Context) (x : ℕ) → IsFree p c x
    → sort_in (found_scope_at c (scope_of [] p.params)) x ≡ None
free_not_in_scope p c x free =
    at_hole c (scope_of [] p.params) x free.1 ∙ no_param_in_scope p.params [] x free.0
