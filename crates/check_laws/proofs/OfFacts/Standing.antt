-- In each state that a run comes to, the names in scope are made as their roots say.
use Rattle.std.proofs.Common.{◌≡◌, ℕ, ℤ, pos, ◌==◌, Bool, true, false, cond, not, ◌&&◌, ◌||◌, List, [], ◌∷◌, Option, Some, None, option_map, refl, sym, ap, ◌∙◌, subst, true≢false, eqb-true}
use Rattle.exo_tree.specs.Tree.{Binder, Kind, Index, Control, Statement, Assign, Reduce, Config, Pass, If, For, Alloc, View, Call, Block, Param, ParamKind, ControlParam, TensorParam, WindowParam}
use Rattle.exo_tree.specs.Context.{Context, Here, After, InLoop, InThen, InElse, fill}
use Rattle.exo_meaning.specs.Scene.{Seen, Scene, numbers, narrowed, whole, then_do}
use Rattle.exo_meaning.specs.Calls.{Callee}
use Rattle.exo_meaning.specs.Run.{tensor, roots_after, row_major}
use Rattle.exo_meaning.specs.Inputs.{AreArguments, IsArgument, is_buffer_of}
use Rattle.exo_meaning.specs.Unseen.{in_control, in_condition, in_coords}
use Rattle.exo_meaning.specs.Units.{Sort, ControlName, Scope, sort_in, with_name, is_number, plainly, with_fields, is_control, are_controls, is_condition, is_new, is_empty, is_short, is_block, is_statement, is_param_kind, are_params, param_sort, scope_after}
use Rattle.meaning_laws.specs.Sound.{binds, on_way}
use Rattle.meaning_laws.specs.Scoped.{is_not, is_scoped, step_is_scoped}
use Rattle.meaning_laws.specs.Made as made
use Rattle.affine_forms.specs.Forms.{Allowed}
use Rattle.affine_places.specs.Roots.{Dense, Strided, Rooted, Roots, seen_through, spanned}
use Rattle.affine_places.specs.Laws.{ranges, IsMade}
use Rattle.check_laws.proofs.OfFacts.Truths.{parts, one_of, on_left, on_right, self, none_some}
use Rattle.check_laws.proofs.OfFacts.Affine.{Allows, same_numbers, all_are_affine}
use Rattle.check_laws.proofs.OfFacts.Rooted.{Agrees as TableAgrees, StepAgrees, KindAgrees, ParamsAgree}
use Rattle.check_laws.proofs.OfFacts.Sides.{map_gives, ranges_whole, ranges_narrowed}

turned : (p q r : Bool) → ((p || q) || r) ≡ true → (q || (p || r)) ≡ true
turned true true r h = refl
turned true false r h = refl
turned false q r h = h

back : (p q r : Bool) → (q || (p || r)) ≡ true → ((p || q) || r) ≡ true
back true true r h = refl
back true false r h = h
back false q r h = h

-- ---- names in scope

abbrev pub has_sort : Option Sort → Bool
has_sort None = false
has_sort (Some sort) = true

pub number_has_sort : (o : Option Sort) → is_number o ≡ true → has_sort o ≡ true
number_has_sort None h = h
number_has_sort (Some sort) h = refl

-- all names in scope are in the set
abbrev pub Names : (ℕ → Bool) → Scope → Type 0
Names bound scope = (x : ℕ) → has_sort (sort_in scope x) ≡ true → bound x ≡ true

pub names_more : (bound : ℕ → Bool) (scope : Scope) (x : Binder) (sort : Sort) → Names bound scope → Names (λ y. (y == x.id) || bound y) (with_name scope x sort)
names_more bound scope x sort h y = go (y == x.id)
  where
    go : (t : Bool) → has_sort (cond t (Some sort) (sort_in scope y)) ≡ true → (t || bound y) ≡ true
    go true k = refl
    go false k = h y k

pub names_after : (a : Statement) (bound : ℕ → Bool) (scope : Scope) → Names bound scope → Names (λ y. binds a y || bound y) (scope_after a scope)
names_after (Assign x is e) bound scope h = h
names_after (Reduce x is e) bound scope h = h
names_after (Config f a) bound scope h = h
names_after Pass bound scope h = h
names_after (If c a b) bound scope h = h
names_after (For i lo hi b) bound scope h = h
names_after (Alloc x cell dims memory) bound scope h = names_more bound scope x _ h
names_after (View w x coords) bound scope h = names_more bound scope w _ h
names_after (Call k args) bound scope h = h

-- ---- what a name stands for

-- a scene of control values alone
abbrev pub only_values : (ℕ → ℤ) → Scene
only_values values = record { control = values; buffers = λ b. None; views = λ x. None; fields = λ f. pos 0 }

-- the extents of its root are those of the values of the names in scope, and a root with given strides is as it was at first
pub record Stands (first : Scene) (bound : ℕ → Bool) (u : Scene) (r : Rooted) (seen : Seen) : Type 0 where
  pub made : IsMade u r seen
  pub extents : (values : ℕ → ℤ) → ((y : ℕ) → bound y ≡ true → values y ≡ u.control y) → (es : List Control) → r.layout ≡ Dense es → numbers (only_values values) es ≡ numbers u es
  pub given : r.layout ≡ Strided → u.buffers r.root ≡ first.buffers r.root

abbrev pub NameStands : Scene → (ℕ → Bool) → Scene → ℕ → Option Rooted → Type 0
NameStands first bound u x None = u.views x ≡ None
NameStands first bound u x (Some r) = (seen : Seen) × (u.views x ≡ Some seen) × Stands first bound u r seen

name_more : (first : Scene) (bound more : ℕ → Bool) (u : Scene) (x : ℕ) (o : Option Rooted) → ((y : ℕ) → bound y ≡ true → more y ≡ true) → NameStands first bound u x o → NameStands first more u x o
name_more first bound more u x None grows h = h
name_more first bound more u x (Some r) grows h = (h.0, h.1, record { made = h.2.made; extents = λ values same. h.2.extents values (λ y k. same y (grows y k)); given = h.2.given })

dense_is : (es fs : List Control) → Dense es ≡ Dense fs → es ≡ fs
dense_is es fs e = cc

not_strided : (es : List Control) → Dense es ≡ Strided → ⊥
not_strided es e = cc

not_dense : (es : List Control) → Strided ≡ Dense es → ⊥
not_dense es e = cc

-- variables of a set alone
abbrev pub over_names : (ℕ → Bool) → Allowed
over_names bound = record { variable = bound; field = λ f. false; stride = λ x k. false }

module _ (fields : ℕ → Option Kind) where
  pub plain_allows : (bound : ℕ → Bool) (scope : Scope) → Names bound scope → Allows fields plainly scope (over_names bound)
  plain_allows bound scope names = record { variables = λ x h. names x (number_has_sort (sort_in scope x) h); of_fields = λ f h. h; strides = λ x k h. h }

  extents_stay : (bound : ℕ → Bool) (scope : Scope) (s t : Scene) (es : List Control) → Names bound scope → are_controls fields plainly scope es ≡ true → ((y : ℕ) → bound y ≡ true → s.control y ≡ t.control y) → numbers s es ≡ numbers t es
  extents_stay bound scope s t es names h same = same_numbers (over_names bound) s t (record { control = same; fields = λ f k. absurd (true≢false (sym k)); strides = λ x j k. absurd (true≢false (sym k)) }) es (all_are_affine fields plainly scope (over_names bound) (plain_allows bound scope names) es h)

  -- ---- on the way to a place

  module _ (memories : ℕ) (callees : ℕ → Option Callee) (table : Roots) (first u : Scene) where
    step_stands : (a : Statement) (bound : ℕ → Bool) (scope : Scope) (root : ℕ → ℕ) → Names bound scope → is_statement fields memories callees scope root a ≡ true → step_is_scoped bound a ≡ true → StepAgrees table a → made.IsMade u a → ((x : ℕ) → bound x ≡ true → NameStands first bound u x (table x)) → (x : ℕ) → binds a x ≡ true → NameStands first (λ y. binds a y || bound y) u x (table x)
    step_stands (Assign y is e) bound scope root names keeps scoped agrees made stand x k = absurd (true≢false (sym k))
    step_stands (Reduce y is e) bound scope root names keeps scoped agrees made stand x k = absurd (true≢false (sym k))
    step_stands (Config f a) bound scope root names keeps scoped agrees made stand x k = absurd (true≢false (sym k))
    step_stands Pass bound scope root names keeps scoped agrees made stand x k = absurd (true≢false (sym k))
    step_stands (If c a b) bound scope root names keeps scoped agrees made stand x k = absurd (true≢false (sym k))
    step_stands (For i lo hi b) bound scope root names keeps scoped agrees made stand x k = absurd (true≢false (sym k))
    step_stands (Alloc y cell es memory) bound scope root names keeps scoped agrees made stand x k =
        let more : ℕ → Bool = λ z. (z == y.id) || bound z in
        let plain = (parts (are_controls fields plainly scope es) _ (parts (is_new scope y) _ keeps).1).0 in
        subst (λ z. NameStands first more u z (table z)) (sym (eqb-true x y.id k)) (subst (λ o. NameStands first more u y.id o) (sym agrees) (
          record { buffer = y.id; sides = whole (numbers u es) },
          made.1,
          record {
            made = record { root = refl; dims = ranges_whole u es; shape = tensor cell (numbers u es); there = made.0; declared = (refl, refl) };
            extents = λ values same fs e. subst (λ gs. numbers (only_values values) gs ≡ numbers u gs) (dense_is es fs e) (extents_stay bound scope (only_values values) u es names plain (λ z j. same z (on_right (z == y.id) (bound z) j)));
            given = λ e. absurd (not_strided es e);
          },
        ))
    step_stands (View w y coords) bound scope root names keeps scoped agrees made stand x k =
        let more : ℕ → Bool = λ z. (z == w.id) || bound z in
        let there = (parts (bound y) (not (in_coords (is_not bound) coords)) (parts (not (bound w.id)) (bound y && not (in_coords (is_not bound) coords)) scoped).1).0 in
        subst (λ z. NameStands first more u z (table z)) (sym (eqb-true x w.id k)) (subst (λ o. NameStands first more u w.id o) (sym agrees) (go (table y) (name_more first bound more u y (table y) (λ z j. on_right (z == w.id) (bound z) j) (stand y there))))
      where
        part : Option Seen → Option Seen
        part o = then_do o (λ seen. option_map (λ sides. record { buffer = seen.buffer; sides = sides }) (narrowed u seen.sides coords))

        go : (o : Option Rooted) → NameStands first (λ z. (z == w.id) || bound z) u y o → NameStands first (λ z. (z == w.id) || bound z) u w.id (option_map (seen_through coords) o)
        go None h = absurd (none_some (sym (ap part h) ∙ made.1))
        go (Some r) h =
            let m = map_gives (narrowed u h.0.sides coords) (λ sides. record { buffer = h.0.buffer; sides = sides }) made.0 (sym (ap part h.1) ∙ made.1) in (
              made.0,
              made.2,
              record {
                made = record { root = ap (λ (z : Seen). z.buffer) (sym m.2) ∙ h.2.made.root; dims = ap (λ (z : Seen). ranges z.sides) (sym m.2) ∙ ranges_narrowed u h.0.sides coords m.0 m.1 ∙ ap (spanned coords) h.2.made.dims; shape = h.2.made.shape; there = h.2.made.there; declared = h.2.made.declared };
                extents = h.2.extents;
                given = h.2.given;
              },
            )
    step_stands (Call n args) bound scope root names keeps scoped agrees made stand x k = absurd (true≢false (sym k))

    module _ (old : Block) where
      pub way_stands : (c : Context) (bound : ℕ → Bool) (scope : Scope) (root : ℕ → ℕ) → Names bound scope → is_block fields memories callees scope root (fill c old) ≡ true → is_scoped bound (fill c old) ≡ true → TableAgrees table (fill c old) → made.AreMade u c → ((x : ℕ) → bound x ≡ true → NameStands first bound u x (table x)) → (x : ℕ) → (bound x || on_way c x) ≡ true → NameStands first (λ y. bound y || on_way c y) u x (table x)
      way_stands (Here rest) bound scope root names keeps scoped agrees made stand x k = name_more first bound (λ y. bound y || false) u x (table x) (λ y j. on_left (bound y) false j) (stand x (one_of (bound x) false k (λ j. j) (λ j. absurd (true≢false (sym j)))))
      way_stands (After a c) bound scope root names keeps scoped agrees made stand x k =
          let s = parts (step_is_scoped bound a) (is_scoped (λ y. binds a y || bound y) (fill c old)) scoped in
          let q = parts (is_statement fields memories callees scope root a) (is_block fields memories callees (scope_after a scope) (roots_after a root) (fill c old)) keeps in
          let more : ℕ → Bool = λ y. binds a y || bound y in
          name_more first (λ y. more y || on_way c y) (λ y. bound y || (binds a y || on_way c y)) u x (table x) (λ y j. turned (binds a y) (bound y) (on_way c y) j)
          (way_stands c more (scope_after a scope) (roots_after a root) (names_after a bound scope names) q.1 s.1 agrees.1 made.1
          (λ y j. one_of (binds a y) (bound y) j (step_stands a bound scope root names q.0 s.0 agrees.0 made.0 stand y) (λ i. name_more first bound more u y (table y) (λ z l. on_right (binds a z) (bound z) l) (stand y i)))
          x (back (binds a x) (bound x) (on_way c x) k))
      way_stands (InLoop i lo hi c rest) bound scope root names keeps scoped agrees made stand x k =
          let b = fill c old in
          let more : ℕ → Bool = λ y. (y == i.id) || bound y in
          let s = parts (not (in_control (is_not bound) lo || in_control (is_not bound) hi)) (is_scoped more b) (parts (not (bound i.id)) (not (in_control (is_not bound) lo || in_control (is_not bound) hi) && is_scoped more b) (parts (step_is_scoped bound (For i lo hi b)) (is_scoped bound rest) scoped).0).1 in
          let o = parts (is_statement fields memories callees scope root (For i lo hi b)) (is_block fields memories callees scope root rest) keeps in
          let q = parts (is_control fields plainly scope lo && is_control fields plainly scope hi) _ (parts (is_new scope i) _ o.0).1 in
          let w = parts (not (is_empty b) && is_short b) (is_block fields memories callees (with_name scope i (ControlName Index)) root b) q.1 in
          name_more first (λ y. more y || on_way c y) (λ y. bound y || ((y == i.id) || on_way c y)) u x (table x) (λ y j. turned (y == i.id) (bound y) (on_way c y) j)
          (way_stands c more (with_name scope i (ControlName Index)) root (names_more bound scope i _ names) w.1 s.1 agrees.0.1 made.1
          (λ y j. one_of (y == i.id) (bound y) j (λ e. subst (λ z. NameStands first more u z (table z)) (sym (eqb-true y i.id e)) (subst (λ o. NameStands first more u i.id o) (sym agrees.0.0) made.0)) (λ l. name_more first bound more u y (table y) (λ z m. on_right (z == i.id) (bound z) m) (stand y l)))
          x (back (x == i.id) (bound x) (on_way c x) k))
      way_stands (InThen test c other rest) bound scope root names keeps scoped agrees made stand x k =
          let b = fill c old in
          let s = parts (is_scoped bound b) (is_scoped bound other) (parts (not (in_condition (is_not bound) test)) (is_scoped bound b && is_scoped bound other) (parts (step_is_scoped bound (If test b other)) (is_scoped bound rest) scoped).0).1 in
          let o = parts (is_statement fields memories callees scope root (If test b other)) (is_block fields memories callees scope root rest) keeps in
          let q = parts (not (is_empty b) && (is_short b && is_short other)) _ (parts (is_condition fields with_fields scope test) _ o.0).1 in
          way_stands c bound scope root names (parts (is_block fields memories callees scope root b) (is_block fields memories callees scope root other) q.1).0 s.0 agrees.0.0 made stand x k
      way_stands (InElse test other c rest) bound scope root names keeps scoped agrees made stand x k =
          let b = fill c old in
          let s = parts (is_scoped bound other) (is_scoped bound b) (parts (not (in_condition (is_not bound) test)) (is_scoped bound other && is_scoped bound b) (parts (step_is_scoped bound (If test other b)) (is_scoped bound rest) scoped).0).1 in
          let o = parts (is_statement fields memories callees scope root (If test other b)) (is_block fields memories callees scope root rest) keeps in
          let q = parts (not (is_empty other) && (is_short other && is_short b)) _ (parts (is_condition fields with_fields scope test) _ o.0).1 in
          way_stands c bound scope root names (parts (is_block fields memories callees scope root other) (is_block fields memories callees scope root b) q.1).1 s.1 agrees.0.1 made stand x k

    -- ---- parameters

    module _ (bound : ℕ → Bool) where
      kind_stands : (x : ℕ) (kind : ParamKind) (scope : Scope) → Names bound scope → is_param_kind fields memories scope kind ≡ true → KindAgrees table x kind → IsArgument first x kind → ((y : ℕ) → bound y ≡ true → first.control y ≡ u.control y) → first.buffers x ≡ u.buffers x → first.views x ≡ u.views x → NameStands first bound u x (table x)
      kind_stands x (ControlParam kind) scope names keeps agrees argument same buffers views = subst (λ o. NameStands first bound u x o) (sym agrees) (sym views ∙ argument.2)
      kind_stands x (TensorParam cell es memory) scope names keeps agrees argument same buffers views =
          let plain = (parts (are_controls fields plainly scope es) _ keeps).0 in
          subst (λ o. NameStands first bound u x o) (sym agrees) (
            record { buffer = x; sides = whole (numbers first es) },
            sym views ∙ argument.1,
            record {
              made = record { root = refl; dims = ranges_whole first es; shape = record { cell = cell; dims = numbers first es; strides = row_major (numbers first es) }; there = sym buffers ∙ argument.0; declared = (extents_stay bound scope first u es names plain same, refl) };
              extents = λ values there fs e. subst (λ gs. numbers (only_values values) gs ≡ numbers u gs) (dense_is es fs e) (extents_stay bound scope (only_values values) u es names plain there);
              given = λ e. absurd (not_strided es e);
            },
          )
      kind_stands x (WindowParam cell es memory) scope names keeps agrees argument same buffers views =
          subst (λ o. NameStands first bound u x o) (sym agrees) (
            record { buffer = x; sides = whole (numbers first es) },
            sym views ∙ argument.1.1,
            record {
              made = record { root = refl; dims = ranges_whole first es; shape = record { cell = cell; dims = numbers first es; strides = argument.0 }; there = sym buffers ∙ argument.1.0; declared = tt };
              extents = λ values there fs e. absurd (not_dense fs e);
              given = λ e. sym buffers;
            },
          )

      pub params_stand : (ps : List Param) (scope : Scope) → Names bound scope → ((x : ℕ) → is_buffer_of x ps ≡ true → bound x ≡ true) → are_params fields memories scope ps ≡ true → ParamsAgree table ps → AreArguments first ps → ((y : ℕ) → bound y ≡ true → first.control y ≡ u.control y) → ((x : ℕ) → is_buffer_of x ps ≡ true → (first.buffers x ≡ u.buffers x) × (first.views x ≡ u.views x)) → (x : ℕ) → is_buffer_of x ps ≡ true → NameStands first bound u x (table x)
      params_stand [] scope names all keeps agrees arguments same names_same x k = absurd (true≢false (sym k))
      params_stand (p ∷ ps) scope names all keeps agrees arguments same names_same x k =
          let id = p.binder.id in
          let q = parts (is_param_kind fields memories scope p.kind) (are_params fields memories (with_name scope p.binder (param_sort p.kind)) ps) (parts (is_new scope p.binder) _ keeps).1 in
          let own = on_left (id == id) (is_buffer_of id ps) (self id) in
          one_of (x == id) (is_buffer_of x ps) k
          (λ e. subst (λ z. NameStands first bound u z (table z)) (sym (eqb-true x id e)) (kind_stands id p.kind scope names q.0 agrees.0 arguments.0 same (names_same id own).0 (names_same id own).1))
          (params_stand ps (with_name scope p.binder (param_sort p.kind)) (more_names (all id own)) (λ y j. all y (on_right (y == id) (is_buffer_of y ps) j)) q.1 agrees.1 arguments.1 same (λ y j. names_same y (on_right (y == id) (is_buffer_of y ps) j)) x)
        where
          more_names : bound p.binder.id ≡ true → Names bound (with_name scope p.binder (param_sort p.kind))
          more_names own y = go (y == p.binder.id) refl
            where
              go : (t : Bool) → (y == p.binder.id) ≡ t → has_sort (cond t (Some (param_sort p.kind)) (sort_in scope y)) ≡ true → bound y ≡ true
              go true e k = ap bound (eqb-true y p.binder.id e) ∙ own
              go false e k = names y k
