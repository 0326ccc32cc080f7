-- What binders make stays as it is while their names are in scope.
use Rattle.std.proofs.Common.{◌≡◌, ℕ, ℤ, pos, ◌+ℤ◌, ◌-ℤ◌, ◌==◌, int_le, int_lt, Bool, true, false, cond, not, ◌&&◌, ◌||◌, List, [], ◌∷◌, Option, Some, None, option_map, refl, sym, ap, ap₂, ◌∙◌, subst, eq-eqb}
use Rattle.std.specs.List.{list_all}
use Rattle.exo_tree.specs.Tree.{Kind, Index, Control, Coord, At, Span, Statement, Assign, Reduce, Config, Pass, If, For, Alloc, View, Call, Block}
use Rattle.exo_tree.specs.Context.{Context, Here, After, InLoop, InThen, InElse, fill}
use Rattle.exo_meaning.specs.Value.{Undefined}
use Rattle.exo_meaning.specs.Scene.{Scene, Seen, Side, Point, Range, where_true, then_do, number, numbers, is_below, narrowed, window, whole, updated}
use Rattle.exo_meaning.specs.State.{State, on_scene, with_buffer, with_contents, with_control, with_view}
use Rattle.exo_meaning.specs.Calls.{Callee, all_positive}
use Rattle.exo_meaning.specs.Run.{World, run, step, turns_of, tensor, roots_after}
use Rattle.exo_meaning.specs.Unseen.{in_control, in_controls, in_condition, in_coords}
use Rattle.exo_meaning.specs.Units.{ControlName, Scope, plainly, with_fields, with_name, has_rank, sort_in, is_control, are_controls, is_condition, is_coord, is_window, is_new, is_empty, is_short, is_block, is_statement, scope_after, scope_of}
use Rattle.exo_meaning.proofs.Frame.{or_parts, updated_other}
use Rattle.meaning_laws.specs.Context.{ComesTo}
use Rattle.meaning_laws.specs.Sound.{IsUnbound, IsSameName, binds}
use Rattle.meaning_laws.specs.Scoped.{is_not, is_param, is_scoped, step_is_scoped}
use Rattle.meaning_laws.specs.Made.{IsMade, AreMade, MadeLaw}
use Rattle.meaning_laws.proofs.Parts.{some_injective, then_gives}
use Rattle.meaning_laws.proofs.Names.{if_gives, name_on, Others, step_names, come_to_turn_names, come_names}
use Rattle.meaning_laws.proofs.Copies.{unbound_on}
use Rattle.meaning_laws.proofs.Substitute.{and_parts, plain_same}
use Rattle.meaning_laws.proofs.Scoped.{not_true, not_false, control_open, binders_new, way_new}
use Rattle.meaning_laws.proofs.PathOrder.{either_left, either_right}
use Rattle.meaning_laws.proofs.WellFormed.{plain_of, well_scoped}
use Rattle.meaning_laws.proofs.KnownFields.{where_gives}

updated_same : {A : Type 0} (f : ℕ → A) (k : ℕ) (v : A) → updated f k v k ≡ v
updated_same f k v = ap (λ t. cond t v (f k)) (eq-eqb k k refl)

-- ---- numbers over names that stay

module _ (fields : ℕ → Option Kind) (scope : Scope) (bound : ℕ → Bool) (s u : Scene) (same : (x : ℕ) → bound x ≡ true → s.control x ≡ u.control x) where
  number_stays : (e : Control) → in_control (is_not bound) e ≡ false → is_control fields plainly scope e ≡ true → number s e ≡ number u e
  number_stays e h k = plain_same e s u (plain_of fields scope e k) (λ x j. same x (not_false (bound x) (control_open (is_not bound) x e h j)))

  numbers_stay : (es : List Control) → in_controls (is_not bound) es ≡ false → are_controls fields plainly scope es ≡ true → numbers s es ≡ numbers u es
  numbers_stay [] h k = refl
  numbers_stay (e ∷ es) h k =
      let p = or_parts (in_control (is_not bound) e) (in_controls (is_not bound) es) h in
      let q = and_parts (is_control fields plainly scope e) (are_controls fields plainly scope es) k in
      ap₂ (λ n ns. n ∷ ns) (number_stays e p.0 q.0) (numbers_stay es p.1 q.1)

  narrowed_stays : (sides : List Side) (cs : List Coord) → in_coords (is_not bound) cs ≡ false → list_all (is_coord fields scope) cs ≡ true → narrowed s sides cs ≡ narrowed u sides cs
  narrowed_stays [] [] h k = refl
  narrowed_stays [] (c ∷ cs) h k = refl
  narrowed_stays (Point p ∷ sides) cs h k = ap (option_map (λ rest. Point p ∷ rest)) (narrowed_stays sides cs h k)
  narrowed_stays (Range lo n ∷ sides) [] h k = refl
  narrowed_stays (Range lo n ∷ sides) (At a ∷ cs) h k =
      let p = or_parts (in_control (is_not bound) a) (in_coords (is_not bound) cs) h in
      let q = and_parts (is_control fields plainly scope a) (list_all (is_coord fields scope) cs) k in
      ap₂ (λ i o. where_true (is_below i n) (option_map (λ rest. Point (lo +ℤ i) ∷ rest) o)) (number_stays a p.0 q.0) (narrowed_stays sides cs p.1 q.1)
  narrowed_stays (Range lo n ∷ sides) (Span a b ∷ cs) h k =
      let p = or_parts (in_control (is_not bound) a) (in_control (is_not bound) b || in_coords (is_not bound) cs) h in
      let r = or_parts (in_control (is_not bound) b) (in_coords (is_not bound) cs) p.1 in
      let q = and_parts (is_control fields plainly scope a && is_control fields plainly scope b) (list_all (is_coord fields scope) cs) k in
      let w = and_parts (is_control fields plainly scope a) (is_control fields plainly scope b) q.0 in
      spans (number_stays a p.0 w.0) (number_stays b r.0 w.1) (narrowed_stays sides cs r.1 q.1)
    where
      spanned : ℤ → ℤ → Option (List Side) → Option (List Side)
      spanned i j o = where_true (int_le (pos 0) i && int_lt i j && int_le j n) (option_map (λ rest. Range (lo +ℤ i) (j -ℤ i) ∷ rest) o)

      spans : {i j k l : ℤ} {o r : Option (List Side)} → i ≡ k → j ≡ l → o ≡ r → spanned i j o ≡ spanned k l r
      spans {i} {j} {k} {l} {o} {r} e f g = ap (λ z. spanned z j o) e ∙ ap (λ z. spanned k z o) f ∙ ap (spanned k l) g

-- ---- what one statement makes

module _ (world : World) (fields : ℕ → Option Kind) (memories : ℕ) (callees : ℕ → Option Callee) where
  made_here : (a : Statement) (bound : ℕ → Bool) (scope : Scope) (root : ℕ → ℕ) (s t u : State) → step_is_scoped bound a ≡ true → is_statement fields memories callees scope root a ≡ true → step world a s ≡ Some t → ((x : ℕ) → (binds a x || bound x) ≡ true → IsSameName x t u) → IsMade u.scene a
  made_here (Assign x is d) bound scope root s t u scoped keeps e later = tt
  made_here (Reduce x is d) bound scope root s t u scoped keeps e later = tt
  made_here (Config f a) bound scope root s t u scoped keeps e later = tt
  made_here Pass bound scope root s t u scoped keeps e later = tt
  made_here (If c a b) bound scope root s t u scoped keeps e later = tt
  made_here (For i lo hi b) bound scope root s t u scoped keeps e later = tt
  made_here (Alloc x cell dims memory) bound scope root s t u scoped keeps e later =
      let shape = tensor cell (numbers s.scene dims) in
      let is_t = some_injective (with_contents x.id (λ at. Undefined) (on_scene (with_buffer x.id shape) s)) t (where_gives (all_positive (numbers s.scene dims)) (Some (with_contents x.id (λ at. Undefined) (on_scene (with_buffer x.id shape) s))) t e) in
      let own = later x.id (either_left (x.id == x.id) (bound x.id) (eq-eqb x.id x.id refl)) in
      let names = if_gives (Others (binds (Alloc x cell dims memory)) s) (step world (Alloc x cell dims memory) s) t (step_names world (Alloc x cell dims memory) s) e in
      let same : (y : ℕ) → bound y ≡ true → s.scene.control y ≡ u.scene.control y = λ y k. (names y (binders_new bound (Alloc x cell dims memory) y scoped k)).control ∙ (later y (either_right (y == x.id) (bound y) k)).control in
      let is_shape = ap (tensor cell) (numbers_stay fields scope bound s.scene u.scene same dims (not_true (in_controls (is_not bound) dims) (and_parts (not (bound x.id)) (not (in_controls (is_not bound) dims)) scoped).1) (and_parts (are_controls fields plainly scope dims) _ (and_parts (is_new scope x) _ keeps).1).0) in (
        sym own.buffers ∙ ap (λ (z : State). z.scene.buffers x.id) (sym is_t) ∙ updated_same s.scene.buffers x.id (Some shape) ∙ ap Some is_shape,
        sym own.views ∙ ap (λ (z : State). z.scene.views x.id) (sym is_t) ∙ updated_same s.scene.views x.id (Some (record { buffer = x.id; sides = whole (numbers s.scene dims) })) ∙ ap (λ z. Some (record { buffer = x.id; sides = whole z.dims })) is_shape,
      )
  made_here (View w x coords) bound scope root s t u scoped keeps e later =
      let seen = then_gives (window s.scene x coords) (λ seen. Some (on_scene (with_view w.id seen) s)) t e in
      let is_t = some_injective (on_scene (with_view w.id seen.0) s) t seen.2 in
      let own = later w.id (either_left (w.id == w.id) (bound w.id) (eq-eqb w.id w.id refl)) in
      let names = if_gives (Others (binds (View w x coords)) s) (step world (View w x coords) s) t (step_names world (View w x coords) s) e in
      let bounds = and_parts (bound x) (not (in_coords (is_not bound) coords)) (and_parts (not (bound w.id)) (bound x && not (in_coords (is_not bound) coords)) scoped).1 in
      let stays : (y : ℕ) → bound y ≡ true → IsSameName y s u = λ y k. name_on y s t u (names y (binders_new bound (View w x coords) y scoped k)) (later y (either_right (y == w.id) (bound y) k)) in
      let coords_are = (and_parts (has_rank _ (sort_in scope x)) (list_all (is_coord fields scope) coords) (and_parts (is_window fields scope x coords) _ (and_parts (is_new scope w) _ keeps).1).0).1 in
      let narrow : (sides : List Side) → narrowed s.scene sides coords ≡ narrowed u.scene sides coords = λ sides. narrowed_stays fields scope bound s.scene u.scene (λ y k. (stays y k).control) sides coords (not_true (in_coords (is_not bound) coords) bounds.1) coords_are in (
        seen.0,
        sym (windows s.scene u.scene narrow (stays x bounds.0).views) ∙ seen.1,
        sym own.views ∙ ap (λ (z : State). z.scene.views w.id) (sym is_t) ∙ updated_same s.scene.views w.id (Some seen.0),
      )
    where
      windows : (a b : Scene) → ((sides : List Side) → narrowed a sides coords ≡ narrowed b sides coords) → a.views x ≡ b.views x → window a x coords ≡ window b x coords
      windows a b narrow views = ap (part a) views ∙ go (b.views x)
        where
          part : Scene → Option Seen → Option Seen
          part scene o = then_do o (λ seen. option_map (λ sides. record { buffer = seen.buffer; sides = sides }) (narrowed scene seen.sides coords))

          go : (o : Option Seen) → part a o ≡ part b o
          go None = refl
          go (Some seen) = ap (option_map (λ sides. record { buffer = seen.buffer; sides = sides })) (narrow seen.sides)
  made_here (Call k args) bound scope root s t u scoped keeps e later = tt

  -- ---- on the way

  module _ (old : Block) where
    made_on : (c : Context) (bound : ℕ → Bool) (scope : Scope) (root : ℕ → ℕ) (s u : State) → is_scoped bound (fill c old) ≡ true → is_block fields memories callees scope root (fill c old) ≡ true → ((x : ℕ) → bound x ≡ false → IsUnbound s x) → ComesTo world old c s u → AreMade u.scene c
    made_on (Here rest) bound scope root s u scoped keeps free z = tt
    made_on (After a c) bound scope root s u scoped keeps free z =
        let p = and_parts (step_is_scoped bound a) (is_scoped (λ y. binds a y || bound y) (fill c old)) scoped in
        let k = and_parts (is_statement fields memories callees scope root a) (is_block fields memories callees (scope_after a scope) (roots_after a root) (fill c old)) keeps in
        let names = if_gives (Others (binds a) s) (step world a s) z.0 (step_names world a s) z.1 in (
          made_here a bound scope root s z.0 u p.0 k.0 z.1 (λ x j. come_names world old c z.0 u z.2 x (way_new old c (λ y. binds a y || bound y) x p.1 j)),
          made_on c (λ y. binds a y || bound y) (scope_after a scope) (roots_after a root) z.0 u p.1 k.1 (λ x j. (let d = or_parts (binds a x) (bound x) j in unbound_on s z.0 x (names x d.0) (free x d.1))) z.2,
        )
    made_on (InLoop i lo hi c rest) bound scope root s u scoped keeps free z =
        let b = fill c old in
        let inside : ℕ → Bool = λ y. (y == i.id) || bound y in
        let p = and_parts (step_is_scoped bound (For i lo hi b)) _ scoped in
        let q = and_parts (not (bound i.id)) (not (in_control (is_not bound) lo || in_control (is_not bound) hi) && is_scoped inside b) p.0 in
        let r = and_parts (not (in_control (is_not bound) lo || in_control (is_not bound) hi)) (is_scoped inside b) q.1 in
        let o = and_parts (is_statement fields memories callees scope root (For i lo hi b)) _ keeps in
        let k = and_parts (is_control fields plainly scope lo && is_control fields plainly scope hi) _ (and_parts (is_new scope i) _ o.0).1 in
        let w = and_parts (not (is_empty b) && is_short b) (is_block fields memories callees (with_name scope i (ControlName Index)) root b) k.1 in
        let names = come_to_turn_names i.id (run world b) (turns_of s.scene lo hi) s z.0 z.1 z.2 in
        let t = on_scene (with_control i.id z.0) z.1 in
        let own = free i.id (not_true (bound i.id) q.0) in (
          sym (come_names world old c t u z.3 i.id (way_new old c inside i.id r.1 (either_left (i.id == i.id) (bound i.id) (eq-eqb i.id i.id refl)))).views ∙ (unbound_on s z.1 i.id (names i.id) own).views,
          made_on c inside (with_name scope i (ControlName Index)) root t u r.1 w.1 (λ x j. (let d = or_parts (x == i.id) (bound x) j in let v = unbound_on s z.1 x (names x) (free x d.1) in record { control = updated_other z.1.scene.control i.id z.0 x d.0 ∙ v.control; buffers = v.buffers; views = v.views })) z.3,
        )
    made_on (InThen test c other rest) bound scope root s u scoped keeps free z =
        let b = fill c old in
        let p = and_parts (step_is_scoped bound (If test b other)) _ scoped in
        let q = and_parts (not (in_condition (is_not bound) test)) (is_scoped bound b && is_scoped bound other) p.0 in
        let o = and_parts (is_statement fields memories callees scope root (If test b other)) _ keeps in
        let k = and_parts (not (is_empty b) && (is_short b && is_short other)) _ (and_parts (is_condition fields with_fields scope test) _ o.0).1 in
        made_on c bound scope root s u (and_parts (is_scoped bound b) (is_scoped bound other) q.1).0 (and_parts (is_block fields memories callees scope root b) _ k.1).0 free z.1
    made_on (InElse test other c rest) bound scope root s u scoped keeps free z =
        let b = fill c old in
        let p = and_parts (step_is_scoped bound (If test other b)) _ scoped in
        let q = and_parts (not (in_condition (is_not bound) test)) (is_scoped bound other && is_scoped bound b) p.0 in
        let o = and_parts (is_statement fields memories callees scope root (If test other b)) _ keeps in
        let k = and_parts (not (is_empty other) && (is_short other && is_short b)) _ (and_parts (is_condition fields with_fields scope test) _ o.0).1 in
        made_on c bound scope root s u (and_parts (is_scoped bound other) (is_scoped bound b) q.1).1 (and_parts (is_block fields memories callees scope root other) _ k.1).1 free z.1

pub made_law : MadeLaw
made_law fields memories callees world p c old s u keeps was good come =
    let scoped = subst (λ b. is_scoped (is_param p) b ≡ true) was (well_scoped fields memories callees p keeps).0 in
    record {
      params = λ x k. come_names world old c s u come x (way_new old c (is_param p) x scoped k);
      made = made_on world fields memories callees old c (is_param p) (scope_of [] p.params) (λ x. x) s u scoped (subst (λ b. is_block fields memories callees (scope_of [] p.params) (λ x. x) b ≡ true) was keeps.body) (λ x k. (let n = good.no_others x k in record { control = n.0; buffers = n.1; views = n.2 })) come;
    }
