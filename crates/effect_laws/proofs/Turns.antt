-- Turns of loops: what is known at a place is known there, and their numbers are within the bounds.
use Rattle.std.proofs.Common.{◌≡◌, ◌≤ℤ◌, ◌<ℤ◌, ℕ, zero, suc, ℤ, ◌==◌, true, false, true≢false, cond, ◌&&◌, List, [], ◌∷◌, ◌++◌, map, Some, None, refl, sym, ap, ◌∙◌, subst₂, slice_get}
use Rattle.std.specs.Prelude.{IsSome, is_some}
use Rattle.exo_tree.specs.Tree.{Index, Control, Program, Procedure}
use Rattle.exo_meaning.specs.Scene.{Scene, number}
use Rattle.exo_meaning.specs.State.{with_control}
use Rattle.exo_meaning.specs.Orders.{Each}
use Rattle.exo_meaning.specs.Units.{ControlName, Scope, sort_in, with_name, is_new, plainly, is_control, field_kind}
use Rattle.affine_forms.specs.Atoms.{Valuation, value}
use Rattle.affine_forms.specs.Laws.{NormalLaw}
use Rattle.check_laws.proofs.OfFacts.Truths.{parts, neither, none_some, some_injective, self}
use Rattle.check_laws.proofs.OfFacts.Affine.{same_number}
use Rattle.exo_effects.specs.Accesses.{plain_form}
use Rattle.exo_effects.specs.Orders.{Header, Turn, turn_of}
use Rattle.exo_effects.specs.Uses.{Inside}
use Rattle.effect_laws.specs.Covers.{names_in}
use Rattle.effect_laws.specs.Clear.{is_turn, IsWithin}
use Rattle.effect_laws.specs.Apart.{with_turns, AreTurns, scope_in, are_loops}
use Rattle.effect_laws.proofs.Forms.{bound_is_affine, value_is}
use Rattle.effect_laws.proofs.Known.{Now, name_further, now_inside}
use Rattle.effect_laws.proofs.Covers.{owns}

pub same_buffers : (hs : List Header) (ns : List ℤ) (scene : Scene) → (with_turns hs ns scene).buffers ≡ scene.buffers
same_buffers [] ns scene = refl
same_buffers (h ∷ hs) [] scene = refl
same_buffers (h ∷ hs) (n ∷ ns) scene = same_buffers hs ns (with_control h.binder.id n scene)

-- other variables keep their numbers
pub else_same : (hs : List Header) (ns : List ℤ) (scene : Scene) (y : ℕ) → is_turn (map turn_of hs) y ≡ false → (with_turns hs ns scene).control y ≡ scene.control y
else_same [] ns scene y e = refl
else_same (h ∷ hs) [] scene y e = refl
else_same (h ∷ hs) (n ∷ ns) scene y e =
    let p = neither (y == h.binder.id) (is_turn (map turn_of hs) y) e in
    else_same hs ns (with_control h.binder.id n scene) y p.1 ∙ ap (λ t. cond t n (scene.control y)) p.0

module _ (u : Program) (p : Procedure) where
  abbrev Keeps : Scope → Control → Type 0
  Keeps scope e = is_control (field_kind u.fields) plainly scope e ≡ true

  -- what the rules say of the first of some loops
  pub first_loop : (h : Header) (hs : List Header) (scope : Scope) → are_loops u p (h ∷ hs) scope ≡ true → (is_new scope h.binder ≡ true) × Keeps scope h.lo × Keeps scope h.hi × (are_loops u p hs (with_name scope h.binder (ControlName Index)) ≡ true)
  first_loop h hs scope e =
      let q = parts (is_new scope h.binder) _ e in
      let r = parts (is_control (field_kind u.fields) plainly scope h.lo && is_control (field_kind u.fields) plainly scope h.hi) (are_loops u p hs (with_name scope h.binder (ControlName Index))) q.1 in
      let s = parts (is_control (field_kind u.fields) plainly scope h.lo) (is_control (field_kind u.fields) plainly scope h.hi) r.0 in
      (q.0, s.0, s.1, r.1)

  -- names in scope keep their numbers
  pub names_stay : (hs : List Header) (ns : List ℤ) (scope : Scope) (scene : Scene) → are_loops u p hs scope ≡ true → (y : ℕ) → IsSome (sort_in scope y) → (with_turns hs ns scene).control y ≡ scene.control y
  names_stay [] ns scope scene e y k = refl
  names_stay (h ∷ hs) [] scope scene e y k = refl
  names_stay (h ∷ hs) (n ∷ ns) scope scene e y k =
      let q = first_loop h hs scope e in
      let f = name_further scope h.binder (ControlName Index) scene (with_control h.binder.id n scene) q.0 (λ z i. ap (λ t. cond t n (scene.control z)) i) in
      names_stay hs ns (with_name scope h.binder (ControlName Index)) (with_control h.binder.id n scene) q.3 y (f.grows y k) ∙ f.control y k

  -- ---- bounds

  module _ (normal : NormalLaw) where
    bound_value : (final : Scene) (scope : Scope) (scene : Scene) → ((y : ℕ) → IsSome (sort_in scope y) → final.control y ≡ scene.control y) → (e : Control) → Keeps scope e → (v : Valuation) → v.variable ≡ final.control → value v (plain_form e) ≡ number scene e
    bound_value final scope scene same e keeps v k =
        value_is normal scope v final (λ x. ap (λ f. f x) k) e (bound_is_affine (field_kind u.fields) scope e keeps)
        ∙ same_number (names_in scope) final scene (record { control = same; fields = λ f j. absurd (true≢false (sym j)); strides = λ x i j. absurd (true≢false (sym j)) }) e (bound_is_affine (field_kind u.fields) scope e keeps)

    pub turns_within : (hs : List Header) (ns : List ℤ) (scope : Scope) (scene : Scene) → are_loops u p hs scope ≡ true → AreTurns hs ns scene → Each (IsWithin (with_turns hs ns scene).control) (map turn_of hs)
    turns_within [] [] scope scene e t = tt
    turns_within [] (n ∷ ns) scope scene e t = absurd t
    turns_within (h ∷ hs) [] scope scene e t = absurd t
    turns_within (h ∷ hs) (n ∷ ns) scope scene e t =
        let q = first_loop h hs scope e in
        let inner = with_control h.binder.id n scene in
        let more = with_name scope h.binder (ControlName Index) in
        let final = with_turns hs ns inner in
        let f = name_further scope h.binder (ControlName Index) scene inner q.0 (λ z i. ap (λ b. cond b n (scene.control z)) i) in
        let stays : (y : ℕ) → IsSome (sort_in scope y) → final.control y ≡ scene.control y = λ y k. names_stay hs ns more inner q.3 y (f.grows y k) ∙ f.control y k in
        let own : final.control h.binder.id ≡ n = names_stay hs ns more inner q.3 h.binder.id (ap (λ b. is_some (cond b (Some (ControlName Index)) (sort_in scope h.binder.id))) (self h.binder.id)) ∙ ap (λ b. cond b n (scene.control h.binder.id)) (self h.binder.id) in (
          record {
            lower = λ v k. subst₂ (λ a b. a ≤ℤ b) (sym (bound_value final scope scene stays h.lo q.1 v k)) (sym own) t.0;
            upper = λ v k. subst₂ (λ a b. a <ℤ b) (sym own) (sym (bound_value final scope scene stays h.hi q.2 v k)) t.1.0;
          },
          turns_within hs ns more inner q.3 t.1.1,
        )

  -- ---- the number of each loop's variable

  pub nth_number : (hs : List Header) (ns : List ℤ) (scope : Scope) (scene : Scene) (k : ℕ) (t : Turn) → are_loops u p hs scope ≡ true → AreTurns hs ns scene → slice_get (map turn_of hs) k ≡ Some t → (n : ℤ) × (slice_get ns k ≡ Some n) × ((with_turns hs ns scene).control t.variable ≡ n)
  nth_number [] ns scope scene k t e turns i = absurd (none_some (nothing k i))
    where
      nothing : (k : ℕ) → slice_get [] k ≡ Some t → None ≡ Some t
      nothing k i = i
  nth_number (h ∷ hs) [] scope scene k t e turns i = absurd turns
  nth_number (h ∷ hs) (n ∷ ns) scope scene zero t e turns i =
      let q = first_loop h hs scope e in
      let inner = with_control h.binder.id n scene in
      let more = with_name scope h.binder (ControlName Index) in
      (n, refl, ap (λ (s : Turn). (with_turns hs ns inner).control s.variable) (sym (some_injective (turn_of h) t i)) ∙ names_stay hs ns more inner q.3 h.binder.id (ap (λ b. is_some (cond b (Some (ControlName Index)) (sort_in scope h.binder.id))) (self h.binder.id)) ∙ ap (λ b. cond b n (scene.control h.binder.id)) (self h.binder.id))
  nth_number (h ∷ hs) (n ∷ ns) scope scene (suc k) t e turns i =
      let q = first_loop h hs scope e in
      nth_number hs ns (with_name scope h.binder (ControlName Index)) (with_control h.binder.id n scene) k t q.3 turns.1.1 i

  -- ---- what is known

  abbrev pub inside_of : Inside → List Header → Inside
  inside_of at [] = at
  inside_of at (h ∷ hs) = inside_of (record { parts = at.parts; own = at.own ++ h.binder.id ∷ []; round = at.round ++ [] }) hs

  pub same_parts : (at : Inside) (hs : List Header) → (inside_of at hs).parts ≡ at.parts
  same_parts at [] = refl
  same_parts at (h ∷ hs) = same_parts (record { parts = at.parts; own = at.own ++ h.binder.id ∷ []; round = at.round ++ [] }) hs

  pub now_turned : (first : Scene) (at : Inside) (hs : List Header) (ns : List ℤ) (scope : Scope) (scene : Scene) → are_loops u p hs scope ≡ true → AreTurns hs ns scene → Now first at scope scene → Now first (inside_of at hs) (scope_in hs scope) (with_turns hs ns scene)
  now_turned first at [] ns scope scene e t now = now
  now_turned first at (h ∷ hs) [] scope scene e t now = absurd t
  now_turned first at (h ∷ hs) (n ∷ ns) scope scene e t now =
      let q = first_loop h hs scope e in
      now_turned first (record { parts = at.parts; own = at.own ++ h.binder.id ∷ []; round = at.round ++ [] }) hs ns (with_name scope h.binder (ControlName Index)) (with_control h.binder.id n scene) q.3 t.1.1
      (now_inside first at scope scene now h.binder q.0 n (at.own ++ h.binder.id ∷ []) [] (owns h.binder at.own) tt)
