-- A call that is given an empty window is a fault.
use Rattle.std.proofs.Common.{◌≡◌, ◌∙◌, ◌⊎◌, inl, inr, ℕ, ℤ, pos, Bool, true, false, not, ◌&&◌, ◌||◌}
use Rattle.std.proofs.Common.{List, [], ◌∷◌, Option, Some, None, option_map, refl, sym, ap, subst}
use Rattle.std.proofs.Common.{true≢false}
use Rattle.std.specs.Cmp.Rules.{signed_items}
use Rattle.exo_tree.specs.Tree.{Cell, Control, Argument, Param, ParamKind, ControlParam}
use Rattle.exo_tree.specs.Tree.{TensorParam, WindowParam}
use Rattle.exo_meaning.specs.Scene.{Side, Seen, Scene, then_do, numbers, narrowed, window, where_true}
use Rattle.exo_meaning.specs.Scene.{extents, strides_seen}
use Rattle.exo_meaning.specs.State.{State, same_index, with_buffer, with_contents, on_scene}
use Rattle.exo_meaning.specs.Calls.{Callee, Given, GivenNumber, GivenView, all_given, all_positive}
use Rattle.exo_meaning.specs.Calls.{bind_number, bind_numbers, bind_buffer, bind_buffers, copy_in}
use Rattle.exo_meaning.specs.Calls.{contents, bare, entered, keeps_apart, run_asserted, returned}
use Rattle.exo_meaning.specs.Run.{call_to}
use Rattle.affine_forms.proofs.Values.{and_parts, none_some}
use Rattle.meaning_laws.proofs.Parts.{then_gives}
use Rattle.match_laws.specs.Names.{whole_of}
use Rattle.match_laws.proofs.WholeIsWindow.{whole_narrowed, none_narrowed, never}

no : {P : Type 0} → false ≡ true → P
no h = absurd (true≢false (sym h))

abbrev is_empty : Given → Bool
is_empty (GivenNumber n) = false
is_empty (GivenView seen) = not (all_positive (extents seen.sides))

abbrev some_empty : List Given → Bool
some_empty [] = false
some_empty (g ∷ gs) = is_empty g || some_empty gs

-- nothing is given, or what is given is empty
abbrev pub IsVoid : Option Given → Type 0
IsVoid None = Unit {0}
IsVoid (Some g) = is_empty g ≡ true

abbrev pub AreVoid : Option (List Given) → Type 0
AreVoid None = Unit {0}
AreVoid (Some gs) = some_empty gs ≡ true

-- ---- a list

abbrev pub with_given : Option Given → Option (List Given) → Option (List Given)
with_given o r = then_do o (λ g. option_map (λ gs. g ∷ gs) r)

pub first_void : (o : Option Given) (r : Option (List Given)) → IsVoid o → AreVoid (with_given o r)
first_void None r h = tt
first_void (Some g) None h = tt
first_void (Some g) (Some gs) h = ap (λ t. t || some_empty gs) h

pub rest_void : (o : Option Given) (r : Option (List Given)) → AreVoid r → AreVoid (with_given o r)
rest_void None r h = tt
rest_void (Some g) None h = tt
rest_void (Some g) (Some gs) h = either (is_empty g) (some_empty gs) h
  where
    either : (s t : Bool) → t ≡ true → (s || t) ≡ true
    either true t k = refl
    either false t k = k

-- ---- the call

same_index_is : (ds es : List ℤ) → same_index ds es ≡ true → ds ≡ es
same_index_is ds es h = (signed_items ds es).0 h

module _ (outer : State) where
  no_buffers : (ps : List Param) (gs : List Given) (c d : ℕ → ℤ) (s : State)
      → bind_numbers ps gs c ≡ Some d → some_empty gs ≡ true → bind_buffers outer ps gs s ≡ None
  no_buffers [] [] c d s h e = no e
  no_buffers [] (g ∷ gs) c d s h e = absurd (none_some h)
  no_buffers (p ∷ ps) [] c d s h e = absurd (none_some h)
  no_buffers (p ∷ ps) (g ∷ gs) c d s h e =
      let m = then_gives (bind_number p.binder.id p.kind g c) (bind_numbers ps gs) d h in
      go p.kind g m.0 m.1 m.2 e (λ u t k i. no_buffers ps gs u d t k i)
    where
      Rest : Type 0
      Rest =
          (u : ℕ → ℤ) (t : State) → bind_numbers ps gs u ≡ Some d → some_empty gs ≡ true
          → bind_buffers outer ps gs t ≡ None

      copied : (cell : Cell) (ns : List ℤ) (seen : Seen) (u : ℕ → ℤ) → bind_numbers ps gs u ≡ Some d
          → (not (all_positive (extents seen.sides)) || some_empty gs) ≡ true → Rest
          → then_do (copy_in outer p.binder.id cell ns (GivenView seen) s) (bind_buffers outer ps gs)
          ≡ None
      copied cell ns seen u k i rest = by (same_index ns (extents seen.sides) && all_positive ns) refl
        where
          made : State
          made = with_contents p.binder.id (contents outer.cells seen) (on_scene
              (with_buffer p.binder.id (record {
                cell = cell;
                dims = ns;
                strides = strides_seen outer.scene seen;
              })) s)

          others : all_positive (extents seen.sides) ≡ true → some_empty gs ≡ true
          others j = sym (ap (λ t. not t || some_empty gs) j) ∙ i

          by : (t : Bool) → (same_index ns (extents seen.sides) && all_positive ns) ≡ t
              → then_do (where_true t (Some made)) (bind_buffers outer ps gs) ≡ None
          by false j = refl
          by true j =
              let q = and_parts (same_index ns (extents seen.sides)) (all_positive ns) j in
              rest u made k
              (others (ap all_positive (sym (same_index_is ns (extents seen.sides) q.0)) ∙ q.1))

      go : (kind : ParamKind) (g : Given) (u : ℕ → ℤ) → bind_number p.binder.id kind g c ≡ Some u
          → bind_numbers ps gs u ≡ Some d → (is_empty g || some_empty gs) ≡ true → Rest
          → then_do (bind_buffer outer p.binder.id kind g s) (bind_buffers outer ps gs) ≡ None
      go (ControlParam kind) (GivenNumber n) u i k e rest = rest u s k e
      go (ControlParam kind) (GivenView seen) u i k e rest = absurd (none_some i)
      go (TensorParam cell dims memory) (GivenNumber n) u i k e rest = refl
      go (TensorParam cell dims memory) (GivenView seen) u i k e rest =
          copied cell (numbers s.scene dims) seen u k e rest
      go (WindowParam cell dims memory) (GivenNumber n) u i k e rest = refl
      go (WindowParam cell dims memory) (GivenView seen) u i k e rest =
          copied cell (numbers s.scene dims) seen u k e rest

not_entered : (ps : List Param) (gs : List Given) (s : State) → some_empty gs ≡ true
    → entered ps gs s ≡ None
not_entered ps gs s h = go (bind_numbers ps gs (λ x. pos 0)) refl
  where
    go : (o : Option (ℕ → ℤ)) → bind_numbers ps gs (λ x. pos 0) ≡ o
        → then_do o (λ control. bind_buffers s ps gs (bare control s.scene.fields)) ≡ None
    go None e = refl
    go (Some control) e =
        no_buffers s ps gs (λ x. pos 0) control (bare control s.scene.fields) e h

pub void_call : (o : Option Callee) (args : List Argument) (s : State)
    → AreVoid (all_given s.scene args) → call_to o args s ≡ None
void_call None args s h = refl
void_call (Some c) args s h =
    never (keeps_apart c s.scene args)
    (then_do (all_given s.scene args) (λ gs. after gs (entered c.procedure.params gs s)))
    (go (all_given s.scene args) h)
  where
    after : List Given → Option State → Option State
    after gs o = then_do o (λ inner. option_map (returned c gs s) (run_asserted c inner))

    go : (o : Option (List Given)) → AreVoid o
        → then_do o (λ gs. after gs (entered c.procedure.params gs s)) ≡ None
    go None k = refl
    go (Some gs) k = ap (after gs) (not_entered c.procedure.params gs s k)

-- ---- a window with the coordinates of the whole of a name

abbrev pub SameOrVoid : Option Given → Option Given → Type 0
SameOrVoid o r = (o ≡ r) ⊎ (IsVoid o × IsVoid r)

abbrev sided : Seen → List Side → Seen
sided seen sides = record { buffer = seen.buffer; sides = sides }

pub whole_or_void : (scene : Scene) (y : ℕ) (known : List Control)
    → ((seen : Seen) → scene.views y ≡ Some seen → numbers scene known ≡ extents seen.sides)
    → SameOrVoid (option_map GivenView (scene.views y))
    (option_map GivenView (window scene y (whole_of known)))
whole_or_void scene y known has = go (scene.views y) refl
  where
    part : Option Seen → Option Seen
    part o = then_do o (λ seen. option_map (sided seen) (narrowed scene seen.sides (whole_of known)))

    by : (seen : Seen) (t : Bool) → all_positive (extents seen.sides) ≡ t
        → numbers scene known ≡ extents seen.sides
        → SameOrVoid (Some (GivenView seen)) (option_map GivenView (part (Some seen)))
    by seen true e same =
        inl (ap (λ o. option_map GivenView (option_map (sided seen) o))
        (sym (whole_narrowed scene seen.sides known same e)))
    by seen false e same = inr (
      ap not e,
      subst IsVoid (ap (λ o. option_map GivenView (option_map (sided seen) o))
          (sym (none_narrowed scene seen.sides known same e))) tt,
    )

    go : (o : Option Seen) → scene.views y ≡ o
        → SameOrVoid (option_map GivenView o) (option_map GivenView (part o))
    go None e = inl refl
    go (Some seen) e = by seen (all_positive (extents seen.sides)) refl (has seen e)
