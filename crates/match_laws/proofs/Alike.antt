-- Blocks that agree do the same.
use Rattle.std.proofs.Common.{◌≡◌, ◌∙◌, ℕ, ℤ, ◌+ℤ◌, ◌-ℤ◌, ◌*ℤ◌, ◌==◌, pos, int_le, int_lt}
use Rattle.std.proofs.Common.{true, false, ◌&&◌, ◌||◌, List, [], ◌∷◌, Option, Some, None}
use Rattle.std.proofs.Common.{option_map, refl, sym, ap, ap₂, subst, true≢false, eqb-true}
use Rattle.std.specs.Ordering.{int_eq}
use Rattle.exo_tree.specs.Cells.{same_cell, same_cell_is}
use Rattle.exo_tree.specs.Tree.{Binder, Control, Condition, True, False, Flag}
use Rattle.exo_tree.specs.Tree.{FieldFlag, Lt, Le, Gt, Ge, Eq, And, Or, Datum, Const, Read, Negated}
use Rattle.exo_tree.specs.Tree.{Relu, Plus, Minus, Times, Select, Coord, At, Span, Argument}
use Rattle.exo_tree.specs.Tree.{ControlArg, ConditionArg, Whole, Window, Statement, Assign, Reduce}
use Rattle.exo_tree.specs.Tree.{Config, Pass, If, For, Alloc, View, Call, Block, end, next}
use Rattle.exo_tree.specs.Context.{Here, After, InLoop, InThen, InElse}
use Rattle.exo_meaning.specs.Value.{Value, Number, on_two, on_one, on_four, relu, selected}
use Rattle.exo_meaning.specs.Scene.{Side, Point, Range, Seen, Scene, then_do, number, numbers}
use Rattle.exo_meaning.specs.Scene.{holds, is_set, narrowed, window, cell_at, is_below, where_true}
use Rattle.exo_meaning.specs.State.{State, Place, place, held, put, value, left, on_scene, scoped}
use Rattle.exo_meaning.specs.State.{with_control, with_field, with_view}
use Rattle.exo_meaning.specs.Calls.{given_all_apart}
use Rattle.exo_meaning.specs.Calls.{Callee, GivenNumber, GivenView, given, all_given, truth, suits}
use Rattle.exo_meaning.specs.Calls.{entered, returned, run_asserted}
use Rattle.exo_meaning.specs.Run.{World, run, step, argument_number, turn, turns_of, range, count}
use Rattle.exo_meaning.specs.Run.{call_to, allocate, turns, choose}
use Rattle.meaning_laws.specs.Context.{ComesToTurn, now, later}
use Rattle.affine_forms.specs.Forms.{Reading}
use Rattle.affine_forms.proofs.Values.{and_parts, int_eq_same}
use Rattle.inplace_laws.specs.Along.{SameAlong, both_end, both_next, SameThere, at_once}
use Rattle.inplace_laws.specs.Along.{in_branches, in_turns}
use Rattle.inplace_laws.proofs.Along.{along_law}
use Rattle.match_laws.specs.Simplify.SameControls.{OfControls, OfCondition, OfDatum, OfCoords, OfArgument}
use Rattle.match_laws.specs.Simplify.SameControls.{OfArguments, OfEach}
use Rattle.match_laws.specs.Simplify.SimplifiedBlocks.{standing, IsRead}
use Rattle.match_laws.specs.Moved.{agree, conditions_agree}
use Rattle.match_laws.specs.Alike.{same_text, same_binder, controls_agree, data_agree}
use Rattle.match_laws.specs.Alike.{coords_agree, arguments_alike, arguments_agree}
use Rattle.match_laws.specs.Alike.{statements_agree, blocks_agree, AgreeAlong}
use Rattle.match_laws.specs.Alike.{nameless, nameless_statement, AgreeRuns}
use Rattle.match_laws.proofs.Agree.{agree_law}

no : {P : Type 0} → false ≡ true → P
no h = absurd (true≢false (sym h))

texts_same : (a b : List ℕ) → same_text a b ≡ true → a ≡ b
texts_same [] [] h = refl
texts_same [] (n ∷ ns) h = no h
texts_same (m ∷ ms) [] h = no h
texts_same (m ∷ ms) (n ∷ ns) h =
    let p = and_parts (m == n) (same_text ms ns) h in
    ap₂ ◌∷◌ (eqb-true m n p.0) (texts_same ms ns p.1)

binders_same : (a b : Binder) → same_binder a b ≡ true → a ≡ b
binders_same a b h =
    let p = and_parts (a.id == b.id) (same_text a.name b.name) h in
    ap₂ (λ (i : ℕ) (n : List ℕ). record { id = i; name = n }) (eqb-true a.id b.id p.0)
    (texts_same a.name b.name p.1)

module _ (at : Reading) where
  -- ---- in one scene

  module _ (scene : Scene) where
    abbrev pub Reads : Control → Type 0
    Reads = IsRead at scene

    pub numbers_agree : (a b : Control) → agree at a b ≡ true → Reads a → Reads b
        → number scene a ≡ number scene b
    numbers_agree a b h i j = agree_law (standing scene) at scene a b i.0 i.1 j.1 h

    controls_same : (is js : List Control) → controls_agree at is js ≡ true
        → OfControls Reads is → OfControls Reads js → numbers scene is ≡ numbers scene js
    controls_same [] [] h i j = refl
    controls_same (a ∷ is) (b ∷ js) h i j =
        let p = and_parts (agree at a b) (controls_agree at is js) h in
        ap₂ ◌∷◌ (numbers_agree a b p.0 i.0 j.0) (controls_same is js p.1 i.1 j.1)
    controls_same is js h i j = no h

    sides_same : (a b c d : Control) → (agree at a c && agree at b d) ≡ true
        → Reads a × Reads b → Reads c × Reads d
        → (number scene a ≡ number scene c) × (number scene b ≡ number scene d)
    sides_same a b c d h i j =
        let p = and_parts (agree at a c) (agree at b d) h in
        (numbers_agree a c p.0 i.0 j.0, numbers_agree b d p.1 i.1 j.1)

    pub conditions_same : (c d : Condition) → conditions_agree at c d ≡ true
        → OfCondition Reads c → OfCondition Reads d → holds scene c ≡ holds scene d
    conditions_same True True h i j = refl
    conditions_same False False h i j = refl
    conditions_same (Flag x) (Flag y) h i j =
        ap (λ z. is_set (scene.control z)) (eqb-true x y h)
    conditions_same (FieldFlag f) (FieldFlag g) h i j =
        ap (λ z. is_set (scene.fields z)) (eqb-true f g h)
    conditions_same (Lt a b) (Lt c d) h i j =
        let p = sides_same a b c d h i j in ap₂ int_lt p.0 p.1
    conditions_same (Le a b) (Le c d) h i j =
        let p = sides_same a b c d h i j in ap₂ int_le p.0 p.1
    conditions_same (Gt a b) (Gt c d) h i j =
        let p = sides_same a b c d h i j in ap₂ int_lt p.1 p.0
    conditions_same (Ge a b) (Ge c d) h i j =
        let p = sides_same a b c d h i j in ap₂ int_le p.1 p.0
    conditions_same (Eq a b) (Eq c d) h i j =
        let p = sides_same a b c d h i j in ap₂ int_eq p.0 p.1
    conditions_same (And a b) (And c d) h i j =
        let p = and_parts (conditions_agree at a c) (conditions_agree at b d) h in
        ap₂ ◌&&◌ (conditions_same a c p.0 i.0 j.0) (conditions_same b d p.1 i.1 j.1)
    conditions_same (Or a b) (Or c d) h i j =
        let p = and_parts (conditions_agree at a c) (conditions_agree at b d) h in
        ap₂ ◌||◌ (conditions_same a c p.0 i.0 j.0) (conditions_same b d p.1 i.1 j.1)
    conditions_same c d h i j = no h

    narrowed_same : (sides : List Side) (cs ds : List Coord) → coords_agree at cs ds ≡ true
        → OfCoords Reads cs → OfCoords Reads ds
        → narrowed scene sides cs ≡ narrowed scene sides ds
    narrowed_same (Point p ∷ sides) cs ds h i j =
        ap (option_map (λ rest. Point p ∷ rest)) (narrowed_same sides cs ds h i j)
    narrowed_same [] [] [] h i j = refl
    narrowed_same (Range lo n ∷ sides) [] [] h i j = refl
    narrowed_same [] (At a ∷ cs) (At b ∷ ds) h i j = refl
    narrowed_same [] (Span a b ∷ cs) (Span c d ∷ ds) h i j = refl
    narrowed_same (Range lo n ∷ sides) (At a ∷ cs) (At b ∷ ds) h i j =
        let p = and_parts (agree at a b) (coords_agree at cs ds) h in
        ap₂ (λ k o. where_true (is_below k n) (option_map (λ rest. Point (lo +ℤ k) ∷ rest) o))
        (numbers_agree a b p.0 i.0 j.0) (narrowed_same sides cs ds p.1 i.1 j.1)
    narrowed_same (Range lo n ∷ sides) (Span a b ∷ cs) (Span c d ∷ ds) h i j =
        let p = and_parts (agree at a c && agree at b d) (coords_agree at cs ds) h in
        let e = sides_same a b c d p.0 (i.0, i.1) (j.0, j.1) in
        ap₂ (λ k o. where_true
        (int_le (pos 0) k && int_lt k (number scene b) && int_le (number scene b) n)
        (option_map (λ rest. Range (lo +ℤ k) (number scene b -ℤ k) ∷ rest) o))
        e.0 (narrowed_same sides cs ds p.1 i.2 j.2)
        ∙ ap (λ m. where_true
        (int_le (pos 0) (number scene c) && int_lt (number scene c) m && int_le m n)
        (option_map (λ rest. Range (lo +ℤ number scene c) (m -ℤ number scene c) ∷ rest)
        (narrowed scene sides ds))) e.1
    narrowed_same sides cs ds h i j = no h

    place_same : (x y : ℕ) (is js : List Control) → x ≡ y → controls_agree at is js ≡ true
        → OfControls Reads is → OfControls Reads js → place scene x is ≡ place scene y js
    place_same x y is js e h i j =
        ap₂ (λ z ns. then_do (scene.views z) (λ seen. option_map
        (λ at. record { buffer = seen.buffer; at = at }) (cell_at seen.sides ns)))
        e (controls_same is js h i j)

    abbrev sided : Seen → List Side → Seen
    sided seen sides = record { buffer = seen.buffer; sides = sides }

    window_same : (x y : ℕ) (cs ds : List Coord) → x ≡ y → coords_agree at cs ds ≡ true
        → OfCoords Reads cs → OfCoords Reads ds → window scene x cs ≡ window scene y ds
    window_same x y cs ds e h i j = go (scene.views x) ∙ ap (λ z. window scene z ds) e
      where
        go : (o : Option Seen)
            → then_do o (λ seen. option_map (sided seen) (narrowed scene seen.sides cs))
            ≡ then_do o (λ seen. option_map (sided seen) (narrowed scene seen.sides ds))
        go None = refl
        go (Some seen) =
            ap (λ o. option_map (sided seen) o) (narrowed_same seen.sides cs ds h i j)

    number_same : (a b : Argument) → arguments_alike at a b ≡ true → OfArgument Reads a
        → OfArgument Reads b → argument_number scene a ≡ argument_number scene b
    number_same (ControlArg a) (ControlArg b) h i j = ap Some (numbers_agree a b h i j)
    number_same (ConditionArg c) (ConditionArg d) h i j =
        ap (λ t. Some (truth t)) (conditions_same c d h i j)
    number_same (Whole x) (Whole y) h i j = refl
    number_same (Window x cs) (Window y ds) h i j = refl
    number_same a b h i j = no h

    pub given_same : (a b : Argument) → arguments_alike at a b ≡ true → OfArgument Reads a
        → OfArgument Reads b → given scene a ≡ given scene b
    given_same (ControlArg a) (ControlArg b) h i j =
        ap (λ n. Some (GivenNumber n)) (numbers_agree a b h i j)
    given_same (ConditionArg c) (ConditionArg d) h i j =
        ap (λ t. Some (GivenNumber (truth t))) (conditions_same c d h i j)
    given_same (Whole x) (Whole y) h i j =
        ap (λ z. option_map GivenView (scene.views z)) (eqb-true x y h)
    given_same (Window x cs) (Window y ds) h i j =
        let p = and_parts (x == y) (coords_agree at cs ds) h in
        ap (option_map GivenView) (window_same x y cs ds (eqb-true x y p.0) p.1 i j)
    given_same a b h i j = no h

    all_same : (as' bs : List Argument) → arguments_agree at as' bs ≡ true
        → OfArguments Reads as' → OfArguments Reads bs
        → all_given scene as' ≡ all_given scene bs
    all_same [] [] h i j = refl
    all_same (a ∷ as') (b ∷ bs) h i j =
        let p = and_parts (arguments_alike at a b) (arguments_agree at as' bs) h in
        ap₂ (λ o r. then_do o (λ g. option_map (λ gs. g ∷ gs) r))
        (given_same a b p.0 i.0 j.0) (all_same as' bs p.1 i.1 j.1)
    all_same as' bs h i j = no h

  -- ---- in one state

  module _ (s : State) where
    abbrev There : Control → Type 0
    There = IsRead at s.scene

    value_same : (e d : Datum) → data_agree at e d ≡ true → OfDatum There e → OfDatum There d
        → value s e ≡ value s d
    value_same (Const m) (Const n) h i j = ap (λ k. Some (Number k)) (int_eq_same m n h)
    value_same (Read x is) (Read y js) h i j =
        let p = and_parts (x == y) (controls_agree at is js) h in
        ap (option_map (held s.cells))
        (place_same s.scene x y is js (eqb-true x y p.0) p.1 i j)
    value_same (Negated a) (Negated b) h i j =
        ap (option_map (on_one (λ m. pos 0 -ℤ m))) (value_same a b h i j)
    value_same (Relu a) (Relu b) h i j = ap (option_map (on_one relu)) (value_same a b h i j)
    value_same (Plus a b) (Plus c d) h i j =
        let p = and_parts (data_agree at a c) (data_agree at b d) h in
        ap₂ (λ m n. then_do m (λ u. option_map (on_two ◌+ℤ◌ u) n))
        (value_same a c p.0 i.0 j.0) (value_same b d p.1 i.1 j.1)
    value_same (Minus a b) (Minus c d) h i j =
        let p = and_parts (data_agree at a c) (data_agree at b d) h in
        ap₂ (λ m n. then_do m (λ u. option_map (on_two ◌-ℤ◌ u) n))
        (value_same a c p.0 i.0 j.0) (value_same b d p.1 i.1 j.1)
    value_same (Times a b) (Times c d) h i j =
        let p = and_parts (data_agree at a c) (data_agree at b d) h in
        ap₂ (λ m n. then_do m (λ u. option_map (on_two ◌*ℤ◌ u) n))
        (value_same a c p.0 i.0 j.0) (value_same b d p.1 i.1 j.1)
    value_same (Select a b c d) (Select e f g k) h i j =
        let p = and_parts (data_agree at a e && data_agree at b f)
        (data_agree at c g && data_agree at d k) h in
        let q = and_parts (data_agree at a e) (data_agree at b f) p.0 in
        let r = and_parts (data_agree at c g) (data_agree at d k) p.1 in
        ap₂ (λ (m n : Option Value). then_do m (λ u. then_do n (λ v.
        then_do (value s c) (λ w. option_map (on_four selected u v w) (value s d)))))
        (value_same a e q.0 i.0 j.0) (value_same b f q.1 i.1 j.1)
        ∙ ap₂ (λ (m n : Option Value). then_do (value s e) (λ u. then_do (value s f) (λ v.
        then_do m (λ w. option_map (on_four selected u v w) n))))
        (value_same c g r.0 i.2 j.2) (value_same d k r.1 i.3 j.3)
    value_same e d h i j = no h

  pub calls_same : (o : Option Callee) (gs hs : List Argument) (s : State)
      → all_given s.scene gs ≡ all_given s.scene hs → call_to o gs s ≡ call_to o hs s
  calls_same None gs hs s e = refl
  calls_same (Some callee) gs hs s e =
      ap (λ z. where_true (given_all_apart callee.writes callee.procedure.params z)
      (then_do z (λ ns. then_do (entered callee.procedure.params ns s) (λ inner.
      option_map (returned callee ns s) (run_asserted callee inner))))) e

  -- ---- along a run

  -- turns that do the same where they come go on to the same
  pub turns_follow : (i : ℕ) (f g : State → Option State) (ns : List ℤ) (s : State) (n : ℤ)
      (u : State)
      → ((m : ℤ) (v : State) → ComesToTurn (turn i f) ns s m v → ComesToTurn (turn i g) ns s m v
      → turn i f m v ≡ turn i g m v)
      → ComesToTurn (turn i f) ns s n u → ComesToTurn (turn i g) ns s n u
  turns_follow i f g [] s m u h come = elim come [ ]
  turns_follow i f g (n ∷ ns) s m u h now = now
  turns_follow i f g (k ∷ ns) s m u h (later {t} e come) =
      let same = sym (h k s now now) ∙ e in
      later same (turns_follow i f g ns t m u
      (λ l v a b. h l v (later e a) (later same b)) come)

  abbrev pub bound_to : Binder → ℤ → State → State
  bound_to i n u = on_scene (with_control i.id n) u

  module _ (world : World) where
    abbrev pub Keeps : Block → State → Type 0
    Keeps = OfEach world (IsRead at)

    pub step_same : (a c : Statement) (s : State) → SameThere world a c s
        → step world a s ≡ step world c s
    step_same a c s h =
        sym (then_some (step world a s))
        ∙ along_law world (next a end) (next c end) s (both_next h (λ t e. both_end))
        ∙ then_some (step world c s)
      where
        then_some : (o : Option State) → then_do o (λ t. Some t) ≡ o
        then_some None = refl
        then_some (Some t) = refl

    -- body: each turn, in the states in which both blocks are read
    pub by_turns : (i : Binder) (lo hi : Control) (b : Block) (l h : Control) (d rest more : Block)
        (s : State) → ((v : State) → Keeps b v → Keeps d v → SameAlong world b d v)
        → number s.scene lo ≡ number s.scene l → number s.scene hi ≡ number s.scene h
        → Keeps (next (For i lo hi b) rest) s → Keeps (next (For i l h d) more) s
        → (n : ℤ) (u : State)
        → ComesToTurn (turn i.id (run world b)) (turns_of s.scene lo hi) s n u
        → SameAlong world b d (bound_to i n u)
    by_turns i lo hi b l h d rest more s body first last ka kc n u come =
        one n u come (turns_follow i.id (run world b) (run world d) (turns_of s.scene lo hi) s
        n u (λ m v x y. ap (option_map (left v))
        (along_law world b d (bound_to i m v) (one m v x y))) come)
      where
        same_turns : turns_of s.scene lo hi ≡ turns_of s.scene l h
        same_turns = ap₂ (λ m n. range m (count (n -ℤ m))) first last

        one : (m : ℤ) (v : State)
            → ComesToTurn (turn i.id (run world b)) (turns_of s.scene lo hi) s m v
            → ComesToTurn (turn i.id (run world d)) (turns_of s.scene lo hi) s m v
            → SameAlong world b d (bound_to i m v)
        one m v x y = body (bound_to i m v)
            (λ k g w same z. ka (InLoop i lo hi k rest) g w
            (ap (λ a. next (For i lo hi a) rest) same) (
              m,
              v,
              subst (λ a. ComesToTurn (turn i.id (run world a)) (turns_of s.scene lo hi) s m v)
                  same x,
              z,
            ))
            (λ k g w same z. kc (InLoop i l h k more) g w
            (ap (λ a. next (For i l h a) more) same) (
              m,
              v,
              subst (λ a. ComesToTurn (turn i.id (run world a)) (turns_of s.scene l h) s m v)
                  same (subst (λ ns. ComesToTurn (turn i.id (run world d)) ns s m v)
                  same_turns y),
              z,
            ))

    mutual
      along : (b d : Block) (s : State) → blocks_agree at b d ≡ true → Keeps b s → Keeps d s
          → SameAlong world b d s
      along end end s h kb kd = both_end
      along (next a b) (next c d) s h kb kd =
          let p = and_parts (statements_agree at a c) (blocks_agree at b d) h in
          let same = there a c b d s p.0 kb kd in
          both_next same (λ t e. along b d t p.1
          (λ k g v i come. kb (After a k) g v (ap (next a) i) (t, e, come))
          (λ k g v i come. kd (After c k) g v (ap (next c) i)
          (t, sym (step_same a c s same) ∙ e, come)))
      along b d s h kb kd = no h

      there : (a c : Statement) (rest more : Block) (s : State) → statements_agree at a c ≡ true
          → Keeps (next a rest) s → Keeps (next c more) s → SameThere world a c s
      there (Assign x is e) (Assign y js d) rest more s h ka kc =
          let i = ka (Here rest) (Assign x is e) s refl refl in
          let j = kc (Here more) (Assign y js d) s refl refl in
          let p = and_parts (x == y) (controls_agree at is js && data_agree at e d) h in
          let q = and_parts (controls_agree at is js) (data_agree at e d) p.1 in
          at_once (ap₂ (λ (o : Option Place) (r : Option Value). then_do o (λ z.
          then_do r (λ v. put s (λ old. v) z)))
          (place_same s.scene x y is js (eqb-true x y p.0) q.0 i.0 j.0)
          (value_same s e d q.1 i.1 j.1))
      there (Reduce x is e) (Reduce y js d) rest more s h ka kc =
          let i = ka (Here rest) (Reduce x is e) s refl refl in
          let j = kc (Here more) (Reduce y js d) s refl refl in
          let p = and_parts (x == y) (controls_agree at is js && data_agree at e d) h in
          let q = and_parts (controls_agree at is js) (data_agree at e d) p.1 in
          at_once (ap₂ (λ (o : Option Place) (r : Option Value). then_do o (λ z.
          then_do r (λ v. put s (λ old. on_two ◌+ℤ◌ old v) z)))
          (place_same s.scene x y is js (eqb-true x y p.0) q.0 i.0 j.0)
          (value_same s e d q.1 i.1 j.1))
      there (Config f a) (Config g b) rest more s h ka kc =
          let i = ka (Here rest) (Config f a) s refl refl in
          let j = kc (Here more) (Config g b) s refl refl in
          let p = and_parts (f == g) (arguments_alike at a b) h in
          at_once (ap₂ (λ k o. then_do o (λ n. where_true (suits (world.kinds k) n)
          (Some (on_scene (with_field k n) s)))) (eqb-true f g p.0)
          (number_same s.scene a b p.1 i j))
      there Pass Pass rest more s h ka kc = at_once refl
      there (If t a b) (If r c d) rest more s h ka kc =
          let i = ka (Here rest) (If t a b) s refl refl in
          let j = kc (Here more) (If r c d) s refl refl in
          let p = and_parts (conditions_agree at t r) (blocks_agree at a c && blocks_agree at b d)
          h in
          let q = and_parts (blocks_agree at a c) (blocks_agree at b d) p.1 in
          let same = conditions_same s.scene t r p.0 i j in
          in_branches same
          (λ k. along a c s q.0
          (λ l g v e come. ka (InThen t l b rest) g v (ap (λ z. next (If t z b) rest) e) (k, come))
          (λ l g v e come. kc (InThen r l d more) g v (ap (λ z. next (If r z d) more) e)
          (sym same ∙ k, come)))
          (λ k. along b d s q.1
          (λ l g v e come. ka (InElse t a l rest) g v (ap (λ z. next (If t a z) rest) e) (k, come))
          (λ l g v e come. kc (InElse r c l more) g v (ap (λ z. next (If r c z) more) e)
          (sym same ∙ k, come)))
      there (For i lo hi b) (For j l h d) rest more s e ka kc =
          let x = ka (Here rest) (For i lo hi b) s refl refl in
          let y = kc (Here more) (For j l h d) s refl refl in
          let p = and_parts (same_binder i j)
          ((agree at lo l && agree at hi h) && blocks_agree at b d) e in
          let q = and_parts (agree at lo l && agree at hi h) (blocks_agree at b d) p.1 in
          let ends = sides_same s.scene lo hi l h q.0 x y in
          subst (λ k. SameThere world (For i lo hi b) (For k l h d) s) (binders_same i j p.0)
          (in_turns ends.0 ends.1 (λ n u come. by_turns i lo hi b l h d rest more s
          (λ v kb kd. along b d v q.1 kb kd) ends.0 ends.1 ka
          (subst (λ k. Keeps (next (For k l h d) more) s) (sym (binders_same i j p.0)) kc)
          n u come))
      there (Alloc x cell dims memory) (Alloc y type extents store) rest more s h ka kc =
          let i = ka (Here rest) (Alloc x cell dims memory) s refl refl in
          let j = kc (Here more) (Alloc y type extents store) s refl refl in
          let p = and_parts (x.id == y.id) (same_cell cell type && controls_agree at dims extents)
          h in
          let q = and_parts (same_cell cell type) (controls_agree at dims extents) p.1 in
          at_once (ap₂ (λ z t. allocate z t (numbers s.scene dims) s) (eqb-true x.id y.id p.0)
          (same_cell_is cell type q.0)
          ∙ ap (λ ns. allocate y.id type ns s) (controls_same s.scene dims extents q.1 i j))
      there (View w x cs) (View v y ds) rest more s h ka kc =
          let i = ka (Here rest) (View w x cs) s refl refl in
          let j = kc (Here more) (View v y ds) s refl refl in
          let p = and_parts (w.id == v.id) ((x == y) && coords_agree at cs ds) h in
          let q = and_parts (x == y) (coords_agree at cs ds) p.1 in
          at_once (ap₂ (λ k o. then_do o (λ z. Some (on_scene (with_view k z) s)))
          (eqb-true w.id v.id p.0)
          (window_same s.scene x y cs ds (eqb-true x y q.0) q.1 i j))
      there (Call k args) (Call m others) rest more s h ka kc =
          let i = ka (Here rest) (Call k args) s refl refl in
          let j = kc (Here more) (Call m others) s refl refl in
          let p = and_parts (k == m) (arguments_agree at args others) h in
          at_once (calls_same (world.callees k) args others s
          (all_same s.scene args others p.1 i j)
          ∙ ap (λ z. call_to (world.callees z) others s) (eqb-true k m p.0))
      there a c rest more s h ka kc = no h

pub agree_along : AgreeAlong
agree_along world at b d s h kb kd = along at world b d s h kb kd

-- ---- names of binders

abbrev Runs : Type 0
Runs = State → Option State

abbrev in_turn : Runs → Runs → Runs
in_turn f g s = then_do (f s) g

abbrev chosen : Condition → Runs → Runs → Runs
chosen c f g s = scoped (choose (holds s.scene c) f g) s

abbrev looped : Binder → Control → Control → Runs → Runs
looped i lo hi f s = turns (turn i.id f) (turns_of s.scene lo hi) s

module _ (world : World) where
  mutual
    pub run_nameless : (b : Block) → run world (nameless b) ≡ run world b
    run_nameless end = refl
    run_nameless (next a b) = ap₂ in_turn (step_nameless a) (run_nameless b)

    step_nameless : (a : Statement) → step world (nameless_statement a) ≡ step world a
    step_nameless (Assign x is e) = refl
    step_nameless (Reduce x is e) = refl
    step_nameless (Config f a) = refl
    step_nameless Pass = refl
    step_nameless (If c a b) = ap₂ (chosen c) (run_nameless a) (run_nameless b)
    step_nameless (For i lo hi b) = ap (looped i lo hi) (run_nameless b)
    step_nameless (Alloc x cell dims memory) = refl
    step_nameless (View w x cs) = refl
    step_nameless (Call k args) = refl

pub agree_runs : AgreeRuns
agree_runs world at b d s h kb kd =
    ap (λ f. f s) (sym (run_nameless world b))
    ∙ along_law world (nameless b) (nameless d) s
    (agree_along world at (nameless b) (nameless d) s h kb kd)
    ∙ ap (λ f. f s) (run_nameless world d)
