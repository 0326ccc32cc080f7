-- What is given for a parameter: where the claims hold it is there, and suits the parameter.
use Rattle.std.proofs.Common.{◌≡◌, ℕ, zero, suc, ℤ, pos, ◌+ℤ◌, ◌-ℤ◌, ◌-◌, ◌≤◌, ◌==◌, int_le, int_lt, true, false, cond, not, ◌&&◌, ◌||◌, List, [], ◌∷◌, length, get_or, Option, Some, None, option_map, arith, refl, sym, ap, ◌∙◌, subst, eqb-true}
use Rattle.std.specs.Prelude.{nat_lt, flat_map}
use Rattle.std.specs.List.{list_all}
use Rattle.std.proofs.lemmas.List.{take_all}
use Rattle.exo_tree.specs.Tree.{Kind, Size, Index, Truth, Stride, Control, Coord, At, Span, Argument, ControlArg, ConditionArg, Whole, Window, Param, ParamKind, ControlParam, TensorParam, WindowParam}
use Rattle.exo_meaning.specs.Scene.{Shape, Side, Point, Range, Seen, Scene, number, numbers, holds, is_below, extents, narrowed, window, strides_of, strides_seen, stride_at}
use Rattle.exo_meaning.specs.State.{State}
use Rattle.exo_meaning.specs.Calls.{Given, GivenNumber, GivenView, truth, given, all_given, suits, all_positive}
use Rattle.exo_meaning.specs.Units.{Scope, sort_in, has_rank, has_cell, is_dense, is_rank, is_truth, with_both, is_coord, is_window, spans, is_of_kind, is_for, are_for}
use Rattle.text_show.specs.Words.{Words}
use Rattle.meaning_laws.specs.Sound.{IsSound}
use Rattle.check_claims.specs.Pairs.{flat_zip}
use Rattle.check_claims.specs.Extents.{Extents}
use Rattle.check_claims.specs.Arguments.{span_place, stride_for}
use Rattle.check_claims.specs.Claims.{window_claims, argument_window, given_claims, argument_size, argument_extents}
use Rattle.check_laws.proofs.OfClaims.Basics.{and_parts, no_test, none_some, map_gives, where_gives, Succeeds, succeeds_then, succeeds_map, each_left, each_right}
use Rattle.check_laws.proofs.OfClaims.Seen.{IsDescribed, IsHeld, Hold, seen_of_rank, IsPart, window_there}
use Rattle.check_laws.proofs.OfClaims.Kept.{span_rank}

-- ---- strides of windows

pub less_than : (j n : ℕ) → nat_lt (suc j) (suc n) ≡ true → nat_lt j n ≡ true
less_than j n h = grind arith

pub not_below_zero : (k : ℕ) → nat_lt k 0 ≡ true → ⊥
not_below_zero k h = grind arith

pub span_later : (j : ℕ) (a b : Control) (cs : List Coord) → span_place (suc j) (Span a b ∷ cs) ≡ suc (span_place j cs)
span_later j a b cs = ap (λ t. cond t 0 (suc (span_place (suc j - 1) cs))) (not_zero j) ∙ ap (λ m. suc (span_place m cs)) (one_less j)
  where
    not_zero : (j : ℕ) → (suc j == 0) ≡ false
    not_zero j = grind arith

    one_less : (j : ℕ) → suc j - 1 ≡ j
    one_less j = omega arith

-- a window's stride is that of the dimension over which its span runs
module _ (scene : Scene) where
  at_out : (lo n : ℤ) (sides : List Side) (a : Control) (cs : List Coord) (out : List Side) → narrowed scene (Range lo n ∷ sides) (At a ∷ cs) ≡ Some out → (r : List Side) × (narrowed scene sides cs ≡ Some r) × (Point (lo +ℤ number scene a) ∷ r ≡ out)
  at_out lo n sides a cs out e =
      let w = where_gives (is_below (number scene a) n) (option_map (λ (r : List Side). Point (lo +ℤ number scene a) ∷ r) (narrowed scene sides cs)) out e in
      map_gives (narrowed scene sides cs) (λ (r : List Side). Point (lo +ℤ number scene a) ∷ r) out w.1

  span_out : (lo n : ℤ) (sides : List Side) (a b : Control) (cs : List Coord) (out : List Side) → narrowed scene (Range lo n ∷ sides) (Span a b ∷ cs) ≡ Some out → (r : List Side) × (narrowed scene sides cs ≡ Some r) × (Range (lo +ℤ number scene a) (number scene b -ℤ number scene a) ∷ r ≡ out)
  span_out lo n sides a b cs out e =
      let i = number scene a in
      let j = number scene b in
      let w = where_gives (int_le (pos 0) i && int_lt i j && int_le j n) (option_map (λ (r : List Side). Range (lo +ℤ i) (j -ℤ i) ∷ r) (narrowed scene sides cs)) out e in
      map_gives (narrowed scene sides cs) (λ (r : List Side). Range (lo +ℤ i) (j -ℤ i) ∷ r) out w.1

  abbrev nth : List ℤ → ℕ → ℤ
  nth strides k = get_or strides k (pos 0)

  stride_narrowed : (sides : List Side) (cs : List Coord) (out : List Side) (strides : List ℤ) (k : ℕ) → narrowed scene sides cs ≡ Some out → nat_lt k (spans cs) ≡ true → nth (strides_of sides strides) (span_place k cs) ≡ nth (strides_of out strides) k
  stride_narrowed [] [] out strides k e h = absurd (not_below_zero k h)
  stride_narrowed [] (c ∷ cs) out strides k e h = absurd (none_some e)
  stride_narrowed (Point p ∷ sides) cs out [] k e h =
      let q = map_gives (narrowed scene sides cs) (λ (r : List Side). Point p ∷ r) out e in
      subst (λ (o : List Side). pos 0 ≡ nth (strides_of o []) k) q.2 refl
  stride_narrowed (Point p ∷ sides) cs out (t ∷ strides) k e h =
      let q = map_gives (narrowed scene sides cs) (λ (r : List Side). Point p ∷ r) out e in
      subst (λ (o : List Side). nth (strides_of sides strides) (span_place k cs) ≡ nth (strides_of o (t ∷ strides)) k) q.2 (stride_narrowed sides cs q.0 strides k q.1 h)
  stride_narrowed (Range lo n ∷ sides) [] out strides k e h = absurd (none_some e)
  stride_narrowed (Range lo n ∷ sides) (At a ∷ cs) out [] k e h =
      let q = at_out lo n sides a cs out e in
      subst (λ (o : List Side). pos 0 ≡ nth (strides_of o []) k) q.2 refl
  stride_narrowed (Range lo n ∷ sides) (At a ∷ cs) out (t ∷ strides) k e h =
      let q = at_out lo n sides a cs out e in
      subst (λ (o : List Side). nth (strides_of sides strides) (span_place k cs) ≡ nth (strides_of o (t ∷ strides)) k) q.2 (stride_narrowed sides cs q.0 strides k q.1 h)
  stride_narrowed (Range lo n ∷ sides) (Span a b ∷ cs) out [] k e h =
      let q = span_out lo n sides a b cs out e in
      subst (λ (o : List Side). pos 0 ≡ nth (strides_of o []) k) q.2 refl
  stride_narrowed (Range lo n ∷ sides) (Span a b ∷ cs) out (t ∷ strides) zero e h =
      let q = span_out lo n sides a b cs out e in
      subst (λ (o : List Side). t ≡ nth (strides_of o (t ∷ strides)) 0) q.2 refl
  stride_narrowed (Range lo n ∷ sides) (Span a b ∷ cs) out (t ∷ strides) (suc k) e h =
      let q = span_out lo n sides a b cs out e in
      subst (λ (o : List Side). nth (t ∷ strides_of sides strides) (span_place (suc k) (Span a b ∷ cs)) ≡ nth (strides_of o (t ∷ strides)) (suc k)) q.2
      (ap (nth (t ∷ strides_of sides strides)) (span_later k a b cs) ∙ stride_narrowed sides cs q.0 strides k q.1 (less_than k (spans cs) h))

  -- of what is seen
  part_stride : (of part : Seen) (cs : List Coord) (k : ℕ) → narrowed scene of.sides cs ≡ Some part.sides → part.buffer ≡ of.buffer → nat_lt k (spans cs) ≡ true → nth (strides_seen scene of) (span_place k cs) ≡ nth (strides_seen scene part) k
  part_stride of part cs k e same h = go (scene.buffers of.buffer) refl
    where
      go : (o : Option Shape) → scene.buffers of.buffer ≡ o → nth (strides_seen scene of) (span_place k cs) ≡ nth (strides_seen scene part) k
      go None b =
          ap (λ (o : Option Shape). nth (elim o [ None ↦ [] | Some shape ↦ strides_of of.sides shape.strides ]) (span_place k cs)) b
          ∙ sym (ap (λ (o : Option Shape). nth (elim o [ None ↦ [] | Some shape ↦ strides_of part.sides shape.strides ]) k) (ap scene.buffers same ∙ b))
      go (Some shape) b =
          ap (λ (o : Option Shape). nth (elim o [ None ↦ [] | Some shape ↦ strides_of of.sides shape.strides ]) (span_place k cs)) b
          ∙ stride_narrowed of.sides cs part.sides shape.strides k e h
          ∙ sym (ap (λ (o : Option Shape). nth (elim o [ None ↦ [] | Some shape ↦ strides_of part.sides shape.strides ]) k) (ap scene.buffers same ∙ b))

pub short : (n : ℕ) → is_rank n ≡ true → n ≤ 8
short n h = grind arith

-- ---- arguments

module _ (w : Words) (fields : ℕ → Option Kind) (table : Extents) (scope : Scope) (s : State) (described : IsDescribed table scope s.scene) (sound : IsSound s) where
  -- a part of that rank, with the extents and strides of the argument
  pub record IsView (rank : ℕ) (a : Argument) (seen : Seen) : Type 0 where
    pub extents_are : extents seen.sides ≡ numbers s.scene (argument_extents w table a)
    pub positive : all_positive (extents seen.sides) ≡ true
    pub rank_is : length (argument_extents w table a) ≡ rank
    pub strides : (x k : ℕ) → nat_lt k rank ≡ true → number s.scene (stride_for x k (Some a)) ≡ get_or (strides_seen s.scene seen) k (pos 0)

  abbrev IsGivenView : ℕ → Argument → Given → Type 0
  IsGivenView rank a (GivenNumber n) = ⊥
  IsGivenView rank a (GivenView seen) = IsView rank a seen

  -- the number of the argument, by what is passed for a bool and for a number
  abbrev pub IsNumberOf : Kind → Argument → ℤ → Type 0
  IsNumberOf kind (ControlArg e) n = (is_truth kind ≡ false) × (number s.scene e ≡ n)
  IsNumberOf kind (ConditionArg c) n = (is_truth kind ≡ true) × (truth (holds s.scene c) ≡ n)
  IsNumberOf kind (Whole x) n = ⊥
  IsNumberOf kind (Window x cs) n = ⊥

  abbrev pub IsFor : ParamKind → Argument → Given → Type 0
  IsFor (ControlParam kind) a (GivenNumber n) = IsNumberOf kind a n × (suits kind n ≡ true)
  IsFor (ControlParam kind) a (GivenView seen) = ⊥
  IsFor (TensorParam cell dims memory) a g = IsGivenView (length dims) a g
  IsFor (WindowParam cell dims memory) a g = IsGivenView (length dims) a g

  abbrev pub AreFor : List Param → List Argument → List Given → Type 0
  AreFor [] [] [] = Unit {0}
  AreFor [] [] (g ∷ gs) = ⊥
  AreFor [] (a ∷ args) gs = ⊥
  AreFor (p ∷ ps) [] gs = ⊥
  AreFor (p ∷ ps) (a ∷ args) [] = ⊥
  AreFor (p ∷ ps) (a ∷ args) (g ∷ gs) = IsFor p.kind a g × AreFor ps args gs

  whole_given : (rank x : ℕ) → has_rank rank (sort_in scope x) ≡ true → Succeeds (option_map GivenView (s.scene.views x)) (IsGivenView rank (Whole x))
  whole_given rank x h =
      let v = seen_of_rank w fields table scope s described sound rank x h in
      subst (λ (o : Option Seen). Succeeds (option_map GivenView o) (IsGivenView rank (Whole x))) (sym v.view_is)
      (record { extents_are = v.extents_are; positive = v.positive; rank_is = v.rank_is; strides = λ y k i. ap (λ o. stride_at s.scene o k) v.view_is })

  window_given : (rank x : ℕ) (cs : List Coord) → is_window fields scope x cs ≡ true → spans cs ≡ rank → Hold s.scene (window_claims w cs (table x)) → Succeeds (option_map GivenView (window s.scene x cs)) (IsGivenView rank (Window x cs))
  window_given rank x cs h e m =
      let r = seen_of_rank w fields table scope s described sound (length cs) x (and_parts (has_rank (length cs) (sort_in scope x)) (list_all (is_coord fields scope) cs) h).0 in
      succeeds_map (IsPart w fields table scope s described sound x cs) (IsGivenView rank (Window x cs)) (window s.scene x cs) GivenView (window_there w fields table scope s described sound x cs h m) (λ part k. record {
        extents_are = k.extents_are;
        positive = k.positive;
        rank_is = span_rank cs ∙ e;
        strides = λ y j i.
            ap (λ (l : List Coord). stride_at s.scene (s.scene.views x) (span_place j l)) (take_all 8 cs (short (length cs) r.small))
            ∙ ap (λ o. stride_at s.scene o (span_place j cs)) k.view_is
            ∙ part_stride s.scene k.of part cs j k.narrowed_is k.buffer_is (subst (λ n. nat_lt j n ≡ true) (sym e) i);
      })

  control_given : (kind : Kind) (a : Argument) → is_of_kind fields with_both scope kind a ≡ true → Hold s.scene (given_claims w kind a) → Succeeds (given s.scene a) (IsFor (ControlParam kind) a)
  control_given Size (ControlArg e) h m = ((refl, refl), m.0)
  control_given Index (ControlArg e) h m = ((refl, refl), refl)
  control_given Truth (ControlArg e) h m = no_test h
  control_given Stride (ControlArg e) h m = ((refl, refl), refl)
  control_given Size (ConditionArg c) h m = no_test h
  control_given Index (ConditionArg c) h m = no_test h
  control_given Truth (ConditionArg c) h m = ((refl, refl), refl)
  control_given Stride (ConditionArg c) h m = no_test h
  control_given kind (Whole x) h m = no_test h
  control_given kind (Window x cs) h m = no_test h

  pub one_given : (p : Param) (kind : ParamKind) (a : Argument) → p.kind ≡ kind → is_for fields scope kind a ≡ true → Hold s.scene (argument_window w table a) → Hold s.scene (argument_size w p a) → Succeeds (given s.scene a) (IsFor kind a)
  one_given p (ControlParam kind) a same h m n = control_given kind a h (subst (λ k. Hold s.scene (elim k [ ControlParam kind ↦ given_claims w kind a | TensorParam cell dims memory ↦ [] | WindowParam cell dims memory ↦ [] ])) same n)
  one_given p (TensorParam cell dims memory) (ControlArg e) same h m n = no_test h
  one_given p (TensorParam cell dims memory) (ConditionArg c) same h m n = no_test h
  one_given p (TensorParam cell dims memory) (Whole x) same h m n =
      let q = and_parts (has_cell cell (sort_in scope x)) _ h in
      whole_given (length dims) x (and_parts (has_rank (length dims) (sort_in scope x)) ((length dims == 0) || is_dense (sort_in scope x)) q.1).0
  one_given p (TensorParam cell dims memory) (Window x cs) same h m n =
      let q = and_parts (has_cell cell (sort_in scope x)) _ h in
      let r = and_parts (is_window fields scope x cs) ((length dims == 0) && ((spans cs == 0) && not (length cs == 0))) q.1 in
      let t = and_parts (length dims == 0) ((spans cs == 0) && not (length cs == 0)) r.1 in
      window_given (length dims) x cs r.0 (eqb-true (spans cs) 0 (and_parts (spans cs == 0) (not (length cs == 0)) t.1).0 ∙ sym (eqb-true (length dims) 0 t.0)) m
  one_given p (WindowParam cell dims memory) (ControlArg e) same h m n = no_test h
  one_given p (WindowParam cell dims memory) (ConditionArg c) same h m n = no_test h
  one_given p (WindowParam cell dims memory) (Whole x) same h m n = whole_given (length dims) x (and_parts (has_cell cell (sort_in scope x)) (has_rank (length dims) (sort_in scope x)) h).1
  one_given p (WindowParam cell dims memory) (Window x cs) same h m n =
      let q = and_parts (has_cell cell (sort_in scope x)) _ h in
      let r = and_parts (is_window fields scope x cs) (length dims == spans cs) q.1 in
      window_given (length dims) x cs r.0 (sym (eqb-true (length dims) (spans cs) r.1)) m

  pub all_for : (ps : List Param) (args : List Argument) → are_for fields scope ps args ≡ true → Hold s.scene (flat_map (argument_window w table) args) → Hold s.scene (flat_zip (argument_size w) ps args) → Succeeds (all_given s.scene args) (AreFor ps args)
  all_for [] [] h m n = tt
  all_for [] (a ∷ args) h m n = no_test h
  all_for (p ∷ ps) [] h m n = no_test h
  all_for (p ∷ ps) (a ∷ args) h m n =
      let q = and_parts (is_for fields scope p.kind a) (are_for fields scope ps args) h in
      let wa = argument_window w table a in
      let wr = flat_map (argument_window w table) args in
      let za = argument_size w p a in
      let zr = flat_zip (argument_size w) ps args in
      succeeds_then (IsFor p.kind a) (AreFor (p ∷ ps) (a ∷ args)) (given s.scene a) _ (one_given p p.kind a refl q.0 (each_left (IsHeld s.scene) wa wr m) (each_left (IsHeld s.scene) za zr n)) (λ g k.
      succeeds_map (AreFor ps args) (AreFor (p ∷ ps) (a ∷ args)) (all_given s.scene args) (λ gs. g ∷ gs) (all_for ps args q.1 (each_right (IsHeld s.scene) wa wr m) (each_right (IsHeld s.scene) za zr n)) (λ gs j. (k, j)))
