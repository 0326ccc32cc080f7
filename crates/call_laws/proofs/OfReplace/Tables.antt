-- Wherever a run comes, the extents of a name in the table have the numbers of what the name sees.
use Rattle.std.proofs.Common.{◌≡◌, ℕ, ℤ, pos, ◌+ℤ◌, ◌-ℤ◌, ◌==◌, int_le, int_lt, Bool, true, false, cond, not, ◌&&◌, ◌||◌}
use Rattle.std.proofs.Common.{List, [], ◌∷◌, ◌++◌, length, map, Option, Some, None, IfSome, option_map}
use Rattle.std.proofs.Common.{refl, sym, ap, ap₂, ◌∙◌, subst, true≢false, eqb-true}
use Rattle.exo_tree.specs.Tree.{Kind, Control, Sub, Coord, At, Span, ParamKind, ControlParam, TensorParam}
use Rattle.exo_tree.specs.Tree.{WindowParam, Param, Statement, Assign, Reduce, Config, Pass, If, For}
use Rattle.exo_tree.specs.Tree.{Alloc, View, Call, Block, end, next, Procedure, Program}
use Rattle.exo_tree.specs.Context.{Context, Here, After, InLoop, InThen, InElse, fill}
use Rattle.exo_meaning.specs.Binders.{binders}
use Rattle.exo_meaning.specs.Inputs.{AreArguments, IsArgument, is_buffer_of}
use Rattle.exo_meaning.specs.Run.{program_world}
use Rattle.exo_meaning.specs.Scene.{Side, Point, Range, Seen, Scene, then_do, number, numbers, narrowed}
use Rattle.exo_meaning.specs.Scene.{extents, is_below, whole, where_true}
use Rattle.exo_meaning.specs.State.{State}
use Rattle.exo_meaning.specs.Units.{Scope, with_name, plainly, are_controls, is_new, is_param_kind}
use Rattle.exo_meaning.specs.Units.{are_params, param_sort, sort_in, field_kind, are_distinct}
use Rattle.exo_meaning.specs.Unseen.{in_control, in_condition, in_coords}
use Rattle.meaning_laws.specs.Made as made
use Rattle.meaning_laws.specs.PlaceFacts.{in_scope}
use Rattle.meaning_laws.specs.Scoped.{is_not, is_param, is_scoped, step_is_scoped, has_binder}
use Rattle.meaning_laws.specs.Scoped.{step_has_binder}
use Rattle.meaning_laws.specs.Sound.{binds, on_way}
use Rattle.meaning_laws.proofs.Made.{made_law}
use Rattle.meaning_laws.proofs.Parts.{then_gives, map_gives}
use Rattle.check_laws.proofs.OfFacts.Binders.{IsApart, StepIsApart, apart_there, step_apart_there}
use Rattle.check_laws.proofs.OfFacts.Binders.{binds_less, Among, split, not_bound, apart}
use Rattle.check_laws.proofs.OfFacts.Affine.{same_numbers, all_are_affine}
use Rattle.check_laws.proofs.OfFacts.Standing.{Names as Within, has_sort, over_names, plain_allows}
use Rattle.check_laws.proofs.OfFacts.Truths.{parts, neither, both_false, one_of, on_left, on_right, denied}
use Rattle.check_laws.proofs.OfFacts.Truths.{contrary, self, none_some, some_injective}
use Rattle.match_laws.specs.Names.{Buffer, Names, with_kind, with_params, viewed, span_extents}
use Rattle.match_laws.specs.Names.{with_block, with_statement, names_of, extents_of}
use Rattle.match_laws.specs.Inline.Known.{HasExtents}
use Rattle.match_laws.proofs.OfInline.Named.{block_frame, step_frame, kind_frame}
use Rattle.call_laws.specs.Places.{IsThere}
use Rattle.call_laws.proofs.Places.{own, name_unbound}

assoc : (p q r : Bool) → ((p || q) || r) ≡ false → (p || (q || r)) ≡ false
assoc true q r h = h
assoc false q r h = h

params_frame : (ps : List Param) (names : Names) (x : ℕ)
    → Among (map (λ p. p.binder.id) ps) x ≡ false → with_params ps names x ≡ names x
params_frame [] names x h = refl
params_frame (p ∷ ps) names x h =
    let q = neither (x == p.binder.id) (Among (map (λ (q : Param). q.binder.id) ps) x) h in
    params_frame ps (with_kind p.binder.id p.kind names) x q.1
    ∙ kind_frame p.binder.id p.kind names x q.0

-- ---- what a table says of the binders of a block

module _ (table : Names) where
  abbrev mutual
    pub Agrees : Block → Type 0
    Agrees end = Unit {0}
    Agrees (next a b) = StepAgrees a × Agrees b

    pub StepAgrees : Statement → Type 0
    StepAgrees (Assign x is e) = Unit {0}
    StepAgrees (Reduce x is e) = Unit {0}
    StepAgrees (Config f a) = Unit {0}
    StepAgrees Pass = Unit {0}
    StepAgrees (If c a b) = Agrees a × Agrees b
    StepAgrees (For i lo hi b) = (table i.id ≡ None) × Agrees b
    StepAgrees (Alloc x cell dims memory) =
        table x.id ≡ Some (record { cell = cell; extents = dims; tensor = true })
    StepAgrees (View w x cs) = table w.id ≡ viewed cs (table x)
    StepAgrees (Call k args) = Unit {0}

  abbrev pub KindAgrees : ℕ → ParamKind → Type 0
  KindAgrees x (ControlParam kind) = table x ≡ None
  KindAgrees x (TensorParam cell dims memory) =
      table x ≡ Some (record { cell = cell; extents = dims; tensor = true })
  KindAgrees x (WindowParam cell dims memory) =
      table x ≡ Some (record { cell = cell; extents = dims; tensor = false })

  abbrev pub ParamsAgree : List Param → Type 0
  ParamsAgree [] = Unit {0}
  ParamsAgree (p ∷ ps) = KindAgrees p.binder.id p.kind × ParamsAgree ps

  mutual
    block_agrees : (b : Block) (bound later : ℕ → Bool) (names : Names) → is_scoped bound b ≡ true
        → IsApart later b → ((x : ℕ) → bound x ≡ true → (has_binder b x || later x) ≡ false)
        → ((x : ℕ) → has_binder b x ≡ true → names x ≡ None)
        → ((x : ℕ) → later x ≡ false → table x ≡ with_block b names x) → Agrees b
    block_agrees end bound later names scoped apart new none is = tt
    block_agrees (next a b) bound later names scoped apart new none is =
        let s = parts (step_is_scoped bound a) (is_scoped (λ y. binds a y || bound y) b) scoped in
        let behind : ℕ → Bool = λ x. has_binder b x || later x in (
          step_agrees a bound behind names s.0 apart.0
              (λ x k. assoc (step_has_binder a x) (has_binder b x) (later x) (new x k))
              (λ x k. none x (on_left (step_has_binder a x) (has_binder b x) k))
              (λ x k. (let p = neither (has_binder b x) (later x) k in
              is x p.1 ∙ block_frame b (with_statement a names) x p.0)),
          block_agrees b (λ y. binds a y || bound y) later (with_statement a names) s.1 apart.1
              (λ x k. one_of (binds a x) (bound x) k
              (λ j. step_apart_there behind a apart.0 x (binds_less a x j))
              (λ j. (neither (step_has_binder a x) (has_binder b x || later x)
              (assoc (step_has_binder a x) (has_binder b x) (later x) (new x j))).1))
              (λ x k. step_frame a names x (contrary (step_has_binder a x) (λ j. true≢false
              (sym (on_left (has_binder b x) (later x) k) ∙ step_apart_there behind a apart.0 x j)))
              ∙ none x (on_right (step_has_binder a x) (has_binder b x) k)) is,
        )

    step_agrees : (a : Statement) (bound later : ℕ → Bool) (names : Names)
        → step_is_scoped bound a ≡ true → StepIsApart later a
        → ((x : ℕ) → bound x ≡ true → (step_has_binder a x || later x) ≡ false)
        → ((x : ℕ) → step_has_binder a x ≡ true → names x ≡ None)
        → ((x : ℕ) → later x ≡ false → table x ≡ with_statement a names x) → StepAgrees a
    step_agrees (Assign y is e) bound later names scoped apart new none same = tt
    step_agrees (Reduce y is e) bound later names scoped apart new none same = tt
    step_agrees (Config f a) bound later names scoped apart new none same = tt
    step_agrees Pass bound later names scoped apart new none same = tt
    step_agrees (If c a b) bound later names scoped apart new none same =
        let s = parts (is_scoped bound a) (is_scoped bound b)
        (parts (not (in_condition (is_not bound) c)) (is_scoped bound a && is_scoped bound b) scoped).1 in
        let behind : ℕ → Bool = λ x. has_binder b x || later x in (
          block_agrees a bound behind names s.0 apart.0
              (λ x k. assoc (has_binder a x) (has_binder b x) (later x) (new x k))
              (λ x k. none x (on_left (has_binder a x) (has_binder b x) k))
              (λ x k. (let p = neither (has_binder b x) (later x) k in
              same x p.1 ∙ block_frame b (with_block a names) x p.0)),
          block_agrees b bound later (with_block a names) s.1 apart.1
              (λ x k. (neither (has_binder a x) (has_binder b x || later x)
              (assoc (has_binder a x) (has_binder b x) (later x) (new x k))).1)
              (λ x k. block_frame a names x (contrary (has_binder a x) (λ j. true≢false
              (sym (on_left (has_binder b x) (later x) k) ∙ apart_there behind a apart.0 x j)))
              ∙ none x (on_right (has_binder a x) (has_binder b x) k)) same,
        )
    step_agrees (For i lo hi b) bound later names scoped apart new none same =
        let outside = not (in_control (is_not bound) lo || in_control (is_not bound) hi) in
        let within = is_scoped (λ y. (y == i.id) || bound y) b in
        let s = parts outside within (parts (not (bound i.id)) (outside && within) scoped).1 in
        let p = neither (has_binder b i.id) (later i.id) apart.0 in (
          same i.id p.1 ∙ block_frame b names i.id p.0
              ∙ none i.id (on_left (i.id == i.id) (has_binder b i.id) (self i.id)),
          block_agrees b (λ y. (y == i.id) || bound y) later names s.1 apart.1
              (λ x k. one_of (x == i.id) (bound x) k
              (λ j. ap (λ y. has_binder b y || later y) (eqb-true x i.id j) ∙ apart.0)
              (λ j. (let q = neither ((x == i.id) || has_binder b x) (later x) (new x j) in
              both_false (has_binder b x) (later x) (neither (x == i.id) (has_binder b x) q.0).1 q.1)))
              (λ x k. none x (on_right (x == i.id) (has_binder b x) k)) same,
        )
    step_agrees (Alloc y cell dims memory) bound later names scoped apart new none same =
        same y.id apart
        ∙ ap (λ t. cond t (Some (record { cell = cell; extents = dims; tensor = true })) (names y.id))
        (self y.id)
    step_agrees (View w y cs) bound later names scoped apart new none same =
        let p = parts (bound y) (not (in_coords (is_not bound) cs))
        (parts (not (bound w.id)) (bound y && not (in_coords (is_not bound) cs)) scoped).1 in
        let q = neither (y == w.id) (later y) (new y p.0) in
        same w.id apart
        ∙ ap (λ t. cond t (viewed cs (names y)) (names w.id)) (self w.id)
        ∙ sym (ap (viewed cs) (same y q.1 ∙ step_frame (View w y cs) names y q.0))
    step_agrees (Call n args) bound later names scoped apart new none same = tt

  -- ---- parameters

  kind_agrees : (x : ℕ) (kind : ParamKind) (names : Names) → names x ≡ None
      → table x ≡ with_kind x kind names x → KindAgrees x kind
  kind_agrees x (ControlParam kind) names none own = own ∙ none
  kind_agrees x (TensorParam cell dims memory) names none own =
      own ∙ ap (λ t. cond t (Some (record { cell = cell; extents = dims; tensor = true })) (names x)) (self x)
  kind_agrees x (WindowParam cell dims memory) names none own =
      own ∙ ap (λ t. cond t (Some (record { cell = cell; extents = dims; tensor = false })) (names x)) (self x)

  params_agree : (ps : List Param) (names : Names)
      → are_distinct (map (λ p. p.binder.id) ps) ≡ true
      → ((x : ℕ) → Among (map (λ p. p.binder.id) ps) x ≡ true → names x ≡ None)
      → ((x : ℕ) → Among (map (λ p. p.binder.id) ps) x ≡ true → table x ≡ with_params ps names x)
      → ParamsAgree ps
  params_agree [] names h none same = tt
  params_agree (p ∷ ps) names h none same =
      let x = p.binder.id in
      let ids = map (λ (q : Param). q.binder.id) ps in
      let d = parts (not (Among ids x)) (are_distinct ids) h in
      let own : table x ≡ with_kind x p.kind names x
      = same x (on_left (x == x) (Among ids x) (self x))
      ∙ params_frame ps (with_kind x p.kind names) x (denied (Among ids x) d.0) in (
        kind_agrees x p.kind names (none x (on_left (x == x) (Among ids x) (self x))) own,
        params_agree ps (with_kind x p.kind names) d.1
            (λ y k. kind_frame x p.kind names y (contrary (y == x) (λ j. true≢false
            (sym k ∙ ap (Among ids) (eqb-true y x j) ∙ denied (Among ids x) d.0)))
            ∙ none y (on_right (y == x) (Among ids y) k))
            (λ y k. same y (on_right (y == x) (Among ids y) k)),
      )

param_among : (ps : List Param) (x : ℕ) → is_buffer_of x ps ≡ true
    → Among (map (λ p. p.binder.id) ps) x ≡ true
param_among [] x h = h
param_among (p ∷ ps) x h =
    let ids = map (λ (q : Param). q.binder.id) ps in
    one_of (x == p.binder.id) (is_buffer_of x ps) h (on_left (x == p.binder.id) (Among ids x))
    (λ k. on_right (x == p.binder.id) (Among ids x) (param_among ps x k))

among_param : (ps : List Param) (x : ℕ) → Among (map (λ p. p.binder.id) ps) x ≡ true
    → is_buffer_of x ps ≡ true
among_param [] x h = h
among_param (p ∷ ps) x h =
    one_of (x == p.binder.id) (Among (map (λ (q : Param). q.binder.id) ps) x) h
    (on_left (x == p.binder.id) (is_buffer_of x ps))
    (λ k. on_right (x == p.binder.id) (is_buffer_of x ps) (among_param ps x k))

block_is_told : (p : Procedure) → is_scoped (is_param p) p.body ≡ true
    → are_distinct (map (λ q. q.binder.id) p.params ++ binders p.body) ≡ true
    → Agrees (names_of p) p.body
block_is_told p scoped distinct =
    let ids = map (λ (q : Param). q.binder.id) p.params in
    let d = split ids (binders p.body) distinct in
    let fresh : (x : ℕ) → Among ids x ≡ true → has_binder p.body x ≡ false
    = λ x k. not_bound p.body x (d.apart x k) in
    block_agrees (names_of p) p.body (is_param p) (λ x. false) (with_params p.params (λ x. None)) scoped
    (apart (λ x. false) p.body d.second (λ x k. refl))
    (λ x k. both_false (has_binder p.body x) false (fresh x (param_among p.params x k)) refl)
    (λ x k. params_frame p.params (λ x. None) x (contrary (Among ids x)
    (λ j. true≢false (sym k ∙ fresh x j))))
    (λ x k. refl)

params_are_told : (p : Procedure)
    → are_distinct (map (λ q. q.binder.id) p.params ++ binders p.body) ≡ true
    → ParamsAgree (names_of p) p.params
params_are_told p distinct =
    let d = split (map (λ (q : Param). q.binder.id) p.params) (binders p.body) distinct in
    params_agree (names_of p) p.params (λ x. None) d.first (λ x k. refl)
    (λ x k. block_frame p.body (with_params p.params (λ x. None)) x
    (not_bound p.body x (d.apart x k)))

-- ---- extents

whole_extents : (ns : List ℤ) → extents (whole ns) ≡ ns
whole_extents [] = refl
whole_extents (n ∷ ns) = ap (λ l. n ∷ l) (whole_extents ns)

-- a window has the extents of its spans
module _ (scene : Scene) where
  abbrev Spans : List Coord → Option (List Side) → Type 0
  Spans cs o = IfSome o (λ ts. numbers scene (span_extents cs) ≡ extents ts)

  point_spans : (cs : List Coord) (p : ℤ) (o : Option (List Side)) → Spans cs o
      → Spans cs (option_map (λ rest. Point p ∷ rest) o)
  point_spans cs p None h = tt
  point_spans cs p (Some ts) h = h

  at_spans : (cs : List Coord) (a : Control) (t : Bool) (o : Option (List Side)) (p : ℤ) → Spans cs o
      → Spans (At a ∷ cs) (where_true t (option_map (λ rest. Point p ∷ rest) o))
  at_spans cs a false o p h = tt
  at_spans cs a true None p h = tt
  at_spans cs a true (Some ts) p h = h

  span_spans : (cs : List Coord) (a b : Control) (t : Bool) (o : Option (List Side)) (lo n : ℤ)
      → number scene (Sub b a) ≡ n → Spans cs o
      → Spans (Span a b ∷ cs) (where_true t (option_map (λ rest. Range lo n ∷ rest) o))
  span_spans cs a b false o lo n e h = tt
  span_spans cs a b true None lo n e h = tt
  span_spans cs a b true (Some ts) lo n e h = ap₂ ◌∷◌ e h

  narrowed_spans : (sides : List Side) (cs : List Coord) → Spans cs (narrowed scene sides cs)
  narrowed_spans [] [] = refl
  narrowed_spans [] (c ∷ cs) = tt
  narrowed_spans (Point p ∷ sides) cs = point_spans cs p (narrowed scene sides cs) (narrowed_spans sides cs)
  narrowed_spans (Range lo n ∷ sides) [] = tt
  narrowed_spans (Range lo n ∷ sides) (At a ∷ cs) =
      at_spans cs a (is_below (number scene a) n) (narrowed scene sides cs) (lo +ℤ number scene a)
      (narrowed_spans sides cs)
  narrowed_spans (Range lo n ∷ sides) (Span a b ∷ cs) =
      let i = number scene a in
      let j = number scene b in
      span_spans cs a b (int_le (pos 0) i && int_lt i j && int_le j n) (narrowed scene sides cs)
      (lo +ℤ i) (j -ℤ i) refl (narrowed_spans sides cs)

-- ---- on the way to a place

abbrev NameHas : Scene → ℕ → Option Buffer → Type 0
NameHas u x None = u.views x ≡ None
NameHas u x (Some b) =
    (seen : Seen) → u.views x ≡ Some seen → numbers u b.extents ≡ extents seen.sides

module _ (table : Names) (u : Scene) where
  abbrev Has : ℕ → Type 0
  Has x = NameHas u x (table x)

  -- a buffer that is seen whole
  whole_has : (x : ℕ) (b : ℕ) (ns : List ℤ) (es : List Control)
      → u.views x ≡ Some (record { buffer = b; sides = whole ns }) → numbers u es ≡ ns
      → (seen : Seen) → u.views x ≡ Some seen → numbers u es ≡ extents seen.sides
  whole_has x b ns es h e seen k =
      e ∙ sym (whole_extents ns)
      ∙ ap (λ (z : Seen). extents z.sides)
      (some_injective (record { buffer = b; sides = whole ns }) seen (sym h ∙ k))

  step_has : (a : Statement) (bound : ℕ → Bool) → step_is_scoped bound a ≡ true → StepAgrees table a
      → made.IsMade u a → ((x : ℕ) → bound x ≡ true → Has x) → (x : ℕ) → binds a x ≡ true → Has x
  step_has (Assign y is e) bound scoped agrees made have x k = absurd (true≢false (sym k))
  step_has (Reduce y is e) bound scoped agrees made have x k = absurd (true≢false (sym k))
  step_has (Config f a) bound scoped agrees made have x k = absurd (true≢false (sym k))
  step_has Pass bound scoped agrees made have x k = absurd (true≢false (sym k))
  step_has (If c a b) bound scoped agrees made have x k = absurd (true≢false (sym k))
  step_has (For i lo hi b) bound scoped agrees made have x k = absurd (true≢false (sym k))
  step_has (Alloc y cell dims memory) bound scoped agrees made have x k =
      subst Has (sym (eqb-true x y.id k)) (subst (NameHas u y.id) (sym agrees)
      (whole_has y.id y.id (numbers u dims) dims made.1 refl))
  step_has (View w y cs) bound scoped agrees made have x k =
      let there = (parts (bound y) (not (in_coords (is_not bound) cs))
      (parts (not (bound w.id)) (bound y && not (in_coords (is_not bound) cs)) scoped).1).0 in
      subst Has (sym (eqb-true x w.id k)) (subst (NameHas u w.id) (sym agrees)
      (go (table y) (have y there)))
    where
      part : Seen → Option Seen
      part seen = option_map (λ sides. record { buffer = seen.buffer; sides = sides })
          (narrowed u seen.sides cs)

      go : (o : Option Buffer) → NameHas u y o → NameHas u w.id (viewed cs o)
      go None h = absurd (none_some (sym (ap (λ o. then_do o part) h) ∙ made.1))
      go (Some b) h = λ seen e.
          let m = then_gives (u.views y) part made.0 made.1 in
          let n = map_gives (narrowed u m.0.sides cs)
          (λ sides. record { buffer = m.0.buffer; sides = sides }) made.0 m.2 in
          subst (λ o. IfSome o (λ ts. numbers u (span_extents cs) ≡ extents ts)) n.1
          (narrowed_spans u m.0.sides cs)
          ∙ ap (λ (z : Seen). extents z.sides) (n.2 ∙ some_injective made.0 seen (sym made.2 ∙ e))
  step_has (Call n args) bound scoped agrees made have x k = absurd (true≢false (sym k))

  way_has : (old : Block) (c : Context) (bound : ℕ → Bool) → is_scoped bound (fill c old) ≡ true
      → Agrees table (fill c old) → made.AreMade u c → ((x : ℕ) → bound x ≡ true → Has x)
      → (x : ℕ) → (bound x || on_way c x) ≡ true → Has x
  way_has old (Here rest) bound scoped agrees made have x k =
      have x (one_of (bound x) false k (λ j. j) (λ j. absurd (true≢false (sym j))))
  way_has old (After a c) bound scoped agrees made have x k =
      let more : ℕ → Bool = λ y. binds a y || bound y in
      let s = parts (step_is_scoped bound a) (is_scoped more (fill c old)) scoped in
      way_has old c more s.1 agrees.1 made.1
      (λ y j. one_of (binds a y) (bound y) j (step_has a bound s.0 agrees.0 made.0 have y) (have y))
      x (back (binds a x) (bound x) (on_way c x) k)
    where
      back : (p q r : Bool) → (q || (p || r)) ≡ true → ((p || q) || r) ≡ true
      back true true r h = refl
      back true false r h = h
      back false q r h = h
  way_has old (InLoop i lo hi c rest) bound scoped agrees made have x k =
      let b = fill c old in
      let more : ℕ → Bool = λ y. (y == i.id) || bound y in
      let outside = not (in_control (is_not bound) lo || in_control (is_not bound) hi) in
      let s = parts outside (is_scoped more b) (parts (not (bound i.id)) (outside && is_scoped more b)
      (parts (step_is_scoped bound (For i lo hi b)) (is_scoped bound rest) scoped).0).1 in
      way_has old c more s.1 agrees.0.1 made.1
      (λ y j. one_of (y == i.id) (bound y) j
      (λ e. subst Has (sym (eqb-true y i.id e)) (subst (NameHas u i.id) (sym agrees.0.0) made.0))
      (have y))
      x (back (x == i.id) (bound x) (on_way c x) k)
    where
      back : (p q r : Bool) → (q || (p || r)) ≡ true → ((p || q) || r) ≡ true
      back true true r h = refl
      back true false r h = h
      back false q r h = h
  way_has old (InThen test c other rest) bound scoped agrees made have x k =
      let b = fill c old in
      let s = parts (is_scoped bound b) (is_scoped bound other)
      (parts (not (in_condition (is_not bound) test)) (is_scoped bound b && is_scoped bound other)
      (parts (step_is_scoped bound (If test b other)) (is_scoped bound rest) scoped).0).1 in
      way_has old c bound s.0 agrees.0.0 made have x k
  way_has old (InElse test other c rest) bound scoped agrees made have x k =
      let b = fill c old in
      let s = parts (is_scoped bound other) (is_scoped bound b)
      (parts (not (in_condition (is_not bound) test)) (is_scoped bound other && is_scoped bound b)
      (parts (step_is_scoped bound (If test other b)) (is_scoped bound rest) scoped).0).1 in
      way_has old c bound s.1 agrees.0.1 made have x k

  -- ---- parameters

  module _ (fields : ℕ → Option Kind) (memories : ℕ) (first : Scene) (bound : ℕ → Bool)
      (same : (y : ℕ) → bound y ≡ true → first.control y ≡ u.control y) where
    -- dimensions have the same numbers there
    dims_stay : (scope : Scope) (es : List Control) → Within bound scope
        → are_controls fields plainly scope es ≡ true
        → numbers first es ≡ numbers u es
    dims_stay scope es names h =
        same_numbers (over_names bound) first u
        (record {
          control = same;
          fields = λ f k. absurd (true≢false (sym k));
          strides = λ x j k. absurd (true≢false (sym k));
        })
        es (all_are_affine fields plainly scope (over_names bound)
        (plain_allows fields bound scope names) es h)

    kind_has : (x : ℕ) (kind : ParamKind) (scope : Scope) → Within bound scope
        → is_param_kind fields memories scope kind ≡ true → KindAgrees table x kind
        → IsArgument first x kind → first.views x ≡ u.views x → Has x
    kind_has x (ControlParam kind) scope names keeps agrees argument views =
        subst (NameHas u x) (sym agrees) (sym views ∙ argument.2)
    kind_has x (TensorParam cell dims memory) scope names keeps agrees argument views =
        let plain = (parts (are_controls fields plainly scope dims) _ keeps).0 in
        subst (NameHas u x) (sym agrees) (whole_has x x (numbers first dims) dims
        (sym views ∙ argument.1) (sym (dims_stay scope dims names plain)))
    kind_has x (WindowParam cell dims memory) scope names keeps agrees argument views =
        let plain = (parts (are_controls fields plainly scope dims) _ keeps).0 in
        subst (NameHas u x) (sym agrees) (whole_has x x (numbers first dims) dims
        (sym views ∙ argument.1.1) (sym (dims_stay scope dims names plain)))

    params_have : (ps : List Param) (scope : Scope) → Within bound scope
        → ((x : ℕ) → is_buffer_of x ps ≡ true → bound x ≡ true)
        → are_params fields memories scope ps ≡ true → ParamsAgree table ps → AreArguments first ps
        → ((x : ℕ) → is_buffer_of x ps ≡ true → first.views x ≡ u.views x)
        → (x : ℕ) → is_buffer_of x ps ≡ true → Has x
    params_have [] scope names all keeps agrees arguments views x k = absurd (true≢false (sym k))
    params_have (p ∷ ps) scope names all keeps agrees arguments views x k =
        let id = p.binder.id in
        let q = parts (is_param_kind fields memories scope p.kind)
        (are_params fields memories (with_name scope p.binder (param_sort p.kind)) ps)
        (parts (is_new scope p.binder) _ keeps).1 in
        let own = on_left (id == id) (is_buffer_of id ps) (self id) in
        one_of (x == id) (is_buffer_of x ps) k
        (λ e. subst Has (sym (eqb-true x id e))
        (kind_has id p.kind scope names q.0 agrees.0 arguments.0 (views id own)))
        (params_have ps (with_name scope p.binder (param_sort p.kind)) (more_names (all id own))
        (λ y j. all y (on_right (y == id) (is_buffer_of y ps) j)) q.1 agrees.1 arguments.1
        (λ y j. views y (on_right (y == id) (is_buffer_of y ps) j)) x)
      where
        more_names : bound p.binder.id ≡ true
            → Within bound (with_name scope p.binder (param_sort p.kind))
        more_names own y = go (y == p.binder.id) refl
          where
            go : (t : Bool) → (y == p.binder.id) ≡ t
                → has_sort (cond t (Some (param_sort p.kind)) (sort_in scope y)) ≡ true
                → bound y ≡ true
            go true e k = ap bound (eqb-true y p.binder.id e) ∙ own
            go false e k = names y k

-- ---- at a place

pub extents_stand : (u : Program) (p : Procedure) (c : Context) (old : Block) (t : State)
    → IsThere u p c old t → (x : ℕ) → HasExtents (names_of p) t.scene x
extents_stand u p c old t there x = go (in_scope p c x) refl
  where
    table : Names
    table = names_of p

    has : in_scope p c x ≡ true → NameHas t.scene x (table x)
    has h =
        let fields = field_kind u.fields in
        let memories = length u.memories in
        let world = program_world u in
        let keeps = there.may.procedure in
        let first = there.first in
        let scoped = (own u p c old t there).scoped in
        let n = made_law fields memories world.callees world p c old first t keeps there.body
        there.good there.comes in
        way_has table t.scene old c (is_param p)
        (subst (λ b. is_scoped (is_param p) b ≡ true) there.body scoped)
        (subst (Agrees table) there.body (block_is_told p scoped keeps.distinct)) n.made
        (params_have table t.scene fields memories first.scene (is_param p)
        (λ y j. (n.params y j).control) p.params [] (λ y j. absurd (true≢false (sym j))) (λ y j. j)
        keeps.params (params_are_told p keeps.distinct) there.good.arguments
        (λ y j. (n.params y j).views)) x h

    of_entry : (o : Option Buffer) → table x ≡ o → NameHas t.scene x o
        → (seen : Seen) → t.scene.views x ≡ Some seen
        → numbers t.scene (extents_of o) ≡ extents seen.sides
    of_entry None e h seen k = absurd (none_some (sym h ∙ k))
    of_entry (Some b) e h seen k = h seen k

    go : (s : Bool) → in_scope p c x ≡ s → HasExtents table t.scene x
    go true h = of_entry (table x) refl (has h)
    go false h = λ seen k. absurd (none_some (sym (name_unbound u p c old t there x h).views ∙ k))
