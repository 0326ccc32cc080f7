-- The table of extents tells what each buffer's name sees, wherever a run comes to.
use Rattle.std.proofs.Common.{◌≡◌, ℕ, suc, ℤ, ◌+ℤ◌, ◌-ℤ◌, ◌*ℤ◌, neg_ℤ, ◌==◌, ◌&&◌, ◌||◌, Bool, true}
use Rattle.std.proofs.Common.{false, true≢false, cond, List, [], ◌∷◌, length, Option, Some, None, refl}
use Rattle.std.proofs.Common.{sym, ap, ap₂, ◌∙◌, subst, eqb-true}
use Rattle.std.specs.Prelude.{IsSome}
use Rattle.std.specs.Int.{int_div_euclid, int_rem_euclid}
use Rattle.exo_tree.specs.Tree.{Kind, Index, Cell, Binder, Control, Lit, Var, Field, StrideOf, Neg}
use Rattle.exo_tree.specs.Tree.{Add, Sub, Mul, Div, Mod, Coord, At, Span, Statement, Assign, Reduce}
use Rattle.exo_tree.specs.Tree.{Config, Pass, If, For, Alloc, View, Call, Block, Param, ParamKind}
use Rattle.exo_tree.specs.Tree.{ControlParam, TensorParam, WindowParam, Procedure}
use Rattle.exo_tree.specs.Context.{Context, Here, After, InLoop, InThen, InElse, fill}
use Rattle.exo_meaning.specs.Scene.{Scene, number, numbers, extents, whole}
use Rattle.exo_meaning.specs.State.{State}
use Rattle.exo_meaning.specs.Inputs.{is_buffer_of, IsArgument, AreArguments}
use Rattle.exo_meaning.specs.Units as units
use Rattle.exo_meaning.specs.Units.{Sort, ControlName, BufferName, Scope, sort_in, with_name, is_new}
use Rattle.exo_meaning.specs.Units.{scope_of, scope_after, param_sort, view_sort, plainly, is_number}
use Rattle.exo_meaning.specs.Units.{is_control, are_controls, is_rank, is_param_kind, are_params}
use Rattle.meaning_laws.specs.Context.{ComesTo}
use Rattle.meaning_laws.specs.Made.{IsMade, AreMade}
use Rattle.meaning_laws.specs.Scoped.{has_binder, step_has_binder, is_param}
use Rattle.meaning_laws.specs.Sorted.{scope_at}
use Rattle.meaning_laws.specs.Sound.{IsSameName}
use Rattle.meaning_laws.proofs.Made.{made_law}
use Rattle.place_laws.specs.Scope.Holes.{within}
use Rattle.place_laws.proofs.OfScope.Within.{holes_compose}
use Rattle.buffer_laws.specs.Staging.Stores.{spans}
use Rattle.buffer_laws.proofs.OfStaging.Box.{box_law}
use Rattle.check_claims.specs.Extents.{Extents, span_extents, dims_of, extents_of}
use Rattle.alloc_laws.specs.Goes.Sizes.{HasSizes, SizesAtPlace, SizesWithin}
use Rattle.check_laws.proofs.OfClaims.Basics.{and_parts, or_parts, or_left, or_right, no_test, none_some}
use Rattle.check_laws.proofs.OfClaims.Basics.{some_injective, same_number}
use Rattle.check_laws.proofs.OfClaims.Tables.{Agrees, StepAgrees, ParamsAgree, table_agrees}

control_buffer : {kind : Kind} {cell : Cell} {rank : ℕ} {dense : Bool}
    → ControlName kind ≡ BufferName cell rank dense → ⊥
control_buffer e = cc

same_rank : {c cell : Cell} {r rank : ℕ} {d dense : Bool}
    → BufferName c r d ≡ BufferName cell rank dense → r ≡ rank
same_rank e = cc

whole_extents : (dims : List ℤ) → extents (whole dims) ≡ dims
whole_extents [] = refl
whole_extents (d ∷ dims) = ap (λ l. d ∷ l) (whole_extents dims)

span_extents_are : (cs : List Coord) → span_extents cs ≡ spans cs
span_extents_are [] = refl
span_extents_are (At a ∷ cs) = span_extents_are cs
span_extents_are (Span a b ∷ cs) = ap (λ l. Sub b a ∷ l) (span_extents_are cs)

as_many : (cs : List Coord) → length (span_extents cs) ≡ units.spans cs
as_many [] = refl
as_many (At a ∷ cs) = as_many cs
as_many (Span a b ∷ cs) = ap suc (as_many cs)

view_rank : (o : Option Sort) (n : ℕ) (cell : Cell) (rank : ℕ) (dense : Bool)
    → view_sort o n ≡ BufferName cell rank dense → n ≡ rank
view_rank None n cell rank dense e = same_rank e
view_rank (Some (ControlName kind)) n cell rank dense e = same_rank e
view_rank (Some (BufferName c r d)) n cell rank dense e = same_rank e

-- ---- numbers over names in scope

number_in_scope : (o : Option Sort) → is_number o ≡ true → IsSome o
number_in_scope None h = no_test h
number_in_scope (Some sort) h = refl

module _ (fields : ℕ → Option Kind) (scope : Scope) (a b : Scene)
    (same : (y : ℕ) → IsSome (sort_in scope y) → a.control y ≡ b.control y) where
  abbrev Plain : Control → Bool
  Plain e = is_control fields plainly scope e

  number_steady : (e : Control) → Plain e ≡ true → number a e ≡ number b e
  number_steady (Lit n) h = refl
  number_steady (Var x) h = same x (number_in_scope (sort_in scope x) h)
  number_steady (Field f) h = no_test h
  number_steady (StrideOf x k) h = no_test h
  number_steady (Neg e) h = ap neg_ℤ (number_steady e h)
  number_steady (Add d e) h =
      let p = and_parts (Plain d) (Plain e) h in
      ap₂ ◌+ℤ◌ (number_steady d p.0) (number_steady e p.1)
  number_steady (Sub d e) h =
      let p = and_parts (Plain d) (Plain e) h in
      ap₂ ◌-ℤ◌ (number_steady d p.0) (number_steady e p.1)
  number_steady (Mul d e) h =
      let q = and_parts (Plain d && Plain e) _ h in
      let p = and_parts (Plain d) (Plain e) q.0 in
      ap₂ ◌*ℤ◌ (number_steady d p.0) (number_steady e p.1)
  number_steady (Div e c) h = ap (λ n. int_div_euclid n c)
      (number_steady e (and_parts (Plain e) _ h).0)
  number_steady (Mod e c) h = ap (λ n. int_rem_euclid n c)
      (number_steady e (and_parts (Plain e) _ h).0)

  numbers_steady : (es : List Control) → are_controls fields plainly scope es ≡ true
      → numbers a es ≡ numbers b es
  numbers_steady [] h = refl
  numbers_steady (e ∷ es) h =
      let p = and_parts (Plain e) (are_controls fields plainly scope es) h in
      ap₂ (λ n ns. n ∷ ns) (number_steady e p.0) (numbers_steady es p.1)

-- ---- each buffer's name in scope

module _ (table : Extents) (scene : Scene) where
  abbrev AllSized : Scope → Type 0
  AllSized scope =
      (x : ℕ) (cell : Cell) (rank : ℕ) (dense : Bool)
      → sort_in scope x ≡ Some (BufferName cell rank dense) → HasSizes x (table x) rank scene

  abbrev IsSized : Binder → Sort → Type 0
  IsSized x sort =
      (cell : Cell) (rank : ℕ) (dense : Bool)
      → sort ≡ BufferName cell rank dense → HasSizes x.id (table x.id) rank scene

  one_more : (scope : Scope) (x : Binder) (sort : Sort) → AllSized scope → IsSized x sort
      → AllSized (with_name scope x sort)
  one_more scope x sort all this y cell rank dense e = go (y == x.id) refl e
    where
      go : (t : Bool) → (y == x.id) ≡ t
          → cond t (Some sort) (sort_in scope y) ≡ Some (BufferName cell rank dense)
          → HasSizes y (table y) rank scene
      go true k e = subst (λ z. HasSizes z (table z) rank scene) (sym (eqb-true y x.id k))
          (this cell rank dense (some_injective sort (BufferName cell rank dense) e))
      go false k e = all y cell rank dense e

  no_buffer : (x : Binder) (kind : Kind) → IsSized x (ControlName kind)
  no_buffer x kind cell rank dense e = absurd (control_buffer e)

  -- a buffer of these dimensions
  of_dims : (x : ℕ) (dims : List Control) (rank : ℕ) (first : Scene) → table x ≡ dims
      → scene.views x ≡ Some (record { buffer = x; sides = whole (numbers first dims) })
      → numbers first dims ≡ numbers scene dims → length dims ≡ rank
      → HasSizes x (table x) rank scene
  of_dims x dims rank first agree view same e = record {
    seen = record { buffer = x; sides = whole (numbers first dims) };
    there = view;
    sizes = ap (numbers scene) agree ∙ sym same ∙ sym (whole_extents (numbers first dims));
    long = ap length agree ∙ e;
  }

  -- ---- on the way

  step : (a : Statement) (scope : Scope) → StepAgrees table a → IsMade scene a → AllSized scope
      → AllSized (scope_after a scope)
  step (Assign x is e) scope ag made all = all
  step (Reduce x is e) scope ag made all = all
  step (Config f g) scope ag made all = all
  step Pass scope ag made all = all
  step (If c a b) scope ag made all = all
  step (For i lo hi b) scope ag made all = all
  step (Alloc x c dims memory) scope ag made all =
      one_more scope x (BufferName c (length dims) true) all (λ cell rank dense e.
      of_dims x.id dims rank scene ag made.1 refl (same_rank e))
  step (View w x coords) scope ag made all =
      one_more scope w (view_sort (sort_in scope x) (units.spans coords)) all (λ cell rank dense e.
      record {
        seen = made.0;
        there = made.2;
        sizes = ap (numbers scene) (ag ∙ span_extents_are coords)
            ∙ (box_law scene x coords made.0 made.1).0;
        long = ap length ag ∙ as_many coords
            ∙ view_rank (sort_in scope x) (units.spans coords) cell rank dense e;
      })
  step (Call k gs) scope ag made all = all

  on_way : (c : Context) (old : Block) (scope : Scope) → Agrees table (fill c old)
      → AreMade scene c → AllSized scope → AllSized (scope_at c scope)
  on_way (Here rest) old scope ag made all = all
  on_way (After a c) old scope ag made all =
      on_way c old (scope_after a scope) ag.1 made.1 (step a scope ag.0 made.0 all)
  on_way (InLoop i lo hi c rest) old scope ag made all =
      on_way c old (with_name scope i (ControlName Index)) ag.0 made.1
      (one_more scope i (ControlName Index) all (no_buffer i Index))
  on_way (InThen t c other rest) old scope ag made all = on_way c old scope ag.0.0 made all
  on_way (InElse t other c rest) old scope ag made all = on_way c old scope ag.0.1 made all

-- ---- parameters

module _ (fields : ℕ → Option Kind) (memories : ℕ) (table : Extents) (p : Procedure) (s u : State)
    (stay : (x : ℕ) → is_param p x ≡ true → IsSameName x s u) where
  abbrev AreParams : Scope → Type 0
  AreParams scope = (y : ℕ) → IsSome (sort_in scope y) → is_param p y ≡ true

  abbrev InParams : List Param → Type 0
  InParams ps = (y : ℕ) → is_buffer_of y ps ≡ true → is_param p y ≡ true

  named : (scope : Scope) (x : Binder) (sort : Sort) → AreParams scope → is_param p x.id ≡ true
      → AreParams (with_name scope x sort)
  named scope x sort are this y h = go (y == x.id) refl h
    where
      go : (t : Bool) → (y == x.id) ≡ t → IsSome (cond t (Some sort) (sort_in scope y))
          → is_param p y ≡ true
      go true k h = subst (λ z. is_param p z ≡ true) (sym (eqb-true y x.id k)) this
      go false k h = are y h

  buffer : (scope : Scope) (x : ℕ) (dims : List Control) (rank : ℕ) → AreParams scope
      → is_param p x ≡ true → table x ≡ dims → are_controls fields plainly scope dims ≡ true
      → s.scene.views x ≡ Some (record { buffer = x; sides = whole (numbers s.scene dims) })
      → length dims ≡ rank → HasSizes x (table x) rank u.scene
  buffer scope x dims rank are this agree plain view e =
      of_dims table u.scene x dims rank s.scene agree (sym (stay x this).views ∙ view)
      (numbers_steady fields scope s.scene u.scene (λ y k. (stay y (are y k)).control) dims plain) e

  param : (scope : Scope) (x : Binder) (kind : ParamKind) → AreParams scope
      → is_param p x.id ≡ true → table x.id ≡ dims_of kind
      → is_param_kind fields memories scope kind ≡ true → IsArgument s.scene x.id kind
      → IsSized table u.scene x (param_sort kind)
  param scope x (ControlParam kind) are this agree h arg = no_buffer table u.scene x kind
  param scope x (TensorParam c dims memory) are this agree h arg = λ cell rank dense e.
      buffer scope x.id dims rank are this agree
      (and_parts (are_controls fields plainly scope dims) _ h).0 arg.1 (same_rank e)
  param scope x (WindowParam c dims memory) are this agree h arg = λ cell rank dense e.
      buffer scope x.id dims rank are this agree
      (and_parts (are_controls fields plainly scope dims) _ h).0 arg.1.1 (same_rank e)

  params : (ps : List Param) (scope : Scope) → are_params fields memories scope ps ≡ true
      → ParamsAgree table ps → AreArguments s.scene ps → InParams ps → AreParams scope
      → AllSized table u.scene scope → AllSized table u.scene (scope_of scope ps)
  params [] scope h agree args are in_scope all = all
  params (q ∷ ps) scope h agree args are in_scope all =
      let later = with_name scope q.binder (param_sort q.kind) in
      let k = and_parts (is_new scope q.binder) _ h in
      let r = and_parts (is_param_kind fields memories scope q.kind)
      (are_params fields memories later ps) k.1 in
      let this = are q.binder.id (or_left (q.binder.id == q.binder.id)
      (is_buffer_of q.binder.id ps) (same_number q.binder.id)) in
      params ps later r.1 agree.1 args.1
      (λ y j. are y (or_right (y == q.binder.id) (is_buffer_of y ps) j))
      (named scope q.binder (param_sort q.kind) in_scope this)
      (one_more table u.scene scope q.binder (param_sort q.kind) all
      (param scope q.binder q.kind in_scope this agree.0 r.0 args.0))

-- ---- at a place

pub sizes_at_place : SizesAtPlace
sizes_at_place fields memories callees world p c old s u x cell rank dense ok was good come e =
    let stand = made_law fields memories callees world p c old s u ok was good come in
    let tables = table_agrees p ok.distinct in
    let table = extents_of p in
    let first : AllSized table u.scene (scope_of [] p.params) =
    params fields memories table p s u stand.params p.params [] ok.params tables.0 good.arguments
    (λ y h. h) (λ y h. absurd (true≢false (sym h))) (λ y cell rank dense h. absurd (none_some h)) in
    on_way table u.scene c old (scope_of [] p.params)
    (subst (Agrees table) was tables.1) stand.made first x cell rank dense e

-- ---- within a block

module _ (x : ℕ) where
  after_same : (a : Statement) (scope : Scope) → step_has_binder a x ≡ false
      → sort_in (scope_after a scope) x ≡ sort_in scope x
  after_same (Assign y is d) scope h = refl
  after_same (Reduce y is d) scope h = refl
  after_same (Config f g) scope h = refl
  after_same Pass scope h = refl
  after_same (If c b d) scope h = refl
  after_same (For i lo hi b) scope h = refl
  after_same (Alloc y c ds memory) scope h =
      ap (λ t. cond t (Some (BufferName c (length ds) true)) (sort_in scope x)) h
  after_same (View w y ds) scope h =
      ap (λ t. cond t (Some (view_sort (sort_in scope y) (units.spans ds))) (sort_in scope x)) h
  after_same (Call k gs) scope h = refl

  inner_same : (d : Context) (old : Block) (scope : Scope) → has_binder (fill d old) x ≡ false
      → sort_in (scope_at d scope) x ≡ sort_in scope x
  inner_same (Here rest) old scope h = refl
  inner_same (After a d) old scope h =
      let p = or_parts (step_has_binder a x) (has_binder (fill d old) x) h in
      inner_same d old (scope_after a scope) p.1 ∙ after_same a scope p.0
  inner_same (InLoop i lo hi d rest) old scope h =
      let q = or_parts ((x == i.id) || has_binder (fill d old) x) (has_binder rest x) h in
      let p = or_parts (x == i.id) (has_binder (fill d old) x) q.0 in
      inner_same d old (with_name scope i (ControlName Index)) p.1
      ∙ ap (λ t. cond t (Some (ControlName Index)) (sort_in scope x)) p.0
  inner_same (InThen t d other rest) old scope h =
      let q = or_parts (has_binder (fill d old) x || has_binder other x) (has_binder rest x) h in
      inner_same d old scope (or_parts (has_binder (fill d old) x) (has_binder other x) q.0).0
  inner_same (InElse t other d rest) old scope h =
      let q = or_parts (has_binder other x || has_binder (fill d old) x) (has_binder rest x) h in
      inner_same d old scope (or_parts (has_binder other x) (has_binder (fill d old) x) q.0).1

pub sizes_within : SizesWithin
sizes_within fields memories callees world p c d b old s u v x cell rank dense ok was is free good
    come more e =
    let hole = holes_compose old c d in
    let scope = scope_of [] p.params in
    let body : p.body ≡ fill (within c d) old = was ∙ ap (fill c) is ∙ sym hole.body in
    let comes : ComesTo world old (within c d) s v = (hole.comes world s v).0 (record {
      middle = u;
      first = subst (λ z. ComesTo world z c s u) is come;
      second = more;
    }) in
    sizes_at_place fields memories callees world p (within c d) old s v x cell rank dense ok body
    good comes
    (ap (λ z. sort_in z x) (hole.scope scope)
    ∙ inner_same x d old (scope_at c scope) (subst (λ z. has_binder z x ≡ false) is free) ∙ e)
