-- What a well-formed procedure writes into fields and asks of conditions is affine over names that have roots.
use Rattle.std.proofs.Common.{◌≡◌, ◌≤ℤ◌, ℕ, zero, suc, pos, ◌==◌, Bool, true, false, cond, not, ◌&&◌, ◌||◌, List, [], ◌∷◌, ◌++◌, map, Option, Some, None, option_map, refl, sym, ap, ◌∙◌, subst, true≢false, eqb-true}
use Rattle.std.specs.List.{list_all}
use Rattle.exo_tree.specs.Tree.{Binder, Cell, Kind, Size, Index, Truth, Stride, Control, Condition, Argument, ControlArg, ConditionArg, Whole, Window, Coord, Statement, Assign, Reduce, Config, Pass, If, For, Alloc, View, Call, Block, end, next, Param, ParamKind, ControlParam, TensorParam, WindowParam, ConfigField}
use Rattle.exo_tree.specs.Context.{Context, Here, After, InLoop, InThen, InElse, fill}
use Rattle.exo_tree.specs.Places.{Branch, Main, Else, Path}
use Rattle.exo_meaning.specs.Scene.{Scene}
use Rattle.exo_meaning.specs.Calls.{Callee}
use Rattle.exo_meaning.specs.Run.{roots_after}
use Rattle.exo_meaning.specs.Inputs.{AreArguments, IsArgument, is_buffer_of}
use Rattle.exo_meaning.specs.Orders.{Each}
use Rattle.exo_meaning.specs.Units as units
use Rattle.exo_meaning.specs.Units.{Sort, ControlName, BufferName, Scope, sort_in, with_name, is_truth, is_flag, has_rank, has_dimension, Reads, plainly, with_fields, with_strides, with_both, is_control, are_controls, is_condition, is_write, is_window, is_new, is_empty, is_short, is_block, is_statement, scope_of, scope_after, view_sort, spans, param_sort, field_kind}
use Rattle.meaning_laws.specs.Sound.{binds, on_way}
use Rattle.meaning_laws.specs.Sorted.{scope_at}
use Rattle.meaning_laws.specs.Facts.{Fact, Holds, Fails}
use Rattle.meaning_laws.specs.Fields.{writes_field}
use Rattle.meaning_laws.specs.Known.{param_facts, params_facts}
use Rattle.meaning_laws.specs.KnownFields.{KnownFields, Telling, path_in, forgotten, after}
use Rattle.meaning_laws.specs.PlaceFacts.{PlaceFact, facts_round, all_written, step_all_written}
use Rattle.affine_forms.specs.Forms.{is_affine}
use Rattle.affine_forms.specs.Formulas.{AllowedFlags, is_affine_condition}
use Rattle.affine_places.specs.Roots.{Rooted, Roots, seen_through}
use Rattle.affine_places.specs.Laws.{but_fields, but_flag_fields}
use Rattle.check_laws.proofs.OfFacts.Truths.{parts, joined, one_of, on_left, on_right}
use Rattle.check_laws.proofs.OfFacts.Affine.{Allows, affine, affine_condition}
use Rattle.check_laws.proofs.OfFacts.Rooted.{Agrees, StepAgrees, KindAgrees, ParamsAgree}
use Rattle.check_laws.proofs.OfFacts.Standing.{has_sort, Names, names_more, names_after}

abbrev pub is_rooted : Option Rooted → Bool
is_rooted None = false
is_rooted (Some r) = true

abbrev pub is_buffer : Option Sort → Bool
is_buffer None = false
is_buffer (Some (ControlName kind)) = false
is_buffer (Some (BufferName cell rank dense)) = true

rank_is_buffer : (n : ℕ) (o : Option Sort) → has_rank n o ≡ true → is_buffer o ≡ true
rank_is_buffer n None h = h
rank_is_buffer n (Some (ControlName kind)) h = h
rank_is_buffer n (Some (BufferName cell rank dense)) h = refl

pub dimension_is_buffer : (n : ℕ) (o : Option Sort) → has_dimension n o ≡ true → is_buffer o ≡ true
dimension_is_buffer n None h = h
dimension_is_buffer n (Some (ControlName kind)) h = h
dimension_is_buffer n (Some (BufferName cell rank dense)) h = refl

pub buffer_has_sort : (o : Option Sort) → is_buffer o ≡ true → has_sort o ≡ true
buffer_has_sort None h = h
buffer_has_sort (Some sort) h = refl

pub flag_has_sort : (o : Option Sort) → is_flag o ≡ true → has_sort o ≡ true
flag_has_sort None h = h
flag_has_sort (Some sort) h = refl

rooted_map : (coords : List Coord) (o : Option Rooted) → is_rooted o ≡ true → is_rooted (option_map (seen_through coords) o) ≡ true
rooted_map coords None h = h
rooted_map coords (Some r) h = refl

-- ---- parameters

pub named_params : (ps : List Param) (scope : Scope) (x : ℕ) → has_sort (sort_in (scope_of scope ps) x) ≡ true → (is_buffer_of x ps || has_sort (sort_in scope x)) ≡ true
named_params [] scope x h = h
named_params (p ∷ ps) scope x h = one_of (is_buffer_of x ps) (has_sort (sort_in (with_name scope p.binder (param_sort p.kind)) x)) (named_params ps (with_name scope p.binder (param_sort p.kind)) x h)
    (λ k. on_left ((x == p.binder.id) || is_buffer_of x ps) (has_sort (sort_in scope x)) (on_right (x == p.binder.id) (is_buffer_of x ps) k))
    (go (x == p.binder.id))
  where
    go : (t : Bool) → has_sort (cond t (Some (param_sort p.kind)) (sort_in scope x)) ≡ true → ((t || is_buffer_of x ps) || has_sort (sort_in scope x)) ≡ true
    go true k = refl
    go false k = on_right (is_buffer_of x ps) (has_sort (sort_in scope x)) k

-- a parameter of kind bool is 0 or more at first
pub flags_at_least : (first : Scene) (ps : List Param) (scope : Scope) → AreArguments first ps → ((x : ℕ) → is_flag (sort_in scope x) ≡ true → pos 0 ≤ℤ first.control x) → (x : ℕ) → is_flag (sort_in (scope_of scope ps) x) ≡ true → pos 0 ≤ℤ first.control x
flags_at_least first [] scope arguments h x k = h x k
flags_at_least first (p ∷ ps) scope arguments h x k = flags_at_least first ps (with_name scope p.binder (param_sort p.kind)) arguments.1 (λ y j. go y (y == p.binder.id) refl p.kind j arguments.0) x k
  where
    go : (y : ℕ) (t : Bool) → (y == p.binder.id) ≡ t → (kind : ParamKind) → is_flag (cond t (Some (param_sort kind)) (sort_in scope y)) ≡ true → IsArgument first p.binder.id kind → pos 0 ≤ℤ first.control y
    go y false e kind j a = h y j
    go y true e (ControlParam Size) j a = absurd (true≢false (sym j))
    go y true e (ControlParam Index) j a = absurd (true≢false (sym j))
    go y true e (ControlParam Truth) j a = subst (λ z. pos 0 ≤ℤ first.control z) (sym (eqb-true y p.binder.id e)) a.0.0
    go y true e (ControlParam Stride) j a = absurd (true≢false (sym j))
    go y true e (TensorParam cell es memory) j a = absurd (true≢false (sym j))
    go y true e (WindowParam cell es memory) j a = absurd (true≢false (sym j))

turned : (p q r : Bool) → ((p || q) || r) ≡ true → (q || (p || r)) ≡ true
turned true true r h = refl
turned true false r h = refl
turned false q r h = h

-- ---- names at a place

pub names_at : (c : Context) (bound : ℕ → Bool) (scope : Scope) → Names bound scope → Names (λ y. bound y || on_way c y) (scope_at c scope)
names_at (Here rest) bound scope h x k = on_left (bound x) false (h x k)
names_at (After a c) bound scope h x k = turned (binds a x) (bound x) (on_way c x) (names_at c (λ y. binds a y || bound y) (scope_after a scope) (names_after a bound scope h) x k)
names_at (InLoop i lo hi c rest) bound scope h x k = turned (x == i.id) (bound x) (on_way c x) (names_at c (λ y. (y == i.id) || bound y) (with_name scope i (ControlName Index)) (names_more bound scope i _ h) x k)
names_at (InThen t c other rest) bound scope h x k = names_at c bound scope h x k
names_at (InElse t other c rest) bound scope h x k = names_at c bound scope h x k

-- ---- what is allowed in a procedure

module _ (fields : List ConfigField) (table : Roots) (params : Scope) where
  abbrev pub allowed : AllowedFlags
  allowed = record {
    numbers = record { variable = λ x. true; field = λ f. units.is_number_field (field_kind fields) (field_kind fields f); stride = λ x k. is_rooted (table x) };
    variable = λ x. is_flag (sort_in params x);
    field = λ f. units.is_flag_field (field_kind fields) (field_kind fields f);
  }

  -- what may be written into a field
  abbrev pub may : ℕ → Argument → Bool
  may f (ControlArg e) = units.is_number_field (field_kind fields) (field_kind fields f) && is_affine (but_fields allowed.numbers) e
  may f (ConditionArg c) = units.is_flag_field (field_kind fields) (field_kind fields f) && is_affine_condition (but_flag_fields allowed) c
  may f (Whole x) = false
  may f (Window x coords) = false

  -- buffers in scope have roots, and bools in scope are parameters
  pub record Covers (scope : Scope) : Type 0 where
    pub buffers : (x : ℕ) → is_buffer (sort_in scope x) ≡ true → is_rooted (table x) ≡ true
    pub flags : (x : ℕ) → is_flag (sort_in scope x) ≡ true → is_flag (sort_in params x) ≡ true

  covers_buffer : (scope : Scope) (x : Binder) (cell : Cell) (rank : ℕ) (dense : Bool) → Covers scope → is_rooted (table x.id) ≡ true → Covers (with_name scope x (BufferName cell rank dense))
  covers_buffer scope x cell rank dense h there = record {
    buffers = λ y. go y (y == x.id) refl;
    flags = λ y. flag y (y == x.id);
  }
    where
      go : (y : ℕ) (t : Bool) → (y == x.id) ≡ t → is_buffer (cond t (Some (BufferName cell rank dense)) (sort_in scope y)) ≡ true → is_rooted (table y) ≡ true
      go y true e k = ap (λ z. is_rooted (table z)) (eqb-true y x.id e) ∙ there
      go y false e k = h.buffers y k

      flag : (y : ℕ) (t : Bool) → is_flag (cond t (Some (BufferName cell rank dense)) (sort_in scope y)) ≡ true → is_flag (sort_in params y) ≡ true
      flag y true k = absurd (true≢false (sym k))
      flag y false k = h.flags y k

  covers_loop : (scope : Scope) (i : Binder) → Covers scope → Covers (with_name scope i (ControlName Index))
  covers_loop scope i h = record { buffers = λ y. go y (y == i.id); flags = λ y. flag y (y == i.id) }
    where
      go : (y : ℕ) (t : Bool) → is_buffer (cond t (Some (ControlName Index)) (sort_in scope y)) ≡ true → is_rooted (table y) ≡ true
      go y true k = absurd (true≢false (sym k))
      go y false k = h.buffers y k

      flag : (y : ℕ) (t : Bool) → is_flag (cond t (Some (ControlName Index)) (sort_in scope y)) ≡ true → is_flag (sort_in params y) ≡ true
      flag y true k = absurd (true≢false (sym k))
      flag y false k = h.flags y k

  pub allows : (reads : Reads) (scope : Scope) → Covers scope → Allows (field_kind fields) reads scope allowed.numbers
  allows reads scope h = record {
    variables = λ x k. refl;
    of_fields = λ f k. (parts reads.fields (units.is_number_field (field_kind fields) (field_kind fields f)) k).1;
    strides = λ x n k. h.buffers x (dimension_is_buffer n (sort_in scope x) (parts reads.strides (has_dimension n (sort_in scope x)) k).1);
  }

  allows_written : (scope : Scope) → Covers scope → Allows (field_kind fields) with_strides scope (but_fields allowed.numbers)
  allows_written scope h = record { variables = λ x k. refl; of_fields = λ f k. k; strides = (allows with_strides scope h).strides }

  pub number_allowed : (reads : Reads) (scope : Scope) → Covers scope → (e : Control) → is_control (field_kind fields) reads scope e ≡ true → is_affine allowed.numbers e ≡ true
  number_allowed reads scope h e k = affine (field_kind fields) reads scope allowed.numbers (allows reads scope h) e k

  pub condition_allowed : (reads : Reads) (scope : Scope) → Covers scope → (c : Condition) → is_condition (field_kind fields) reads scope c ≡ true → is_affine_condition allowed c ≡ true
  condition_allowed reads scope h c k = affine_condition (field_kind fields) reads scope allowed (allows reads scope h) h.flags (λ f j. (parts reads.fields (units.is_flag_field (field_kind fields) (field_kind fields f)) j).1) c k

  write_may : (scope : Scope) → Covers scope → (f : ℕ) (a : Argument) → is_write (field_kind fields) scope (field_kind fields f) a ≡ true → may f a ≡ true
  write_may scope h f a k = go a (field_kind fields f) k
    where
      go : (a : Argument) (o : Option Kind) → is_write (field_kind fields) scope o a ≡ true → elim a [ ControlArg e ↦ units.is_number_field (field_kind fields) o && is_affine (but_fields allowed.numbers) e | ConditionArg c ↦ units.is_flag_field (field_kind fields) o && is_affine_condition (but_flag_fields allowed) c | Whole x ↦ false | Window x cs ↦ false ] ≡ true
      go a None k = absurd (true≢false (sym k))
      go (ControlArg e) (Some kind) k =
          let p = parts (not (is_truth kind)) (is_control (field_kind fields) with_strides scope e) k in
          joined (not (is_truth kind)) (is_affine (but_fields allowed.numbers) e) p.0 (affine (field_kind fields) with_strides scope (but_fields allowed.numbers) (allows_written scope h) e p.1)
      go (ConditionArg c) (Some kind) k =
          let p = parts (is_truth kind) (is_condition (field_kind fields) with_strides scope c) k in
          joined (is_truth kind) (is_affine_condition (but_flag_fields allowed) c) p.0 (affine_condition (field_kind fields) with_strides scope (but_flag_fields allowed) (allows_written scope h) h.flags (λ f j. j) c p.1)
      go (Whole x) (Some kind) k = k
      go (Window x cs) (Some kind) k = k

  -- ---- parameters

  params_cover : (ps : List Param) (scope : Scope) → ParamsAgree table ps → ((x : ℕ) → is_buffer (sort_in scope x) ≡ true → is_rooted (table x) ≡ true) → (x : ℕ) → is_buffer (sort_in (scope_of scope ps) x) ≡ true → is_rooted (table x) ≡ true
  params_cover [] scope agrees h x k = h x k
  params_cover (p ∷ ps) scope agrees h x k = params_cover ps (with_name scope p.binder (param_sort p.kind)) agrees.1 (λ y j. go y (y == p.binder.id) refl p.kind j agrees.0) x k
    where
      go : (y : ℕ) (t : Bool) → (y == p.binder.id) ≡ t → (kind : ParamKind) → is_buffer (cond t (Some (param_sort kind)) (sort_in scope y)) ≡ true → KindAgrees table p.binder.id kind → is_rooted (table y) ≡ true
      go y false e kind j a = h y j
      go y true e (ControlParam kind) j a = absurd (true≢false (sym j))
      go y true e (TensorParam cell es memory) j a = ap (λ z. is_rooted (table z)) (eqb-true y p.binder.id e) ∙ ap is_rooted a
      go y true e (WindowParam cell es memory) j a = ap (λ z. is_rooted (table z)) (eqb-true y p.binder.id e) ∙ ap is_rooted a

  abbrev pub FactAllowed : Fact → Type 0
  FactAllowed (Holds c) = is_affine_condition allowed c ≡ true
  FactAllowed (Fails c) = is_affine_condition allowed c ≡ true

  abbrev EachAllowed : List PlaceFact → Type 0
  EachAllowed es = Each (λ (e : PlaceFact). FactAllowed e.fact) es

  kind_facts_allowed : (known : KnownFields) (x : ℕ) (kind : ParamKind) → EachAllowed (map (λ fact. record { known = known; fact = fact }) (param_facts x kind))
  kind_facts_allowed known x (ControlParam Size) = (refl, tt)
  kind_facts_allowed known x (ControlParam Index) = tt
  kind_facts_allowed known x (ControlParam Truth) = (refl, (refl, tt))
  kind_facts_allowed known x (ControlParam Stride) = tt
  kind_facts_allowed known x (TensorParam cell es memory) = tt
  kind_facts_allowed known x (WindowParam cell es memory) = tt

  map_joined : (known : KnownFields) (xs ys : List Fact) → EachAllowed (map (λ fact. record { known = known; fact = fact }) xs) → EachAllowed (map (λ fact. record { known = known; fact = fact }) ys) → EachAllowed (map (λ fact. record { known = known; fact = fact }) (xs ++ ys))
  map_joined known [] ys h k = k
  map_joined known (x ∷ xs) ys h k = (h.0, map_joined known xs ys h.1 k)

  params_facts_allowed : (known : KnownFields) (ps : List Param) → EachAllowed (map (λ fact. record { known = known; fact = fact }) (params_facts ps))
  params_facts_allowed known [] = tt
  params_facts_allowed known (p ∷ ps) = map_joined known (param_facts p.binder.id p.kind) (params_facts ps) (kind_facts_allowed known p.binder.id p.kind) (params_facts_allowed known ps)

  asserts_allowed : (known : KnownFields) (scope : Scope) → Covers scope → (cs : List Condition) → list_all (is_condition (field_kind fields) with_both scope) cs ≡ true → EachAllowed (map (λ fact. record { known = known; fact = fact }) (map Holds cs))
  asserts_allowed known scope h [] k = tt
  asserts_allowed known scope h (c ∷ cs) k =
      let p = parts (is_condition (field_kind fields) with_both scope c) (list_all (is_condition (field_kind fields) with_both scope) cs) k in
      (condition_allowed with_both scope h c p.0, asserts_allowed known scope h cs p.1)

  pub first_facts_allowed : (known : KnownFields) (ps : List Param) (scope : Scope) → Covers scope → (cs : List Condition) → list_all (is_condition (field_kind fields) with_both scope) cs ≡ true → EachAllowed (map (λ fact. record { known = known; fact = fact }) (params_facts ps ++ map Holds cs))
  first_facts_allowed known ps scope h cs k = map_joined known (params_facts ps) (map Holds cs) (params_facts_allowed known ps) (asserts_allowed known scope h cs k)

  -- ---- blocks

  module _ (memories : ℕ) (callees : ℕ → Option Callee) where
    covers_after : (a : Statement) (scope : Scope) (root : ℕ → ℕ) → is_statement (field_kind fields) memories callees scope root a ≡ true → StepAgrees table a → Covers scope → Covers (scope_after a scope)
    covers_after (Assign x is e) scope root k agrees h = h
    covers_after (Reduce x is e) scope root k agrees h = h
    covers_after (Config f a) scope root k agrees h = h
    covers_after Pass scope root k agrees h = h
    covers_after (If c a b) scope root k agrees h = h
    covers_after (For i lo hi b) scope root k agrees h = h
    covers_after (Alloc x cell dims memory) scope root k agrees h = covers_buffer scope x cell _ true h (ap is_rooted agrees)
    covers_after (View w x coords) scope root k agrees h =
        let seen = (parts (has_rank _ (sort_in scope x)) _ (parts (is_window (field_kind fields) scope x coords) _ (parts (is_new scope w) _ k).1).0).0 in
        go (sort_in scope x) (ap is_rooted agrees ∙ rooted_map coords (table x) (h.buffers x (rank_is_buffer _ (sort_in scope x) seen)))
      where
        go : (o : Option Sort) → is_rooted (table w.id) ≡ true → Covers (with_name scope w (view_sort o (spans coords)))
        go None there = covers_buffer scope w _ _ false h there
        go (Some (ControlName kind)) there = covers_buffer scope w _ _ false h there
        go (Some (BufferName cell rank dense)) there = covers_buffer scope w cell _ false h there
    covers_after (Call n args) scope root k agrees h = h

    mutual
      pub block_written : (b : Block) (scope : Scope) (root : ℕ → ℕ) → is_block (field_kind fields) memories callees scope root b ≡ true → Agrees table b → Covers scope → all_written may b ≡ true
      block_written end scope root k agrees h = refl
      block_written (next a b) scope root k agrees h =
          let p = parts (is_statement (field_kind fields) memories callees scope root a) (is_block (field_kind fields) memories callees (scope_after a scope) (roots_after a root) b) k in
          joined (step_all_written may a) (all_written may b) (step_written a scope root p.0 agrees.0 h) (block_written b (scope_after a scope) (roots_after a root) p.1 agrees.1 (covers_after a scope root p.0 agrees.0 h))

      step_written : (a : Statement) (scope : Scope) (root : ℕ → ℕ) → is_statement (field_kind fields) memories callees scope root a ≡ true → StepAgrees table a → Covers scope → step_all_written may a ≡ true
      step_written (Assign x is e) scope root k agrees h = refl
      step_written (Reduce x is e) scope root k agrees h = refl
      step_written (Config f a) scope root k agrees h = write_may scope h f a k
      step_written Pass scope root k agrees h = refl
      step_written (If c a b) scope root k agrees h =
          let q = parts (not (is_empty a) && (is_short a && is_short b)) (is_block (field_kind fields) memories callees scope root a && is_block (field_kind fields) memories callees scope root b) (parts (is_condition (field_kind fields) with_fields scope c) _ k).1 in
          let p = parts (is_block (field_kind fields) memories callees scope root a) (is_block (field_kind fields) memories callees scope root b) q.1 in
          joined (all_written may a) (all_written may b) (block_written a scope root p.0 agrees.0 h) (block_written b scope root p.1 agrees.1 h)
      step_written (For i lo hi b) scope root k agrees h =
          let q = parts (is_control (field_kind fields) plainly scope lo && is_control (field_kind fields) plainly scope hi) _ (parts (is_new scope i) _ k).1 in
          let p = parts (not (is_empty b) && is_short b) (is_block (field_kind fields) memories callees (with_name scope i (ControlName Index)) root b) q.1 in
          block_written b (with_name scope i (ControlName Index)) root p.1 agrees.1 (covers_loop scope i h)
      step_written (Alloc x cell dims memory) scope root k agrees h = refl
      step_written (View w x coords) scope root k agrees h = refl
      step_written (Call n args) scope root k agrees h = refl

    -- ---- at a place

    pub record Around (scope : Scope) (round : List PlaceFact) : Type 0 where
      pub covers : Covers scope
      pub facts : EachAllowed round

    module _ (tell : Telling) (old : Block) where
      pub around : (c : Context) (outer : Path) (branch : Branch) (n : ℕ) (known : KnownFields) (scope : Scope) (root : ℕ → ℕ) → is_block (field_kind fields) memories callees scope root (fill c old) ≡ true → Agrees table (fill c old) → Covers scope → Around (scope_at c scope) (facts_round tell outer branch n c old known)
      around (Here rest) outer branch n known scope root k agrees h = record { covers = h; facts = tt }
      around (After a c) outer branch n known scope root k agrees h =
          let p = parts (is_statement (field_kind fields) memories callees scope root a) (is_block (field_kind fields) memories callees (scope_after a scope) (roots_after a root) (fill c old)) k in
          around c outer branch (suc n) (after tell (path_in outer branch n) a known) (scope_after a scope) (roots_after a root) p.1 agrees.1 (covers_after a scope root p.0 agrees.0 h)
      around (InLoop i lo hi c rest) outer branch n known scope root k agrees h =
          let b = fill c old in
          let o = parts (is_statement (field_kind fields) memories callees scope root (For i lo hi b)) (is_block (field_kind fields) memories callees scope root rest) k in
          let q = parts (is_control (field_kind fields) plainly scope lo && is_control (field_kind fields) plainly scope hi) _ (parts (is_new scope i) _ o.0).1 in
          let w = parts (is_control (field_kind fields) plainly scope lo) (is_control (field_kind fields) plainly scope hi) q.0 in
          let p = parts (not (is_empty b) && is_short b) (is_block (field_kind fields) memories callees (with_name scope i (ControlName Index)) root b) q.1 in
          let r = around c (path_in outer branch n) Main zero (forgotten (λ f. writes_field tell.writes f b) (path_in outer branch n) known) (with_name scope i (ControlName Index)) root p.1 agrees.0.1 (covers_loop scope i h) in
          record {
            covers = r.covers;
            facts = (joined (is_affine allowed.numbers lo) true (number_allowed plainly scope h lo w.0) refl, (number_allowed plainly scope h hi w.1, r.facts));
          }
      around (InThen t c other rest) outer branch n known scope root k agrees h =
          let b = fill c old in
          let o = parts (is_statement (field_kind fields) memories callees scope root (If t b other)) (is_block (field_kind fields) memories callees scope root rest) k in
          let w = parts (is_condition (field_kind fields) with_fields scope t) _ o.0 in
          let q = parts (not (is_empty b) && (is_short b && is_short other)) (is_block (field_kind fields) memories callees scope root b && is_block (field_kind fields) memories callees scope root other) w.1 in
          let r = around c (path_in outer branch n) Main zero known scope root (parts (is_block (field_kind fields) memories callees scope root b) (is_block (field_kind fields) memories callees scope root other) q.1).0 agrees.0.0 h in
          record { covers = r.covers; facts = (condition_allowed with_fields scope h t w.0, r.facts) }
      around (InElse t other c rest) outer branch n known scope root k agrees h =
          let b = fill c old in
          let o = parts (is_statement (field_kind fields) memories callees scope root (If t other b)) (is_block (field_kind fields) memories callees scope root rest) k in
          let w = parts (is_condition (field_kind fields) with_fields scope t) _ o.0 in
          let q = parts (not (is_empty other) && (is_short other && is_short b)) (is_block (field_kind fields) memories callees scope root other && is_block (field_kind fields) memories callees scope root b) w.1 in
          let r = around c (path_in outer branch n) Else zero known scope root (parts (is_block (field_kind fields) memories callees scope root other) (is_block (field_kind fields) memories callees scope root b) q.1).1 agrees.0.1 h in
          record { covers = r.covers; facts = (condition_allowed with_fields scope h t w.0, r.facts) }

-- the parameters in scope
pub params_are_covered : (fields : List ConfigField) (table : Roots) (ps : List Param) → ParamsAgree table ps → Covers fields table (scope_of [] ps) (scope_of [] ps)
params_are_covered fields table ps agrees = record { buffers = params_cover fields table (scope_of [] ps) ps [] agrees (λ x k. absurd (true≢false (sym k))); flags = λ x k. k }
