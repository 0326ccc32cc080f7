-- The accesses of a piece cover what a run of it touches.
use Rattle.std.proofs.lemmas.Int.{ints}
use Rattle.std.proofs.Common.{◌≡◌, ◌≤ℤ◌, ◌<ℤ◌, arith, subst₂, ℕ, ℤ, pos, ◌==◌, int_le, int_lt, Bool, true, false, true≢false, cond, not, ◌&&◌, List, [], ◌∷◌, ◌++◌, map, length, Option, Some, None, option_map, refl, sym, ap, ap₂, ◌∙◌, subst, inl, inr}
use Rattle.std.specs.Prelude.{◌⊎◌, is_some, IsSome, filter}
use Rattle.std.specs.List.{list_all}
use Rattle.exo_tree.specs.Tree.{Binder, Cell, Kind, Index, Control, Var, Condition, Le, Lt, Datum, Const, Read, Negated, Relu, Plus, Minus, Times, Select, Coord, At, Span, Argument, ControlArg, ConditionArg, Whole, Window, Statement, Assign, Reduce, Config, Pass, If, For, Alloc, View, Call, Block, end, next, Param, ParamKind, ControlParam, TensorParam, WindowParam}
use Rattle.exo_meaning.specs.Value.{Undefined}
use Rattle.exo_meaning.specs.Scene.{Shape, Seen, Scene, number, numbers, holds, narrowed, window, then_do, cell_at}
use Rattle.exo_meaning.specs.State.{State, Place, place, on_scene, with_control, with_buffer, with_view, with_contents}
use Rattle.exo_meaning.specs.Calls.{Callee, Given, GivenNumber, GivenView, given, all_given, all_positive}
use Rattle.exo_meaning.specs.Run.{World, run, step, turn, turns_of, tensor, roots_after}
use Rattle.exo_meaning.specs.Footprint.{Entry, Reads, Writes, Reduces, Made, listed, all_read, written, reduced_as, reduced, reads, further, chosen, turns_touch, footprint, step_footprint}
use Rattle.exo_meaning.specs.Orders.{Each}
use Rattle.exo_meaning.specs.Modes.{Mode, Reading, Writing, Reducing, Modes}
use Rattle.exo_meaning.specs.Units.{Sort, ControlName, BufferName, Scope, sort_in, with_name, is_new, has_rank, has_cell, spans, view_sort, plainly, with_fields, is_control, are_controls, is_condition, is_access, is_datum, is_coord, is_window, is_for, are_for, is_call, is_empty, is_short, scope_after, is_block, is_statement}
use Rattle.meaning_laws.specs.Facts.{Fact, Holds, Fails, is_plain_condition, with_fact}
use Rattle.meaning_laws.specs.Sound.{IsSameName, binds}
use Rattle.meaning_laws.specs.Touched.{cells_of, window_entries, buffer_entries, param_entries, all_entries, given_entries, entries_to, call_entries, touched}
use Rattle.exo_tree.specs.Cells.{same_cell_is}
use Rattle.meaning_laws.proofs.Names.{Others, name_same, name_on, if_gives, step_names, turn_names}
use Rattle.affine_forms.specs.Atoms.{Valuation, value}
use Rattle.affine_forms.proofs.FormulaValues.{at_most_met, less_met}
use Rattle.affine_systems.proofs.Cases.{negation_met}
use Rattle.check_laws.proofs.OfFacts.Affine.{same_number, same_truth}
use Rattle.affine_forms.specs.Forms.{is_affine}
use Rattle.affine_forms.specs.Formulas.{is_met, all_met}
use Rattle.affine_forms.specs.Strides.{all_affine}
use Rattle.affine_forms.specs.Laws.{NormalLaw, FormulaLaw}
use Rattle.inplace_laws.specs.Windows.{shifted}
use Rattle.text_show.specs.Layout.{Text}
use Rattle.text_show.specs.Words.{Words}
use Rattle.text_show.specs.ControlText.{access_text}
use Rattle.text_show.specs.StatementText.{argument_text}
use Rattle.check_laws.proofs.OfFacts.Truths.{parts, joined, neither, both_false, none_some, some_injective, self}
use Rattle.check_laws.proofs.OfFacts.Sides.{map_gives}
use Rattle.exo_effects.specs.Accesses.{Access, coord_form, plain_form, plain_formula, guard_of, access_of}
use Rattle.exo_effects.specs.Parts.{Part, window_of}
use Rattle.exo_effects.specs.Uses.{Use, Inside, in_loop, in_branch, past_statement, use_of, uses_of, cell_of, modes_had, cell_uses, data_uses, argument_uses, arguments_uses, block_uses, step_uses}
use Rattle.effect_laws.specs.Covers.{LiesAt, is_among, IsCell, IsCellOfSome, IsCovered, Covers, names_in, is_affine_coord}
use Rattle.effect_laws.proofs.Forms.{flag_named, flags_in, bound_is_affine, condition_is_affine, met_is, value_is}
use Rattle.effect_laws.proofs.Cells.{where_gives, each_weaken, each_map_each, each_join, IsFrom, range_within, narrowed_sides, joined_affine, cell_lies, Lies, cells_lie}
use Rattle.effect_laws.proofs.Known.{IsFirm, IsTold, Now, Further, name_further, is_there, not_none, now_same, now_round, now_inside, now_viewed, now_made, new_is_not_there}

pub then_gives : {A B : Type 0} (o : Option A) (f : A → Option B) (b : B) → then_do o f ≡ Some b → (a : A) × (o ≡ Some a) × (f a ≡ Some b)
then_gives None f b e = absurd (none_some e)
then_gives (Some a) f b e = (a, refl, e)

each_further : (P : Entry → Type 0) (o : Option State) (f : State → List Entry) → ((t : State) → o ≡ Some t → Each P (f t)) → Each P (further o f)
each_further P None f h = tt
each_further P (Some t) f h = h t refl

-- ---- more accesses cover more

some_left : (c : ℕ → ℤ) (m : Mode) (p : Place) (us vs : List Use) → IsCellOfSome c m p (map access_of us) → IsCellOfSome c m p (map access_of (us ++ vs))
some_left c m p [] vs h = absurd h
some_left c m p (u ∷ us) vs (inl h) = inl h
some_left c m p (u ∷ us) vs (inr h) = inr (some_left c m p us vs h)

some_right : (c : ℕ → ℤ) (m : Mode) (p : Place) (us vs : List Use) → IsCellOfSome c m p (map access_of vs) → IsCellOfSome c m p (map access_of (us ++ vs))
some_right c m p [] vs h = h
some_right c m p (u ∷ us) vs h = inr (some_right c m p us vs h)

module _ (first : Scene) where
  covered_by : (xs ys : List Access) → ((m : Mode) (p : Place) → IsCellOfSome first.control m p xs → IsCellOfSome first.control m p ys) → (e : Entry) → IsCovered first xs e → IsCovered first ys e
  covered_by xs ys k (Reads p) h = λ i. k Reading p (h i)
  covered_by xs ys k (Writes p) h = λ i. k Writing p (h i)
  covered_by xs ys k (Reduces cell p) h = λ shape i. ((h shape i).0, k Reducing p (h shape i).1)
  covered_by xs ys k (Made x) h = h

  covers_left : (us vs : List Use) (es : List Entry) → Covers first (map access_of us) es → Covers first (map access_of (us ++ vs)) es
  covers_left us vs es h = each_weaken (IsCovered first (map access_of us)) (IsCovered first (map access_of (us ++ vs))) es (covered_by (map access_of us) (map access_of (us ++ vs)) (λ m p. some_left first.control m p us vs)) h

  covers_right : (us vs : List Use) (es : List Entry) → Covers first (map access_of vs) es → Covers first (map access_of (us ++ vs)) es
  covers_right us vs es h = each_weaken (IsCovered first (map access_of vs)) (IsCovered first (map access_of (us ++ vs))) es (covered_by (map access_of vs) (map access_of (us ++ vs)) (λ m p. some_right first.control m p us vs)) h

  covers_both : (us vs : List Use) (es fs : List Entry) → Covers first (map access_of us) es → Covers first (map access_of vs) fs → Covers first (map access_of (us ++ vs)) (es ++ fs)
  covers_both us vs es fs h k = each_join (IsCovered first (map access_of (us ++ vs))) es fs (covers_left us vs es h) (covers_right us vs fs k)

all_are_met : (v : Valuation) (facts : List Fact) → Each (λ fact. is_met v (guard_of fact) ≡ true) facts → all_met v (map guard_of facts) ≡ true
all_are_met v [] h = refl
all_are_met v (f ∷ fs) h = joined (is_met v (guard_of f)) (all_met v (map guard_of fs)) h.0 (all_are_met v fs h.1)

-- ---- single cells

module _ (normal : NormalLaw) (fields : ℕ → Option Kind) (w : Words) (params : ℕ → List Param) (modes : ℕ → Modes) (first : Scene) (at : Inside) (scope : Scope) (scene : Scene) (now : Now first at scope scene) where
  -- a use whose part has the cell
  use_has : (text : Text) (part : Part) (mode : Mode) (p : Place) → p.buffer ≡ part.root → Lies scene (map coord_form part.coords) p.at → IsCell first.control mode p (access_of (use_of at text part mode))
  use_has text part mode p e lies = record {
    root = sym e;
    so = refl;
    numbers = scene.control;
    others = now.own;
    reached = record {
      guards = λ v same. all_are_met v at.round (each_weaken (IsFirm scope scene) (λ fact. is_met v (guard_of fact) ≡ true) at.round (λ fact h. h v (λ y k. ap (λ f. f y) same)) now.round);
      cell = λ v same. lies v (λ y. ap (λ f. f y) same);
    };
  }

  -- a cell at indices of a name
  place_has : (x : ℕ) (is : List Control) (text : Text) (mode : Mode) (p : Place) → are_controls fields plainly scope is ≡ true → place scene x is ≡ Some p → IsSome (first.buffers p.buffer) → IsCellOfSome first.control mode p (map access_of (uses_of at text (option_map (cell_of is) (at.parts x)) (mode ∷ [])))
  place_has x is text mode p keeps e there =
      let t = then_gives (scene.views x) (λ seen. option_map (λ c. record { buffer = seen.buffer; at = c }) (cell_at seen.sides (numbers scene is))) p e in
      let m = map_gives (cell_at t.0.sides (numbers scene is)) (λ c. record { buffer = t.0.buffer; at = c }) p t.2 in
      go t.0 m.0 m.1 m.2 (now.seen x t.0 t.1)
    where
      indices : (is : List Control) → are_controls fields plainly scope is ≡ true → all_affine (names_in scope) is ≡ true
      indices [] h = refl
      indices (i ∷ is) h =
          let q = parts (is_control fields plainly scope i) (are_controls fields plainly scope is) h in
          joined (is_affine (names_in scope) i) (all_affine (names_in scope) is) (bound_is_affine fields scope i q.0) (indices is q.1)

      go : (seen : Seen) (c : List ℤ) → cell_at seen.sides (numbers scene is) ≡ Some c → record { buffer = seen.buffer; at = c } ≡ p → IsTold first scope scene (at.parts x) seen → IsCellOfSome first.control mode p (map access_of (uses_of at text (option_map (cell_of is) (at.parts x)) (mode ∷ [])))
      go seen c found same (inl (part, i, sees)) =
          subst (λ o. IsCellOfSome first.control mode p (map access_of (uses_of at text (option_map (cell_of is) o) (mode ∷ [])))) (sym i) (inl (
          use_has text (cell_of is part) mode p (ap (λ (q : Place). q.buffer) (sym same) ∙ sees.root) (λ v k.
          subst (LiesAt v (map coord_form (map At (shifted part.coords is)))) (ap (λ (q : Place). q.at) same)
          (cell_lies normal scope v scene k part.coords is c sees.affine (indices is keeps) (ap (λ ss. cell_at ss (numbers scene is)) (sym sees.sides) ∙ found)))))
      go seen c found same (inr out) = absurd (not_none (first.buffers p.buffer) there (ap (λ (q : Place). first.buffers q.buffer) (sym same) ∙ out.1))

  abbrev of_data : Datum → List Use
  of_data = data_uses w params modes at

  abbrev Covered : List Use → List Entry → Type 0
  Covered us es = Covers first (map access_of us) es

  reads_joined : (ps qs : List Place) (xs : List Access) → Covers first xs (all_read ps) → Covers first xs (all_read qs) → Covers first xs (all_read (ps ++ qs))
  reads_joined [] qs xs h k = k
  reads_joined (p ∷ ps) qs xs h k = (h.0, reads_joined ps qs xs h.1 k)

  two_covered : (us vs : List Use) (ps qs : List Place) → Covered us (all_read ps) → Covered vs (all_read qs) → Covered (us ++ vs) (all_read (ps ++ qs))
  two_covered us vs ps qs h k = reads_joined ps qs (map access_of (us ++ vs)) (covers_left first us vs (all_read ps) h) (covers_right first us vs (all_read qs) k)

  data_covered : (e : Datum) → is_datum fields scope e ≡ true → Covered (of_data e) (all_read (reads scene e))
  data_covered (Const n) h = tt
  data_covered (Read x is) h =
      let keeps = (parts (has_rank (length is) (sort_in scope x)) (are_controls fields plainly scope is) h).1 in
      go (place scene x is) refl keeps
    where
      go : (o : Option Place) → place scene x is ≡ o → are_controls fields plainly scope is ≡ true → Covered (cell_uses w params modes at Reading x is) (all_read (listed o))
      go None e keeps = tt
      go (Some p) e keeps = ((λ there. place_has x is (access_text w x is) Reading p keeps e there), tt)
  data_covered (Negated a) h = data_covered a h
  data_covered (Relu a) h = data_covered a h
  data_covered (Plus a b) h = let q = parts (is_datum fields scope a) (is_datum fields scope b) h in two_covered (of_data a) (of_data b) (reads scene a) (reads scene b) (data_covered a q.0) (data_covered b q.1)
  data_covered (Minus a b) h = let q = parts (is_datum fields scope a) (is_datum fields scope b) h in two_covered (of_data a) (of_data b) (reads scene a) (reads scene b) (data_covered a q.0) (data_covered b q.1)
  data_covered (Times a b) h = let q = parts (is_datum fields scope a) (is_datum fields scope b) h in two_covered (of_data a) (of_data b) (reads scene a) (reads scene b) (data_covered a q.0) (data_covered b q.1)
  data_covered (Select a b c d) h =
      let q = parts (is_datum fields scope a && is_datum fields scope b) (is_datum fields scope c && is_datum fields scope d) h in
      let r = parts (is_datum fields scope a) (is_datum fields scope b) q.0 in
      let t = parts (is_datum fields scope c) (is_datum fields scope d) q.1 in
      two_covered (of_data a) (of_data b ++ (of_data c ++ of_data d)) (reads scene a) (reads scene b ++ (reads scene c ++ reads scene d)) (data_covered a r.0)
      (two_covered (of_data b) (of_data c ++ of_data d) (reads scene b) (reads scene c ++ reads scene d) (data_covered b r.1)
      (two_covered (of_data c) (of_data d) (reads scene c) (reads scene d) (data_covered c t.0) (data_covered d t.1)))

  written_covered : (x : ℕ) (is : List Control) → are_controls fields plainly scope is ≡ true → Covered (cell_uses w params modes at Writing x is) (written (place scene x is))
  written_covered x is keeps = go (place scene x is) refl
    where
      go : (o : Option Place) → place scene x is ≡ o → Covered (cell_uses w params modes at Writing x is) (written o)
      go None e = tt
      go (Some p) e = ((λ there. place_has x is (access_text w x is) Writing p keeps e there), tt)

  reduced_covered : (x : ℕ) (is : List Control) → are_controls fields plainly scope is ≡ true → Covered (cell_uses w params modes at Reducing x is) (reduced scene (place scene x is))
  reduced_covered x is keeps = go (place scene x is) refl
    where
      by_shape : (p : Place) → place scene x is ≡ Some p → (o : Option Shape) → scene.buffers p.buffer ≡ o → Covered (cell_uses w params modes at Reducing x is) (reduced_as p o)
      by_shape p e None k = tt
      by_shape p e (Some shape) k = (
        (λ own there. (
          ap (λ (q : Shape). q.cell) (some_injective own shape (sym (now.kept p.buffer own there) ∙ k)),
          place_has x is (access_text w x is) Reducing p keeps e (is_there (first.buffers p.buffer) own there),
        )),
        tt,
      )

      go : (o : Option Place) → place scene x is ≡ o → Covered (cell_uses w params modes at Reducing x is) (reduced scene o)
      go None e = tt
      go (Some p) e = by_shape p e (scene.buffers p.buffer) refl

  -- ---- windows

  coords_are_affine : (cs : List Coord) → list_all (is_coord fields scope) cs ≡ true → list_all (is_affine_coord (names_in scope)) cs ≡ true
  coords_are_affine [] h = refl
  coords_are_affine (At e ∷ cs) h =
      let q = parts (is_control fields plainly scope e) (list_all (is_coord fields scope) cs) h in
      joined (is_affine (names_in scope) e) (list_all (is_affine_coord (names_in scope)) cs) (bound_is_affine fields scope e q.0) (coords_are_affine cs q.1)
  coords_are_affine (Span a b ∷ cs) h =
      let q = parts (is_control fields plainly scope a && is_control fields plainly scope b) (list_all (is_coord fields scope) cs) h in
      let r = parts (is_control fields plainly scope a) (is_control fields plainly scope b) q.0 in
      joined (is_affine (names_in scope) a && is_affine (names_in scope) b) (list_all (is_affine_coord (names_in scope)) cs)
      (joined (is_affine (names_in scope) a) (is_affine (names_in scope) b) (bound_is_affine fields scope a r.0) (bound_is_affine fields scope b r.1)) (coords_are_affine cs q.1)

  window_given : (x : ℕ) (cs : List Coord) (z : Seen) → window scene x cs ≡ Some z → (seen : Seen) × (scene.views x ≡ Some seen) × (z.buffer ≡ seen.buffer) × (narrowed scene seen.sides cs ≡ Some z.sides)
  window_given x cs z e =
      let t = then_gives (scene.views x) (λ seen. option_map (λ sides. record { buffer = seen.buffer; sides = sides }) (narrowed scene seen.sides cs)) z e in
      let m = map_gives (narrowed scene t.0.sides cs) (λ sides. record { buffer = t.0.buffer; sides = sides }) z t.2 in
      (t.0, t.1, ap (λ (q : Seen). q.buffer) (sym m.2), m.1 ∙ ap (λ (q : Seen). Some q.sides) m.2)

  pub window_told : (x : ℕ) (cs : List Coord) (z : Seen) → list_all (is_coord fields scope) cs ≡ true → window scene x cs ≡ Some z → IsTold first scope scene (option_map (window_of cs) (at.parts x)) z
  window_told x cs z keeps e = let g = window_given x cs z e in go g.0 g.2 g.3 (now.seen x g.0 g.1)
    where
      go : (seen : Seen) → z.buffer ≡ seen.buffer → narrowed scene seen.sides cs ≡ Some z.sides → IsTold first scope scene (at.parts x) seen → IsTold first scope scene (option_map (window_of cs) (at.parts x)) z
      go seen b n (inl (part, i, sees)) = inl (
        window_of cs part,
        ap (option_map (window_of cs)) i,
        record {
          root = b ∙ sees.root;
          affine = joined_affine (names_in scope) part.coords cs sees.affine (coords_are_affine cs keeps);
          sides = narrowed_sides scene part.coords cs z.sides (ap (λ ss. narrowed scene ss cs) (sym sees.sides) ∙ n);
        },
      )
      go seen b n (inr out) = inr (ap (option_map (window_of cs)) out.0, ap first.buffers b ∙ out.1)

  -- the buffer of a window is that of its name
  pub window_typed : (x : ℕ) (cs : List Coord) (z : Seen) (cell : Cell) (rank : ℕ) (dense : Bool) → sort_in scope x ≡ Some (BufferName cell rank dense) → window scene x cs ≡ Some z → (shape : Shape) → scene.buffers z.buffer ≡ Some shape → shape.cell ≡ cell
  window_typed x cs z cell rank dense e v shape b =
      let g = window_given x cs z v in
      now.cells x cell rank dense g.0 shape e g.1 (ap scene.buffers (sym g.2) ∙ b)

  pub window_there : (x : ℕ) (cs : List Coord) (z : Seen) → window scene x cs ≡ Some z → IsSome (scene.buffers z.buffer)
  window_there x cs z v =
      let g = window_given x cs z v in
      ap (λ b. is_some (scene.buffers b)) g.2 ∙ now.sound x g.0 g.1

  -- ---- calls

  -- the modes that a parameter has
  abbrev HasMode : Mode → List Mode → Type 0
  HasMode m [] = ⊥
  HasMode m (n ∷ ns) = (m ≡ n) ⊎ HasMode m ns

  with_mode : (has : Mode → Bool) (ms : List Mode) (m : Mode) (text : Text) (part : Part) (p : Place) → HasMode m ms → has m ≡ true → ((n : Mode) → IsCell first.control n p (access_of (use_of at text part n))) → IsCellOfSome first.control m p (map access_of (map (use_of at text part) (filter has ms)))
  with_mode has [] m text part p i h k = absurd i
  with_mode has (n ∷ ns) m text part p (inl e) h k = go (has n) (ap has (sym e) ∙ h)
    where
      go : (t : Bool) → t ≡ true → IsCellOfSome first.control m p (map access_of (map (use_of at text part) (cond t (n ∷ filter has ns) (filter has ns))))
      go true j = inl (subst (λ q. IsCell first.control q p (access_of (use_of at text part n))) (sym e) (k n))
      go false j = absurd (true≢false (sym j))
  with_mode has (n ∷ ns) m text part p (inr i) h k = go (has n) (with_mode has ns m text part p i h k)
    where
      go : (t : Bool) → IsCellOfSome first.control m p (map access_of (map (use_of at text part) (filter has ns))) → IsCellOfSome first.control m p (map access_of (map (use_of at text part) (cond t (n ∷ filter has ns) (filter has ns))))
      go true rest = inr rest
      go false rest = rest

  in_order : (m : Mode) → HasMode m (Reading ∷ Writing ∷ Reducing ∷ [])
  in_order Reading = inl refl
  in_order Writing = inr (inl refl)
  in_order Reducing = inr (inr (inl refl))

  module _ (has : Mode → Bool) (text : Text) (o : Option Part) (z : Seen) (told : IsTold first scope scene o z) where
    abbrev uses : List Use
    uses = uses_of at text o (modes_had has)

    -- each cell of the window, in each mode
    cell_of_window : (m : Mode) → has m ≡ true → Each (λ c. IsSome (first.buffers z.buffer) → IsCellOfSome first.control m (record { buffer = z.buffer; at = c }) (map access_of uses)) (cells_of z.sides)
    cell_of_window m h = go told
      where
        go : IsTold first scope scene o z → Each (λ c. IsSome (first.buffers z.buffer) → IsCellOfSome first.control m (record { buffer = z.buffer; at = c }) (map access_of (uses_of at text o (modes_had has)))) (cells_of z.sides)
        go (inl (part, i, sees)) =
            subst (λ q. Each (λ c. IsSome (first.buffers z.buffer) → IsCellOfSome first.control m (record { buffer = z.buffer; at = c }) (map access_of (uses_of at text q (modes_had has)))) (cells_of z.sides)) (sym i) (
            each_weaken (Lies scene (map coord_form part.coords)) _ (cells_of z.sides) (λ c lies there. with_mode has (Reading ∷ Writing ∷ Reducing ∷ []) m text part (record { buffer = z.buffer; at = c }) (in_order m) h (λ n. use_has text part n (record { buffer = z.buffer; at = c }) sees.root lies))
            (subst (λ ss. Each (Lies scene (map coord_form part.coords)) (cells_of ss)) (sym sees.sides) (cells_lie normal scope scene part.coords sees.affine)))
        go (inr out) = nothing (cells_of z.sides)
          where
            nothing : (cs : List (List ℤ)) → Each (λ c. IsSome (first.buffers z.buffer) → IsCellOfSome first.control m (record { buffer = z.buffer; at = c }) (map access_of (uses_of at text o (modes_had has)))) cs
            nothing [] = tt
            nothing (c ∷ cs) = ((λ there. absurd (not_none (first.buffers z.buffer) there out.1)), nothing cs)

    chosen_covered : (t : Bool) (es : List Entry) → (t ≡ true → Covered uses es) → Covered uses (chosen t es [])
    chosen_covered true es h = h refl
    chosen_covered false es h = tt

    buffer_covered : (callee : Modes) (x : ℕ) (cell : Cell) → ((m : Mode) → has m ≡ callee m x) → ((shape : Shape) → first.buffers z.buffer ≡ Some shape → shape.cell ≡ cell) → Covered uses (buffer_entries callee x cell (GivenView z))
    buffer_covered callee x cell is_mode typed =
        each_join (IsCovered first (map access_of uses)) (chosen (callee Reading x) (window_entries Reads z) []) (chosen (callee Writing x) (window_entries Writes z) [] ++ chosen (callee Reducing x) (window_entries (Reduces cell) z) [])
        (chosen_covered (callee Reading x) (window_entries Reads z) (λ h. each_map_each _ (IsCovered first (map access_of uses)) (λ c. Reads (record { buffer = z.buffer; at = c })) (cells_of z.sides) (λ c k. k) (cell_of_window Reading (is_mode Reading ∙ h))))
        (each_join (IsCovered first (map access_of uses)) (chosen (callee Writing x) (window_entries Writes z) []) (chosen (callee Reducing x) (window_entries (Reduces cell) z) [])
        (chosen_covered (callee Writing x) (window_entries Writes z) (λ h. each_map_each _ (IsCovered first (map access_of uses)) (λ c. Writes (record { buffer = z.buffer; at = c })) (cells_of z.sides) (λ c k. k) (cell_of_window Writing (is_mode Writing ∙ h))))
        (chosen_covered (callee Reducing x) (window_entries (Reduces cell) z) (λ h. each_map_each _ (IsCovered first (map access_of uses)) (λ c. Reduces cell (record { buffer = z.buffer; at = c })) (cells_of z.sides) (λ c k shape e. (typed shape e, k (is_there (first.buffers z.buffer) shape e))) (cell_of_window Reducing (is_mode Reducing ∙ h)))))

  -- a name of a cell type
  typed_name : (x : ℕ) (cell : Cell) (z : Seen) → has_cell cell (sort_in scope x) ≡ true → ((c : Cell) (r : ℕ) (d : Bool) → sort_in scope x ≡ Some (BufferName c r d) → (shape : Shape) → scene.buffers z.buffer ≡ Some shape → shape.cell ≡ c) → (shape : Shape) → first.buffers z.buffer ≡ Some shape → shape.cell ≡ cell
  typed_name x cell z h k shape e = go (sort_in scope x) refl h
    where
      go : (o : Option Sort) → sort_in scope x ≡ o → has_cell cell o ≡ true → shape.cell ≡ cell
      go None i j = absurd (true≢false (sym j))
      go (Some (ControlName kind)) i j = absurd (true≢false (sym j))
      go (Some (BufferName c r d)) i j = k c r d i shape (now.kept z.buffer shape e) ∙ sym (same_cell_is cell c j)

  module _ (callee : Modes) (q : Param) where
    abbrev has : Mode → Bool
    has m = callee m q.binder.id

    whole_covered : (cell : Cell) (x : ℕ) → has_cell cell (sort_in scope x) ≡ true → (g : Given) → given scene (Whole x) ≡ Some g → Covered (argument_uses w params modes at callee q (Whole x)) (buffer_entries callee q.binder.id cell g)
    whole_covered cell x h g e =
        let m = map_gives (scene.views x) GivenView g e in
        subst (λ g. Covered (argument_uses w params modes at callee q (Whole x)) (buffer_entries callee q.binder.id cell g)) m.2 (
        buffer_covered has (argument_text w (Whole x)) (at.parts x) m.0 (now.seen x m.0 m.1) callee q.binder.id cell (λ n. refl) (typed_name x cell m.0 h (λ c r d s shape b. now.cells x c r d m.0 shape s m.1 b)))

    window_covered : (cell : Cell) (x : ℕ) (cs : List Coord) → has_cell cell (sort_in scope x) ≡ true → list_all (is_coord fields scope) cs ≡ true → (g : Given) → given scene (Window x cs) ≡ Some g → Covered (argument_uses w params modes at callee q (Window x cs)) (buffer_entries callee q.binder.id cell g)
    window_covered cell x cs h keeps g e =
        let m = map_gives (window scene x cs) GivenView g e in
        subst (λ g. Covered (argument_uses w params modes at callee q (Window x cs)) (buffer_entries callee q.binder.id cell g)) m.2 (
        buffer_covered has (argument_text w (Window x cs)) (option_map (window_of cs) (at.parts x)) m.0 (window_told x cs m.0 keeps m.1) callee q.binder.id cell (λ n. refl) (typed_name x cell m.0 h (λ c r d s shape b. window_typed x cs m.0 c r d s m.1 shape b)))

    number_covered : (cell : Cell) (us : List Use) (n : ℤ) (g : Given) → Some (GivenNumber n) ≡ Some g → Covered us (buffer_entries callee q.binder.id cell g)
    number_covered cell us n g e = subst (λ g. Covered us (buffer_entries callee q.binder.id cell g)) (some_injective (GivenNumber n) g e) tt

    argument_covered : (kind : ParamKind) (a : Argument) → is_for fields scope kind a ≡ true → (g : Given) → given scene a ≡ Some g → Covered (argument_uses w params modes at callee q a) (param_entries callee q.binder.id kind g)
    argument_covered (ControlParam kind) a h g e = tt
    argument_covered (TensorParam cell dims memory) (ControlArg b) h g e = absurd (true≢false (sym h))
    argument_covered (TensorParam cell dims memory) (ConditionArg c) h g e = absurd (true≢false (sym h))
    argument_covered (TensorParam cell dims memory) (Whole x) h g e = whole_covered cell x (parts (has_cell cell (sort_in scope x)) _ h).0 g e
    argument_covered (TensorParam cell dims memory) (Window x cs) h g e =
        let r = parts (has_cell cell (sort_in scope x)) _ h in
        let s = parts (is_window fields scope x cs) _ r.1 in
        window_covered cell x cs r.0 (parts (has_rank (length cs) (sort_in scope x)) (list_all (is_coord fields scope) cs) s.0).1 g e
    argument_covered (WindowParam cell dims memory) (ControlArg b) h g e = absurd (true≢false (sym h))
    argument_covered (WindowParam cell dims memory) (ConditionArg c) h g e = absurd (true≢false (sym h))
    argument_covered (WindowParam cell dims memory) (Whole x) h g e = whole_covered cell x (parts (has_cell cell (sort_in scope x)) _ h).0 g e
    argument_covered (WindowParam cell dims memory) (Window x cs) h g e =
        let r = parts (has_cell cell (sort_in scope x)) _ h in
        let s = parts (is_window fields scope x cs) _ r.1 in
        window_covered cell x cs r.0 (parts (has_rank (length cs) (sort_in scope x)) (list_all (is_coord fields scope) cs) s.0).1 g e

  arguments_covered : (callee : Modes) (ps : List Param) (args : List Argument) → are_for fields scope ps args ≡ true → (gs : List Given) → all_given scene args ≡ Some gs → Covered (arguments_uses w params modes at callee ps args) (all_entries callee ps gs)
  arguments_covered callee [] args h gs e = tt
  arguments_covered callee (q ∷ ps) [] h gs e = absurd (true≢false (sym h))
  arguments_covered callee (q ∷ ps) (a ∷ args) h gs e =
      let k = parts (is_for fields scope q.kind a) (are_for fields scope ps args) h in
      let t = then_gives (given scene a) (λ g. option_map (λ rest. g ∷ rest) (all_given scene args)) gs e in
      let m = map_gives (all_given scene args) (λ rest. t.0 ∷ rest) gs t.2 in
      subst (λ z. Covered (arguments_uses w params modes at callee (q ∷ ps) (a ∷ args)) (all_entries callee (q ∷ ps) z)) m.2 (
      covers_both first (argument_uses w params modes at callee q a) (arguments_uses w params modes at callee ps args) (param_entries callee q.binder.id q.kind t.0) (all_entries callee ps m.0)
      (argument_covered callee q q.kind a k.0 t.0 t.1) (arguments_covered callee ps args k.1 m.0 m.1))

  call_covered : (s : State) → s.scene ≡ scene → (root : ℕ → ℕ) (o : Option Callee) (callee : Modes) (ps : List Param) (args : List Argument) → ((c : Callee) → o ≡ Some c → ps ≡ c.procedure.params) → is_call fields scope root o args ≡ true → Covered (arguments_uses w params modes at callee ps args) (entries_to o callee args s)
  call_covered s same root None callee ps args is h = tt
  call_covered s same root (Some c) callee ps args is h =
      subst (λ qs. Covered (arguments_uses w params modes at callee qs args) (entries_to (Some c) callee args s)) (sym (is c refl)) (go (all_given s.scene args) (ap (λ z. all_given z args) (sym same)))
    where
      go : (o : Option (List Given)) → all_given scene args ≡ o → Covered (arguments_uses w params modes at callee c.procedure.params args) (given_entries callee c.procedure.params o)
      go None e = tt
      go (Some gs) e = arguments_covered callee c.procedure.params args (parts (are_for fields scope c.procedure.params args) _ h).0 gs e

le_true : (a b : ℤ) → a ≤ℤ b → int_le a b ≡ true
le_true a b h = grind (arith, ints, h)

lt_true : (a b : ℤ) → a <ℤ b → int_lt a b ≡ true
lt_true a b h = grind (arith, ints, h)

-- the own variables of a loop's body
pub owns : (i : Binder) (own : List ℕ) (y : ℕ) → is_among (own ++ i.id ∷ []) y ≡ false → ((y == i.id) ≡ false) × (is_among own y ≡ false)
owns i [] y h = ((neither (y == i.id) false h).0, refl)
owns i (z ∷ own) y h =
    let p = neither (y == z) (is_among (own ++ i.id ∷ []) y) h in
    let q = owns i own y p.1 in
    (q.0, both_false (y == z) (is_among own y) p.0 q.1)

-- ---- statements

module _ (normal : NormalLaw) (formulas : FormulaLaw) (fields : ℕ → Option Kind) (memories : ℕ) (world : World) (w : Words) (params : ℕ → List Param) (modes : ℕ → Modes) (told : (k : ℕ) (c : Callee) → world.callees k ≡ Some c → params k ≡ c.procedure.params) (first : Scene) where
  abbrev Keeps : Scope → (ℕ → ℕ) → Block → Type 0
  Keeps scope root b = is_block fields memories world.callees scope root b ≡ true

  abbrev KeepsStep : Scope → (ℕ → ℕ) → Statement → Type 0
  KeepsStep scope root a = is_statement fields memories world.callees scope root a ≡ true

  -- ---- what is known behind a statement

  with_step : (a : Statement) (scope : Scope) (s t : State) (at : Inside) → step world a s ≡ Some t → ((x : ℕ) → binds a x ≡ false) → Now first at scope s.scene → Now first at scope t.scene
  with_step a scope s t at e none now = now_same first at scope s t (λ x. if_gives (Others (binds a) s) (step world a s) t (step_names world a s) e x (none x)) now

  now_after : (a : Statement) (scope : Scope) (root : ℕ → ℕ) (at : Inside) (s t : State) → KeepsStep scope root a → step world a s ≡ Some t → Now first at scope s.scene → Now first (past_statement a at) (scope_after a scope) t.scene
  now_after (Assign x is e) scope root at s t keeps i now = with_step (Assign x is e) scope s t at i (λ x. refl) now
  now_after (Reduce x is e) scope root at s t keeps i now = with_step (Reduce x is e) scope s t at i (λ x. refl) now
  now_after (Config f g) scope root at s t keeps i now = with_step (Config f g) scope s t at i (λ x. refl) now
  now_after Pass scope root at s t keeps i now = with_step Pass scope s t at i (λ x. refl) now
  now_after (If c a b) scope root at s t keeps i now = with_step (If c a b) scope s t at i (λ x. refl) now
  now_after (For j lo hi b) scope root at s t keeps i now = with_step (For j lo hi b) scope s t at i (λ x. refl) now
  now_after (Alloc x cell dims memory) scope root at s t keeps i now =
      let shape = tensor cell (numbers s.scene dims) in
      let end_of = with_contents x.id (λ c. Undefined) (on_scene (with_buffer x.id shape) s) in
      subst (λ (z : State). Now first (past_statement (Alloc x cell dims memory) at) (scope_after (Alloc x cell dims memory) scope) z.scene) (some_injective end_of t (where_gives (all_positive (numbers s.scene dims)) (Some end_of) t i))
      (now_made first at scope s.scene now x (parts (is_new scope x) _ keeps).0 cell (length dims) true shape refl)
  now_after (View v x cs) scope root at s t keeps i now =
      let p = parts (is_new scope v) _ keeps in
      let q = parts (is_window fields scope x cs) _ p.1 in
      let r = parts (has_rank (length cs) (sort_in scope x)) (list_all (is_coord fields scope) cs) q.0 in
      let g = then_gives (window s.scene x cs) (λ seen. Some (on_scene (with_view v.id seen) s)) t i in
      subst (λ (z : State). Now first (past_statement (View v x cs) at) (scope_after (View v x cs) scope) z.scene) (some_injective (on_scene (with_view v.id g.0) s) t g.2)
      (go g.0 g.1 p.0 r.1 (sort_in scope x) refl r.0)
    where
      go : (z : Seen) → window s.scene x cs ≡ Some z → is_new scope v ≡ true → list_all (is_coord fields scope) cs ≡ true → (o : Option Sort) → sort_in scope x ≡ o → has_rank (length cs) o ≡ true → Now first (past_statement (View v x cs) at) (with_name scope v (view_sort (sort_in scope x) (spans cs))) (with_view v.id z s.scene)
      go z e new coords None j h = absurd (true≢false (sym h))
      go z e new coords (Some (ControlName kind)) j h = absurd (true≢false (sym h))
      go z e new coords (Some (BufferName c r d)) j h =
          subst (λ q. Now first (past_statement (View v x cs) at) (with_name scope v (view_sort q (spans cs))) (with_view v.id z s.scene)) (sym j)
          (now_viewed first at scope s.scene now v new c (spans cs) false z (window_there normal fields w params modes first at scope s.scene now x cs z e) (λ shape b. window_typed normal fields w params modes first at scope s.scene now x cs z c r d j e shape b) (option_map (window_of cs) (at.parts x)) (window_told normal fields w params modes first at scope s.scene now x cs z coords e))
  now_after (Call k args) scope root at s t keeps i now = with_step (Call k args) scope s t at i (λ x. refl) now

  -- ---- branches and turns

  branch_firm : (c : Condition) (value : Bool) (fact : Fact) (scope : Scope) (at : Inside) (s : State) → ((v : Valuation) → is_met v (plain_formula c) ≡ value → is_met v (guard_of fact) ≡ true) → is_condition fields with_fields scope c ≡ true → holds s.scene c ≡ value → Now first at scope s.scene → Each (IsFirm scope s.scene) (with_fact (is_plain_condition c) fact [])
  branch_firm c value fact scope at s turn keeps h now = go (is_plain_condition c) refl
    where
      go : (t : Bool) → is_plain_condition c ≡ t → Each (IsFirm scope s.scene) (with_fact t fact [])
      go false e = tt
      go true e = (
        (λ v same. turn v (
            let numbers : Scene = record s.scene { control = v.variable } in
            met_is formulas scope v numbers (λ x. refl) (λ x k. subst (λ n. pos 0 ≤ℤ n) (sym (same x (flag_named (sort_in scope x) k))) (now.flags x k)) c (condition_is_affine fields scope c keeps e)
            ∙ same_truth (flags_in scope) numbers s.scene (record { control = same; fields = λ f k. absurd (true≢false (sym k)); strides = λ x j k. absurd (true≢false (sym k)) }) (λ x k. same x (flag_named (sort_in scope x) k)) (λ f k. absurd (true≢false (sym k))) c (condition_is_affine fields scope c keeps e)
            ∙ h)),
        tt,
      )

  -- the bounds of a turn
  module _ (i : Binder) (lo hi : Control) (scope : Scope) (scene : Scene) (n : ℤ) (new : is_new scope i ≡ true) (low : is_control fields plainly scope lo ≡ true) (high : is_control fields plainly scope hi ≡ true) (within : IsFrom (number scene lo) (number scene hi) n) where
    abbrev more : Scope
    more = with_name scope i (ControlName Index)

    abbrev inner : Scene
    inner = with_control i.id n scene

    abbrev Agreeing : Valuation → Type 0
    Agreeing v = (y : ℕ) → IsSome (sort_in more y) → v.variable y ≡ inner.control y

    goes_on : Further scope more scene inner
    goes_on = name_further scope i (ControlName Index) scene inner new (λ y h. ap (λ b. cond b n (scene.control y)) h)

    own : (v : Valuation) → Agreeing v → value v (plain_form (Var i.id)) ≡ n
    own v same =
        let there : IsSome (sort_in more i.id) = ap (λ t. is_some (cond t (Some (ControlName Index)) (sort_in scope i.id))) (self i.id) in
        let is : value v (plain_form (Var i.id)) ≡ v.variable i.id = omega (arith, ints) in
        is ∙ same i.id there ∙ ap (λ t. cond t n (scene.control i.id)) (self i.id)

    bound : (e : Control) → is_control fields plainly scope e ≡ true → (v : Valuation) → Agreeing v → value v (plain_form e) ≡ number scene e
    bound e keeps v same =
        let numbers : Scene = record scene { control = v.variable } in
        value_is normal scope v numbers (λ x. refl) e (bound_is_affine fields scope e keeps)
        ∙ same_number (names_in scope) numbers scene (record { control = λ y h. same y (goes_on.grows y h) ∙ goes_on.control y h; fields = λ f k. absurd (true≢false (sym k)); strides = λ x j k. absurd (true≢false (sym k)) }) e (bound_is_affine fields scope e keeps)

    lower : IsFirm more inner (Holds (Le lo (Var i.id)))
    lower v same = at_most_met v (plain_form lo) (plain_form (Var i.id)) ∙ ap₂ int_le (bound lo low v same) (own v same) ∙ le_true (number scene lo) n within.0

    upper : IsFirm more inner (Holds (Lt (Var i.id) hi))
    upper v same = less_met v (plain_form (Var i.id)) (plain_form hi) ∙ ap₂ int_lt (own v same) (bound hi high v same) ∙ lt_true n (number scene hi) within.1

    bound_firm : Each (IsFirm more inner) (Holds (Le lo (Var i.id)) ∷ Holds (Lt (Var i.id) hi) ∷ [])
    bound_firm = (lower, (upper, tt))

  turns_covered : (i : Binder) (lo hi : Control) (b : Block) (scope : Scope) (root : ℕ → ℕ) (at : Inside) → is_new scope i ≡ true → is_control fields plainly scope lo ≡ true → is_control fields plainly scope hi ≡ true → ((t : State) → Now first (in_loop i lo hi at) (with_name scope i (ControlName Index)) t.scene → Covers first (map access_of (block_uses w params modes (in_loop i lo hi at) b)) (touched world modes b t)) → (ns : List ℤ) (s t : State) → Each (IsFrom (number s.scene lo) (number s.scene hi)) ns → Now first at scope s.scene → ((x : ℕ) → IsSameName x s t) → Covers first (map access_of (block_uses w params modes (in_loop i lo hi at) b)) (turns_touch (turn i.id (run world b)) (λ n u. touched world modes b (on_scene (with_control i.id n) u)) ns t)
  turns_covered i lo hi b scope root at new low high inside [] s t within now same = tt
  turns_covered i lo hi b scope root at new low high inside (n ∷ ns) s t within now same =
      let inner = on_scene (with_control i.id n) t in
      let us = map access_of (block_uses w params modes (in_loop i lo hi at) b) in
      let here = now_same first at scope s t same now in
      let turned = number_same lo low t same in
      each_join (IsCovered first us) (touched world modes b inner) (further (turn i.id (run world b) n t) (turns_touch (turn i.id (run world b)) (λ n u. touched world modes b (on_scene (with_control i.id n) u)) ns))
      (inside inner (now_inside first at scope t.scene here i new n (at.own ++ i.id ∷ []) (Holds (Le lo (Var i.id)) ∷ Holds (Lt (Var i.id) hi) ∷ []) (owns i at.own) (bound_firm i lo hi scope t.scene n new low high (subst₂ (λ a b. IsFrom a b n) (number_same lo low t same) (number_same hi high t same) within.0))))
      (each_further (IsCovered first us) (turn i.id (run world b) n t) (turns_touch (turn i.id (run world b)) (λ n u. touched world modes b (on_scene (with_control i.id n) u)) ns) (λ u e.
      turns_covered i lo hi b scope root at new low high inside ns s u within.1 now (λ x. name_on x s t u (same x) (if_gives (λ u. (x : ℕ) → IsSameName x t u) (turn i.id (run world b) n t) u (turn_names i.id (run world b) n t) e x))))
    where
      number_same : (e : Control) → is_control fields plainly scope e ≡ true → (t : State) → ((x : ℕ) → IsSameName x s t) → number s.scene e ≡ number t.scene e
      number_same e keeps t same = same_number (names_in scope) s.scene t.scene (record { control = λ y h. (same y).control; fields = λ f k. absurd (true≢false (sym k)); strides = λ x j k. absurd (true≢false (sym k)) }) e (bound_is_affine fields scope e keeps)

  pick : (xs : List Access) (t : Bool) (es fs : List Entry) → (t ≡ true → Covers first xs es) → (t ≡ false → Covers first xs fs) → Covers first xs (chosen t es fs)
  pick xs true es fs h k = h refl
  pick xs false es fs h k = k refl

  mutual
    pub block_covered : (b : Block) (scope : Scope) (root : ℕ → ℕ) (at : Inside) → Keeps scope root b → (s : State) → Now first at scope s.scene → Covers first (map access_of (block_uses w params modes at b)) (touched world modes b s)
    block_covered end scope root at keeps = λ s now. tt
    block_covered (next a b) scope root at keeps = λ s now.
        let p = parts (is_statement fields memories world.callees scope root a) (is_block fields memories world.callees (scope_after a scope) (roots_after a root) b) keeps in
        let us = step_uses w params modes at a in
        let vs = block_uses w params modes (past_statement a at) b in
        each_join (IsCovered first (map access_of (us ++ vs))) (step_footprint world (call_entries world.callees modes) a s) (further (step world a s) (footprint world (call_entries world.callees modes) b))
        (covers_left first us vs (step_footprint world (call_entries world.callees modes) a s) (step_covered a scope root at p.0 s now))
        (each_further (IsCovered first (map access_of (us ++ vs))) (step world a s) (footprint world (call_entries world.callees modes) b) (λ t e.
        covers_right first us vs (touched world modes b t) (block_covered b (scope_after a scope) (roots_after a root) (past_statement a at) p.1 t (now_after a scope root at s t p.0 e now))))

    step_covered : (a : Statement) (scope : Scope) (root : ℕ → ℕ) (at : Inside) → KeepsStep scope root a → (s : State) → Now first at scope s.scene → Covers first (map access_of (step_uses w params modes at a)) (step_footprint world (call_entries world.callees modes) a s)
    step_covered (Assign x is e) scope root at keeps = λ s now.
        let p = parts (is_access fields scope x is) (is_datum fields scope e) keeps in
        let q = parts (has_rank (length is) (sort_in scope x)) (are_controls fields plainly scope is) p.0 in
        let us = cell_uses w params modes at Writing x is in
        let vs = data_uses w params modes at e in
        each_join (IsCovered first (map access_of (us ++ vs))) (all_read (reads s.scene e)) (written (place s.scene x is))
        (covers_right first us vs (all_read (reads s.scene e)) (data_covered normal fields w params modes first at scope s.scene now e p.1))
        (covers_left first us vs (written (place s.scene x is)) (written_covered normal fields w params modes first at scope s.scene now x is q.1))
    step_covered (Reduce x is e) scope root at keeps = λ s now.
        let p = parts (is_access fields scope x is) (is_datum fields scope e) keeps in
        let q = parts (has_rank (length is) (sort_in scope x)) (are_controls fields plainly scope is) p.0 in
        let us = cell_uses w params modes at Reducing x is in
        let vs = data_uses w params modes at e in
        each_join (IsCovered first (map access_of (us ++ vs))) (all_read (reads s.scene e)) (reduced s.scene (place s.scene x is))
        (covers_right first us vs (all_read (reads s.scene e)) (data_covered normal fields w params modes first at scope s.scene now e p.1))
        (covers_left first us vs (reduced s.scene (place s.scene x is)) (reduced_covered normal fields w params modes first at scope s.scene now x is q.1))
    step_covered (Config f g) scope root at keeps = λ s now. tt
    step_covered Pass scope root at keeps = λ s now. tt
    step_covered (If c a b) scope root at keeps = λ s now.
        let p = parts (is_condition fields with_fields scope c) _ keeps in
        let q = parts (not (is_empty a) && (is_short a && is_short b)) _ p.1 in
        let r = parts (is_block fields memories world.callees scope root a) (is_block fields memories world.callees scope root b) q.1 in
        let us = block_uses w params modes (in_branch c (Holds c) at) a in
        let vs = block_uses w params modes (in_branch c (Fails c) at) b in
        pick (map access_of (us ++ vs)) (holds s.scene c) (touched world modes a s) (touched world modes b s)
        (λ e. covers_left first us vs (touched world modes a s) (block_covered a scope root (in_branch c (Holds c) at) r.0 s (now_round first at scope s.scene now (with_fact (is_plain_condition c) (Holds c) []) (branch_firm c true (Holds c) scope at s (λ v k. k) p.0 e now))))
        (λ e. covers_right first us vs (touched world modes b s) (block_covered b scope root (in_branch c (Fails c) at) r.1 s (now_round first at scope s.scene now (with_fact (is_plain_condition c) (Fails c) []) (branch_firm c false (Fails c) scope at s (λ v k. negation_met v (plain_formula c) ∙ ap not k) p.0 e now))))
    step_covered (For i lo hi b) scope root at keeps = λ s now.
        let p = parts (is_new scope i) _ keeps in
        let q = parts (is_control fields plainly scope lo && is_control fields plainly scope hi) _ p.1 in
        let o = parts (is_control fields plainly scope lo) (is_control fields plainly scope hi) q.0 in
        let r = parts (not (is_empty b) && is_short b) _ q.1 in
        turns_covered i lo hi b scope root at p.0 o.0 o.1 (block_covered b (with_name scope i (ControlName Index)) root (in_loop i lo hi at) r.1) (turns_of s.scene lo hi) s s (range_within (number s.scene lo) (number s.scene hi)) now (λ x. name_same x s)
    step_covered (Alloc x cell dims memory) scope root at keeps = λ s now. (new_is_not_there first at scope s.scene x now (parts (is_new scope x) _ keeps).0, tt)
    step_covered (View v x cs) scope root at keeps = λ s now. tt
    step_covered (Call k args) scope root at keeps = λ s now. call_covered normal fields w params modes first at scope s.scene now s refl root (world.callees k) (modes k) (params k) args (told k) keeps
