-- Arguments of a call whose conflicts have no integer point have no cell in common.
use Rattle.std.proofs.Common.{◌≡◌, ℕ, zero, suc, ℤ, Bool, true, true≢false, List, [], ◌∷◌, map, length, Option, Some, None, option_map, slice_get, refl, sym, ap, ◌∙◌, subst, inl}
use Rattle.std.specs.Prelude.{IsSome}
use Rattle.std.specs.List.{list_all}
use Rattle.exo_tree.specs.Tree.{Kind, Coord, Argument, ControlArg, ConditionArg, Whole, Window, Statement, Assign, Reduce, Config, Pass, If, For, Alloc, View, Call, Block, end, next, joined, Param, ParamKind, ControlParam, TensorParam, WindowParam, Procedure, Program}
use Rattle.exo_tree.specs.Calls.{passed_by, call_arguments}
use Rattle.exo_tree.specs.Places.{Path, Opened, opened}
use Rattle.exo_meaning.specs.Scene.{Seen, window, narrowed, cell_at, AreApart}
use Rattle.exo_meaning.specs.State.{State}
use Rattle.exo_meaning.specs.Calls.{Callee, Given, GivenNumber, GivenView, given, given_at, given_apart, are_apart_at}
use Rattle.exo_meaning.specs.Run.{program_world}
use Rattle.exo_meaning.specs.Inputs.{IsAdmissible}
use Rattle.exo_meaning.specs.Laws.{WindowsAreTested}
use Rattle.exo_meaning.specs.Modes.{Writing}
use Rattle.exo_meaning.specs.Orders.{Each}
use Rattle.exo_meaning.specs.Units.{Scope, sort_in, field_kind, has_cell, has_rank, is_coord, is_window, is_for, are_for, is_call, is_block, is_statement}
use Rattle.meaning_laws.specs.Context.{ComesTo}
use Rattle.meaning_laws.specs.Sorted.{MayRun, scope_there}
use Rattle.affine_forms.specs.Affine.{HasNoIntegerPoint}
use Rattle.affine_systems.specs.Laws.{SystemsLaw}
use Rattle.affine_systems.specs.Outcomes.{Owed}
use Rattle.text_show.specs.Layout.{Text}
use Rattle.text_show.specs.StatementText.{argument_text}
use Rattle.text_show.specs.Words.{words_of}
use Rattle.check_laws.specs.Facts.Laws.{context_of, ComesToPlace}
use Rattle.check_laws.proofs.OfFacts.Sides.{map_gives}
use Rattle.check_laws.proofs.OfFacts.Truths.{parts, none_some, some_injective}
use Rattle.exo_effects.specs.Accesses.{Access, access_of}
use Rattle.exo_effects.specs.Conflicts.{clashing, past_these}
use Rattle.exo_effects.specs.Orders.{no_order}
use Rattle.exo_effects.specs.Parts.{Part, window_of}
use Rattle.exo_effects.specs.Uses.{Use, uses_of, part_of_argument, at_hole, argument_in, argument_at}
use Rattle.effect_laws.specs.Apart.{parts_there}
use Rattle.effect_laws.specs.Clear.{AreTwoTurns}
use Rattle.effect_laws.specs.Covers.{IsCellOfSome}
use Rattle.effect_laws.specs.Pairs.{IsPairShown, PairsAreApart}
use Rattle.effect_laws.proofs.Apart.{Laws, place_of, told, formed_there, views_named, known, v, variable_is}
use Rattle.effect_laws.proofs.Cells.{cell_lies_there}
use Rattle.effect_laws.proofs.Clear.{AllShown, each_flat, each_shown, no_clash}
use Rattle.effect_laws.proofs.Covers.{then_gives}
use Rattle.effect_laws.proofs.Known.{IsPart}
use Rattle.effect_laws.proofs.Places.{AllTold, IsFormedAt, window_part}

-- ---- arguments of a well-formed call

module _ (fields : ℕ → Option Kind) (memories : ℕ) (callees : ℕ → Option Callee) (scope : Scope) where
  abbrev pub IsFormed : Argument → Type 0
  IsFormed (ControlArg e) = Unit {0}
  IsFormed (ConditionArg c) = Unit {0}
  IsFormed (Whole x) = Unit {0}
  IsFormed (Window x cs) = list_all (is_coord fields scope) cs ≡ true

  window_formed : (x : ℕ) (cs : List Coord) → is_window fields scope x cs ≡ true → IsFormed (Window x cs)
  window_formed x cs h = (parts (has_rank (length cs) (sort_in scope x)) (list_all (is_coord fields scope) cs) h).1

  argument_formed : (kind : ParamKind) (a : Argument) → is_for fields scope kind a ≡ true → IsFormed a
  argument_formed kind (ControlArg e) h = tt
  argument_formed kind (ConditionArg c) h = tt
  argument_formed kind (Whole x) h = tt
  argument_formed (ControlParam kind) (Window x cs) h = absurd (true≢false (sym h))
  argument_formed (TensorParam cell dims memory) (Window x cs) h = window_formed x cs (parts (is_window fields scope x cs) _ (parts (has_cell cell (sort_in scope x)) _ h).1).0
  argument_formed (WindowParam cell dims memory) (Window x cs) h = window_formed x cs (parts (is_window fields scope x cs) _ (parts (has_cell cell (sort_in scope x)) _ h).1).0

  all_formed : (ps : List Param) (args : List Argument) → are_for fields scope ps args ≡ true → Each IsFormed args
  all_formed [] [] h = tt
  all_formed [] (a ∷ args) h = absurd (true≢false (sym h))
  all_formed (p ∷ ps) [] h = tt
  all_formed (p ∷ ps) (a ∷ args) h =
      let q = parts (is_for fields scope p.kind a) (are_for fields scope ps args) h in
      (argument_formed p.kind a q.0, all_formed ps args q.1)

  passed_formed : (root : ℕ → ℕ) (a : Statement) → is_statement fields memories callees scope root a ≡ true → Each IsFormed (passed_by a)
  passed_formed root (Assign x is e) h = tt
  passed_formed root (Reduce x is e) h = tt
  passed_formed root (Config f a) h = tt
  passed_formed root Pass h = tt
  passed_formed root (If c a b) h = tt
  passed_formed root (For i lo hi b) h = tt
  passed_formed root (Alloc x cell dims memory) h = tt
  passed_formed root (View w x coords) h = tt
  passed_formed root (Call k args) h = go (callees k) h
    where
      go : (o : Option Callee) → is_call fields scope root o args ≡ true → Each IsFormed args
      go None h = absurd (true≢false (sym h))
      go (Some c) h = all_formed c.procedure.params args (parts (are_for fields scope c.procedure.params args) _ h).0

  pub call_formed : (b rest : Block) (root : ℕ → ℕ) → is_block fields memories callees scope root (joined b rest) ≡ true → Each IsFormed (call_arguments b)
  call_formed end rest root h = tt
  call_formed (next a b) rest root h = passed_formed root a (parts (is_statement fields memories callees scope root a) _ h).0

  pub nth_formed : (args : List Argument) (k : ℕ) (a : Argument) → Each IsFormed args → slice_get args k ≡ Some a → IsFormed a
  nth_formed [] k a h e = absurd (none_some e)
  nth_formed (b ∷ args) zero a h e = subst IsFormed (some_injective b a e) h.0
  nth_formed (b ∷ args) (suc k) a h e = nth_formed args k a h.1 e

-- ---- wherever a run comes to the call

module _ (laws : Laws) (u : Program) (p : Procedure) (may : MayRun u.fields (length u.memories) u.procedures p) (path : Path) (o : Opened) (is : opened 1 path p.body ≡ Some o) (s t : State) (ok : IsAdmissible (program_world u) p s) (come : ComesTo (program_world u) o.piece o.around s t) where
  abbrev fields : ℕ → Option Kind
  fields = field_kind u.fields

  abbrev callees : ℕ → Option Callee
  callees = (program_world u).callees

  abbrev scope : Scope
  scope = scope_there p (Some o)

  abbrev args : List Argument
  args = call_arguments o.piece

  come_there : ComesToPlace (program_world u) (opened 1 path p.body) s t
  come_there = subst (λ q. ComesToPlace (program_world u) q s t) (sym is) come

  -- what each name stands for
  names_told : AllTold fields (length u.memories) callees t.scene scope (at_hole u p o).parts
  names_told = subst (λ q. AllTold fields (length u.memories) callees t.scene (scope_there p q) (parts_there u p q)) is (told laws u p may path s t ok come_there)

  named : (x : ℕ) (seen : Seen) → t.scene.views x ≡ Some seen → IsSome (sort_in scope x)
  named x seen e = subst (λ q. IsSome (sort_in (scope_there p q) x)) is (views_named laws u p may path s t ok come_there x seen e)

  args_formed : Each (IsFormed fields (length u.memories) callees scope) args
  args_formed =
      let f = subst (λ q. IsFormedAt fields (length u.memories) callees t.scene (scope_there p q) (place_of p q).piece) is (formed_there laws u p may path s t ok come_there) in
      call_formed fields (length u.memories) callees scope o.piece f.0 f.1 f.2

  -- what is given for an argument is its part
  view_is : (y z : Seen) → GivenView y ≡ GivenView z → y ≡ z
  view_is y z e = cc

  no_view : (n : ℤ) (z : Seen) → Some (GivenNumber n) ≡ Some (GivenView z) → ⊥
  no_view n z e = cc

  given_part : (a : Argument) → IsFormed fields (length u.memories) callees scope a → (z : Seen) → given t.scene a ≡ Some (GivenView z) → IsPart scope t.scene (part_of_argument (at_hole u p o).parts a) z
  given_part (ControlArg e) formed z g = absurd (no_view _ z g)
  given_part (ConditionArg c) formed z g = absurd (no_view _ z g)
  given_part (Whole x) formed z g =
      let m = map_gives (t.scene.views x) GivenView (GivenView z) g in
      subst (IsPart scope t.scene ((at_hole u p o).parts x)) (view_is m.0 z m.2) (names_told x (named x m.0 m.1) m.0 m.1)
  given_part (Window x cs) formed z g =
      let m = map_gives (window t.scene x cs) GivenView (GivenView z) g in
      let w = then_gives (t.scene.views x) (λ seen. option_map (λ sides. record { buffer = seen.buffer; sides = sides }) (narrowed t.scene seen.sides cs)) m.0 m.1 in
      subst (IsPart scope t.scene (option_map (window_of cs) ((at_hole u p o).parts x))) (view_is m.0 z m.2)
      (window_part fields (length u.memories) callees t.scene scope (at_hole u p o).parts x cs m.0 (names_told x (named x w.0 w.1)) formed m.1)

  -- ---- each cell of it is one of its access

  abbrev Covers : Seen → List ℤ → List Use → Type 0
  Covers z at us = IsCellOfSome t.scene.control Writing (record { buffer = z.buffer; at = at }) (map access_of us)

  part_covers : (text : Text) (q : Option Part) (z : Seen) (is at : List ℤ) → cell_at z.sides is ≡ Some at → IsPart scope t.scene q z → Covers z at (uses_of (at_hole u p o) text q (Writing ∷ []))
  part_covers text q z is at e (part, i, sees) =
      subst (λ q. Covers z at (uses_of (at_hole u p o) text q (Writing ∷ []))) (sym i) (inl (record {
        root = sym sees.root;
        so = refl;
        numbers = t.scene.control;
        others = λ y h. refl;
        reached = record {
          guards = λ v same. refl;
          cell = λ v same. cell_lies_there laws.normal scope t.scene part.coords is at sees.affine (ap (λ sides. cell_at sides is) (sym sees.sides) ∙ e) v (λ y. ap (λ f. f y) same);
        };
      }))

  argument_covers : (k : ℕ) (z : Seen) → given_at t.scene args k ≡ Some (GivenView z) → (is at : List ℤ) → cell_at z.sides is ≡ Some at → Covers z at (argument_at u p path k)
  argument_covers k z g is_at at e =
      let w = then_gives (slice_get args k) (given t.scene) (GivenView z) g in
      let part = given_part w.0 (nth_formed fields (length u.memories) callees scope args k w.0 args_formed w.1) z w.2 in
      subst (λ q. Covers z at (elim q as (λ q. List Use) [ None ↦ [] | Some o ↦ argument_in u p o k ])) (sym is)
      (subst (λ q. Covers z at (elim q as (λ q. List Use) [ None ↦ [] | Some a ↦ uses_of (at_hole u p o) (argument_text (words_of u p) a) (part_of_argument (at_hole u p o).parts a) (Writing ∷ []) ])) (sym w.1)
      (part_covers (argument_text (words_of u p) w.0) (part_of_argument (at_hole u p o).parts w.0) z is_at at e part))

  -- ---- two of them

  two_turns : AreTwoTurns no_order (v laws u p may path s t ok come_there) t.scene t.scene
  two_turns = record {
    buffers = refl;
    copies = record {
      first_else = λ y h. sym (variable_is laws u p may path s t ok come_there y);
      second_else = λ y h. sym (variable_is laws u p may path s t ok come_there y);
      first_within = tt;
      second_within = tt;
      ordered = tt;
    };
  }

  module _ (systems : SystemsLaw) (tested : WindowsAreTested) (j k : ℕ) (shown : IsPairShown u p path j k) where
    abbrev accesses : ℕ → List Access
    accesses i = map access_of (argument_at u p path i)

    all_shown : AllShown (context_of u p path) no_order (accesses j) (accesses k)
    all_shown =
        let ctx = context_of u p path in
        let base = past_these ctx no_order (accesses j) (accesses k) in
        let pairs = clashing (accesses j) (accesses k) in
        each_shown ctx no_order path base pairs (each_flat ctx no_order path base (λ (q : Owed). HasNoIntegerPoint q.system) pairs shown)

    views_apart : (y z : Seen) → given_at t.scene args j ≡ Some (GivenView y) → given_at t.scene args k ≡ Some (GivenView z) → AreApart y z
    views_apart y z g h is js at same e f =
        let describes = known laws u p may path s t ok come_there in
        no_clash systems (context_of u p path) no_order (accesses j) (accesses k) (v laws u p may path s t ok come_there) t.scene t.scene describes.1.kinds describes.1.context all_shown two_turns
        Writing Writing (record { buffer = y.buffer; at = at }) (record { buffer = z.buffer; at = at }) refl same refl (argument_covers j y g is at e) (argument_covers k z h js at f)

    both_apart : (g h : Given) → given_at t.scene args j ≡ Some g → given_at t.scene args k ≡ Some h → given_apart g h ≡ true
    both_apart (GivenNumber n) h i e = refl
    both_apart (GivenView y) (GivenNumber n) i e = refl
    both_apart (GivenView y) (GivenView z) i e = (tested y z).1 (views_apart y z i e)

    pub apart_there : are_apart_at t.scene args j k ≡ true
    apart_there = go (given_at t.scene args j) refl (given_at t.scene args k) refl
      where
        go : (g : Option Given) → given_at t.scene args j ≡ g → (h : Option Given) → given_at t.scene args k ≡ h → (elim g as (λ g. Bool) [ None ↦ true | Some a ↦ elim h as (λ h. Bool) [ None ↦ true | Some b ↦ given_apart a b ] ]) ≡ true
        go None i h e = refl
        go (Some a) i None e = refl
        go (Some a) i (Some b) e = both_apart a b i e

pub pairs_are_apart : Laws → SystemsLaw → WindowsAreTested → PairsAreApart
pairs_are_apart laws systems tested u p place o j k may is shown s t ok come = apart_there laws u p may place o is s t ok come systems tested j k shown
