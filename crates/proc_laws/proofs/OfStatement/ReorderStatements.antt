-- The rule by which two neighbouring statements change places is lawful.
use Rattle.std.proofs.Common.{◌≡◌, ℕ, Bool, true, false, ◌&&◌, ◌||◌, true≢false, List}
use Rattle.std.proofs.Common.{[], ◌∷◌, length, Option, Some, None, refl, sym, ap, ◌∙◌, subst, arith}
use Rattle.std.specs.Prelude.{if◌then◌else◌, IsSome}
use Rattle.exo_tree.specs.Tree.{Statement, Assign, Reduce, Config, Pass, If, For, Alloc, View, Call}
use Rattle.exo_tree.specs.Tree.{Block, end, next, Procedure}
use Rattle.exo_tree.specs.Context.{Context, Here, After, InLoop, InThen, InElse, fill}
use Rattle.exo_tree.specs.Places.{Main, Path, Opened, parted, opened, opened_in}
use Rattle.exo_meaning.specs.Inputs.{IsAdmissible}
use Rattle.exo_meaning.specs.Orders.{Each}
use Rattle.exo_meaning.specs.State.{State}
use Rattle.exo_meaning.specs.Run.{run, roots_after}
use Rattle.exo_meaning.specs.Units.{Sort, Scope, sort_in, scope_of, scope_after, field_kind}
use Rattle.exo_meaning.specs.Units.{is_block, is_statement}
use Rattle.exo_meaning.specs.Unseen.{in_statement}
use Rattle.exo_meaning.proofs.Frame.{or_parts, updated_other}
use Rattle.meaning_laws.specs.Context.{ComesTo}
use Rattle.meaning_laws.specs.Fields.{step_writes_field}
use Rattle.meaning_laws.specs.Pairs.{AreClear}
use Rattle.meaning_laws.specs.Scoped.{is_scoped, is_param}
use Rattle.meaning_laws.specs.Sorted.{scope_there}
use Rattle.meaning_laws.specs.Sound.{binds}
use Rattle.meaning_laws.specs.Touched.{touched}
use Rattle.meaning_laws.specs.UnitFields.{unit_writes}
use Rattle.meaning_laws.proofs.Substitute.{and_parts}
use Rattle.meaning_laws.proofs.WellFormed.{well_scoped}
use Rattle.config_state.specs.Reads.{step_reads_field, unit_reads}
use Rattle.place_laws.specs.Scope.Bare.{bare}
use Rattle.place_laws.specs.Scope.Holes.{with_rest, within}
use Rattle.place_laws.specs.Scope.PlacesCompose.{inside}
use Rattle.place_laws.specs.Scope.Roots.{own_roots_at}
use Rattle.place_laws.specs.Scope.SamePlace.{start_of, IsStart}
use Rattle.place_laws.proofs.OfScope.Narrower.{before_narrower, roots_before, known_not_bound}
use Rattle.place_laws.proofs.OfScope.Narrower.{narrower_keeps}
use Rattle.place_laws.proofs.OfScope.PlacesCompose.{places_compose}
use Rattle.place_laws.proofs.OfScope.SamePlace.{same_place}
use Rattle.tree_edits.specs.Made.Passes.{or_pass}
use Rattle.check_laws.specs.Facts.Laws.{ComesToPlace}
use Rattle.cursor_forward.specs.Causes.{ConfigWrite}
use Rattle.cursor_forward.specs.Forwards.{Carries}
use Rattle.exo_effects.specs.Parts.{Parts, no_parts, with_params, passed, parts_at}
use Rattle.exo_effects.specs.Uses.{modes_of}
use Rattle.effect_laws.specs.Apart.{IsApartAt, parts_there}
use Rattle.effect_laws.specs.Fits.{IsBlockThere, alone_at, neighbours_conflict}
use Rattle.effect_laws.proofs.Fits.{neighbours_fit}
use Rattle.place_laws.specs.Order.Reorder.{pair}
use Rattle.place_laws.specs.Order.Statements.{LeavesAlone, FieldsApart}
use Rattle.place_laws.proofs.OfOrder.Reorder.{orders_apart}
use Rattle.place_laws.proofs.OfOrder.Statements.{statements_commute}
use Rattle.place_laws.proofs.OfOrder.Unread.{unread_fields_are_dead}
use Rattle.step_rules.specs.Rule.{Piece, Spot}
use Rattle.step_rules.specs.Lawful.{IsMet, IsSpot, Site, IsSite, same, IsLawful, IsCarrying, around}
use Rattle.step_rules.specs.Lawful.{old, world_of, callees_for, scope_here, with_body}
use Rattle.step_rules.proofs.Shapes.{made_of, or_pass_next}
use Rattle.loop_laws.proofs.Sites.{found_then, keeps_here}
use Rattle.proc_laws.specs.Statement.Fields.{some_field}
use Rattle.proc_laws.specs.Statement.ReorderStatements.{Neighbours, both_of, unbound_by_first}
use Rattle.proc_laws.specs.Statement.ReorderStatements.{neighbours_of, share_field, reorder_refusal}
use Rattle.proc_laws.specs.Statement.ReorderStatements.{next_place, reorder_needs, exchanged, reorder_rule}
use Rattle.proc_laws.proofs.OfStatement.Bare.{bare_is_scoped}
use Rattle.proc_laws.proofs.OfStatement.Fields.{no_field, unit_below, step_below}

-- ---- what is read

record AreNeighbours (b : Block) (n : Neighbours) : Type 0 where
  is : b ≡ pair n.first n.second
  unbound : in_statement (binds n.first) n.second ≡ false

both_is : (b : Block) (n : Neighbours) → both_of b ≡ Some n → b ≡ pair n.first n.second
both_is end n h = cc
both_is (next a end) n h = cc
both_is (next a (next b end)) n h = ap (λ (m : Neighbours). pair m.first m.second) (alike h)
  where
    alike : {m : Neighbours} → Some m ≡ Some n → m ≡ n
    alike e = cc
both_is (next a (next b (next c rest))) n h = cc

unbound_is : (m n : Neighbours) (t : Bool) → in_statement (binds m.first) m.second ≡ t
    → (if t then None else Some m) ≡ Some n → (m ≡ n) × (t ≡ false)
unbound_is m n true e h = cc
unbound_is m n false e h = (alike h, refl)
  where
    alike : Some m ≡ Some n → m ≡ n
    alike q = cc

neighbours_are : (b : Block) (n : Neighbours) → neighbours_of b ≡ Some n → AreNeighbours b n
neighbours_are b n h =
    let f = found_then (both_of b) unbound_by_first n h in
    let u = unbound_is f.0 n (in_statement (binds f.0.first) f.0.second) refl f.2 in
    subst (AreNeighbours b) u.0 (record { is = both_is b f.0 f.1; unbound = u.1 })

-- what the rule says
record OnNeighbours (a : Site) : Type 0 where
  two : Neighbours
  found : neighbours_of (old a.spot) ≡ Some two
  both : a.spot.piece.count ≡ 2
  made : pair two.second two.first ≡ a.draft

on_neighbours : (a : Site) → IsSite reorder_rule a → OnNeighbours a
on_neighbours a is =
    let d =
    made_of (neighbours_of (old a.spot)) (λ n. pair n.second n.first) a.draft is.drafted in
    let at_place = made_of _ (λ (n : Neighbours). record { path = is.at; count = 2 }) a.spot.piece
    is.chosen in
    record {
      two = d.of;
      found = d.found;
      both = sym (ap (λ (p : Piece). p.count) at_place.made);
      made = d.made;
    }

-- ---- parts of buffers

passed_other : (a : Statement) (table : Parts) (x : ℕ) → binds a x ≡ false
    → passed a table x ≡ table x
passed_other (Assign y is e) table x h = refl
passed_other (Reduce y is e) table x h = refl
passed_other (Config f a) table x h = refl
passed_other Pass table x h = refl
passed_other (If c a b) table x h = refl
passed_other (For i lo hi b) table x h = refl
passed_other (Alloc y cell dims memory) table x h = updated_other table y.id _ x h
passed_other (View w y coords) table x h = updated_other table w.id _ x h
passed_other (Call k args) table x h = refl

parts_behind : (c : Context) (a : Statement) (table : Parts)
    → parts_at (within c (After a (Here end))) table ≡ passed a (parts_at c table)
parts_behind (Here rest) a table = refl
parts_behind (After d c) a table = parts_behind c a (passed d table)
parts_behind (InLoop i lo hi c rest) a table = parts_behind c a table
parts_behind (InThen t c other rest) a table = parts_behind c a table
parts_behind (InElse t other c rest) a table = parts_behind c a table

parts_before : (c : Context) (rest : Block) (table : Parts)
    → parts_at (with_rest c rest) table ≡ parts_at c table
parts_before (Here r) rest table = refl
parts_before (After d c) rest table = parts_before c rest (passed d table)
parts_before (InLoop i lo hi c r) rest table = parts_before c rest table
parts_before (InThen t c other r) rest table = parts_before c rest table
parts_before (InElse t other c r) rest table = parts_before c rest table

-- ---- the two at their places

module _ (s : Spot) (is : IsSpot s) (a b : Statement) (was : old s ≡ pair a b)
    (both : s.piece.count ≡ 2) where
  abbrev proc : Procedure
  proc = s.target.proc

  abbrev place : Path
  place = s.piece.path

  abbrev alone : Statement → Block
  alone d = next d end

  opens : opened 2 place proc.body ≡ Some s.opened
  opens = ap (λ n. opened n place proc.body) (sym both) ∙ is.opens

  start : (p : Block × Block) × IsStart 1 place proc.body s.opened p
  start = same_place 1 2 place proc.body s.opened (omega arith) opens

  abbrev first_opened : Opened
  first_opened = start_of s.opened start.0

  first_is : start.0.0 ≡ alone a
  first_is = by (old s) was start.0 start.1.parts
    where
      by : (d : Block) → d ≡ pair a b → (p : Block × Block)
          → parted 1 d ≡ Some p → p.0 ≡ alone a
      by d e p h = cc

  abbrev second_in : Opened
  second_in = record { around = After a (Here end); piece = alone b }

  abbrev second_opened : Opened
  second_opened = inside s.opened second_in

  second_opens : opened 1 (next_place place) proc.body ≡ Some second_opened
  second_opens =
      (places_compose 1 2 place (record { branch = Main; index = 1 }) [] proc.body s.opened second_in
      opens
      (ap (opened_in 1 (record { branch = Main; index = 1 } ∷ [])) was)).there

  scope_is : scope_there proc (opened 1 place proc.body) ≡ scope_here s
  scope_is =
      ap (scope_there proc) start.1.there ∙ start.1.same.scope (scope_of [] proc.params)

  -- ---- the rules

  abbrev Keeps : Scope → (ℕ → ℕ) → Block → Type 0
  Keeps scope root d =
      is_block (field_kind s.target.unit.fields) (length s.target.unit.memories)
      (callees_for s.target) scope root d ≡ true

  abbrev roots : ℕ → ℕ
  roots = own_roots_at (around s)

  rules : (is_statement (field_kind s.target.unit.fields) (length s.target.unit.memories)
      (callees_for s.target) (scope_here s) roots a ≡ true)
      × Keeps (scope_after a (scope_here s)) (roots_after a roots) (alone b)
  rules =
      and_parts (is_statement (field_kind s.target.unit.fields) (length s.target.unit.memories)
      (callees_for s.target) (scope_here s) roots a) _
      (subst (λ d. keeps_here s d ≡ true) was is.well.piece)

  first_keeps : Keeps (scope_here s) roots (alone a)
  first_keeps = ap (λ t. t && true) rules.0

  module _ (unbound : in_statement (binds a) b ≡ false) where
    second_keeps : Keeps (scope_here s) roots (alone b)
    second_keeps =
        narrower_keeps (field_kind s.target.unit.fields) (length s.target.unit.memories)
        (callees_for s.target) (binds a) (scope_after a (scope_here s)) (scope_here s)
        (roots_after a roots) roots (alone b) (before_narrower a (scope_here s))
        (roots_before a roots) (ap (λ t. t || false) unbound) rules.1

    first_there : IsBlockThere s.target.unit proc place (alone_at place) (alone a)
    first_there = record {
      opened_as = first_opened;
      is_there = record {
        opens = start.1.there;
        loops = refl;
        root = roots;
        block =
            subst (λ d. Keeps (scope_there proc (opened 1 place proc.body)) roots d) (sym first_is)
            (subst (λ z. Keeps z roots (alone a)) (sym scope_is) first_keeps);
        parts = λ x h. sym (ap (λ o. parts_there s.target.unit proc o x) start.1.there);
      };
      piece = first_is;
    }

    second_there : IsBlockThere s.target.unit proc place (alone_at (next_place place)) (alone b)
    second_there = record {
      opened_as = second_opened;
      is_there = record {
        opens = second_opens;
        loops = refl;
        root = roots;
        block = subst (λ z. Keeps z roots (alone b)) (sym scope_is) second_keeps;
        parts = λ x h. same_parts x (subst (λ z. IsSome (sort_in z x)) scope_is h);
      };
      piece = refl;
    }
      where
        table_before : Parts
        table_before = with_params proc.params no_parts

        not_bound : (x : ℕ) (o : Option Sort) → sort_in (scope_here s) x ≡ o → IsSome o
            → binds a x ≡ false
        not_bound x None e h = absurd (true≢false (sym h))
        not_bound x (Some sort) e h =
            known_not_bound (field_kind s.target.unit.fields) (length s.target.unit.memories)
            (callees_for s.target) (scope_here s) roots a rules.0 x sort e

        same_parts : (x : ℕ) → IsSome (sort_in (scope_here s) x)
            → parts_there s.target.unit proc (Some second_opened) x
            ≡ parts_there s.target.unit proc (opened 1 place proc.body) x
        same_parts x h =
            ap (λ t. t x) (parts_behind (around s) a table_before)
            ∙ passed_other a (parts_at (around s) table_before) x
            (not_bound x (sort_in (scope_here s) x) refl h)
            ∙ sym (ap (λ o. parts_there s.target.unit proc o x) start.1.there
            ∙ ap (λ t. t x) (parts_before (around s) _ table_before))

    -- what the one touches does not clash with what the other does
    clear_there : IsApartAt s.target.unit proc place (neighbours_conflict place (next_place place))
        → (first u : State) → IsAdmissible (world_of s) proc first
        → ComesTo (world_of s) (old s) (around s) first u
        → AreClear u.scene (touched (world_of s) (modes_of s.target.unit) (alone a) u)
        (touched (world_of s) (modes_of s.target.unit) (alone b) u)
    clear_there apart first u good come =
        neighbours_fit s.target.unit proc place (next_place place) (alone a) (alone b) first u apart
        first_there second_there good
        (subst (λ o. ComesToPlace (world_of s) o first u) (sym start.1.there)
        ((start.1.same.comes (world_of s) first u).0 come))

-- ---- fields

some_none : {A : Type 0} {a : A} → Some a ≡ None → ⊥
some_none e = cc

not_refused : (s : Spot) (o : Option Neighbours) (n : Neighbours) → o ≡ Some n
    → reorder_refusal s o ≡ None
    → some_field s.target.unit.fields (λ f. share_field s.target.unit.procedures f n) ≡ false
not_refused s o n found allowed =
    by (some_field s.target.unit.fields (λ f. share_field s.target.unit.procedures f n))
    (sym (ap (reorder_refusal s) found) ∙ allowed)
  where
    by : (t : Bool) → (if t then Some ConfigWrite else None) ≡ None → t ≡ false
    by true h = absurd (some_none h)
    by false h = refl

-- of writes and reads of a field by two
first_apart : (w r v q : Bool) → ((w && (v || q)) || (v && (w || r))) ≡ false → w ≡ true
    → (v ≡ false) × (q ≡ false)
first_apart true r v q h e =
    or_parts v q (or_parts (v || q) (v && (true || r)) h).0
first_apart false r v q h e = absurd (true≢false (sym e))

second_apart : (w r v q : Bool) → ((w && (v || q)) || (v && (w || r))) ≡ false → v ≡ true
    → (w ≡ false) × (r ≡ false)
second_apart w r true q h e = or_parts w r (or_parts (w && (true || q)) (w || r) h).1
second_apart w r false q h e = absurd (true≢false (sym e))

leaves_alone : (s : Spot) (f : ℕ) (b : Statement)
    → step_writes_field (unit_writes s.target.unit.procedures) f b ≡ false
    → step_reads_field (unit_reads s.target.unit.procedures) f b ≡ false
    → LeavesAlone s.target.unit.procedures f b
leaves_alone s f b write read = record {
  not_written = write;
  not_read =
      unread_fields_are_dead s.target.unit.procedures f (next b end) (ap (λ t. t || false) read);
}

module _ (s : Spot) (is : IsSpot s) (a b : Statement)
    (alike : some_field s.target.unit.fields
    (λ f. share_field s.target.unit.procedures f (record { first = a; second = b })) ≡ false) where
  abbrev ps : List Procedure
  ps = s.target.unit.procedures

  abbrev IsKept : Statement → Type 0
  IsKept d =
      (scope : Scope) × (root : ℕ → ℕ)
      × (is_statement (field_kind s.target.unit.fields) (length s.target.unit.memories)
      (callees_for s.target) scope root d ≡ true)

  shares_none : (d : Statement) → IsKept d → (f : ℕ) → step_writes_field (unit_writes ps) f d ≡ true
      → share_field ps f (record { first = a; second = b }) ≡ false
  shares_none d kept f h =
      let unit = s.target.unit in
      let memories = length unit.memories in
      no_field unit.fields (λ g. share_field ps g (record { first = a; second = b })) f alike
      (step_below unit.fields memories (callees_for s.target) (unit_writes ps)
      (unit_below unit.fields memories ps is.runs.unit) kept.0 kept.1 d kept.2 f h)

  second_leaves : IsKept a → FieldsApart ps a b
  second_leaves kept f h =
      let p = first_apart (step_writes_field (unit_writes ps) f a)
      (step_reads_field (unit_reads ps) f a) (step_writes_field (unit_writes ps) f b)
      (step_reads_field (unit_reads ps) f b) (shares_none a kept f h) h in
      leaves_alone s f b p.0 p.1

  first_leaves : IsKept b → FieldsApart ps b a
  first_leaves kept f h =
      let p = second_apart (step_writes_field (unit_writes ps) f a)
      (step_reads_field (unit_reads ps) f a) (step_writes_field (unit_writes ps) f b)
      (step_reads_field (unit_reads ps) f b) (shares_none b kept f h) h in
      leaves_alone s f a p.0 p.1

-- ---- names

-- the first mentions no name that the second binds
first_unbound : (a : Site) → IsSite reorder_rule a → (n : Neighbours)
    → old a.spot ≡ pair n.first n.second → pair n.second n.first ≡ a.draft
    → in_statement (binds n.second) n.first ≡ false
first_unbound a is n was made =
    let t = a.spot.target in
    let p = t.proc in
    let c = around a.spot in
    let scoped_old =
    ap (is_scoped (is_param p)) (sym (is.spot.body ∙ ap (fill c) was))
    ∙ (well_scoped (field_kind t.unit.fields) (length t.unit.memories) (callees_for t) p
    is.spot.runs.procedure).0 in
    let scoped_body =
    (well_scoped (field_kind t.unit.fields) (length t.unit.memories) (callees_for t)
    (with_body a.spot a.body) is.runs.procedure).0 in
    let named =
    is.named
    ∙ ap (λ d. bare (fill c (or_pass c d))) (sym made)
    ∙ ap (λ d. bare (fill c d)) (or_pass_next c n.second (next n.first end)) in
    let scoped_new =
    sym (bare_is_scoped (is_param p) (fill c (pair n.second n.first)))
    ∙ ap (is_scoped (is_param p)) (sym named)
    ∙ bare_is_scoped (is_param p) a.body
    ∙ scoped_body in
    (orders_apart (is_param p) c n.first n.second scoped_old scoped_new).1

-- ---- the rule

apart_of : (s : Spot) (o : Option Neighbours) (n : Neighbours) → o ≡ Some n
    → Each (IsMet s.target) (reorder_needs s.piece.path o)
    → IsApartAt s.target.unit s.target.proc s.piece.path
    (neighbours_conflict s.piece.path (next_place s.piece.path))
apart_of s o n found met =
    (subst (λ z. Each (IsMet s.target) (reorder_needs s.piece.path z)) found met).0

pub reorder_is_lawful : IsLawful reorder_rule
reorder_is_lawful = record {
  replaces = λ a is versions met. (
      let s = a.spot in
      let unit = s.target.unit in
      let on = on_neighbours a is in
      let n = on.two in
      let are = neighbours_are (old s) n on.found in
      let alike = not_refused s (neighbours_of (old s)) n on.found is.allowed in
      let kept = rules s is.spot n.first n.second are.is on.both in
      let second_kept =
      second_keeps s is.spot n.first n.second are.is on.both are.unbound in
      let needed = apart_of s (neighbours_of (old s)) n on.found met in
      same (λ first u good come stands.
      ap (λ d. run (world_of s) d u) are.is
      ∙ statements_commute unit.fields (length unit.memories) unit.procedures (scope_here s)
      (own_roots_at (around s)) n.first n.second end u (record {
        first = record {
          unit = is.spot.runs.unit;
          block = first_keeps s is.spot n.first n.second are.is on.both;
          sound = stands.sound;
          sorted = stands.sorted;
        };
        second = record {
          unit = is.spot.runs.unit;
          block = second_kept;
          sound = stands.sound;
          sorted = stands.sorted;
        };
        to_second = record {
          names = are.unbound;
          fields = second_leaves s is.spot n.first n.second alike (
            scope_here s,
            own_roots_at (around s),
            kept.0,
          );
        };
        to_first = record {
          names = first_unbound a is n are.is on.made;
          fields = first_leaves s is.spot n.first n.second alike (
            scope_here s,
            own_roots_at (around s),
            (and_parts _ true second_kept).0,
          );
        };
        clear =
            clear_there s is.spot n.first n.second are.is on.both are.unbound needed first u good
            come;
      })
      ∙ ap (λ d. run (world_of s) d u) on.made)
      );
}

reorder_carried : (c : Context) (a b : Statement)
    → Carries exchanged (pair a b) (or_pass c (pair b a))
reorder_carried c a b =
    subst (Carries exchanged (pair a b)) (sym (or_pass_next c b (next a end))) (
      record {
        was = record { around = Here (next b end); piece = next a end };
        is = record { around = After b (Here end); piece = next a end };
        before = refl;
        after = refl;
        alike = refl;
      },
      (
        record {
          was = record { around = After a (Here end); piece = next b end };
          is = record { around = Here (next a end); piece = next b end };
          before = refl;
          after = refl;
          alike = refl;
        },
        tt,
      ),
    )

pub reorder_is_carrying : IsCarrying reorder_rule
reorder_is_carrying = record {
  carries = λ a is. (
      let on = on_neighbours a is in
      let n = on.two in
      let new = or_pass (around a.spot) a.draft in
      subst (λ b. Carries exchanged b new) (sym (neighbours_are (old a.spot) n on.found).is)
      (subst (λ d. Carries exchanged (pair n.first n.second) (or_pass (around a.spot) d)) on.made
      (reorder_carried (around a.spot) n.first n.second))
      );
  apart = λ a is. refl;
}
