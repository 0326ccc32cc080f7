-- The rule that makes two loops of one is lawful.
use Rattle.std.proofs.Common.{◌≡◌, ◌≤◌, ℕ, Bool, true, false, ◌==◌, ◌&&◌, ◌||◌, not, inl}
use Rattle.std.proofs.Common.{[], ◌∷◌, length, Option, Some, None, option_map, refl, sym, ap}
use Rattle.std.proofs.Common.{ap₂, ◌∙◌, subst, arith, eq-eqb}
use Rattle.std.specs.Prelude.{option_and_then, if◌then◌else◌, nat_le, nat_lt, IsSome, cond}
use Rattle.exo_tree.specs.Tree.{Index, Binder, Statement, Assign, Reduce, Config, Pass, If, For, Alloc}
use Rattle.exo_tree.specs.Tree.{View, Call, Block, end, next, joined}
use Rattle.exo_tree.specs.Context.{Here, InLoop}
use Rattle.exo_tree.specs.Places.{Opened, opened_in, parted}
use Rattle.exo_tree.specs.Renaming.{fresh}
use Rattle.exo_meaning.specs.Inputs.{IsAdmissible}
use Rattle.exo_meaning.specs.Renaming.{Renaming, re_statement}
use Rattle.exo_meaning.specs.Run.{World, run, step as run_step, turns_of}
use Rattle.exo_meaning.specs.State.{State}
use Rattle.exo_meaning.specs.Units.{Sort, Scope, ControlName, sort_in, with_name, field_kind, is_block}
use Rattle.exo_meaning.specs.Units.{is_statement, is_write, is_empty}
use Rattle.exo_meaning.specs.Unseen.{in_argument, in_block as mentions}
use Rattle.exo_meaning.proofs.Frame.{or_parts}
use Rattle.exo_meaning.proofs.Nested.{then_cong_if, then_some}
use Rattle.meaning_laws.specs.Context.{ComesTo}
use Rattle.meaning_laws.specs.Fields.{writes_field}
use Rattle.meaning_laws.specs.FreshCopies.{IsBelow, MayCopy}
use Rattle.meaning_laws.specs.Scoped.{has_binder}
use Rattle.meaning_laws.specs.Sound.{IsSound, IsUnbound}
use Rattle.meaning_laws.specs.UnitFields.{unit_writes}
use Rattle.exo_meaning.specs.Run.{kinds_of}
use Rattle.meaning_laws.proofs.Copies.{copy_law}
use Rattle.meaning_laws.proofs.CopiesAtPlaces.{places_may_copy}
use Rattle.meaning_laws.proofs.Facts.{or_left, or_right}
use Rattle.meaning_laws.proofs.Fields.{fields_are_kept}
use Rattle.meaning_laws.proofs.FreshCopies.{closed_copies_are_same}
use Rattle.meaning_laws.proofs.Substitute.{and_parts}
use Rattle.meaning_laws.proofs.UnitFields.{unit_leaves}
use Rattle.meaning_laws.proofs.WellFormed.{plain_of}
use Rattle.place_laws.specs.Scope.Holes.{behind, roots_at}
use Rattle.place_laws.specs.Scope.Roots.{own_roots_at}
use Rattle.place_laws.specs.Scope.Scopes.{top_binders}
use Rattle.place_laws.specs.Scope.Unrolled.{HasNamesOf}
use Rattle.place_laws.specs.Order.PartedLoops.{alone, of_both, with_body, parted as parted_in, MayPart}
use Rattle.place_laws.specs.Order.TurnsOfTwo.{Loop, whole}
use Rattle.place_laws.proofs.OfOrder.PartedLoops.{fission_law}
use Rattle.place_laws.proofs.OfOrder.WrittenFirst.{written_first_law}
use Rattle.place_laws.proofs.OfOrder.WrittenPlaces.{writes_read_none}
use Rattle.effect_laws.specs.Apart.{IsApartAt}
use Rattle.effect_laws.specs.Fits.{IsBlockThere, spot_of}
use Rattle.effect_laws.proofs.Fits.{halves_fit}
use Rattle.step_rules.specs.Rule.{Target}
use Rattle.step_rules.specs.Lawful.{Site, IsSite, Stands, around, old, world_of, callees_for}
use Rattle.step_rules.specs.Lawful.{scope_here}
use Rattle.step_rules.specs.Shapes.{alone_in}
use Rattle.step_rules.proofs.Shapes.{alone_is}
use Rattle.loop_laws.specs.Shapes.{loop_of}
use Rattle.loop_laws.proofs.SameTurns.{own_names, turns_stay}
use Rattle.loop_laws.proofs.Sites.{block_of, loop_of_is, found_then, is_below, stands_at}
use Rattle.loop_laws.proofs.Sites.{own_is_free, loop_is_made, loop_keeps, loop_lacks, lacking_loop}
use Rattle.loop_laws.proofs.Sites.{given_unused, may_copy_there}
use Rattle.loop_laws.specs.Nest.Shapes.{header_of, size, step, in_loop, unless_it_writes}
use Rattle.loop_laws.specs.Nest.Fission.{Parting, may_part, where_it_may, parted_at, parting_of, loop_with}
use Rattle.loop_laws.specs.Nest.Fission.{parted_loops, Write, write_in, is_steady, writes_first}
use Rattle.loop_laws.specs.Nest.Fission.{fission_conflict, fission_rule}
use Rattle.loop_laws.proofs.OfNest.Fuse.{top_in}
use Rattle.loop_laws.proofs.OfNest.Parted.{behind_parted, second_opened, has_first, has_second}
use Rattle.loop_laws.proofs.OfNest.Parted.{mentions_second, both_write, parts_behind, not_bound}
use Rattle.loop_laws.proofs.OfNest.Placed.{Placed, placed, comes_there, there}
use Rattle.loop_laws.proofs.OfNest.Rules.{LoopKeeps, loop_rules}
use Rattle.loop_laws.proofs.OfNest.Unwritten.{leaves_fields, piece_writes_none}
use Rattle.place_laws.proofs.OfScope.Narrower.{second_keeps}
use Rattle.place_laws.proofs.OfScope.SamePlace.{parted_joined}
use Rattle.place_laws.proofs.OfScope.WellAtPlace.{first_keeps}

-- ---- what is read

same_some : {T : Type 0} {x y : T} → Some x ≡ Some y → x ≡ y
same_some h = cc

not_false : (t : Bool) → not t ≡ true → t ≡ false
not_false true h = cc
not_false false h = refl

pub record IsParting (b : Block) (p : Parting) : Type 0 where
  pub is : b ≡ block_of p.loop
  pub body : joined p.first p.second ≡ p.loop.body
  pub unused : mentions (top_binders p.first) p.second ≡ false

pub parting_is : (count : ℕ) (b : Block) (p : Parting) → parting_of count b ≡ Some p → IsParting b p
parting_is count b p h =
    let one = found_then (loop_of b) (parted_at count) p h in
    let l = one.0 in
    let two = found_then (parted count l.body) (where_it_may l) p one.2 in
    by l two.0 (may_part two.0) refl two.2 (loop_of_is b l one.1)
    (parted_joined count l.body two.0 two.1)
  where
    by : (l : Loop) (q : Block × Block) (t : Bool) → may_part q ≡ t
        → (if t then Some (record { loop = l; first = q.0; second = q.1 }) else None) ≡ Some p
        → b ≡ block_of l → joined q.0 q.1 ≡ l.body → IsParting b p
    by l q true e h is body =
        subst (IsParting b) (same_some h)
        (record {
          is = is;
          body = body;
          unused =
              not_false (mentions (top_binders q.0) q.1)
              (and_parts (not (is_empty q.0) && not (is_empty q.1)) _ e).1;
        })
    by l q false e h is body = cc

-- ---- the write that comes first

write_is : (a : Statement) (w : Write) → write_in a ≡ Some w → a ≡ Config w.field w.value
write_is (Assign x is e) w h = cc
write_is (Reduce x is e) w h = cc
write_is (Config f e) w h = ap (λ (w : Write). Config w.field w.value) (same_some h)
write_is Pass w h = cc
write_is (If c a b) w h = cc
write_is (For i lo hi b) w h = cc
write_is (Alloc x cell dims memory) w h = cc
write_is (View x y coords) w h = cc
write_is (Call k args) w h = cc

-- ---- names in scope

wider : (scope : Scope) (y : Binder) (sort : Sort) (x : ℕ) → IsSome (sort_in scope x)
    → IsSome (sort_in (with_name scope y sort) x)
wider scope y sort x h = by (x == y.id)
  where
    by : (t : Bool) → IsSome (cond t (Some sort) (sort_in scope x))
    by true = refl
    by false = h

-- ---- copies

-- nothing is renamed
abbrev nothing_moves : Renaming
nothing_moves =
    record { to = λ x. x; from = λ x. x; to_from = λ x. refl; from_to = λ x. refl }

module _ (world : World) (k l : Loop) (base : ℕ) (s : State) (sound : IsSound s)
    (may : MayCopy base (alone l) s) where
  second_copied : (t : State) → HasNamesOf s t
      → run world (next (re_statement nothing_moves (whole l)) end) t
      ≡ run world (fresh base (alone l)) t
  second_copied t h =
      then_some (run_step world (re_statement nothing_moves (whole l)) t)
      ∙ copy_law nothing_moves world l.binder l.lo l.hi l.body t h.sound (λ x. inl refl)
      ∙ sym (then_some (run_step world (whole l) t))
      ∙ sym (closed_copies_are_same world base (alone l) t (may_copy_there base (alone l) s t may h)
      refl)

  -- a copy of the second loop may stand for it
  copied_same : run world (next (whole k) (next (re_statement nothing_moves (whole l)) end)) s
      ≡ run world (next (whole k) (fresh base (alone l))) s
  copied_same =
      then_cong_if (HasNamesOf s) (run_step world (whole k) s)
      (run world (next (re_statement nothing_moves (whole l)) end)) (run world (fresh base (alone l)))
      (turns_stay k.binder.id (run world k.body) (turns_of s.scene k.lo k.hi) s s
      (own_names s sound))
      second_copied

-- ---- at its place

module _ (count : ℕ) (a : Site) (is : IsSite (fission_rule count) a) (p : Parting)
    (parting : IsParting (old a.spot) p) (single : a.spot.piece.count ≡ 1) where
  abbrev t : Target
  t = a.spot.target

  abbrev l : Loop
  l = p.loop

  abbrev first : Loop
  first = loop_with p p.first

  abbrev second : Loop
  second = loop_with p p.second

  abbrev scope : Scope
  scope = scope_here a.spot

  abbrev inner : Scope
  inner = with_name scope l.binder (ControlName Index)

  abbrev root : ℕ → ℕ
  root = own_roots_at (around a.spot)

  abbrev behind_root : ℕ → ℕ
  behind_root = roots_at (behind p.first (Here end)) root

  abbrev Keeps : Scope → (ℕ → ℕ) → Block → Type 0
  Keeps z r b =
      is_block (field_kind t.unit.fields) (length t.unit.memories) (callees_for t) z r b ≡ true

  below : IsBelow a.base t.proc
  below = is_below a is.spot is.below

  old_is : old a.spot ≡ alone (of_both first p.second)
  old_is = parting.is ∙ ap (λ b. alone (with_body l b)) (sym parting.body)

  keeps : LoopKeeps (field_kind t.unit.fields) (length t.unit.memories) (callees_for t) scope root l
  keeps =
      loop_rules (field_kind t.unit.fields) (length t.unit.memories) (callees_for t) scope root l
      (and_parts (is_statement (field_kind t.unit.fields) (length t.unit.memories) (callees_for t)
      scope root (whole l)) _ (loop_keeps a is.spot l parting.is)).0

  body_keeps : Keeps inner root (joined p.first p.second)
  body_keeps = subst (Keeps inner root) (sym parting.body) keeps.body

  first_rules : Keeps inner root p.first
  first_rules =
      first_keeps (field_kind t.unit.fields) (length t.unit.memories) (callees_for t) inner root
      p.first p.second body_keeps

  second_rules : Keeps inner behind_root p.second
  second_rules =
      second_keeps (field_kind t.unit.fields) (length t.unit.memories) (callees_for t) p.first
      p.second inner root body_keeps parting.unused

  -- ---- places

  some : 1 ≤ a.spot.piece.count
  some = omega (arith, single)

  at : Placed a.spot
  at = placed a.spot is.spot some

  abbrev in_that : Opened → Opened
  in_that o = record { around = InLoop l.binder l.lo l.hi o.around end; piece = o.piece }

  abbrev here : Block × Block → Opened
  here q = record { around = Here q.1; piece = q.0 }

  abbrev first_body : Opened
  first_body = in_that (here (p.first, p.second))

  abbrev second_body : Opened
  second_body = in_that (record { around = behind p.first (Here end); piece = p.second })

  first_opens : opened_in (size p.first) (step 0 ∷ step 0 ∷ []) (old a.spot) ≡ Some first_body
  first_opens =
      ap (opened_in (size p.first) (step 0 ∷ step 0 ∷ [])) old_is
      ∙ ap (λ o. option_map in_that (option_map here o)) (behind_parted p.first p.second)

  second_opens : opened_in (size p.second) (step 0 ∷ step (size p.first) ∷ []) (old a.spot)
      ≡ Some second_body
  second_opens =
      ap (opened_in (size p.second) (step 0 ∷ step (size p.first) ∷ [])) old_is
      ∙ ap (option_map in_that) (second_opened p.first p.second)

  first_there : IsBlockThere t.unit t.proc a.spot.piece.path
      (fission_conflict a.spot.piece.path p).second p.first
  first_there =
      there a.spot is.spot at (step 0) (step 0 ∷ []) (size p.first) (header_of first ∷ []) first_body
      root first_opens (ap₂ ◌&&◌ keeps.new (ap₂ ◌&&◌ (ap₂ ◌&&◌ keeps.lo keeps.hi) refl)) first_rules
      (λ x parts h. refl)

  second_there : IsBlockThere t.unit t.proc a.spot.piece.path
      (fission_conflict a.spot.piece.path p).first p.second
  second_there =
      there a.spot is.spot at (step 0) (step (size p.first) ∷ []) (size p.second)
      (header_of second ∷ []) second_body behind_root second_opens
      (ap₂ ◌&&◌ keeps.new (ap₂ ◌&&◌ (ap₂ ◌&&◌ keeps.lo keeps.hi) refl)) second_rules
      (λ x parts h.
      parts_behind p.first parts x
      (not_bound (field_kind t.unit.fields) (length t.unit.memories) (callees_for t) p.first inner
      root x first_rules (wider scope l.binder (ControlName Index) x h)))

  -- ---- states

  unbound : (u : State) → Stands a.spot u → (x : ℕ) → top_binders p.first x ≡ true → IsUnbound u x
  unbound u stands x h =
      stands.free x
      (own_is_free a is.spot l parting.is below x
      (or_left ((x == l.binder.id) || has_binder l.body x) false
      (or_right (x == l.binder.id) (has_binder l.body x)
      (ap (λ b. has_binder b x) (sym parting.body)
      ∙ has_first p.first p.second x (top_in p.first x h)))))

  second_is_low : mentions (nat_le a.base) (alone second) ≡ false
  second_is_low =
      let lacks = loop_lacks (nat_le a.base) l (loop_is_made a is.spot l parting.is below).low in
      lacking_loop (nat_le a.base) second
      (record {
        binder = lacks.binder;
        lo = lacks.lo;
        hi = lacks.hi;
        body =
            mentions_second (nat_le a.base) p.first p.second
            (ap (mentions (nat_le a.base)) parting.body ∙ lacks.body);
      })

  may_copy : {start u : State} → IsAdmissible (world_of a.spot) t.proc start
      → ComesTo (world_of a.spot) (old a.spot) (around a.spot) start u
      → MayCopy a.base (alone second) u
  may_copy {start} {u} good come =
      places_may_copy (world_of a.spot) t.proc (around a.spot) (block_of l) (alone second) a.base u
      below (stands_at a is.spot l parting.is below good come) own
      (given_unused a.base (alone second) second_is_low)
    where
      own : (x : ℕ) → has_binder (alone second) x ≡ true → has_binder (block_of l) x ≡ true
      own x h =
          or_left ((x == l.binder.id) || has_binder l.body x) false
          (by (x == l.binder.id) (or_false ((x == l.binder.id) || has_binder p.second x) h))
        where
          or_false : (t : Bool) → (t || false) ≡ true → t ≡ true
          or_false true e = refl
          or_false false e = e

          by : (t : Bool) → (t || has_binder p.second x) ≡ true → (t || has_binder l.body x) ≡ true
          by true e = refl
          by false e =
              ap (λ b. has_binder b x) (sym parting.body) ∙ has_second p.first p.second x e

  abbrev Parts : Block → State → Type 0
  Parts b u =
      run (world_of a.spot) (alone (of_both (with_body l b) p.second)) u
      ≡ run (world_of a.spot) (parted_in (with_body l b) p.second nothing_moves) u

  -- where neither part writes a field
  unwritten : unless_it_writes a.spot ≡ None → (f : ℕ)
      → (writes_field (unit_writes t.unit.procedures) f p.first ≡ false)
      × (writes_field (unit_writes t.unit.procedures) f p.second ≡ false)
  unwritten allowed f =
      let none =
      subst (λ b. writes_field (unit_writes t.unit.procedures) f b ≡ false) old_is
      (piece_writes_none a.spot is.spot allowed f) in
      both_write (unit_writes t.unit.procedures) f p.first p.second
      (or_parts (writes_field (unit_writes t.unit.procedures) f (joined p.first p.second)) false
      none).0

  may_be_parted : unless_it_writes a.spot ≡ None → (u : State) → Stands a.spot u
      → MayPart (spot_of t.unit scope root) first p.second u
  may_be_parted allowed u stands = record {
    start = record {
      unit = is.spot.runs.unit;
      block = subst (Keeps scope root) old_is is.spot.well.piece;
      sound = stands.sound;
      sorted = stands.sorted;
    };
    turns = record {
      agree = (refl, refl);
      first = leaves_fields t.unit p.first (λ f. (unwritten allowed f).0);
      second = leaves_fields t.unit p.second (λ f. (unwritten allowed f).1);
    };
    unused = parting.unused;
    unbound = unbound u stands;
  }

  parts_without : IsApartAt t.unit t.proc a.spot.piece.path
      (fission_conflict a.spot.piece.path p)
      → unless_it_writes a.spot ≡ None
      → {start u : State} → IsAdmissible (world_of a.spot) t.proc start
      → ComesTo (world_of a.spot) (old a.spot) (around a.spot) start u → Stands a.spot u
      → Parts p.first u
  parts_without apart allowed {start} {u} good come stands =
      let place = a.spot.piece.path in
      fission_law (spot_of t.unit scope root) first p.second nothing_moves u
      (may_be_parted allowed u stands) (λ x. inl refl)
      (halves_fit t.unit t.proc place (in_loop place 0 0) (in_loop place 0 (size p.first))
      (size p.first) (size p.second) first second scope root start u apart second_there first_there
      good (comes_there a.spot is.spot at start u come) (refl, refl))

  -- where the first part is a write of a field
  module _ (w : Write) (is_write_first : p.first ≡ next (Config w.field w.value) end)
      (steady : is_steady t.unit p w ≡ true) where
    write_rules : is_write (field_kind t.unit.fields) inner (field_kind t.unit.fields w.field) w.value
        ≡ true
    write_rules =
        (and_parts (is_write (field_kind t.unit.fields) inner (field_kind t.unit.fields w.field)
        w.value) _ (subst (Keeps inner root) is_write_first first_rules)).0

    both_steady : (in_argument (λ x. x == l.binder.id) w.value ≡ false)
        × (writes_field (unit_writes t.unit.procedures) w.field p.second ≡ false)
    both_steady =
        let all = and_parts (nat_lt w.field (length t.unit.fields)) _ steady in
        let q = and_parts (not (in_argument (λ x. x == l.binder.id) w.value)) _ all.1 in (
          not_false (in_argument (λ x. x == l.binder.id) w.value) q.0,
          not_false (writes_field (unit_writes t.unit.procedures) w.field p.second) q.1,
        )

    parts_written : (u : State) → Stands a.spot u → Parts p.first u
    parts_written u stands =
        subst (λ b. Parts b u) (sym is_write_first)
        (written_first_law (world_of a.spot) l w.field w.value p.second nothing_moves u
        (record {
          sound = stands.sound;
          unbound =
              stands.free l.binder.id
              (own_is_free a is.spot l parting.is below l.binder.id
              (or_left ((l.binder.id == l.binder.id) || has_binder l.body l.binder.id) false
              (or_left (l.binder.id == l.binder.id) (has_binder l.body l.binder.id)
              (eq-eqb l.binder.id l.binder.id refl))));
          plain =
              ap₂ ◌&&◌ (plain_of (field_kind t.unit.fields) scope l.lo keeps.lo)
              (plain_of (field_kind t.unit.fields) scope l.hi keeps.hi);
          steady = both_steady.0;
          reads_none = λ g.
              writes_read_none (field_kind t.unit.fields) inner (field_kind t.unit.fields w.field)
              w.value g write_rules;
          leaves =
              fields_are_kept (world_of a.spot) (unit_writes t.unit.procedures)
              (unit_leaves (kinds_of t.unit.fields) t.unit.procedures) w.field p.second
              both_steady.1;
        }) (λ x. inl refl))

  parts_same : IsApartAt t.unit t.proc a.spot.piece.path (fission_conflict a.spot.piece.path p)
      → (if writes_first t.unit p then None else unless_it_writes a.spot) ≡ None
      → {start u : State} → IsAdmissible (world_of a.spot) t.proc start
      → ComesTo (world_of a.spot) (old a.spot) (around a.spot) start u → Stands a.spot u
      → Parts p.first u
  parts_same apart allowed {start} {u} good come stands =
      by (option_and_then write_in (alone_in p.first)) refl allowed
    where
      first_write : (w : Write) → option_and_then write_in (alone_in p.first) ≡ Some w
          → p.first ≡ next (Config w.field w.value) end
      first_write w e =
          let q = found_then (alone_in p.first) write_in w e in
          alone_is p.first q.0 q.1 ∙ ap (λ b. next b end) (write_is q.0 w q.2)

      by_steady : (w : Write) → option_and_then write_in (alone_in p.first) ≡ Some w → (s : Bool)
          → is_steady t.unit p w ≡ s → (if s then None else unless_it_writes a.spot) ≡ None
          → Parts p.first u
      by_steady w e true steady h = parts_written w (first_write w e) steady u stands
      by_steady w e false steady h = parts_without apart h good come stands

      by : (o : Option Write) → option_and_then write_in (alone_in p.first) ≡ o
          → (if (elim o as (λ (o : Option Write). Bool) [
            | None ↦ false
            | Some w ↦ is_steady t.unit p w
          ]) then None else unless_it_writes a.spot) ≡ None
          → Parts p.first u
      by None e h = parts_without apart h good come stands
      by (Some w) e h = by_steady w e (is_steady t.unit p w) refl h

  pub parted_same : IsApartAt t.unit t.proc a.spot.piece.path (fission_conflict a.spot.piece.path p)
      → (if writes_first t.unit p then None else unless_it_writes a.spot) ≡ None
      → {start u : State} → IsAdmissible (world_of a.spot) t.proc start
      → ComesTo (world_of a.spot) (old a.spot) (around a.spot) start u → Stands a.spot u
      → run (world_of a.spot) (old a.spot) u ≡ run (world_of a.spot) (parted_loops p a.base) u
  parted_same apart allowed {start} {u} good come stands =
      ap (λ b. run (world_of a.spot) b u) old_is
      ∙ parts_same apart allowed good come stands
      ∙ copied_same (world_of a.spot) first second a.base u stands.sound (may_copy good come)
