-- Pieces whose conflicts have no point are apart wherever a run comes to the place.
use Rattle.std.proofs.Common.{◌≡◌, ◌≤ℤ◌, ◌<ℤ◌, ◌-ℤ◌, int_le, subst₂, negsuc, ℕ, ℤ, pos, true, true≢false, List, [], ◌∷◌, map, length, Option, Some, None, IfSome, slice_get, refl, sym, ap, ◌∙◌, subst, arith, inl, inr}
use Rattle.std.specs.Prelude.{IsSome}
use Rattle.std.proofs.lemmas.Int.{ints}
use Rattle.exo_tree.specs.Tree.{Kind, Var, Flag, Block, end, next, joined, Procedure, Program}
use Rattle.exo_tree.specs.Context.{Context, Here, fill}
use Rattle.exo_tree.specs.Places.{Path, Opened, opened}
use Rattle.exo_meaning.specs.Scene.{Seen, Scene, is_set}
use Rattle.exo_meaning.specs.State.{State, on_scene}
use Rattle.exo_meaning.specs.Run.{World, program_world, kinds_of}
use Rattle.exo_meaning.specs.Inputs.{IsAdmissible}
use Rattle.exo_meaning.specs.Orders.{Each}
use Rattle.exo_meaning.specs.Units.{Sort, BufferName, is_block, Scope, sort_in, scope_of, is_flag, field_kind}
use Rattle.meaning_laws.specs.Context.{ComesTo}
use Rattle.meaning_laws.specs.Copies.{SoundLaw, UnboundLaw}
use Rattle.meaning_laws.specs.Made.{NamesStand, MadeLaw}
use Rattle.meaning_laws.specs.Places.{OpenedLaw}
use Rattle.meaning_laws.specs.Sorted.{IsSorted, MayRun, FitsAtLaw, scope_at, scope_there}
use Rattle.meaning_laws.specs.Sound.{IsSound}
use Rattle.meaning_laws.specs.Pairs.{AreClear}
use Rattle.meaning_laws.specs.Touched.{touched}
use Rattle.exo_meaning.specs.Footprint.{IsClear}
use Rattle.affine_forms.specs.Atoms.{Valuation, Variable, only, value}
use Rattle.affine_places.specs.Roots.{roots_of}
use Rattle.affine_places.specs.Readings.{place_reading}
use Rattle.affine_forms.specs.Forms.{normal}
use Rattle.affine_forms.specs.Formulas.{moved}
use Rattle.affine_forms.specs.Laws.{NormalLaw}
use Rattle.check_laws.specs.Facts.Laws.{context_of, context_fits, facts_of, ComesToPlace, Describes, ContextsHold}
use Rattle.check_laws.proofs.OfFacts.Truths.{none_some}
use Rattle.exo_effects.specs.Accesses.{access_of, accesses_of}
use Rattle.exo_effects.specs.Orders.{Turn, OrderRow, Less, Greater, Order, order_of}
use Rattle.exo_effects.specs.Parts.{Parts, no_parts, with_params, parts_at}
use Rattle.exo_effects.specs.Uses.{Use, modes_of, at_hole, uses_in}
use Rattle.effect_laws.specs.Covers.{MayCover, Covers, CoversLaw}
use Rattle.effect_laws.specs.Clear.{IsInOrder, AreTwoTurns, ClearLaw}
use Rattle.effect_laws.specs.Apart.{Turns, Conflict, with_turns, AreTurns, AreOrdered, scope_in, are_shown_apart, parts_there, IsThere, ApartIsMet}
use Rattle.effect_laws.proofs.Cells.{each_weaken}
use Rattle.effect_laws.proofs.Clear.{clear_with}
use Rattle.effect_laws.proofs.Known.{Now, IsTold, IsPart, is_there, not_none, some_of}
use Rattle.effect_laws.proofs.Places.{AllTold, IsFormedAt, way_told, params_told, out_of_scope, no_param}
use Rattle.effect_laws.proofs.Turns.{same_buffers, else_same, turns_within, nth_number, now_turned, inside_of, same_parts}

-- ---- places as contexts

joined_end : (b : Block) → joined b end ≡ b
joined_end end = refl
joined_end (next a b) = ap (next a) (joined_end b)

-- the place before the body is the hole with the body in it
abbrev pub place_of : Procedure → Option Opened → Opened
place_of p None = record { around = Here end; piece = p.body }
place_of p (Some o) = o

place_body : OpenedLaw → (p : Procedure) (path : Path) → p.body ≡ fill (place_of p (opened 1 path p.body)).around (place_of p (opened 1 path p.body)).piece
place_body opens p path = go (opened 1 path p.body) refl
  where
    go : (o : Option Opened) → opened 1 path p.body ≡ o → p.body ≡ fill (place_of p o).around (place_of p o).piece
    go None e = sym (joined_end p.body)
    go (Some o) e = sym (opens 1 path p.body o e)

place_come : (world : World) (p : Procedure) (o : Option Opened) (s a : State) → ComesToPlace world o s a → ComesTo world (place_of p o).piece (place_of p o).around s a
place_come world p None s a h = h
place_come world p (Some o) s a h = h

place_scope : (p : Procedure) (o : Option Opened) → scope_at (place_of p o).around (scope_of [] p.params) ≡ scope_there p o
place_scope p None = refl
place_scope p (Some o) = refl

place_parts : (u : Program) (p : Procedure) (o : Option Opened) → parts_at (place_of p o).around (with_params p.params no_parts) ≡ parts_there u p o
place_parts u p None = refl
place_parts u p (Some o) = refl

flag_low : (n : ℤ) → int_le (pos 0) (n -ℤ pos 1) ≡ is_set n → pos 0 ≤ℤ n
flag_low (pos n) h = omega (arith, ints)
flag_low (negsuc n) h = absurd (grind (arith, ints, h))

-- what stands below
pub record Laws : Type 0 where
  pub opens : OpenedLaw
  pub made : MadeLaw
  pub fits : FitsAtLaw
  pub sound : SoundLaw
  pub unbound : UnboundLaw
  pub contexts : ContextsHold
  pub normal : NormalLaw

module _ (laws : Laws) (u : Program) (p : Procedure) (may : MayRun u.fields (length u.memories) u.procedures p) (path : Path) (s a : State) (ok : IsAdmissible (program_world u) p s) (come : ComesToPlace (program_world u) (opened 1 path p.body) s a) where
  abbrev there : Option Opened
  there = opened 1 path p.body

  abbrev hole : Context
  hole = (place_of p there).around

  abbrev old : Block
  old = (place_of p there).piece

  abbrev scope : Scope
  scope = scope_there p there

  abbrev fields : ℕ → Option Kind
  fields = field_kind u.fields

  body : p.body ≡ fill hole old
  body = place_body laws.opens p path

  comes : ComesTo (program_world u) old hole s a
  comes = place_come (program_world u) p there s a come

  same_scope : scope_at hole (scope_of [] p.params) ≡ scope
  same_scope = place_scope p there

  sorted : IsSorted (kinds_of u.fields) scope a
  sorted = subst (λ sc. IsSorted (kinds_of u.fields) sc a) same_scope (laws.fits u.fields (length u.memories) u.procedures p hole old may body s a ok comes)

  sounds : IsSound a
  sounds = laws.sound (program_world u) p old hole s a ok comes

  stand : NamesStand p hole s a
  stand = laws.made fields (length u.memories) (program_world u).callees (program_world u) p hole old s a may.procedure body ok comes

  no_name : (y : ℕ) → IsSome (sort_in [] y) → ⊥
  no_name y h = true≢false (sym h)

  named_params : AllTold fields (length u.memories) (program_world u).callees a.scene (scope_of [] p.params) (with_params p.params no_parts)
  named_params = params_told fields (length u.memories) (program_world u).callees a.scene s.scene p.params (λ x h. ((stand.params x h).control, (stand.params x h).views)) p.params [] no_parts (λ y h. absurd (no_name y h)) (λ y h. h) may.procedure.params ok.arguments (λ y h. absurd (no_name y h))

  formed : is_block fields (length u.memories) (program_world u).callees (scope_of [] p.params) (λ x. x) (fill hole old) ≡ true
  formed = ap (is_block fields (length u.memories) (program_world u).callees (scope_of [] p.params) (λ x. x)) (sym body) ∙ may.procedure.body

  on_the_way : AllTold fields (length u.memories) (program_world u).callees a.scene (scope_at hole (scope_of [] p.params)) (parts_at hole (with_params p.params no_parts)) × IsFormedAt fields (length u.memories) (program_world u).callees a.scene (scope_at hole (scope_of [] p.params)) old
  on_the_way = way_told fields (length u.memories) (program_world u).callees a.scene hole old (scope_of [] p.params) (λ x. x) (with_params p.params no_parts) formed stand.made named_params

  pub told : AllTold fields (length u.memories) (program_world u).callees a.scene scope (parts_there u p there)
  told = subst₂ (AllTold fields (length u.memories) (program_world u).callees a.scene) same_scope (place_parts u p there) on_the_way.0

  -- what stands there is well formed
  pub formed_there : IsFormedAt fields (length u.memories) (program_world u).callees a.scene scope old
  formed_there = subst (λ sc. IsFormedAt fields (length u.memories) (program_world u).callees a.scene sc old) same_scope on_the_way.1

  -- a name that sees something is in scope
  pub views_named : (x : ℕ) (seen : Seen) → a.scene.views x ≡ Some seen → IsSome (sort_in scope x)
  views_named x seen e = go (sort_in scope x) refl
    where
      go : (o : Option Sort) → sort_in scope x ≡ o → IsSome o
      go (Some sort) i = refl
      go None i =
          let q = out_of_scope hole (scope_of [] p.params) x (ap (λ sc. sort_in sc x) same_scope ∙ i) in
          let r = no_param p.params [] x q.1 in
          absurd (none_some (sym (laws.unbound (program_world u) p old hole s a ok comes x (r.0, q.0)).views ∙ e))

  -- ---- numbers for the atoms

  abbrev pub known : (v : Valuation) × Describes u p path a v
  known = laws.contexts u p may path s a ok come

  abbrev pub v : Valuation
  v = known.0

  pub variable_is : (x : ℕ) → v.variable x ≡ a.scene.control x
  variable_is x =
      let is : value v (normal (place_reading u.fields (roots_of p) (facts_of u p path)) (Var x)) ≡ v.variable x = omega (arith, ints) in
      sym is ∙ known.1.numbers (Var x) refl

  flags : (x : ℕ) → is_flag (sort_in scope x) ≡ true → pos 0 ≤ℤ a.scene.control x
  flags x h = flag_low (a.scene.control x) (sym (ap (int_le (pos 0)) less_one) ∙ known.1.conditions (Flag x) h)
    where
      less_one : value v (moved (pos 1) (only (Variable x))) ≡ a.scene.control x -ℤ pos 1
      less_one = let e = variable_is x in omega (arith, ints, e)

  -- ---- a piece at the place

  module _ (covers : CoversLaw) (clear : ClearLaw) (t : State) (same : t.scene ≡ a.scene) where
    now_at : (k : Turns) (q : Opened) → IsThere u p path k q → Now t.scene (at_hole u p q) scope t.scene
    now_at k q is = subst (λ z. Now z (at_hole u p q) scope z) (sym same) (record {
      kept = λ b shape e. e;
      buffers = λ x h. let z = some_of (a.scene.buffers x) h in let w = sorted.buffers x z.0 z.1 in is_there (sort_in scope x) (BufferName z.0.cell w.0 w.1) w.2;
      sound = sounds.seen;
      cells = λ x cell rank dense seen shape e w b. sym (sorted.views x cell rank dense seen e w shape b).cell_is;
      flags = flags;
      seen = λ x seen e. let n = views_named x seen e in inl (subst (λ o. IsPart scope a.scene o seen) (sym (is.parts x n)) (told x n seen e));
      round = tt;
      own = λ y h. refl;
    })

    cover_at : (k : Turns) (q : Opened) (ms : List ℤ) → IsThere u p path k q → AreTurns k.loops ms t.scene → MayCover u (scope_in k.loops scope) (at_hole u p q).parts q.piece (with_turns k.loops ms t.scene)
    cover_at k q ms is turns = record {
      root = is.root;
      block = is.block;
      buffers = now.buffers;
      sound = now.sound;
      cells = now.cells;
      flags = now.flags;
      seen = λ x seen e. go x seen e (now.seen x seen e);
    }
      where
        now : Now t.scene (inside_of u p (at_hole u p q) k.loops) (scope_in k.loops scope) (with_turns k.loops ms t.scene)
        now = now_turned u p t.scene (at_hole u p q) k.loops ms scope t.scene is.loops turns (now_at k q is)

        go : (x : ℕ) (seen : Seen) → (with_turns k.loops ms t.scene).views x ≡ Some seen → IsTold t.scene (scope_in k.loops scope) (with_turns k.loops ms t.scene) ((inside_of u p (at_hole u p q) k.loops).parts x) seen → IsPart (scope_in k.loops scope) (with_turns k.loops ms t.scene) ((at_hole u p q).parts x) seen
        go x seen e (inl h) = subst (λ (o : Parts). IsPart (scope_in k.loops scope) (with_turns k.loops ms t.scene) (o x) seen) (same_parts u p (at_hole u p q) k.loops) h
        go x seen e (inr h) = absurd (not_none ((with_turns k.loops ms t.scene).buffers seen.buffer) (now.sound x seen e) (ap (λ b. b seen.buffer) (same_buffers k.loops ms t.scene) ∙ h.1))

    pub covered_at : (k : Turns) (q : Opened) (ms : List ℤ) → IsThere u p path k q → AreTurns k.loops ms t.scene → Covers (with_turns k.loops ms t.scene) (accesses_of u p k.path k.count) (touched (program_world u) (modes_of u) q.piece (on_scene (with_turns k.loops ms) t))
    covered_at k q ms is turns =
        subst (λ us. Covers (with_turns k.loops ms t.scene) (map access_of us) (touched (program_world u) (modes_of u) q.piece (on_scene (with_turns k.loops ms) t))) (sym (ap (λ o. elim o as (λ o. List Use) [ None ↦ [] | Some o ↦ uses_in u p o ]) is.opens))
        (covers u p q (scope_in k.loops scope) (on_scene (with_turns k.loops ms) t) (cover_at k q ms is turns))

    -- ---- both pieces

    module _ (k : Conflict) (o q : Opened) (ms ns : List ℤ) (first : IsThere u p path k.first o) (second : IsThere u p path k.second q) (m_turns : AreTurns k.first.loops ms t.scene) (n_turns : AreTurns k.second.loops ns t.scene) where
      abbrev one : Scene
      one = with_turns k.first.loops ms t.scene

      abbrev other : Scene
      other = with_turns k.second.loops ns t.scene

      abbrev order : Order
      order = order_of k.first.loops k.second.loops k.order

      less_at : (i : ℕ) (b : Option Turn) → slice_get order.first i ≡ b → (c : Option Turn) → slice_get order.second i ≡ c → (R : ℤ → ℤ → Type 0) → IfSome (slice_get ms i) (λ m. IfSome (slice_get ns i) (λ n. R m n)) → IfSome b (λ s. IfSome c (λ r. R (one.control s.variable) (other.control r.variable)))
      less_at i None e c g R h = tt
      less_at i (Some x) e None g R h = tt
      less_at i (Some x) e (Some y) g R h =
          let m = nth_number u p k.first.loops ms scope t.scene i x first.loops m_turns e in
          let n = nth_number u p k.second.loops ns scope t.scene i y second.loops n_turns g in
          subst₂ R (sym m.2) (sym n.2) (subst₂ (λ b c. IfSome b (λ m. IfSome c (λ n. R m n))) m.1 n.1 h)

      row_at : (row : OrderRow) → AreOrdered ms ns row → IsInOrder order one.control other.control row
      row_at (Less i) h = less_at i (slice_get order.first i) refl (slice_get order.second i) refl (λ m n. m <ℤ n) h
      row_at (Greater i) h = less_at i (slice_get order.first i) refl (slice_get order.second i) refl (λ m n. n <ℤ m) h

      rows_at : (rows : List OrderRow) → Each (AreOrdered ms ns) rows → Each (IsInOrder order one.control other.control) rows
      rows_at [] h = tt
      rows_at (row ∷ rows) h = (row_at row h.0, rows_at rows h.1)

      two_turns : Each (AreOrdered ms ns) k.order → AreTwoTurns order v one other
      two_turns h = record {
        buffers = same_buffers k.second.loops ns t.scene ∙ sym (same_buffers k.first.loops ms t.scene);
        copies = record {
          first_else = λ y e. else_same k.first.loops ms t.scene y e ∙ number_is y;
          second_else = λ y e. else_same k.second.loops ns t.scene y e ∙ number_is y;
          first_within = turns_within u p laws.normal k.first.loops ms scope t.scene first.loops m_turns;
          second_within = turns_within u p laws.normal k.second.loops ns scope t.scene second.loops n_turns;
          ordered = rows_at k.order h;
        };
      }
        where
          number_is : (y : ℕ) → t.scene.control y ≡ v.variable y
          number_is y = ap (λ (z : Scene). z.control y) same ∙ sym (variable_is y)

      pub are_apart : are_shown_apart u p path k → Each (AreOrdered ms ns) k.order → AreClear t.scene (touched (program_world u) (modes_of u) o.piece (on_scene (with_turns k.first.loops ms) t)) (touched (program_world u) (modes_of u) q.piece (on_scene (with_turns k.second.loops ns) t))
      are_apart shown h =
          let es = touched (program_world u) (modes_of u) o.piece (on_scene (with_turns k.first.loops ms) t) in
          let fs = touched (program_world u) (modes_of u) q.piece (on_scene (with_turns k.second.loops ns) t) in
          let c = clear (context_fits u p path) (context_of u p path) order path (accesses_of u p k.first.path k.first.count) (accesses_of u p k.second.path k.second.count) v one other es fs known.1.kinds known.1.context shown (two_turns h) (covered_at k.first o ms first m_turns) (covered_at k.second q ns second n_turns) in (
            each_weaken (IsClear one fs) (IsClear t.scene fs) es (clear_with t.scene one (same_buffers k.first.loops ms t.scene) fs) c.0,
            each_weaken (IsClear one es) (IsClear t.scene es) fs (clear_with t.scene one (same_buffers k.first.loops ms t.scene) es) c.1,
          )

pub apart_is_met : Laws → CoversLaw → ClearLaw → ApartIsMet
apart_is_met laws covers clear u p path k may shown s a t m n o q ok come same first second ms ns h = are_apart laws u p may path s a ok come covers clear t same k o q m n first second ms ns shown h
