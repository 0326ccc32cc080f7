-- Copies may stand for the turns of a loop, and branches for a block.
use Rattle.std.proofs.Common.{◌≡◌, ◌⊎◌, inl, inr, ℕ, ℤ, ◌+◌, ◌≤◌, ◌==◌, Bool, true, false, true≢false}
use Rattle.std.proofs.Common.{cond, ◌||◌, List, [], ◌∷◌, length, Option, Some, None}
use Rattle.std.proofs.Common.{option_map, refl, sym, ap, ◌∙◌, subst, arith, eq-eqb}
use Rattle.std.specs.Prelude.{nat_le, if◌then◌else◌}
use Rattle.exo_tree.specs.Tree.{Index, Control, Block, end, Procedure}
use Rattle.exo_tree.specs.Context.{fill}
use Rattle.exo_tree.specs.Renaming.{fresh}
use Rattle.exo_tree.specs.Renaming as code
use Rattle.exo_tree.specs.Substitution.{in_block as substituted}
use Rattle.exo_meaning.specs.Scene.{then_do}
use Rattle.exo_meaning.specs.State.{State, left, scoped, on_scene, with_control}
use Rattle.exo_meaning.specs.Run.{World, run, turn, turns, turns_of}
use Rattle.exo_meaning.specs.Inputs.{IsAdmissible}
use Rattle.exo_meaning.specs.Orders.{Each}
use Rattle.exo_meaning.specs.Units.{field_kind, with_name, ControlName}
use Rattle.exo_meaning.specs.Units.{sort_in}
use Rattle.exo_meaning.proofs.Nested.{then_some}
use Rattle.meaning_laws.specs.Context.{ComesTo, MayReplace}
use Rattle.meaning_laws.specs.FreshCopies.{is_given, MayCopy, AllMayBeCopied, copies_from}
use Rattle.meaning_laws.specs.FreshCopies.{IsBelow, IsMadeOf}
use Rattle.meaning_laws.specs.Scoped.{is_scoped, is_param, has_binder}
use Rattle.meaning_laws.specs.Substitute.{bound, catches}
use Rattle.meaning_laws.proofs.Binders.{binders_law}
use Rattle.meaning_laws.proofs.CopiesAtPlaces.{no_param, no_binder, old_is_made, old_may_be_copied}
use Rattle.meaning_laws.proofs.CopiesAtPlaces.{substituted_is_made, places_may_copy_all}
use Rattle.meaning_laws.proofs.Facts.{or_left, or_right}
use Rattle.meaning_laws.proofs.FreshCopies.{copies_run_alike}
use Rattle.meaning_laws.proofs.Scoped.{or_elim}
use Rattle.meaning_laws.proofs.Substitute.{substitution_law}
use Rattle.meaning_laws.proofs.WellFormed.{well_scoped}
use Rattle.place_laws.specs.Scope.BranchesAtPlaces.{only_branch}
use Rattle.place_laws.specs.Scope.Roots.{own_roots_at}
use Rattle.place_laws.specs.Scope.Opened.{IsNew, IsInner, MayLeave}
use Rattle.place_laws.specs.Scope.Scopes.{HasNone, top_binders, joined_all, scopes}
use Rattle.place_laws.specs.Scope.UnrollLoop.{only_loop}
use Rattle.place_laws.specs.Scope.Unrolled.{HasNamesOf, AreTurns}
use Rattle.place_laws.proofs.OfScope.MadeCopies.{given_from, true_by, copy_leaves, made_copies_are_apart}
use Rattle.place_laws.proofs.OfScope.MayLeave.{may_leave_law, top_has}
use Rattle.place_laws.proofs.OfScope.Opened.{same_refines, blocks_may_open, branch_may_stand}
use Rattle.place_laws.proofs.OfScope.Opened.{split_may_stand}
use Rattle.place_laws.proofs.OfScope.Scopes.{joined_binders}
use Rattle.place_laws.proofs.OfScope.Unrolled.{turns_are_scopes_law}
use Rattle.place_laws.specs.Order.TurnsOfTwo.{Loop}
use Rattle.place_laws.proofs.OfOrder.Caught.{nothing_is_caught}
use Rattle.step_rules.specs.Rule.{Spot}
use Rattle.step_rules.specs.Lawful.{IsSpot, Stands, same, hiding, around, old, world_of}
use Rattle.step_rules.specs.Lawful.{callees_for, scope_here}
use Rattle.loop_laws.proofs.Sites.{loop_lacks, body_keeps, keeps_here, may_copy_there}
use Rattle.loop_laws.specs.Copies.{bodies_with, Writes, AreBelow}
use Rattle.loop_laws.specs.Copies.{TurnsMayBeWrittenOut, LoopsOfNoTurnMayGo}
use Rattle.loop_laws.specs.Copies.{BlocksMayBeSpecialized, TakenBranchesMayStand}

-- ---- names that are left

-- copies leave new numbers alone
copies_leave : (ds : List Block) (m x : ℕ)
    → top_binders (joined_all (copies_from m ds)) x ≡ true → m ≤ x
copies_leave [] m x h = absurd (true≢false (sym h))
copies_leave (d ∷ ds) m x h =
    let k = length (code.binders d) in
    let rest = joined_all (copies_from (m + k) ds) in
    or_elim (top_binders (fresh m d) x) (top_binders rest x)
    (sym (joined_binders (fresh m d) rest x) ∙ h) own
    (λ e. behind k (copies_leave ds (m + k) x e))
  where
    own : top_binders (fresh m d) x ≡ true → m ≤ x
    own e =
        given_from m (length (code.binders d)) x
        (true_by (is_given m d x) (λ k. true≢false (sym e ∙ copy_leaves m d x k)))

    behind : (k : ℕ) → m + k ≤ x → m ≤ x
    behind k above = omega arith

-- a block binds what it leaves
top_in : (b : Block) (x : ℕ) → top_binders b x ≡ true → has_binder b x ≡ true
top_in b x h = true_by (has_binder b x) (λ e. true≢false (sym h ∙ top_has b x e))

-- ---- a piece of a procedure

module _ (s : Spot) (is : IsSpot s) where
  abbrev proc : Procedure
  proc = s.target.proc

  -- names that may be left there stand for nothing where a run comes to the piece
  none_there : (hidden : ℕ → Bool) → MayLeave proc (around s) hidden → (u : State) → Stands s u
      → HasNone hidden u
  none_there hidden left u stands = record {
    sound = stands.sound;
    unbound = λ x h. stands.free x (left.free x h);
  }

  may_be_left : (b : Block) (hidden : ℕ → Bool) → proc.body ≡ fill (around s) b
      → ((x : ℕ) → hidden x ≡ true → IsNew proc x ⊎ IsInner b x)
      → MayLeave proc (around s) hidden
  may_be_left b hidden was names =
      may_leave_law (field_kind s.target.unit.fields) (length s.target.unit.memories)
      (callees_for s.target) proc (around s) b hidden is.runs.procedure was names

  all_scoped : is_scoped (is_param proc) proc.body ≡ true
  all_scoped = (well_scoped (field_kind s.target.unit.fields) (length s.target.unit.memories)
      (callees_for s.target) proc is.runs.procedure).0

  below_at : (base : ℕ) → AreBelow base s → IsBelow base proc
  below_at base low = record { scoped = all_scoped; below = low }

-- ---- turns written out

module _ (s : Spot) (is : IsSpot s) (l : Loop) (write : ℤ → Control) (writes : Writes write)
    (base : ℕ) (low : AreBelow base s)
    (loop_is : old s ≡ only_loop l.binder l.lo l.hi l.body) where
  abbrev loop : Block
  loop = only_loop l.binder l.lo l.hi l.body

  abbrev world : World
  world = world_of s

  was : s.target.proc.body ≡ fill (around s) loop
  was = is.body ∙ ap (fill (around s)) loop_is

  below : IsBelow base s.target.proc
  below = below_at s is base low

  -- ---- what the copies are made of

  body_is_made : IsMadeOf base loop l.body
  body_is_made =
      let made = old_is_made s.target.proc (around s) loop base below was in
      record {
        own = λ x h. or_left ((x == l.binder.id) || has_binder l.body x) false
            (or_right (x == l.binder.id) (has_binder l.body x) h);
        low = (loop_lacks (nat_le base) l made.low).body;
      }

  bodies_are_made : (ns : List ℤ) → Each (IsMadeOf base loop) (bodies_with write l ns)
  bodies_are_made [] = tt
  bodies_are_made (n ∷ ns) = (
    substituted_is_made base loop l.body l.binder.id (write n) body_is_made
        (writes.unseen (nat_le base) n),
    bodies_are_made ns,
  )

  -- nothing in the body catches a number that is written for the variable
  catches_none : (n : ℤ) → catches l.binder.id (write n) l.body ≡ false
  catches_none n =
      let unit = s.target.unit in
      let fields = field_kind unit.fields in
      let memories = length unit.memories in
      let scope = scope_here s in
      let root = own_roots_at (around s) in
      let inner = with_name scope l.binder (ControlName Index) in
      let kept = subst (λ b. keeps_here s b ≡ true) loop_is is.well.piece in
      nothing_is_caught unit.fields memories unit.procedures inner root l.binder.id Index (write n)
      l.body
      (body_keeps fields memories (callees_for s.target) scope root l.binder l.lo l.hi l.body end
      kept)
      (ap (λ t. if t then Some (ControlName Index) else sort_in scope l.binder.id)
      (eq-eqb l.binder.id l.binder.id refl)) refl (λ x h. writes.constant n x)

  -- ---- one turn

  abbrev with_number : ℤ → Block
  with_number n = substituted l.binder.id (write n) l.body

  turn_is_copy : (n : ℤ) (m : ℕ) (u v : State) → MayCopy m (with_number n) u → HasNamesOf u v
      → turn l.binder.id (run world l.body) n v ≡ scoped (run world (fresh m (with_number n))) v
  turn_is_copy n m u v may names =
      ap (λ k. option_map (left v) (run world l.body (on_scene (with_control l.binder.id k) v)))
      (sym (writes.has v.scene n))
      ∙ ap (option_map (left v)) (substitution_law world l.binder.id (write n) l.body v
      (writes.plain n) (catches_none n))
      ∙ closed (run world (with_number n) v)
      ∙ sym (copies_run_alike world m (with_number n) v
      (may_copy_there m (with_number n) u v may names)).in_scope
    where
      closed : (o : Option State)
          → option_map (left v) (option_map (bound l.binder.id (write n)) o) ≡ option_map (left v) o
      closed None = refl
      closed (Some t) = refl

  -- ---- all of them

  are_turns : (u : State) (ns : List ℤ) (m : ℕ) → AllMayBeCopied m (bodies_with write l ns) u
      → AreTurns world l.binder.id l.body u ns (copies_from m (bodies_with write l ns))
  are_turns u [] m may = tt
  are_turns u (n ∷ ns) m may = (
    λ v names. turn_is_copy n m u v may.0 names,
    are_turns u ns (m + length (code.binders (with_number n))) may.1,
  )

  module _ (ns : List ℤ) where
    abbrev copies : List Block
    copies = copies_from base (bodies_with write l ns)

    abbrev hidden : ℕ → Bool
    hidden = top_binders (joined_all copies)

    all_left : MayLeave s.target.proc (around s) hidden
    all_left =
        may_be_left s is loop hidden was (λ x h.
        let from = copies_leave (bodies_with write l ns) base x h in
        inl (no_param base s.target.proc low x from, no_binder base s.target.proc low x from))

    stands_for : (first u : State) → IsAdmissible world s.target.proc first
        → ComesTo world (old s) (around s) first u → Stands s u
        → turns_of u.scene l.lo l.hi ≡ ns → MayReplace world hidden (old s) (joined_all copies) u
    stands_for first u good come stands turns_are =
        let none = none_there s is hidden all_left u stands in
        let there = subst (λ b. ComesTo world b (around s) first u) loop_is come in
        let may = places_may_copy_all world s.target.proc (around s) loop
        (bodies_with write l ns) base u below
        (record { body = was; first = first; good = good; comes = there }) (bodies_are_made ns) in
        subst (λ b. MayReplace world hidden b (joined_all copies) u) (sym loop_is)
        (blocks_may_open world loop copies u
        (made_copies_are_apart loop (bodies_with write l ns) base (bodies_are_made ns)) none
        (same_refines (run world loop) (scopes world copies) u
        (then_some (turns (turn l.binder.id (run world l.body)) (turns_of u.scene l.lo l.hi) u)
        ∙ ap (λ ks. turns (turn l.binder.id (run world l.body)) ks u) turns_are
        ∙ turns_are_scopes_law world l.binder.id l.body ns copies u none.sound
        (are_turns u ns base may))))

pub turns_may_be_written_out : TurnsMayBeWrittenOut
turns_may_be_written_out s l ns write base but is low has writes =
    hiding (hidden s is l write writes base low has.is ns)
    (all_left s is l write writes base low has.is ns).unused
    (λ first u good come stands.
    stands_for s is l write writes base low has.is ns first u good come stands
    (has.turns first u good come stands))

pub loops_of_no_turn_may_go : LoopsOfNoTurnMayGo
loops_of_no_turn_may_go s l but has = (
  same (λ first u good come stands. nothing u (has.turns first u good come stands)),
  same (λ first u good come stands. nothing u (has.turns first u good come stands)),
)
  where
    nothing : (u : State) → turns_of u.scene l.lo l.hi ≡ [] → run (world_of s) (old s) u ≡ Some u
    nothing u none =
        ap (λ b. run (world_of s) b u) has.is
        ∙ ap (λ ns. then_do (turns (turn l.binder.id (run (world_of s) l.body)) ns u)
        (run (world_of s) end)) none

-- ---- branches

pub blocks_may_be_specialized : BlocksMayBeSpecialized
blocks_may_be_specialized s test base but is low unused =
    let world = world_of s in
    let p = s.target.proc in
    let b = old s in
    let hidden = top_binders b in
    let here = ap (is_scoped (is_param p)) (sym is.body) ∙ all_scoped s is in
    let left : MayLeave p (around s) hidden = record {
      free = λ x h. binders_law p (around s) b x here (top_in b x h);
      unused = unused;
    } in
    hiding hidden unused (λ first u good come stands.
    let may = old_may_be_copied world p (around s) b base u (below_at s is base low)
    (record { body = is.body; first = first; good = good; comes = come }) in
    let alike = copies_run_alike world base b u may in
    subst (λ d. MayReplace world hidden b (only_branch test b d) u) (sym alike.is_copy)
    (split_may_stand world test alike.ids b u (none_there s is hidden left u stands) alike.moves))

pub taken_branches_may_stand : TakenBranchesMayStand
taken_branches_may_stand s test a b taken but is goes =
    let world = world_of s in
    let new = cond taken a b in
    let was : s.target.proc.body ≡ fill (around s) (only_branch test a b) =
    is.body ∙ ap (fill (around s)) goes.is in
    let left = may_be_left s is (only_branch test a b) (top_binders new) was
    (λ x h. inr (inner taken x h, refl)) in
    hiding (top_binders new) left.unused (λ first u good come stands.
    let there = goes.goes first u good come stands in
    let none = none_there s is (top_binders new) left u stands in
    subst (λ d. MayReplace world (top_binders new) d new u) (sym goes.is)
    (subst (λ t. MayReplace world (top_binders (cond t a b)) (only_branch test a b) (cond t a b) u)
    there (branch_may_stand world test a b u
    (subst (λ t. HasNone (top_binders (cond t a b)) u) (sym there) none))))
  where
    inner : (t : Bool) (x : ℕ) → top_binders (cond t a b) x ≡ true
        → has_binder (only_branch test a b) x ≡ true
    inner true x h =
        or_left (has_binder a x || has_binder b x) false (or_left (has_binder a x)
        (has_binder b x) (top_in a x h))
    inner false x h =
        or_left (has_binder a x || has_binder b x) false (or_right (has_binder a x)
        (has_binder b x) (top_in b x h))
