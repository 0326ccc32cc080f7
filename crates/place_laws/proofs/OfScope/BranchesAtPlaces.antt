-- Branches at a place of a procedure: one taken away, put round a block, or moved out of a loop.
use Rattle.std.proofs.Common.{◌≡◌, inr, ℕ, ◌==◌, Bool, true, false, cond, ◌||◌, [], option_map}
use Rattle.std.proofs.Common.{refl, sym, ap, ◌∙◌, subst, true≢false, arith}
use Rattle.std.specs.Prelude.{nat_le, slice_get}
use Rattle.exo_tree.specs.Tree.{Binder, Control, Condition, If, For, Block, end}
use Rattle.exo_tree.specs.Context.{fill}
use Rattle.exo_tree.specs.Renaming.{fresh}
use Rattle.exo_meaning.specs.Scene.{holds, then_do}
use Rattle.exo_meaning.specs.State.{State, left, scoped}
use Rattle.exo_meaning.specs.Run.{run, turn, turns, callees, kinds_of, unit_world}
use Rattle.exo_meaning.specs.Units.{field_kind}
use Rattle.exo_meaning.specs.Unseen.{in_control, in_condition, in_statement, in_block as mentions}
use Rattle.exo_meaning.proofs.Frame.{or_parts}
use Rattle.meaning_laws.specs.Context.{MayReplace}
use Rattle.meaning_laws.specs.Scoped.{has_binder, is_scoped, is_param}
use Rattle.meaning_laws.proofs.Binders.{binders_law}
use Rattle.meaning_laws.proofs.Copies.{place_sound}
use Rattle.meaning_laws.proofs.Facts.{or_left, or_right}
use Rattle.meaning_laws.proofs.SameRuns.{same_runs_refine}
use Rattle.meaning_laws.proofs.Scoped.{both_false, or_elim}
use Rattle.place_laws.specs.Scope.BranchesAtPlaces.{only_branch, TakenBranchLaw, LoopOfNone}
use Rattle.place_laws.specs.Scope.BranchesAtPlaces.{specialized, SpecializeLaw, lifted, LiftLaw}
use Rattle.meaning_laws.specs.FreshCopies.{MayCopy}
use Rattle.meaning_laws.specs.FreshCopies.{IsMadeOf}
use Rattle.place_laws.specs.Scope.Scopes.{HasNone, top_binders}
use Rattle.place_laws.specs.Scope.UnrollLoop.{only_loop}
use Rattle.meaning_laws.proofs.FreshCopies.{copies_run_alike, closed_copies_are_same}
use Rattle.meaning_laws.proofs.CopiesAtPlaces.{old_is_made, old_may_be_copied}
use Rattle.place_laws.proofs.OfScope.MadeCopies.{given_unused}
use Rattle.meaning_laws.proofs.CopiesAtPlaces.{places_may_copy}
use Rattle.place_laws.proofs.OfScope.MayLeave.{may_leave_law, top_has}
use Rattle.place_laws.proofs.OfScope.MadeCopies.{true_by}
use Rattle.place_laws.proofs.OfScope.Opened.{leaving_refines, branch_may_stand, split_may_stand}
use Rattle.place_laws.proofs.OfScope.Scopes.{branch_is_scope_law}
use Rattle.place_laws.proofs.OfScope.Turns.{lift_branch_law, steady_in_loop_law}

-- a block binds what it leaves
top_in : (b : Block) (x : ℕ) → top_binders b x ≡ true → has_binder b x ≡ true
top_in b x h = true_by (has_binder b x) (λ e. true≢false (sym h ∙ top_has b x e))

-- ---- the branch that is taken

pub taken_branch_law : TakenBranchLaw
taken_branch_law fields memories ps p c test a b taken may was known =
    let world = unit_world (kinds_of fields) ps in
    let old = only_branch test a b in
    let new = cond taken a b in
    let left = may_leave_law (field_kind fields) memories
    (slice_get (callees (kinds_of fields) [] ps)) p c old (top_binders new) may.procedure was
    (λ x h. inr (inner taken x h, refl)) in
    leaving_refines (kinds_of fields) ps c old new p (record p { body = fill c new })
    (top_binders new) was refl left (λ s u good come none.
    let same = known s u good come in
    subst (λ t. MayReplace world (top_binders (cond t a b)) old (cond t a b) u) same
    (branch_may_stand world test a b u
    (subst (λ t. HasNone (top_binders (cond t a b)) u) (sym same) none)))
  where
    inner : (t : Bool) (x : ℕ) → top_binders (cond t a b) x ≡ true
        → has_binder (only_branch test a b) x ≡ true
    inner true x h = or_left (has_binder a x || has_binder b x) false (or_left (has_binder a x)
        (has_binder b x) (top_in a x h))
    inner false x h = or_left (has_binder a x || has_binder b x) false (or_right (has_binder a x)
        (has_binder b x) (top_in b x h))

-- ---- a loop of no turn

pub loop_of_none : LoopOfNone
loop_of_none world p c i lo hi b was none =
    same_runs_refine world c (only_loop i lo hi b) end p was (λ s u good come.
    ap (λ ns. then_do (turns (turn i.id (run world b)) ns u) (run world end)) (none s u good come))

-- ---- a condition round a block

pub specialize_law : SpecializeLaw
specialize_law kinds ps p c test old first was below unused =
    let world = unit_world kinds ps in
    let hidden = top_binders old in
    let new = specialized first test old in
    let scoped_body = subst (λ b. is_scoped (is_param p) b ≡ true) was below.scoped in
    leaving_refines kinds ps c old new p (record p { body = fill c new }) hidden was refl
    (record {
      free = λ x h. binders_law p c old x scoped_body (top_in old x h);
      unused = unused;
    })
    (λ s u good come none.
    let may = old_may_be_copied world p c old first u below
    (record { body = was; first = s; good = good; comes = come }) in
    let alike = copies_run_alike world first old u may in
    subst (λ d. MayReplace world hidden old (only_branch test old d) u) (sym alike.is_copy)
    (split_may_stand world test alike.ids old u none alike.moves))

-- ---- a condition out of a loop

module _ (first : ℕ) (i : Binder) (lo hi : Control) (test : Condition) (a b : Block) where
  abbrev whole : Block
  whole = only_loop i lo hi (only_branch test a b)

  abbrev other : Block
  other = only_loop i lo hi b

  other_is_made : IsMadeOf first whole whole → IsMadeOf first whole other
  other_is_made made = record { own = own; low = low }
    where
      own : (x : ℕ) → has_binder other x ≡ true → has_binder whole x ≡ true
      own x h =
          or_left ((x == i.id) || has_binder (only_branch test a b) x) false
          (or_elim (x == i.id) (has_binder b x) (shorter ((x == i.id) || has_binder b x) h)
          (λ e. or_left (x == i.id) (has_binder (only_branch test a b) x) e)
          (λ e. or_right (x == i.id) (has_binder (only_branch test a b) x)
          (or_left (has_binder a x || has_binder b x) false (or_right (has_binder a x)
          (has_binder b x) e))))
        where
          shorter : (t : Bool) → (t || false) ≡ true → t ≡ true
          shorter true k = refl
          shorter false k = k

      low : mentions (nat_le first) other ≡ false
      low =
          let has = nat_le first in
          let inner = only_branch test a b in
          let loop = or_parts (in_statement has (For i lo hi inner)) false made.low in
          let p = or_parts (has i.id) (in_control has lo || (in_control has hi || mentions has
          inner)) loop.0 in
          let q = or_parts (in_control has lo) (in_control has hi || mentions has inner) p.1 in
          let r = or_parts (in_control has hi) (mentions has inner) q.1 in
          let k = or_parts (in_statement has (If test a b)) false r.1 in
          let m = or_parts (in_condition has test) (mentions has a || mentions has b) k.0 in
          let n = or_parts (mentions has a) (mentions has b) m.1 in
          let ends = both_false (in_control has hi) (mentions has b) r.0 n.1 in
          let bounds = both_false (in_control has lo) (in_control has hi || mentions has b) q.0
          ends in
          both_false (in_statement has (For i lo hi b)) false
          (both_false (has i.id) (in_control has lo || (in_control has hi || mentions has b)) p.0
          bounds)
          refl

pub lift_law : LiftLaw
lift_law world calls p c i lo hi test a b first leave was below lacks keeps =
    let old = only_loop i lo hi (only_branch test a b) in
    let made = other_is_made first i lo hi test a b (old_is_made p c old first below was) in
    same_runs_refine world c old (lifted first i lo hi test a b) p was (λ s u good come.
    lift_branch_law world i lo hi test a b u (place_sound world p old c s u good come)
    (steady_in_loop_law world calls i lo hi (only_branch test a b) test u leave lacks keeps)
    ∙ copied u (places_may_copy world p c old (only_loop i lo hi b) first u below
    (record { body = was; first = s; good = good; comes = come }) made.own
    (given_unused first first (only_loop i lo hi b) (omega arith) made.low)))
  where
    copied : (u : State) → MayCopy first (only_loop i lo hi b) u
        → run world (only_branch test (only_loop i lo hi a) (only_loop i lo hi b)) u ≡ run world
        (lifted first i lo hi test a b) u
    copied u may =
        branch_is_scope_law world test (only_loop i lo hi a) (only_loop i lo hi b) u
        ∙ go (holds u.scene test)
        ∙ sym (branch_is_scope_law world test (only_loop i lo hi a)
        (fresh first (only_loop i lo hi b)) u)
      where
        go : (t : Bool) → scoped (run world (cond t (only_loop i lo hi a) (only_loop i lo hi b))) u
            ≡ scoped (run world (cond t (only_loop i lo hi a) (fresh first (only_loop i lo hi b))))
            u
        go true = refl
        go false = ap (option_map (left u))
            (sym (closed_copies_are_same world first (only_loop i lo hi b) u may refl))
