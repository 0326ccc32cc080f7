-- The rule that joins two loops is lawful.
use Rattle.std.proofs.Common.{◌≡◌, ℕ, ℤ, pos, ◌+ℤ◌, ◌-ℤ◌, ◌≤ℤ◌, true}
use Rattle.std.proofs.Common.{Option, refl, sym, ap, ap₂, ◌∙◌, subst, arith}
use Rattle.std.proofs.lemmas.Int.{ints}
use Rattle.std.specs.Ordering.{int_eq}
use Rattle.exo_tree.specs.Tree.{Control, Lit, Le, For, Block, end, next}
use Rattle.exo_tree.specs.Renaming.{fresh}
use Rattle.exo_meaning.specs.Scene.{Scene, number, holds}
use Rattle.exo_meaning.specs.State.{State}
use Rattle.exo_meaning.specs.Run.{World, run, turn, turns, turns_of, range, count}
use Rattle.exo_meaning.proofs.Nested.{then_cong_if, then_some}
use Rattle.meaning_laws.specs.FreshCopies.{MayCopy}
use Rattle.meaning_laws.specs.Sound.{IsSound}
use Rattle.meaning_laws.specs.Substitute.{is_plain}
use Rattle.meaning_laws.proofs.FreshCopies.{closed_copies_are_same}
use Rattle.meaning_laws.proofs.Substitute.{and_parts, plain_same}
use Rattle.place_laws.specs.Scope.Bare.{bare}
use Rattle.place_laws.specs.Scope.UnrollLoop.{only_loop}
use Rattle.place_laws.specs.Scope.Unrolled.{HasNamesOf}
use Rattle.place_laws.proofs.OfScope.Bare.{same_but_for_names}
use Rattle.affine_forms.specs.Atoms.{Valuation, Linear, value, same_terms, same_form}
use Rattle.affine_forms.specs.Forms.{is_affine, normal}
use Rattle.affine_forms.proofs.NormalForm.{normal_law}
use Rattle.affine_forms.proofs.Values.{int_eq_same, same_terms_value}
use Rattle.affine_places.specs.Agreement.{agree}
use Rattle.affine_places.specs.Readings.{extent_reading}
use Rattle.affine_places.specs.Roots.{variables}
use Rattle.match_laws.specs.Simplify.Simplified.{values_in}
use Rattle.place_laws.specs.Order.TurnsOfTwo.{Loop}
use Rattle.loop_laws.specs.Turns.{between}
use Rattle.loop_laws.proofs.SameTurns.{own_names, turns_stay, if_left}
use Rattle.loop_laws.proofs.Sites.{block_of, may_copy_there}
use Rattle.loop_laws.proofs.Turns.{le_of, cut_turns, turns_alike}
use Rattle.loop_laws.specs.SameTurns.{at_turn}
use Rattle.loop_laws.proofs.SameTrees.{same_blocks_are}
use Rattle.loop_laws.proofs.UnrollLoop.{reads_variables}
use Rattle.loop_laws.specs.JoinLoops.{unbounded, have_one_body, joined_loop}
use Rattle.loop_laws.specs.Nest.Fuse.{Two}

-- ---- numbers of bounds that agree

same_form_value : (v : Valuation) (k l : Linear) → same_form k l ≡ true → value v k ≡ value v l
same_form_value v k l h =
    let p = and_parts (int_eq k.constant l.constant) (same_terms k.terms l.terms) h in
    ap₂ ◌+ℤ◌ (int_eq_same k.constant l.constant p.0) (sym (same_terms_value v k.terms l.terms p.1))

pub numbers_agree : (scene : Scene) (a b : Control) → is_affine variables a ≡ true
    → is_affine variables b ≡ true → agree extent_reading a b ≡ true
    → number scene a ≡ number scene b
numbers_agree scene a b f g h =
    let v = values_in scene in
    sym (normal_law variables v extent_reading scene a (reads_variables scene) f)
    ∙ same_form_value v (normal extent_reading a) (normal extent_reading b) h
    ∙ normal_law variables v extent_reading scene b (reads_variables scene) g

-- ---- one turn of a loop

-- the loop over one number alone
abbrev pub one_turn : ℤ → Loop → Block
one_turn z l = only_loop l.binder (Lit z) (Lit (z +ℤ pos 1)) l.body

one_turn_runs : (world : World) (l : Loop) (z : ℤ) (t : State)
    → run world (one_turn z l) t ≡ turn l.binder.id (run world l.body) z t
one_turn_runs world l z t =
    let go = turn l.binder.id (run world l.body) in
    let one : (z +ℤ pos 1) -ℤ z ≡ pos 1 = omega (arith, ints) in
    then_some (turns go (range z (count ((z +ℤ pos 1) -ℤ z))) t)
    ∙ ap (λ d. turns go (range z (count d)) t) one
    ∙ then_some (go z t)

-- a loop with such bounds in the place of its own
abbrev at_number : ℤ → Block → Block
at_number z end = end
at_number z (next (For i lo hi b) rest) = next (For i (Lit z) (Lit (z +ℤ pos 1)) b) rest
at_number z (next a rest) = next a rest

copies_alike : (base : ℕ) (n : Two) (z : ℤ) → have_one_body base n ≡ true
    → bare (fresh base (one_turn z n.first)) ≡ bare (fresh base (one_turn z n.second))
copies_alike base n z h =
    ap (at_number z)
    (same_blocks_are (fresh base (unbounded n.first)) (fresh base (unbounded n.second)) h)

-- ---- the runs

-- what is known where a run comes to two such loops
pub record Meeting (base : ℕ) (n : Two) (u : State) : Type 0 where
  pub sound : IsSound u
  pub alike : have_one_body base n ≡ true
  pub first_copied : (z : ℤ) → MayCopy base (one_turn z n.first) u
  pub second_copied : (z : ℤ) → MayCopy base (one_turn z n.second) u
  pub plain_lo : is_plain n.second.lo ≡ true
  pub plain_hi : is_plain n.second.hi ≡ true
  pub meet : number u.scene n.second.lo ≡ number u.scene n.first.hi
  pub above : holds u.scene (Le n.first.lo n.first.hi) ≡ true
  pub below : holds u.scene (Le n.second.lo n.second.hi) ≡ true

module _ (world : World) (base : ℕ) (n : Two) (u : State) (m : Meeting base n u) where
  abbrev go : ℤ → State → Option State
  go = turn n.first.binder.id (run world n.first.body)

  abbrev other : ℤ → State → Option State
  other = turn n.second.binder.id (run world n.second.body)

  turn_same : (z : ℤ) (t : State) → HasNamesOf u t → other z t ≡ go z t
  turn_same z t h =
      let k = one_turn z n.first in
      let l = one_turn z n.second in
      sym (one_turn_runs world n.second z t)
      ∙ sym (closed_copies_are_same world base l t
      (may_copy_there base l u t (m.second_copied z) h) refl)
      ∙ ap (λ f. f t)
      (sym (same_but_for_names world (fresh base k) (fresh base l) (copies_alike base n z m.alike)))
      ∙ closed_copies_are_same world base k t (may_copy_there base k u t (m.first_copied z) h) refl
      ∙ one_turn_runs world n.first z t

  number_stays : (e : Control) → is_plain e ≡ true → (t : State) → HasNamesOf u t
      → number t.scene e ≡ number u.scene e
  number_stays e p t h = plain_same e t.scene u.scene p (λ x j. sym (h.names x).control)

  second_runs : (t : State) → HasNamesOf u t
      → run world (block_of n.second) t
      ≡ turns go (between (number u.scene n.first.hi) (number u.scene n.second.hi)) t
  second_runs t h =
      then_some (turns other (turns_of t.scene n.second.lo n.second.hi) t)
      ∙ turns_alike (HasNamesOf u) other go (λ z w k. turn_same z w k)
      (λ z w k. if_left u w (run world n.second.body (at_turn n.second.binder.id z w)) k)
      (turns_of t.scene n.second.lo n.second.hi) t h
      ∙ ap₂ (λ a b. turns go (between a b) t)
      (number_stays n.second.lo m.plain_lo t h ∙ m.meet)
      (number_stays n.second.hi m.plain_hi t h)

  pub join_same :
      run world (next (For n.first.binder n.first.lo n.first.hi n.first.body) (block_of n.second)) u
      ≡ run world (joined_loop n) u
  join_same =
      let lo = number u.scene n.first.lo in
      let e = number u.scene n.first.hi in
      let hi = number u.scene n.second.hi in
      then_cong_if (HasNamesOf u) (turns go (turns_of u.scene n.first.lo n.first.hi) u)
      (run world (block_of n.second)) (turns go (between e hi))
      (turns_stay n.first.binder.id (run world n.first.body)
      (turns_of u.scene n.first.lo n.first.hi) u u (own_names u m.sound))
      second_runs
      ∙ sym (cut_turns go lo e hi u (le_of lo e m.above)
      (subst (λ z. z ≤ℤ hi) m.meet (le_of (number u.scene n.second.lo) hi m.below)))
      ∙ sym (then_some (turns go (turns_of u.scene n.first.lo n.second.hi) u))
