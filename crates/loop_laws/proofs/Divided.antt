-- What a loop does whose turns are in groups.
use Rattle.std.proofs.Common.{◌≡◌, ◌≤ℤ◌, ℕ, suc, ◌+◌, ◌*◌, ℤ, pos, ◌+ℤ◌, ◌-ℤ◌, ◌*ℤ◌, ◌==◌, ◌||◌, Bool, true}
use Rattle.std.proofs.Common.{false, true≢false, cond, if◌then◌else◌, List, Option, Some, None, option_map}
use Rattle.std.proofs.Common.{refl, sym, ap, ap₂, ◌∙◌, subst, arith, eqb-true, eq-eqb}
use Rattle.std.specs.Prelude.{IsSome, int_lt}
use Rattle.std.specs.Int.{int_div_euclid, int_rem_euclid}
use Rattle.std.proofs.lemmas.Int.{ints}
use Rattle.exo_tree.specs.Tree.{Control, Lit, Div, Mod, Add, Eq, Lt, Gt, Block, end, joined}
use Rattle.exo_meaning.specs.Scene.{Seen, then_do, number, holds, updated}
use Rattle.exo_meaning.specs.State.{State, left, scoped}
use Rattle.exo_meaning.specs.Run.{World, run, turn, turns, turns_of, range, count, choose}
use Rattle.exo_meaning.specs.Unseen.{in_control as uses, in_block as mentions, SameBut}
use Rattle.exo_meaning.proofs.Compose.{compose}
use Rattle.exo_meaning.proofs.Frame.{or_parts, updated_other}
use Rattle.exo_meaning.proofs.Ignored.{control_alike}
use Rattle.exo_meaning.proofs.Nested.{left_same, turns_append, then_cong_if, then_some}
use Rattle.meaning_laws.specs.FreshCopies.{MayCopy}
use Rattle.meaning_laws.specs.Sound.{IsSound, IsUnbound}
use Rattle.meaning_laws.specs.Substitute.{is_plain}
use Rattle.meaning_laws.proofs.Copies.{unbound_on}
use Rattle.meaning_laws.proofs.FreshCopies.{closed_copies_are_same}
use Rattle.meaning_laws.proofs.Scoped.{control_open}
use Rattle.meaning_laws.proofs.Substitute.{plain_same}
use Rattle.place_laws.specs.Scope.BranchesAtPlaces.{only_branch}
use Rattle.place_laws.specs.Scope.Unrolled.{HasNamesOf}
use Rattle.place_laws.proofs.OfScope.Turns.{scope_of_none_law}
use Rattle.place_laws.specs.Order.TurnsOfTwo.{Loop}
use Rattle.loop_laws.specs.DivideLoop.{Tail, Division, turn_behind, turn_in_group, body_in_group}
use Rattle.loop_laws.specs.DivideLoop.{whole_groups, guarded_groups, turns_behind, tail_turns}
use Rattle.loop_laws.specs.DivideLoop.{outer, inner}
use Rattle.loop_laws.specs.SameTurns.{MayStandIn, at_turn, IsMovedBy, AreGroupsOf}
use Rattle.loop_laws.specs.Turns.{Turn, up_to}
use Rattle.loop_laws.proofs.Quotients as quotient
use Rattle.loop_laws.proofs.SameTurns.{own_names, turns_stay, left_twice, substituted_turn}
use Rattle.loop_laws.proofs.SameTurns.{moved_loop, grouped_loop}
use Rattle.loop_laws.proofs.Sites.{block_of, may_copy_there}
use Rattle.loop_laws.proofs.Turns.{less_zero, range_append, guarded_turns}

-- the ids of the two new loops
abbrev pub is_made : ℕ → ℕ → Bool
is_made base x = (x == base) || (x == suc base)

-- ---- what is asked at a state

-- of groups of suc k turns
abbrev pub division : ℕ → List ℕ → List ℕ → Tail → Division
division k a b tail = record { by = pos (suc k); outer = a; inner = b; tail = tail }

pub record MayDivide (d : Division) (l : Loop) (base : ℕ) (s : State) : Type 0 where
  pub sound : IsSound s
  pub none : (x : ℕ) → is_made base x ≡ true → IsUnbound s x
  pub unseen : mentions (is_made base) l.body ≡ false
  pub in_group : MayStandIn l.binder.id (turn_in_group d l base) l.body
  -- the bounds
  pub lo : l.lo ≡ Lit (pos 0)
  pub plain : is_plain l.hi ≡ true
  pub hi_unseen : uses (is_made base) l.hi ≡ false

-- and of what is behind them
pub record MayFollow (d : Division) (l : Loop) (base : ℕ) (s : State) : Type 0 where
  pub behind : MayStandIn l.binder.id (turn_behind d l base (Div l.hi d.by) l.binder.id) l.body
  pub other : uses (λ x. x == l.binder.id) l.hi ≡ false
  pub copy : MayCopy (base + 2) (turns_behind d l base) s

-- ---- groups

module _ (world : World) (k : ℕ) (a b : List ℕ) (tail : Tail) (l : Loop) (base : ℕ) (s : State)
    (may : MayDivide (division k a b tail) l base s) where
  abbrev d : Division
  d = division k a b tail

  abbrev c : ℕ
  c = suc k

  abbrev e : Control
  e = turn_in_group d l base

  abbrev body : Block
  body = body_in_group d l base

  abbrev go : Turn
  go = turn l.binder.id (run world l.body)

  abbrev last : ℤ
  last = number s.scene l.hi

  -- in turn m of group n
  abbrev deep : ℤ → ℤ → State → State
  deep n m t = at_turn (suc base) m (at_turn base n t)

  other : (base == suc base) ≡ false
  other = go (base == suc base) (eqb-true base (suc base))
    where
      go : (t : Bool) → (t ≡ true → base ≡ suc base) → t ≡ false
      go true h = absurd (let e = h refl in omega (arith, e))
      go false h = refl

  gone : (t : State) → HasNamesOf s t → (x : ℕ) → is_made base x ≡ true → t.scene.buffers x ≡ None
  gone t h x j = (unbound_on s t x (h.names x) (may.none x j)).buffers

  deep_same : (n m : ℤ) (t : State) → HasNamesOf s t → SameBut (is_made base) (deep n m t) t
  deep_same n m t h = record {
    control = λ x j. (
        let p = or_parts (x == base) (x == suc base) j in
        updated_other (updated t.scene.control base n) (suc base) m x p.1
        ∙ updated_other t.scene.control base n x p.0
        );
    buffers = λ x j. refl;
    views = λ x j. refl;
    fields = refl;
    cells = λ x j. refl;
    seen = λ x z j v. shown z (is_made base z.buffer) refl (h.sound.seen x z v);
  }
    where
      shown : (z : Seen) (u : Bool) → is_made base z.buffer ≡ u → IsSome (t.scene.buffers z.buffer)
          → u ≡ false
      shown z true q there = absurd (true≢false (sym (subst IsSome (gone t h z.buffer q) there)))
      shown z false q there = refl

  number_is : (n m : ℤ) (t : State) → number (deep n m t).scene e ≡ (pos c *ℤ n) +ℤ m
  number_is n m t =
      ap₂ (λ x y. (pos c *ℤ x) +ℤ y)
      (updated_other (updated t.scene.control base n) (suc base) m base other
      ∙ ap (λ u. cond u n (t.scene.control base)) (eq-eqb base base refl))
      (ap (λ u. cond u m (updated t.scene.control base n (suc base)))
      (eq-eqb (suc base) (suc base) refl))

  groups : AreGroupsOf world go base (suc base) c body s
  groups t n m h =
      let w = deep n m t in
      substituted_turn world (is_made base) l.binder.id e l.body t w may.in_group may.unseen
      (gone t h)
      (control_alike (is_made base) w t (deep_same n m t h) l.binder.id (number w.scene e))
      ∙ ap (λ j. go j t) (number_is n m t)

  old_is : run world (block_of l) s ≡ turns go (range (pos 0) (count last)) s
  old_is =
      then_some (turns go (turns_of s.scene l.lo l.hi) s)
      ∙ ap (λ z. turns go (turns_of s.scene z l.hi) s) may.lo
      ∙ ap (λ z. turns go (range (pos 0) (count z)) s) (less_zero last)

  abbrev full : ℕ
  full = count (int_div_euclid last (pos c)) * c

  whole_is : run world (whole_groups d l base) s ≡ turns go (range (pos 0) full) s
  whole_is =
      grouped_loop world go (outer d l base) (inner d l base) (Div l.hi (pos c)) c body s may.sound
      groups

  pub perfect_same : holds s.scene (Eq (Mod l.hi (pos c)) (Lit (pos 0))) ≡ true
      → run world (block_of l) s ≡ run world (whole_groups d l base) s
  perfect_same even =
      old_is
      ∙ ap (λ n. turns go (range (pos 0) n) s) (quotient.whole_groups last c even)
      ∙ sym whole_is

  -- ---- guarded

  hi_deep : (n m : ℤ) (t : State) → HasNamesOf s t → number (deep n m t).scene l.hi ≡ last
  hi_deep n m t h =
      plain_same l.hi (deep n m t).scene s.scene may.plain (λ x j.
      (deep_same n m t h).control x (control_open (is_made base) x l.hi may.hi_unseen j)
      ∙ sym (h.names x).control)

  -- a turn that is left out changes nothing
  nothing_done : (n m : ℤ) (t : State) → HasNamesOf s t
      → option_map (left t) (scoped (run world end) (deep n m t)) ≡ Some t
  nothing_done n m t h =
      left_twice t (deep n m t) (Some (deep n m t)) refl
      ∙ ap Some (left_same t t refl h.sound.tidy)

  abbrev guarded : Block
  guarded = only_branch (Lt e l.hi) body end

  guarded_turn : AreGroupsOf world (up_to last go) base (suc base) c guarded s
  guarded_turn t n m h =
      let w = deep n m t in
      let j = (pos c *ℤ n) +ℤ m in
      ap (option_map (left t))
      (then_some (scoped (choose (holds w.scene (Lt e l.hi)) (run world body) (run world end)) w))
      ∙ ap (λ u. option_map (left t) (scoped (choose u (run world body) (run world end)) w))
      (ap₂ int_lt (number_is n m t) (hi_deep n m t h))
      ∙ by (int_lt j last)
    where
      by : (u : Bool)
          → option_map (left t) (scoped (choose u (run world body) (run world end)) (deep n m t))
          ≡ (if u then go ((pos c *ℤ n) +ℤ m) t else Some t)
      by true =
          left_twice t (deep n m t) (run world body (deep n m t)) refl ∙ groups t n m h
      by false = nothing_done n m t h

  pub guarded_same : run world (block_of l) s ≡ run world (guarded_groups d l base) s
  guarded_same =
      let many = Div (Add l.hi (Lit (pos c -ℤ pos 1))) (pos c) in
      old_is
      ∙ sym (guarded_turns go last (count (number s.scene many) * c) s (quotient.enough_groups last k))
      ∙ sym (grouped_loop world (up_to last go) (outer d l base) (inner d l base) many c guarded s
      may.sound guarded_turn)

  -- ---- behind the whole groups

  module _ (follow : MayFollow d l base s) (positive : pos 0 ≤ℤ last) where
    abbrev parts : quotient.Parts last c
    parts = quotient.parts last c positive

    abbrev first : ℤ
    first = pos c *ℤ int_div_euclid last (pos c)

    abbrev rest : ℤ
    rest = int_rem_euclid last (pos c)

    hi_there : (t : State) → HasNamesOf s t → number t.scene l.hi ≡ last
    hi_there t h =
        plain_same l.hi t.scene s.scene may.plain (λ x j. sym (h.names x).control)

    moved : (t : State) → HasNamesOf s t
        → IsMovedBy l.binder.id first
        (turn_behind d l base (Div l.hi (pos c)) l.binder.id) t
    moved t h u n j =
        let i = l.binder.id in
        let same : number (at_turn i n u).scene l.hi ≡ last =
        plain_same l.hi (at_turn i n u).scene s.scene may.plain (λ x v.
        updated_other u.scene.control i n x (control_open (λ y. y == i) x l.hi follow.other v)
        ∙ sym (j.names x).control ∙ sym (h.names x).control) in
        ap₂ (λ x y. (pos c *ℤ int_div_euclid x (pos c)) +ℤ y) same
        (ap (λ v. cond v n (u.scene.control i)) (eq-eqb i i refl))

    -- as they are counted from the first
    abbrev others : State → Option State
    others = turns go (range (first +ℤ pos 0) (count (rest -ℤ pos 0)))

    tail_is : (t : State) → HasNamesOf s t → run world (tail_turns d l base) t ≡ others t
    tail_is t h =
        closed_copies_are_same world (base + 2) (turns_behind d l base) t
        (may_copy_there (base + 2) (turns_behind d l base) s t follow.copy h) refl
        ∙ moved_loop world (record { id = l.binder.id; name = b }) (Lit (pos 0)) (Mod l.hi (pos c))
        (turn_behind d l base (Div l.hi (pos c)) l.binder.id) l.body first t h.sound follow.behind
        (moved t h)
        ∙ ap (λ z. turns go (range (first +ℤ pos 0) (count (int_rem_euclid z (pos c) -ℤ pos 0))) t)
        (hi_there t h)

    -- what does that behind the whole groups does all
    behind_is : (made : Block) → ((t : State) → HasNamesOf s t → run world made t ≡ others t)
        → run world (block_of l) s ≡ run world (joined (whole_groups d l base) made) s
    behind_is made same =
        let r : count (rest -ℤ pos 0) ≡ parts.rest =
        ap count (less_zero rest ∙ parts.rest_is) in
        old_is
        ∙ ap (λ ns. turns go ns s)
        (range_append (pos 0) full parts.rest (count last) parts.count_is)
        ∙ turns_append go (range (pos 0) full) (range (pos 0 +ℤ pos full) parts.rest) s
        ∙ then_cong_if (HasNamesOf s) (turns go (range (pos 0) full) s)
        (turns go (range (pos 0 +ℤ pos full) parts.rest)) (run world made)
        (turns_stay l.binder.id (run world l.body) (range (pos 0) full) s s
        (own_names s may.sound))
        (λ t h. ap₂ (λ z n. turns go (range z n) t) parts.first (sym r) ∙ sym (same t h))
        ∙ ap (λ o. then_do o (run world made)) (sym whole_is)
        ∙ sym (compose world (whole_groups d l base) made s)

    pub cut_same : run world (block_of l) s
        ≡ run world (joined (whole_groups d l base) (tail_turns d l base)) s
    cut_same = behind_is (tail_turns d l base) tail_is

    abbrev guarded_tail : Block
    guarded_tail = only_branch (Gt (Mod l.hi (pos c)) (Lit (pos 0))) (tail_turns d l base) end

    guarded_tail_is : (t : State) → HasNamesOf s t → run world guarded_tail t ≡ others t
    guarded_tail_is t h =
        let made = tail_turns d l base in
        then_some (scoped (choose (int_lt (pos 0) (number t.scene (Mod l.hi (pos c))))
        (run world made) (run world end)) t)
        ∙ ap (λ z. scoped (choose (int_lt (pos 0) (int_rem_euclid z (pos c))) (run world made)
        (run world end)) t) (hi_there t h)
        ∙ by (int_lt (pos 0) rest) refl
      where
        none_left : (z : ℤ) (n : ℕ) → z ≡ pos n → int_lt (pos 0) z ≡ false → count (z -ℤ pos 0) ≡ 0
        none_left z n is h =
            let empty : n ≡ 0 = none n (ap (int_lt (pos 0)) (sym is) ∙ h) in
            ap count (less_zero z ∙ is ∙ ap pos empty)
          where
            none : (n : ℕ) → int_lt (pos 0) (pos n) ≡ false → n ≡ 0
            none n h = grind (arith, ints)

        by : (u : Bool) → int_lt (pos 0) rest ≡ u
            → scoped (choose u (run world (tail_turns d l base)) (run world end)) t ≡ others t
        by true q =
            scope_of_none_law world (tail_turns d l base) t h.sound (λ x. refl) ∙ tail_is t h
        by false q =
            ap Some (left_same t t refl h.sound.tidy)
            ∙ ap (λ n. turns go (range (first +ℤ pos 0) n) t)
            (sym (none_left rest parts.rest parts.rest_is q))

    pub guarded_cut_same : run world (block_of l) s
        ≡ run world (joined (whole_groups d l base) guarded_tail) s
    guarded_cut_same = behind_is guarded_tail guarded_tail_is
