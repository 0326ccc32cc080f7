-- The rule that divides the turns of a loop into groups is lawful.
use Rattle.std.proofs.Common.{◌≡◌, ◌≤◌, ℕ, zero, suc, ◌+◌, ℤ, pos, negsuc, ◌-ℤ◌, ◌==◌, ◌||◌, ◌&&◌, Bool}
use Rattle.std.proofs.Common.{true, false, true≢false, if◌then◌else◌, List, [], length, Option, Some}
use Rattle.std.proofs.Common.{None, option_map, refl, sym, ap, ap₂, ◌∙◌, subst, arith, leb-true, eqb-true}
use Rattle.std.proofs.Common.{eq-eqb, cond}
use Rattle.std.specs.Prelude.{int_le, nat_le, option_and_then}
use Rattle.exo_tree.specs.Tree.{Index, Control, Lit, Var, Field, StrideOf, Neg, Add, Sub, Mul, Div}
use Rattle.exo_tree.specs.Tree.{Mod, Eq, Le, Lt, Gt, Statement, For, Block, end, next, statements}
use Rattle.exo_tree.specs.Context.{Context, Here, InLoop, InThen}
use Rattle.exo_tree.specs.Places.{Opened, parted}
use Rattle.exo_tree.specs.Substitution.{in_block, replacing}
use Rattle.exo_meaning.specs.Scene.{number}
use Rattle.exo_meaning.specs.State.{State}
use Rattle.exo_meaning.specs.Run.{run}
use Rattle.exo_meaning.specs.Orders.{Each}
use Rattle.exo_meaning.specs.Units.{ControlName, sort_in, with_name, field_kind}
use Rattle.exo_meaning.specs.Unseen.{in_control as uses, in_block as mentions}
use Rattle.exo_meaning.proofs.Frame.{or_parts}
use Rattle.meaning_laws.specs.Facts.{Holds}
use Rattle.meaning_laws.specs.FreshCopies.{IsBelow, IsMadeOf, is_given}
use Rattle.meaning_laws.specs.Scoped.{has_binder}
use Rattle.meaning_laws.specs.Substitute.{is_plain, has_variable}
use Rattle.meaning_laws.proofs.CopiesAtPlaces.{substituted_is_made}
use Rattle.meaning_laws.proofs.Facts.{or_left, or_right}
use Rattle.meaning_laws.proofs.Fewer as fewer
use Rattle.meaning_laws.proofs.Scoped.{control_open, or_elim}
use Rattle.meaning_laws.proofs.Substitute.{and_parts}
use Rattle.place_laws.specs.Scope.Roots.{own_roots_at}
use Rattle.place_laws.specs.Scope.BranchesAtPlaces.{only_branch}
use Rattle.place_laws.specs.Scope.UnrollLoop.{only_loop}
use Rattle.tree_edits.specs.Made.Passes.{or_pass}
use Rattle.cursor_forward.specs.Shifts.{at_index, alone, range}
use Rattle.cursor_forward.specs.Forwards.{Carries, AreCarried, are_apart}
use Rattle.place_laws.specs.Order.TurnsOfTwo.{Loop}
use Rattle.place_laws.proofs.OfOrder.Caught.{nothing_is_caught, binders_are_shown}
use Rattle.step_rules.specs.Rule.{Spot}
use Rattle.step_rules.specs.Lawful.{IsMet, IsFormedHere, Site, IsSite, Stands, AtHole, around, old, world_of}
use Rattle.step_rules.specs.Lawful.{scope_here, callees_for, fields_at_exit, Replaces, same, IsLawful}
use Rattle.step_rules.specs.Lawful.{IsCarrying}
use Rattle.step_rules.proofs.Shapes.{or_pass_next}
use Rattle.loop_laws.specs.Shapes.{loop_of, is_zero, from_zero, inside}
use Rattle.loop_laws.specs.DivideLoop.{Tail, Guard, Cut, CutAndGuard, Perfect, Division, divisible, outer}
use Rattle.loop_laws.specs.DivideLoop.{inner, turn_behind, turn_in_group, body_in_group}
use Rattle.loop_laws.specs.DivideLoop.{tail_turns, divided_with, divided, divide_needs}
use Rattle.loop_laws.specs.DivideLoop.{divide_shifts, divide_rule}
use Rattle.loop_laws.specs.SameTurns.{MayStandIn}
use Rattle.loop_laws.proofs.Bones.{same_bones, same_length, all_parted}
use Rattle.loop_laws.proofs.Divided.{division, is_made, MayDivide, MayFollow, perfect_same, guarded_same}
use Rattle.loop_laws.proofs.Divided.{cut_same, guarded_cut_same}
use Rattle.loop_laws.proofs.Formed.{IsFormed, free_not_in_scope}
use Rattle.loop_laws.proofs.Sites.{block_of, loop_of_is, on_loop, of_found, there, is_below}
use Rattle.loop_laws.proofs.Sites.{new_is_free, own_is_free, variable_is_other, loop_is_made, body_keeps}
use Rattle.loop_laws.proofs.Sites.{loop_keeps, formed_here, found_scope, LoopLacks, loop_lacks}
use Rattle.loop_laws.proofs.Sites.{lacking_loop, given_unused}
use Rattle.loop_laws.proofs.Turns.{le_of, is_none}

-- ---- what is read

pub record IsDivisible (by : ℤ) (b : Block) (l : Loop) : Type 0 where
  pub by_some : int_le (pos 1) by ≡ true
  pub found : loop_of b ≡ Some l
  pub lo : l.lo ≡ Lit (pos 0)

zero_is : (e : Control) → is_zero e ≡ true → e ≡ Lit (pos 0)
zero_is (Lit n) h = ap Lit (is_none n h)
zero_is (Var x) h = cc
zero_is (Field f) h = cc
zero_is (StrideOf x k) h = cc
zero_is (Neg a) h = cc
zero_is (Add a b) h = cc
zero_is (Sub a b) h = cc
zero_is (Mul a b) h = cc
zero_is (Div a c) h = cc
zero_is (Mod a c) h = cc

pub divisible_is : (by : ℤ) (b : Block) (l : Loop) → divisible by b ≡ Some l → IsDivisible by b l
divisible_is by b l h = by_test (int_le (pos 1) by) refl (loop_of b) refl h
  where
    from : (k : Loop) (t : Bool) → is_zero k.lo ≡ t → (if t then Some k else None) ≡ Some l
        → (k ≡ l) × (k.lo ≡ Lit (pos 0))
    from k true e h = (cc, zero_is k.lo e)
    from k false e h = cc

    by_test : (t : Bool) → int_le (pos 1) by ≡ t → (o : Option Loop) → loop_of b ≡ o
        → (if t then option_and_then from_zero o else None) ≡ Some l → IsDivisible by b l
    by_test false e o found h = cc
    by_test true e None found h = cc
    by_test true e (Some k) found h =
        let f = from k (is_zero k.lo) refl h in
        record {
          by_some = e;
          found = found ∙ ap Some f.0;
          lo = ap (λ (z : Loop). z.lo) (sym f.0) ∙ f.1;
        }

-- ---- new ids

made_from : (base x : ℕ) → is_made base x ≡ true → base ≤ x
made_from base x h =
    or_elim (x == base) (x == suc base) h
    (λ e. at_least (eqb-true x base e)) (λ e. behind (eqb-true x (suc base) e))
  where
    at_least : x ≡ base → base ≤ x
    at_least e = omega arith

    behind : x ≡ suc base → base ≤ x
    behind e = omega arith

made_less : (base x : ℕ) → nat_le base x ≡ false → is_made base x ≡ false
made_less base x h = grind arith

later_less : (base x : ℕ) → nat_le base x ≡ false → nat_le (base + 2) x ≡ false
later_less base x h = grind arith

-- ---- at its place

module _ (k : ℕ) (one two : List ℕ) (tail : Tail) (a : Site)
    (is : IsSite (divide_rule (division k one two tail)) a) (l : Loop)
    (was : old a.spot ≡ block_of l) (lo : l.lo ≡ Lit (pos 0))
    (formed : IsFormed (found_scope a.spot) l.hi) where
  abbrev d : Division
  d = division k one two tail

  abbrev i : ℕ
  i = l.binder.id

  abbrev base : ℕ
  base = a.base

  below : IsBelow base a.spot.target.proc
  below = is_below a is.spot is.below

  made : IsMadeOf base (block_of l) (block_of l)
  made = loop_is_made a is.spot l was below

  low : LoopLacks (nat_le base) l
  low = loop_lacks (nat_le base) l made.low

  -- the bound uses no name that is free
  hi_lacks : (hidden : ℕ → Bool) → ((x : ℕ) → hidden x ≡ true → has_binder (block_of l) x ≡ true)
      → uses hidden l.hi ≡ false
  hi_lacks hidden own =
      formed.used hidden (λ x h. free_not_in_scope a.spot.target.proc (around a.spot) x
      (own_is_free a is.spot l was below x (own x h)))

  hi_low : (hidden : ℕ → Bool) → ((x : ℕ) → hidden x ≡ true → base ≤ x) → uses hidden l.hi ≡ false
  hi_low hidden from =
      formed.used hidden (λ x h. free_not_in_scope a.spot.target.proc (around a.spot) x
      (new_is_free a is.spot l was below x (from x h)))

  -- an expression of which the body binds no variable may stand for the loop's variable
  may_stand : (e : Control) → is_plain e ≡ true
      → ((x : ℕ) → has_binder l.body x ≡ true → has_variable e x ≡ false) → MayStandIn i e l.body
  may_stand e plain misses =
      let t = a.spot.target in
      let keeps =
      body_keeps (field_kind t.unit.fields) (length t.unit.memories) (callees_for t)
      (scope_here a.spot) (own_roots_at (around a.spot)) l.binder l.lo l.hi l.body end
      (loop_keeps a is.spot l was) in (
        plain,
        nothing_is_caught t.unit.fields (length t.unit.memories) t.unit.procedures
            (with_name (scope_here a.spot) l.binder (ControlName Index)) (own_roots_at (around a.spot)) i
            Index e l.body keeps
            (ap (λ u. cond u (Some (ControlName Index)) (sort_in (scope_here a.spot) i)) (eq-eqb i i refl))
            refl misses,
      )

  -- in a group
  in_group : MayStandIn i (turn_in_group d l base) l.body
  in_group =
      may_stand (turn_in_group d l base) refl (λ x h.
      made_less base x (binders_are_shown (nat_le base) l.body low.body x h))

  hi_misses : (x : ℕ) → has_binder l.body x ≡ true → has_variable l.hi x ≡ false
  hi_misses x h = go (has_variable l.hi x) refl
    where
      lacks : uses (has_binder (block_of l)) l.hi ≡ false
      lacks = hi_lacks (has_binder (block_of l)) (λ y e. e)

      own : has_binder (block_of l) x ≡ true
      own =
          or_left ((x == i) || has_binder l.body x) false
          (or_right (x == i) (has_binder l.body x) h)

      go : (t : Bool) → has_variable l.hi x ≡ t → t ≡ false
      go true e =
          absurd (true≢false
          (sym own ∙ control_open (has_binder (block_of l)) x l.hi lacks e))
      go false e = refl

  abbrev later : Control
  later = turn_behind d l base (Div l.hi d.by) i

  -- behind the groups
  behind : MayStandIn i later l.body
  behind =
      may_stand later (ap (λ t. (true && t) && true) formed.plain) (λ x h.
      ap₂ ◌||◌ (hi_misses x h) (variable_is_other a is.spot l was below x h))

  pub may_divide : (u : State) → Stands a.spot u → MayDivide d l base u
  may_divide u stands = record {
    sound = stands.sound;
    none = λ x h. stands.free x (new_is_free a is.spot l was below x (made_from base x h));
    unseen = fewer.block (nat_le base) (is_made base) (made_less base) l.body low.body;
    in_group = in_group;
    lo = lo;
    plain = formed.plain;
    hi_unseen = hi_low (is_made base) (made_from base);
  }

  -- the turns behind the groups
  abbrev others : Loop
  others = record {
    binder = record { id = i; name = two };
    lo = Lit (pos 0);
    hi = Mod l.hi d.by;
    body = in_block i later l.body;
  }

  body_is_made : IsMadeOf base (block_of l) (in_block i later l.body)
  body_is_made =
      substituted_is_made base (block_of l) l.body i later
      (record {
        own = λ x h.
            or_left ((x == i) || has_binder l.body x) false
            (or_right (x == i) (has_binder l.body x) h);
        low = low.body;
      })
      (ap₂ ◌||◌ low.hi low.binder)

  others_are_low : mentions (nat_le (base + 2)) (block_of others) ≡ false
  others_are_low =
      fewer.block (nat_le base) (nat_le (base + 2)) (later_less base) (block_of others)
      (lacking_loop (nat_le base) others
      (record { binder = low.binder; lo = refl; hi = low.hi; body = body_is_made.low }))

  pub may_follow : (u : State) → Stands a.spot u → MayFollow d l base u
  may_follow u stands = record {
    behind = behind;
    other = hi_lacks (λ x. x == i) (λ x h.
        or_left ((x == i) || has_binder l.body x) false (or_left (x == i) (has_binder l.body x) h));
    copy = record {
      sound = stands.sound;
      own = λ x h. stands.free x (own_is_free a is.spot l was below x (own x h));
      given = λ x h. stands.free x (new_is_free a is.spot l was below x (from x h));
      unused = given_unused (base + 2) (block_of others) others_are_low;
    };
  }
    where
      own : (x : ℕ) → has_binder (block_of others) x ≡ true → has_binder (block_of l) x ≡ true
      own x h =
          or_elim ((x == i) || has_binder (in_block i later l.body) x) false h
          (λ e. or_elim (x == i) (has_binder (in_block i later l.body) x) e
          (λ f. or_left ((x == i) || has_binder l.body x) false
          (or_left (x == i) (has_binder l.body x) f))
          (body_is_made.own x))
          (λ e. absurd (true≢false (sym e)))

      from : (x : ℕ) → is_given (base + 2) (block_of others) x ≡ true → base ≤ x
      from x h = above x (leb-true (base + 2) x (and_parts (nat_le (base + 2) x) _ h).0)
        where
          above : (x : ℕ) → base + 2 ≤ x → base ≤ x
          above x e = omega arith

  -- ---- the runs

  pub runs : (made : Tail)
      → Each (IsMet a.spot.target) (divide_needs d.by made a.spot.piece.path l)
      → a.spot.piece.count ≡ 1
      → AtHole a.spot (λ u.
      run (world_of a.spot) (block_of l) u
      ≡ run (world_of a.spot) (divided_with d l base made) u)
  runs Guard met single first u good come stands =
      guarded_same (world_of a.spot) k one two tail l base u (may_divide u stands)
  runs Perfect met single first u good come stands =
      perfect_same (world_of a.spot) k one two tail l base u (may_divide u stands)
      (there a.spot (Holds (Eq (Mod l.hi d.by) (Lit (pos 0)))) is.spot single met.0 first u good
      come stands)
  runs Cut met single first u good come stands =
      cut_same (world_of a.spot) k one two tail l base u (may_divide u stands)
      (may_follow u stands)
      (le_of (pos 0) (number u.scene l.hi)
      (there a.spot (Holds (Le (Lit (pos 0)) l.hi)) is.spot single met.0 first u good come stands))
  runs CutAndGuard met single first u good come stands =
      guarded_cut_same (world_of a.spot) k one two tail l base u (may_divide u stands)
      (may_follow u stands)
      (le_of (pos 0) (number u.scene l.hi)
      (there a.spot (Holds (Le (Lit (pos 0)) l.hi)) is.spot single met.0 first u good come stands))

-- ---- the bound

-- the bound of the loop, by that of the loop over the groups
-- the loop in a group, over a block
abbrev in_group_of : Division → Loop → ℕ → Block → Block
in_group_of d l base b = only_loop (inner d l base) (Lit (pos 0)) (Lit d.by) b

hi_formed : (d : Division) (s : Spot) (l : Loop) (base : ℕ) (tail : Tail)
    → IsFormedHere s (divided_with d l base tail) → IsFormed (found_scope s) l.hi
hi_formed d s l base Guard h =
    let many = Add l.hi (Lit (d.by -ℤ pos 1)) in
    let f = (formed_here s (outer d l base) (Lit (pos 0)) (Div many d.by)
    (in_group_of d l base
    (only_branch (Lt (turn_in_group d l base) l.hi) (body_in_group d l base) end)) end h).1 in
    record {
      plain = (and_parts (is_plain l.hi) true f.plain).0;
      used = λ hidden none. (or_parts (uses hidden l.hi) false (f.used hidden none)).0;
    }
hi_formed d s l base Cut h =
    let f =
    (formed_here s (outer d l base) (Lit (pos 0)) (Div l.hi d.by)
    (in_group_of d l base (body_in_group d l base)) (tail_turns d l base) h).1 in
    record { plain = f.plain; used = f.used }
hi_formed d s l base CutAndGuard h =
    let f = (formed_here s (outer d l base) (Lit (pos 0)) (Div l.hi d.by)
    (in_group_of d l base (body_in_group d l base))
    (only_branch (Gt (Mod l.hi d.by) (Lit (pos 0))) (tail_turns d l base) end) h).1 in
    record { plain = f.plain; used = f.used }
hi_formed d s l base Perfect h =
    let f = (formed_here s (outer d l base) (Lit (pos 0)) (Div l.hi d.by)
    (in_group_of d l base (body_in_group d l base)) end h).1 in
    record { plain = f.plain; used = f.used }

-- ---- the rule

abbrev any_division : ℤ → List ℕ → List ℕ → Tail → Division
any_division by one two tail = record { by = by; outer = one; inner = two; tail = tail }

lawful : (by : ℤ) (one two : List ℕ) (tail : Tail) → IsLawful (divide_rule (any_division by one two tail))
lawful by one two tail = record { replaces = λ a is versions met. by_cases by a is met }
  where
    by_cases : (by : ℤ) (a : Site) → IsSite (divide_rule (any_division by one two tail)) a
        → Each (IsMet a.spot.target) ((divide_rule (any_division by one two tail)).needs a.spot)
        → Replaces a.spot a.draft (fields_at_exit (divide_rule (any_division by one two tail)) a)
    by_cases (pos (suc k)) a is met =
        let d = division k one two tail in
        let on = on_loop (divisible d.by) (divided d) a is.at is.chosen is.made is.drafted in
        let l = on.loop in
        let read = divisible_is d.by (old a.spot) l on.found in
        let was = loop_of_is (old a.spot) l read.found in
        let formed =
        hi_formed d a.spot l a.base tail (subst (IsFormedHere a.spot) (sym on.plain) is.formed) in
        let needs =
        of_found (divisible d.by (old a.spot)) (divide_needs d.by tail a.spot.piece.path) l
        a.spot.target on.found met in
        same (λ first u good come stands.
        ap (λ b. run (world_of a.spot) b u) was
        ∙ runs k one two tail a is l was read.lo formed tail needs on.single first u good come stands
        ∙ ap (λ b. run (world_of a.spot) b u) on.made)
    by_cases (pos zero) a is met =
        let on = on_loop (divisible (pos 0)) (divided (any_division (pos 0) one two tail)) a is.at
        is.chosen is.made is.drafted in
        absurd (true≢false (sym (divisible_is (pos 0) (old a.spot) on.loop on.found).by_some))
    by_cases (negsuc n) a is met =
        let on = on_loop (divisible (negsuc n)) (divided (any_division (negsuc n) one two tail)) a
        is.at is.chosen is.made is.drafted in
        absurd (below (divisible_is (negsuc n) (old a.spot) on.loop on.found).by_some)
      where
        below : int_le (pos 1) (negsuc n) ≡ true → ⊥
        below h = true≢false (sym h)

pub divide_is_lawful : (d : Division) → IsLawful (divide_rule d)
divide_is_lawful d = lawful d.by d.outer d.inner d.tail

-- ---- where statements go

module _ (d : Division) (l : Loop) (base : ℕ) (c : Context) where
  abbrev count : ℕ
  count = length (statements l.body)

  abbrev e : Control
  e = turn_in_group d l base

  abbrev body : Block
  body = body_in_group d l base

  same_count : parted count body ≡ Some (body, end)
  same_count =
      ap (λ n. parted n body) (sym (same_length (replacing l.binder.id e) l.body))
      ∙ all_parted body

  -- opened in one block more
  abbrev within : (Context → Context) → Option Opened → Option Opened
  within f = option_map (λ (o : Opened). record { around = f o.around; piece = o.piece })

  abbrev here : Option (Block × Block) → Option Opened
  here = option_map (λ (p : Block × Block). record { around = Here p.1; piece = p.0 })

  abbrev in_outer : Control → Block → Context → Context
  in_outer groups rest x = InLoop (outer d l base) (Lit (pos 0)) groups x rest

  abbrev in_inner : Context → Context
  in_inner x = InLoop (inner d l base) (Lit (pos 0)) (Lit d.by) x end

  abbrev in_old : Context → Context
  in_old x = InLoop l.binder l.lo l.hi x end

  -- the loop goes to the first loop
  first_goes : (groups : Control) (b rest : Block)
      → AreCarried (alone (at_index 0) (Some (at_index 0))) (at_index 0) (block_of l)
      (next (For (outer d l base) (Lit (pos 0)) groups b) rest)
  first_goes groups b rest = record {
    was = record { around = Here end; piece = block_of l };
    is = record {
      around = Here rest;
      piece = next (For (outer d l base) (Lit (pos 0)) groups b) end;
    };
    before = refl;
    after = refl;
    alike = refl;
  }

  -- and its body into the inner one
  body_goes : (groups : Control) (rest : Block)
      → AreCarried (range (inside 1) count (Some (inside 2))) (inside 2) (block_of l)
      (next (For (outer d l base) (Lit (pos 0)) groups
      (only_loop (inner d l base) (Lit (pos 0)) (Lit d.by) body)) rest)
  body_goes groups rest = record {
    was = record { around = in_old (Here end); piece = l.body };
    is = record { around = in_outer groups rest (in_inner (Here end)); piece = body };
    before = ap (λ p. within in_old (here p)) (all_parted l.body);
    after = ap (λ p. within (in_outer groups rest) (within in_inner (here p))) same_count;
    alike = sym (same_bones (replacing l.binder.id e) l.body);
  }

  -- or into the guard there
  guarded_goes : (groups : Control)
      → AreCarried (range (inside 1) count (Some (inside 3))) (inside 3) (block_of l)
      (only_loop (outer d l base) (Lit (pos 0)) groups
      (only_loop (inner d l base) (Lit (pos 0)) (Lit d.by) (only_branch (Lt e l.hi) body end)))
  guarded_goes groups = record {
    was = record { around = in_old (Here end); piece = l.body };
    is = record {
      around = in_outer groups end (in_inner (InThen (Lt e l.hi) (Here end) end end));
      piece = body;
    };
    before = ap (λ p. within in_old (here p)) (all_parted l.body);
    after =
        ap (λ p. within (in_outer groups end) (within in_inner
        (within (λ x. InThen (Lt e l.hi) x end end) (here p)))) same_count;
    alike = sym (same_bones (replacing l.binder.id e) l.body);
  }

  -- no `pass` is needed
  abbrev first : Control → Block → Statement
  first groups b = For (outer d l base) (Lit (pos 0)) groups b

  passed : (tail : Tail) (groups : Control) (b rest : Block)
      → Carries (divide_shifts tail l) (block_of l) (next (first groups b) rest)
      → Carries (divide_shifts tail l) (block_of l) (or_pass c (next (first groups b) rest))
  passed tail groups b rest =
      subst (Carries (divide_shifts tail l) (block_of l))
      (sym (or_pass_next c (first groups b) rest))

  pub all_go : (tail : Tail)
      → Carries (divide_shifts tail l) (block_of l) (or_pass c (divided_with d l base tail))
  all_go Guard =
      let groups = Div (Add l.hi (Lit (d.by -ℤ pos 1))) d.by in
      let b = in_group_of d l base (only_branch (Lt e l.hi) body end) in
      passed Guard groups b end (first_goes groups b end, (guarded_goes groups, tt))
  all_go Cut =
      let groups = Div l.hi d.by in
      let b = in_group_of d l base body in
      let made = tail_turns d l base in
      passed Cut groups b made (first_goes groups b made, (body_goes groups made, tt))
  all_go CutAndGuard =
      let groups = Div l.hi d.by in
      let b = in_group_of d l base body in
      let made = only_branch (Gt (Mod l.hi d.by) (Lit (pos 0))) (tail_turns d l base) end in
      passed CutAndGuard groups b made (first_goes groups b made, (body_goes groups made, tt))
  all_go Perfect =
      let groups = Div l.hi d.by in
      let b = in_group_of d l base body in
      passed Perfect groups b end (first_goes groups b end, (body_goes groups end, tt))

pub divide_is_carrying : (d : Division) → IsCarrying (divide_rule d)
divide_is_carrying d = record {
  carries = λ a is. (
      let on = on_loop (divisible d.by) (divided d) a is.at is.chosen is.made is.drafted in
      let l = on.loop in
      let was =
      loop_of_is (old a.spot) l (divisible_is d.by (old a.spot) l on.found).found in
      subst (λ o. Carries (elim o [ None ↦ [] | Some k ↦ divide_shifts d.tail k ]) (old a.spot)
      (or_pass (around a.spot) a.draft)) (sym on.found)
      (subst (λ b. Carries (divide_shifts d.tail l) b (or_pass (around a.spot) a.draft)) (sym was)
      (subst (λ b. Carries (divide_shifts d.tail l) (block_of l) (or_pass (around a.spot) b)) on.made
      (all_go d l a.base (around a.spot) d.tail)))
      );
  apart = λ a is. by_loop (divisible d.by (old a.spot)) d.tail;
}
  where
    by_loop : (o : Option Loop) (tail : Tail)
        → are_apart (elim o [ None ↦ [] | Some k ↦ divide_shifts tail k ]) ≡ true
    by_loop None tail = refl
    by_loop (Some l) Guard = refl
    by_loop (Some l) Cut = refl
    by_loop (Some l) CutAndGuard = refl
    by_loop (Some l) Perfect = refl
