-- The rules that take away what is never run are lawful.
use Rattle.std.proofs.Common.{◌≡◌, ◌≤ℤ◌, ℕ, ℤ, pos, negsuc, ◌-ℤ◌, Bool, true, false, cond}
use Rattle.std.proofs.Common.{List, [], Option, Some, None, refl, sym, ap, ◌∙◌, subst, arith}
use Rattle.std.specs.Prelude.{length, option_map}
use Rattle.std.proofs.lemmas.Int.{ints}
use Rattle.exo_tree.specs.Tree.{Condition, Le, Statement, Assign, Reduce, Config, Pass, If, For}
use Rattle.exo_tree.specs.Tree.{Alloc, View, Call, Block, end, next, statements}
use Rattle.exo_tree.specs.Context.{Context, Here, InThen, InElse}
use Rattle.exo_tree.specs.Places.{Branch, Main, Else, Opened, opened, parted}
use Rattle.exo_meaning.specs.Scene.{Scene, number, holds}
use Rattle.exo_meaning.specs.State.{scoped}
use Rattle.exo_meaning.specs.Run.{run, turns_of, range, count}
use Rattle.exo_meaning.specs.Orders.{Each}
use Rattle.meaning_laws.specs.Facts.{IsTrueAt, Holds}
use Rattle.place_laws.specs.Scope.BranchesAtPlaces.{only_branch}
use Rattle.place_laws.proofs.OfScope.Scopes.{branch_is_scope_law}
use Rattle.place_laws.proofs.OfScope.Turns.{scope_of_none_law}
use Rattle.tree_edits.specs.Made.Passes.{or_pass, or_one_pass}
use Rattle.cursor_forward.specs.Forwards.{Carries, are_apart}
use Rattle.place_laws.specs.Order.TurnsOfTwo.{Loop}
use Rattle.step_rules.specs.Rule.{Piece, Spot}
use Rattle.step_rules.specs.Lawful.{IsMet, IsSpot, Site, IsSite, Replaces, same, IsLawful}
use Rattle.step_rules.specs.Lawful.{IsCarrying, around, old, world_of, fields_at_exit}
use Rattle.step_rules.specs.Shapes.{alone_in}
use Rattle.step_rules.proofs.Shapes.{made_of, alone_is, or_pass_next}
use Rattle.loop_laws.specs.Copies.{GoesTo}
use Rattle.loop_laws.specs.Shapes.{loop_of}
use Rattle.loop_laws.proofs.Bones.{all_parted}
use Rattle.loop_laws.proofs.Copies.{taken_branches_may_stand, loops_of_no_turn_may_go}
use Rattle.loop_laws.proofs.Sites.{loop_of_is, on_loop, of_found, there, found_then}
use Rattle.loop_laws.proofs.Turns.{le_of}
use Rattle.proc_laws.specs.Statement.DeadCode.{Fork, fork_in, fork_of, branch_at, taken, kept_needs}
use Rattle.proc_laws.specs.Statement.DeadCode.{kept, in_branch, out_of_branch, of_fork}
use Rattle.proc_laws.specs.Statement.DeadCode.{keep_rule}
use Rattle.proc_laws.specs.Statement.DeadCode.{no_turn_needs, empty_loop_rule}

-- ---- what is read

abbrev fork_block : Fork → Block
fork_block k = only_branch k.test k.main k.other

some_same : {A : Type 0} {a b : A} → Some a ≡ Some b → a ≡ b
some_same e = cc

fork_in_is : (a : Statement) (k : Fork) → fork_in a ≡ Some k → a ≡ If k.test k.main k.other
fork_in_is (Assign x is e) k h = cc
fork_in_is (Reduce x is e) k h = cc
fork_in_is (Config f a) k h = cc
fork_in_is Pass k h = cc
fork_in_is (If c a b) k h = ap (λ (z : Fork). If z.test z.main z.other) (some_same h)
fork_in_is (For i lo hi b) k h = cc
fork_in_is (Alloc x cell dims memory) k h = cc
fork_in_is (View w x coords) k h = cc
fork_in_is (Call f args) k h = cc

fork_of_is : (b : Block) (k : Fork) → fork_of b ≡ Some k → b ≡ fork_block k
fork_of_is b k h =
    let f = found_then (alone_in b) fork_in k h in
    alone_is b f.0 f.1 ∙ ap (λ a. next a end) (fork_in_is f.0 k f.2)

-- what the rule says
record OnFork (keep : Branch) (a : Site) : Type 0 where
  fork : Fork
  found : fork_of (old a.spot) ≡ Some fork
  is : old a.spot ≡ fork_block fork
  single : a.spot.piece.count ≡ 1
  made : kept keep fork ≡ a.draft

on_fork : (keep : Branch) (a : Site) → IsSite (keep_rule keep) a → OnFork keep a
on_fork keep a is =
    let d = made_of (fork_of (old a.spot)) (kept keep) a.draft is.drafted in
    let at_place = made_of _ (λ (k : Fork). record { path = is.at; count = 1 }) a.spot.piece
    is.chosen in
    record {
      fork = d.of;
      found = d.found;
      is = fork_of_is (old a.spot) d.of d.found;
      single = sym (ap (λ (p : Piece). p.count) at_place.made);
      made = d.made;
    }

-- ---- the branch that is taken

abbrev is_main : Branch → Bool
is_main Main = true
is_main Else = false

taken_is : (keep : Branch) (c : Condition) (scene : Scene) → IsTrueAt scene (taken keep c)
    → holds scene c ≡ is_main keep
taken_is Main c scene h = h
taken_is Else c scene h = h

branch_is : (keep : Branch) (k : Fork) → cond (is_main keep) k.main k.other ≡ branch_at keep k
branch_is Main k = refl
branch_is Else k = refl

goes_to : (keep : Branch) (a : Site) → IsSite (keep_rule keep) a → (on : OnFork keep a)
    → Each (IsMet a.spot.target) (of_fork (kept_needs keep a.spot.piece.path) (fork_of (old a.spot)))
    → GoesTo a.spot on.fork.test on.fork.main on.fork.other (is_main keep)
goes_to keep a is on met =
    let k = on.fork in
    let needs =
    subst (λ o. Each (IsMet a.spot.target) (of_fork (kept_needs keep a.spot.piece.path) o)) on.found
    met in
    record {
      is = on.is;
      goes = λ first u good come stands.
          taken_is keep k.test u.scene
          (there a.spot (taken keep k.test) is.spot on.single needs.0 first u good come stands);
    }

-- a `pass` may stand where the branch that is taken is missing
pass_may_stand : (s : Spot) (test : Condition) (a b : Block) (main : Bool) (but : List ℕ)
    → GoesTo s test a b main → cond main a b ≡ end → Replaces s (next Pass end) but
pass_may_stand s test a b main but goes missing =
    let world = world_of s in
    same (λ first u good come stands.
    ap (λ d. run world d u) goes.is
    ∙ branch_is_scope_law world test a b u
    ∙ ap (λ t. scoped (run world (cond t a b)) u) (goes.goes first u good come stands)
    ∙ ap (λ d. scoped (run world d) u) missing
    ∙ scope_of_none_law world end u stands.sound (λ x. refl))

branch_may_stand : (s : Spot) (test : Condition) (a b : Block) (main : Bool) (but : List ℕ)
    → IsSpot s → GoesTo s test a b main → Replaces s (or_one_pass (cond main a b)) but
branch_may_stand s test a b main but is goes = by (cond main a b) refl
  where
    by : (d : Block) → cond main a b ≡ d → Replaces s (or_one_pass d) but
    by end e = pass_may_stand s test a b main but goes e
    by (next x rest) e =
        subst (λ d. Replaces s d but) e (taken_branches_may_stand s test a b main but is goes)

pub keep_is_lawful : (keep : Branch) → IsLawful (keep_rule keep)
keep_is_lawful keep = record {
  replaces = λ a is versions met. (
      let but = fields_at_exit (keep_rule keep) a in
      let on = on_fork keep a is in
      let k = on.fork in
      subst (λ d. Replaces a.spot d but) on.made
      (subst (λ d. Replaces a.spot (or_one_pass d) but) (branch_is keep k)
      (branch_may_stand a.spot k.test k.main k.other (is_main keep) but is.spot
      (goes_to keep a is on met)))
      );
}

-- ---- where statements go

abbrev here : Block × Block → Opened
here p = record { around = Here p.1; piece = p.0 }

abbrev context_in : Branch → Fork → Context → Context
context_in Main k c = InThen k.test c k.other end
context_in Else k c = InElse k.test k.main c end

abbrev in_fork : Branch → Fork → Opened → Opened
in_fork keep k o = record { around = context_in keep k o.around; piece = o.piece }

all_of_branch : (keep : Branch) (k : Fork)
    → opened (length (statements (branch_at keep k))) (in_branch keep) (fork_block k)
    ≡ Some (in_fork keep k (here (branch_at keep k, end)))
all_of_branch Main k =
    ap (λ o. option_map (in_fork Main k) (option_map here o)) (all_parted k.main)
all_of_branch Else k =
    ap (λ o. option_map (in_fork Else k) (option_map here o)) (all_parted k.other)

-- what stands behind the statements of a branch that is kept
abbrev behind : Block → Block
behind end = next Pass end
behind (next a b) = end

kept_parted : (b : Block)
    → parted (length (statements b)) (or_one_pass b) ≡ Some (b, behind b)
kept_parted end = refl
kept_parted (next a b) = all_parted (next a b)

kept_stays : (c : Context) (b : Block) → or_pass c (or_one_pass b) ≡ or_one_pass b
kept_stays c end = or_pass_next c Pass end
kept_stays c (next a b) = or_pass_next c a b

branch_carried : (c : Context) (keep : Branch) (k : Fork)
    → Carries (out_of_branch keep k) (fork_block k) (or_pass c (kept keep k))
branch_carried c keep k =
    let b = branch_at keep k in
    subst (Carries (out_of_branch keep k) (fork_block k)) (sym (kept_stays c b)) (
      record {
        was = in_fork keep k (here (b, end));
        is = here (b, behind b);
        before = all_of_branch keep k;
        after = ap (option_map here) (kept_parted b);
        alike = refl;
      },
      tt,
    )

pub keep_is_carrying : (keep : Branch) → IsCarrying (keep_rule keep)
keep_is_carrying keep = record {
  carries = λ a is. (
      let on = on_fork keep a is in
      subst (λ o. Carries (of_fork (out_of_branch keep) o) (old a.spot)
      (or_pass (around a.spot) a.draft)) (sym on.found)
      (subst (λ b. Carries (out_of_branch keep on.fork) b (or_pass (around a.spot) a.draft))
      (sym on.is)
      (subst (λ d. Carries (out_of_branch keep on.fork) (fork_block on.fork)
      (or_pass (around a.spot) d)) on.made
      (branch_carried (around a.spot) keep on.fork)))
      );
  apart = λ a is. apart_there (fork_of (old a.spot));
}
  where
    apart_there : (o : Option Fork) → are_apart (of_fork (out_of_branch keep) o) ≡ true
    apart_there None = refl
    apart_there (Some k) = refl

-- ---- a loop that has no turn

none_from : (lo hi : ℤ) → hi ≤ℤ lo → range lo (count (hi -ℤ lo)) ≡ []
none_from lo hi less =
    ap (range lo) (none (hi -ℤ lo) (let k : (hi -ℤ lo) ≤ℤ pos 0 = omega (arith, ints) in k))
  where
    none : (z : ℤ) → z ≤ℤ pos 0 → count z ≡ 0
    none (pos n) h = omega (arith, ints)
    none (negsuc n) h = refl

no_turn : (scene : Scene) (l : Loop) → holds scene (Le l.hi l.lo) ≡ true
    → turns_of scene l.lo l.hi ≡ []
no_turn scene l h =
    let lo = number scene l.lo in
    let hi = number scene l.hi in none_from lo hi (le_of hi lo h)

pub empty_loop_is_lawful : IsLawful empty_loop_rule
empty_loop_is_lawful = record {
  replaces = λ a is versions met. (
      let but = fields_at_exit empty_loop_rule a in
      let on = on_loop loop_of (λ l base. next Pass end) a is.at is.chosen is.made is.drafted in
      let l = on.loop in
      let needs =
      of_found (loop_of (old a.spot)) (no_turn_needs a.spot.piece.path) l a.spot.target on.found met
      in
      subst (λ d. Replaces a.spot d but) on.made
      (loops_of_no_turn_may_go a.spot l but (record {
        is = loop_of_is (old a.spot) l on.found;
        turns = λ first u good come stands.
            no_turn u.scene l
            (there a.spot (Holds (Le l.hi l.lo)) is.spot on.single needs.0 first u good come stands);
      })).1
      );
}

pub empty_loop_is_carrying : IsCarrying empty_loop_rule
empty_loop_is_carrying = record {
  carries = λ a is. none_go (loop_of (old a.spot)) (old a.spot) (or_pass (around a.spot) a.draft);
  apart = λ a is. none_apart (loop_of (old a.spot));
}
  where
    none_go : (o : Option Loop) (b c : Block) → Carries (elim o [ None ↦ [] | Some l ↦ [] ]) b c
    none_go None b c = tt
    none_go (Some l) b c = tt

    none_apart : (o : Option Loop) → are_apart (elim o [ None ↦ [] | Some l ↦ [] ]) ≡ true
    none_apart None = refl
    none_apart (Some l) = refl
