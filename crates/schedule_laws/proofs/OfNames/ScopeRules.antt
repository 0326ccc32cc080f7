-- The rule that joins two loops, and the one by which a condition or a loop goes outside of what stands
-- round it, give names that were there.
use Rattle.std.proofs.Common.{◌≡◌, ◌==◌, ◌&&◌, ℕ, Bool, true, false, if◌then◌else◌}
use Rattle.std.proofs.Common.{Option, Some, None, option_map, option_and_then, subst}
use Rattle.exo_tree.specs.Tree.{Condition, Statement, Assign, Reduce, Config, Pass, If, For, Alloc}
use Rattle.exo_tree.specs.Tree.{View, Call, Block, end, next}
use Rattle.exo_meaning.specs.Unseen.{in_condition}
use Rattle.exo_types_laws.specs.Shown.Names.{IsName}
use Rattle.exo_types_laws.specs.Shown.Named.{IsNamedStatement, IsNamedBlock}
use Rattle.place_laws.specs.Order.TurnsOfTwo.{Loop}
use Rattle.cursor_forward.specs.Causes.{WrongShape, Form, WideNumber}
use Rattle.step_rules.specs.Rule.{Got, Not}
use Rattle.step_rules.specs.Shapes.{tried, alone_in}
use Rattle.step_rules.proofs.Proposals.{then_got, unless_got}
use Rattle.step_rules.proofs.Shapes.{made_of, alone_is}
use Rattle.loop_laws.specs.Shapes.{loop_in}
use Rattle.loop_laws.proofs.Sites.{found_then}
use Rattle.loop_laws.specs.Bounds.{bounds_differ}
use Rattle.loop_laws.specs.JoinLoops.{have_one_body, meet_in_variables}
use Rattle.loop_laws.specs.Nest.Fuse.{Two, with_second, two_of}
use Rattle.loop_laws.specs.JoinLoops.{with_one_body, where_they_meet, joining, joined_loop, joining_at}
use Rattle.loop_laws.specs.JoinLoops.{join_rule}
use Rattle.proc_laws.specs.Statement.DeadCode.{fork_in}
use Rattle.proc_laws.specs.Statement.LiftScope.{Lifting, OutOfLoop, OutOfBranch, LoopOut}
use Rattle.proc_laws.specs.Statement.LiftScope.{out_of_loop, fork_in_loop, in_only_branch, lifting_in}
use Rattle.proc_laws.specs.Statement.LiftScope.{lifting_of, over, over_other, lifted, lift_rule}
use Rattle.schedule_laws.specs.Names.Rules.{IsNaming}
use Rattle.schedule_laws.proofs.OfNames.LoopRules.{got_same, some_same, fresh_named}
use Rattle.schedule_laws.proofs.OfNames.LoopRules.{IsNamedLoop, loop_named}
use Rattle.schedule_laws.proofs.OfNames.OrderRules.{where_same, unless_same, fork_named}

-- ---- two loops with one body

first_is : (k : Loop) (o : Option Loop) (n : Two)
    → option_map (λ l. record { first = k; second = l }) o ≡ Some n → k ≡ n.first
first_is k None n h = cc
first_is k (Some l) n h = cc

first_named : (b : Block) (n : Two) → two_of b ≡ Some n → IsNamedBlock b
    → IsNamedLoop n.first
first_named end n found h = cc
first_named (next a end) n found h = cc
first_named (next a (next b end)) n found h =
    let k = found_then (loop_in a) (with_second b) n found in
    subst IsNamedLoop (first_is k.0 (loop_in b) n k.2) (loop_named (next a end) k.0 k.1 (h.0, tt))
first_named (next a (next b (next c rest))) n found h = cc

meet_same : (k n : Two) → where_they_meet k ≡ Got n → k ≡ n
meet_same k n h = got_same (unless_got (bounds_differ k.second.lo k.first.hi) (Got k) n h).1

joining_named : (base : ℕ) (b : Block) (n : Two) → joining base b ≡ Got n → IsNamedBlock b
    → IsNamedLoop n.first
joining_named base b n found h =
    let read = option_and_then (with_one_body base) (two_of b) in
    let t = then_got (tried read (λ m. m)) where_they_meet n found in
    let d = made_of read (λ m. m) t.0 t.1 in
    let k = found_then (two_of b) (with_one_body base) d.of d.found in
    let same = where_same (have_one_body base k.0 && meet_in_variables k.0) k.0 d.of k.2 in
    subst (λ (m : Two). IsNamedLoop m.first) (meet_same t.0 n t.2)
    (subst (λ (m : Two). IsNamedLoop m.first) d.made
    (subst (λ (m : Two). IsNamedLoop m.first) same (first_named b k.0 k.1 h)))

pub join_names : IsNaming join_rule
join_names = record {
  name = λ p h. h;
  draft = λ s how base made unit proc piece h.
      let t = then_got (joining_at s) (λ n. Got (joined_loop n)) made h in
      let first = joining_named _ s.opened.piece t.0 t.1 piece in
      subst IsNamedBlock (got_same t.2) ((first.name, first.body), tt);
}

-- ---- what goes outside

abbrev IsNamedLifting : Lifting → Type 0
IsNamedLifting (OutOfLoop l k) =
    IsName l.binder.name × (IsNamedBlock k.main × IsNamedBlock k.other)
IsNamedLifting (OutOfBranch c k) = IsNamedBlock k.main
IsNamedLifting (LoopOut c l) = IsNamedLoop l

in_loop_named : (l : Loop) (a : Statement) (x : Lifting) → fork_in_loop l a ≡ Some x
    → IsName l.binder.name → IsNamedStatement a → IsNamedLifting x
in_loop_named l a x found name h =
    let k = found_then (fork_in a) (out_of_loop l) x found in
    let mentioned = in_condition (λ y. y == l.binder.id) k.0.test in
    subst IsNamedLifting (unless_same mentioned (OutOfLoop l k.0) x k.2)
    (name, fork_named a k.0 k.1 h)

in_branch_named : (c : Condition) (a : Statement) (x : Lifting) → in_only_branch c a ≡ Some x
    → IsNamedStatement a → IsNamedLifting x
in_branch_named c (Assign y is e) x found h = cc
in_branch_named c (Reduce y is e) x found h = cc
in_branch_named c (Config f a) x found h = cc
in_branch_named c Pass x found h = cc
in_branch_named c (If d a end) x found h = subst IsNamedLifting (some_same found) h.0
in_branch_named c (If d a (next e b)) x found h = cc
in_branch_named c (For i lo hi b) x found h =
    subst IsNamedLifting (some_same found) (record { name = h.0; body = h.1 })
in_branch_named c (Alloc y cell dims memory) x found h = cc
in_branch_named c (View w y coords) x found h = cc
in_branch_named c (Call k args) x found h = cc

lifting_named : (a : Statement) (x : Lifting) → lifting_in a ≡ Some x → IsNamedStatement a
    → IsNamedLifting x
lifting_named (Assign y is e) x found h = cc
lifting_named (Reduce y is e) x found h = cc
lifting_named (Config f a) x found h = cc
lifting_named Pass x found h = cc
lifting_named (If c a end) x found h =
    let f = found_then (alone_in a) (in_only_branch c) x found in
    let alone = subst IsNamedBlock (alone_is a f.0 f.1) h.0 in
    in_branch_named c f.0 x f.2 alone.0
lifting_named (If c a (next d b)) x found h = cc
lifting_named (For i lo hi b) x found h =
    let l : Loop = record { binder = i; lo = lo; hi = hi; body = b } in
    let f = found_then (alone_in b) (fork_in_loop l) x found in
    let alone = subst IsNamedBlock (alone_is b f.0 f.1) h.1 in
    in_loop_named l f.0 x f.2 h.0 alone.0
lifting_named (Alloc y cell dims memory) x found h = cc
lifting_named (View w y coords) x found h = cc
lifting_named (Call k args) x found h = cc

other_named : (l : Loop) (b : Block) (base : ℕ) → IsName l.binder.name → IsNamedBlock b
    → IsNamedBlock (over_other l b base)
other_named l end base name h = tt
other_named l (next a b) base name h = fresh_named base (over l (next a b)) ((name, h), tt)

lifted_named : (x : Lifting) (base : ℕ) → IsNamedLifting x → IsNamedBlock (lifted x base)
lifted_named (OutOfLoop l k) base h =
    ((((h.0, h.1.0), tt), other_named l k.other base h.0 h.1.1), tt)
lifted_named (OutOfBranch c k) base h = ((((h, tt), tt), tt), tt)
lifted_named (LoopOut c l) base h = ((h.name, ((h.body, tt), tt)), tt)

pub lift_names : IsNaming lift_rule
lift_names = record {
  name = λ p h. h;
  draft = λ s how base made unit proc piece h.
      let d = made_of (lifting_of s.opened.piece) (λ x. lifted x base) made h in
      let a = found_then (alone_in s.opened.piece) lifting_in d.of d.found in
      let is = subst IsNamedBlock (alone_is s.opened.piece a.0 a.1) piece in
      subst IsNamedBlock d.made (lifted_named d.of base (lifting_named a.0 d.of a.2 is.0));
}
