-- The rules that change the order of loops and statements, and those that take loops and conditions
-- away, give names that were there.
use Rattle.std.proofs.Common.{◌≡◌, ◌==◌, ◌&&◌, ℕ, zero, suc, Bool, true, false, if◌then◌else◌, []}
use Rattle.std.proofs.Common.{Option, Some, None, option_map, option_and_then, refl, subst, ◌∙◌}
use Rattle.exo_tree.specs.Tree.{Var, Statement, Assign, Reduce, Config, Pass, If, For, Alloc, View}
use Rattle.exo_tree.specs.Tree.{Call, Block, end, next}
use Rattle.exo_tree.specs.Places.{Branch, Main, Else, parted}
use Rattle.exo_meaning.specs.Unseen.{in_statement, in_block as mentions}
use Rattle.meaning_laws.specs.Sound.{binds}
use Rattle.exo_types_laws.specs.Shown.Named.{IsNamedStatement, IsNamedBlock}
use Rattle.place_laws.specs.Scope.UnrollLoop.{only_loop}
use Rattle.place_laws.specs.Order.Reorder.{pair}
use Rattle.place_laws.specs.Order.TurnsOfTwo.{Loop}
use Rattle.step_rules.specs.Rule.{Got}
use Rattle.step_rules.specs.Answer.{unless}
use Rattle.step_rules.specs.Shapes.{tried, alone_in}
use Rattle.step_rules.proofs.Proposals.{then_got, unless_got}
use Rattle.step_rules.proofs.Shapes.{made_of, alone_is}
use Rattle.loop_laws.specs.Shapes.{loop_in, loop_of}
use Rattle.loop_laws.proofs.Sites.{found_then}
use Rattle.loop_laws.specs.Nest.Fission.{Parting, may_part, where_it_may, parted_at, parting_of}
use Rattle.loop_laws.specs.Nest.Fission.{parted_loops, fission_rule}
use Rattle.loop_laws.specs.Bounds.{bounds_differ}
use Rattle.loop_laws.specs.Nest.Fuse.{Two, with_second, two_of, both_are_affine, in_variables}
use Rattle.loop_laws.specs.Nest.Fuse.{where_they_agree, fusing, second_body, fused, fuse_rule}
use Rattle.loop_laws.specs.Nest.ReorderLoops as loops
use Rattle.loop_laws.specs.Nest.ReorderLoops.{Nest, bounds_lack, with_inner, nest_of, turned}
use Rattle.proc_laws.specs.Statement.DeadCode.{Fork, fork_in, fork_of, branch_at, kept}
use Rattle.proc_laws.specs.Statement.DeadCode.{keep_rule, empty_loop_rule}
use Rattle.proc_laws.specs.Statement.RemoveLoop.{without_variable, removable, out_of_loop, remove_rule}
use Rattle.proc_laws.specs.Statement.ReorderStatements as statements
use Rattle.proc_laws.specs.Statement.ReorderStatements.{Neighbours, both_of, unbound_by_first}
use Rattle.proc_laws.specs.Statement.ReorderStatements.{neighbours_of}
use Rattle.schedule_laws.specs.Names.Rules.{IsNaming}
use Rattle.schedule_laws.proofs.OfNames.Blocks.{joined_named}
use Rattle.schedule_laws.proofs.OfNames.LoopRules.{got_same, some_same, replaced_named, fresh_named}
use Rattle.schedule_laws.proofs.OfNames.LoopRules.{IsNamedLoop, loop_named, loop_names}
use Rattle.tree_edits.specs.Made.Passes.{or_one_pass}

pub where_same : {A : Type 0} (t : Bool) (a b : A) → (if t then Some a else None) ≡ Some b → a ≡ b
where_same true a b h = some_same h
where_same false a b h = cc

pub unless_same : {A : Type 0} (t : Bool) (a b : A) → (if t then None else Some a) ≡ Some b → a ≡ b
unless_same true a b h = cc
unless_same false a b h = some_same h

-- ---- a loop in a loop

nest_named :
    (b : Block) (n : Nest)
    → nest_of b ≡ Some n → IsNamedBlock b → IsNamedLoop n.outer × IsNamedLoop n.inner
nest_named b n found h =
    let k = found_then (loop_of b) (λ (k : Loop). option_and_then (with_inner k) (loop_of k.body)) n found in
    let outer = loop_named b k.0 k.1 h in
    let l = found_then (loop_of k.0.body) (with_inner k.0) n k.2 in
    let same = where_same (bounds_lack k.0.binder.id l.0) (record { outer = k.0; inner = l.0 }) n l.2 in
    subst (λ (m : Nest). IsNamedLoop m.outer × IsNamedLoop m.inner) same
    (outer, loop_named k.0.body l.0 l.1 outer.body)

pub reorder_names : IsNaming loops.reorder_rule
reorder_names = record {
  name = λ p h. h;
  draft = λ s how base made unit proc piece h.
      let d = made_of (nest_of s.opened.piece) turned made h in
      let is = nest_named s.opened.piece d.of d.found piece in
      subst IsNamedBlock d.made ((is.1.name, ((is.0.name, is.1.body), tt)), tt);
}

-- ---- two loops

abbrev AreNamedLoops : Two → Type 0
AreNamedLoops p = IsNamedLoop p.first × IsNamedLoop p.second

second_of : (k : Loop) (o : Option Loop) (p : Two)
    → option_map (λ l. record { first = k; second = l }) o ≡ Some p
    → (l : Loop) × (o ≡ Some l) × (record { first = k; second = l } ≡ p)
second_of k None p h = cc
second_of k (Some l) p h = (l, refl, some_same h)

both_named : (a b : Statement) (p : Two)
    → option_and_then (with_second b) (loop_in a) ≡ Some p
    → IsNamedStatement a → IsNamedStatement b → AreNamedLoops p
both_named a b p found h g =
    let k = found_then (loop_in a) (with_second b) p found in
    let l = second_of k.0 (loop_in b) p k.2 in
    subst AreNamedLoops l.2
    (loop_named (next a end) k.0 k.1 (h, tt), loop_named (next b end) l.0 l.1 (g, tt))

two_named : (b : Block) (p : Two) → two_of b ≡ Some p → IsNamedBlock b → AreNamedLoops p
two_named end p found h = cc
two_named (next a end) p found h = cc
two_named (next a (next b end)) p found h = both_named a b p found h.0 h.1.0
two_named (next a (next b (next c rest))) p found h = cc

they_stay : (p q : Two) → where_they_agree p ≡ Got q → p ≡ q
they_stay p q h =
    let low = unless_got (bounds_differ p.first.lo p.second.lo)
    (unless (bounds_differ p.first.hi p.second.hi) (Got p)) q h in
    got_same (unless_got (bounds_differ p.first.hi p.second.hi) (Got p) q low.1).1

fusing_named : (b : Block) (p : Two) → fusing b ≡ Got p → IsNamedBlock b → AreNamedLoops p
fusing_named b p found h =
    let read = option_and_then in_variables (two_of b) in
    let t = then_got (tried read (λ q. q)) where_they_agree p found in
    let d = made_of read (λ q. q) t.0 t.1 in
    let q = found_then (two_of b) in_variables d.of d.found in
    subst AreNamedLoops (where_same (both_are_affine q.0) q.0 d.of q.2 ∙ d.made ∙ they_stay t.0 p t.2)
    (two_named b q.0 q.1 h)

fused_named : (p : Two) → AreNamedLoops p → IsNamedBlock (fused p)
fused_named p h =
    let second = replaced_named p.second.binder.id (Var p.first.binder.id) p.second.body h.1.body in
    ((h.0.name, joined_named p.first.body (second_body p) h.0.body second), tt)

pub fuse_names : IsNaming fuse_rule
fuse_names = record {
  name = λ p h. h;
  draft = λ s how base made unit proc piece h.
      let t = then_got (fusing s.opened.piece) (λ p. Got (fused p)) made h in
      subst IsNamedBlock (got_same t.2)
      (fused_named t.0 (fusing_named s.opened.piece t.0 t.1 piece));
}

-- ---- a loop in parts

abbrev AreNamedBlocks : Block × Block → Type 0
AreNamedBlocks p = IsNamedBlock p.0 × IsNamedBlock p.1

parts_named : (n : ℕ) (b : Block) (p : Block × Block)
    → parted n b ≡ Some p → IsNamedBlock b → AreNamedBlocks p
parts_named zero b p found h = subst AreNamedBlocks (some_same found) (tt, h)
parts_named (suc n) end p found h = cc
parts_named (suc n) (next a b) p found h = by (parted n b) (λ q e. parts_named n b q e h.1) found
  where
    by : (o : Option (Block × Block))
        → ((q : Block × Block) → o ≡ Some q → AreNamedBlocks q)
        → option_map (λ q. (next a q.0, q.1)) o ≡ Some p → AreNamedBlocks p
    by None are e = cc
    by (Some q) are e =
        let is = are q refl in
        subst AreNamedBlocks (some_same e) ((h.0, is.0), is.1)

record IsNamedParting (p : Parting) : Type 0 where
  loop : IsNamedLoop p.loop
  parts : AreNamedBlocks (p.first, p.second)

parting_named : (count : ℕ) (b : Block) (p : Parting)
    → parting_of count b ≡ Some p → IsNamedBlock b → IsNamedParting p
parting_named count b p found h =
    let l = found_then (loop_of b) (parted_at count) p found in
    let loop = loop_named b l.0 l.1 h in
    let q = found_then (parted count l.0.body) (where_it_may l.0) p l.2 in
    let made : Parting = record { loop = l.0; first = q.0.0; second = q.0.1 } in
    subst IsNamedParting (where_same (may_part q.0) made p q.2)
    (record { loop = loop; parts = parts_named count l.0.body q.0 q.1 loop.body })

pub fission_names : (count : ℕ) → IsNaming (fission_rule count)
fission_names count = record {
  name = λ p h. h;
  draft = λ s how base made unit proc piece h.
      let d = made_of (parting_of count s.opened.piece) (λ p. parted_loops p base) made h in
      let is = parting_named count s.opened.piece d.of d.found piece in
      let l = d.of.loop in
      subst IsNamedBlock d.made (
        (is.loop.name, is.parts.0),
        fresh_named base (only_loop l.binder l.lo l.hi d.of.second) ((is.loop.name, is.parts.1), tt),
      );
}

-- ---- what is never run

pub fork_named : (a : Statement) (k : Fork) → fork_in a ≡ Some k → IsNamedStatement a
    → IsNamedBlock k.main × IsNamedBlock k.other
fork_named (Assign x is e) k found h = cc
fork_named (Reduce x is e) k found h = cc
fork_named (Config f a) k found h = cc
fork_named Pass k found h = cc
fork_named (If c a b) k found h =
    subst (λ (x : Fork). IsNamedBlock x.main × IsNamedBlock x.other) (some_same found) h
fork_named (For i lo hi b) k found h = cc
fork_named (Alloc x cell dims memory) k found h = cc
fork_named (View w x coords) k found h = cc
fork_named (Call i args) k found h = cc

one_pass_named : (b : Block) → IsNamedBlock b → IsNamedBlock (or_one_pass b)
one_pass_named end h = (tt, tt)
one_pass_named (next a b) h = h

branch_named : (keep : Branch) (k : Fork) → IsNamedBlock k.main × IsNamedBlock k.other
    → IsNamedBlock (branch_at keep k)
branch_named Main k h = h.0
branch_named Else k h = h.1

pub keep_names : (keep : Branch) → IsNaming (keep_rule keep)
keep_names keep = record {
  name = λ p h. h;
  draft = λ s how base made unit proc piece h.
      let d = made_of (fork_of s.opened.piece) (kept keep) made h in
      let a = found_then (alone_in s.opened.piece) fork_in d.of d.found in
      let is = subst IsNamedBlock (alone_is s.opened.piece a.0 a.1) piece in
      subst IsNamedBlock d.made (one_pass_named (branch_at keep d.of)
      (branch_named keep d.of (fork_named a.0 d.of a.2 is.0)));
}

pub empty_loop_names : IsNaming empty_loop_rule
empty_loop_names =
    let is = loop_names loop_of (λ l base. next Pass end) (λ l. []) loop_named (λ l base h. (tt, tt)) in
    record { name = is.name; draft = is.draft }

removable_named : (b : Block) (l : Loop) → removable b ≡ Some l → IsNamedBlock b → IsNamedLoop l
removable_named b l found h =
    let k = found_then (loop_of b) without_variable l found in
    subst IsNamedLoop (unless_same (mentions (λ x. x == k.0.binder.id) k.0.body) k.0 l k.2)
    (loop_named b k.0 k.1 h)

pub remove_names : IsNaming remove_rule
remove_names =
    let is = loop_names removable (λ l base. l.body) out_of_loop removable_named (λ l base h. h.body) in
    record { name = is.name; draft = is.draft }

-- ---- two statements

abbrev AreNamedStatements : Neighbours → Type 0
AreNamedStatements n = IsNamedStatement n.first × IsNamedStatement n.second

neighbours_named : (b : Block) (n : Neighbours)
    → both_of b ≡ Some n → IsNamedBlock b → AreNamedStatements n
neighbours_named end n found h = cc
neighbours_named (next a end) n found h = cc
neighbours_named (next a (next b end)) n found h =
    subst AreNamedStatements (some_same found) (h.0, h.1.0)
neighbours_named (next a (next b (next c rest))) n found h = cc

pub exchange_names : IsNaming statements.reorder_rule
exchange_names = record {
  name = λ p h. h;
  draft = λ s how base made unit proc piece h.
      let d = made_of (neighbours_of s.opened.piece) (λ n. pair n.second n.first) made h in
      let n = found_then (both_of s.opened.piece) unbound_by_first d.of d.found in
      let is = neighbours_named s.opened.piece n.0 n.1 piece in
      let mentioned = in_statement (binds n.0.first) n.0.second in
      let same = unless_same mentioned n.0 d.of n.2 in
      let of = subst AreNamedStatements same is in
      subst IsNamedBlock d.made (of.1, (of.0, tt));
}
