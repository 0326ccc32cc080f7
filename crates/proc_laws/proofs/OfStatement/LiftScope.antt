-- The rule by which a condition or a loop goes outside of what stands round it is lawful.
use Rattle.std.proofs.Common.{◌≡◌, ◌<◌, ℕ, ◌==◌, Bool, true, false, ◌&&◌, ◌||◌, not, true≢false, List}
use Rattle.std.proofs.Common.{length, Option, Some, None, refl, sym, ap, ◌∙◌, subst}
use Rattle.std.specs.Prelude.{⊤, if◌then◌else◌, option_map}
use Rattle.exo_tree.specs.Tree.{Index, Condition, Statement, Assign, Reduce, Config}
use Rattle.exo_tree.specs.Tree.{Pass, If, For, Alloc, View, Call, Block, end, next, statements}
use Rattle.exo_tree.specs.Context.{Context, Here, InLoop, InThen, InElse, fill}
use Rattle.exo_tree.specs.Mapped.{mapped_block}
use Rattle.exo_tree.specs.Places.{Opened, parted, opened}
use Rattle.exo_tree.specs.Renaming.{fresh, renaming, fresh_id}
use Rattle.exo_tree.specs.Renaming as code
use Rattle.exo_meaning.specs.Run.{run, kinds_of}
use Rattle.exo_meaning.specs.Units.{Scope, ControlName, with_name, with_fields, is_new, is_empty}
use Rattle.exo_meaning.specs.Units.{is_short, is_condition, is_block, is_statement}
use Rattle.exo_meaning.specs.Units.{field_kind}
use Rattle.exo_meaning.specs.Unseen.{in_condition}
use Rattle.meaning_laws.specs.Fields.{writes_field}
use Rattle.meaning_laws.specs.Live.{read_by_condition}
use Rattle.meaning_laws.specs.UnitFields.{unit_writes}
use Rattle.meaning_laws.proofs.FirstState.{new_is_none}
use Rattle.meaning_laws.proofs.Substitute.{and_parts}
use Rattle.meaning_laws.proofs.UnitFields.{unit_leaves}
use Rattle.place_laws.specs.Scope.BranchesAtPlaces.{only_branch}
use Rattle.place_laws.specs.Scope.Roots.{own_roots_at}
use Rattle.place_laws.specs.Scope.UnrollLoop.{only_loop}
use Rattle.place_laws.proofs.OfScope.BranchesAtPlaces.{lift_law}
use Rattle.place_laws.proofs.OfScope.Turns.{lift_then_law, steady_in_loop_law, swap_branches_law}
use Rattle.tree_edits.specs.Made.Passes.{or_pass}
use Rattle.cursor_forward.specs.Causes.{ConfigWrite}
use Rattle.cursor_forward.specs.Forwards.{Carries, are_apart}
use Rattle.place_laws.specs.Order.TurnsOfTwo.{Loop}
use Rattle.step_rules.specs.Rule.{Spot}
use Rattle.step_rules.specs.Lawful.{IsSpot, Site, IsSite, Replaces, same, whole, IsLawful, IsCarrying}
use Rattle.step_rules.specs.Lawful.{around, old, world_of, callees_for, scope_here, fields_at_exit}
use Rattle.step_rules.specs.Shapes.{alone_in}
use Rattle.step_rules.proofs.Shapes.{made_of, alone_is, or_pass_next}
use Rattle.loop_laws.proofs.Bones.{all_parted, same_bones, same_length}
use Rattle.loop_laws.proofs.Sites.{found_then, is_below, body_keeps, keeps_here}
use Rattle.proc_laws.specs.Statement.DeadCode.{Fork}
use Rattle.proc_laws.specs.Statement.LiftScope.{Lifting, OutOfLoop, OutOfBranch, LoopOut}
use Rattle.proc_laws.specs.Statement.LiftScope.{fork_in_loop, in_only_branch, lifting_in}
use Rattle.proc_laws.specs.Statement.LiftScope.{lifting_of, over, over_other, lifted, writes_read}
use Rattle.proc_laws.specs.Statement.LiftScope.{changes_condition, lift_refusal, turned_round}
use Rattle.proc_laws.specs.Statement.LiftScope.{loop_in_else, else_shifts, lift_shifts}
use Rattle.proc_laws.specs.Statement.LiftScope.{shifts_of_lifting, lift_rule}
use Rattle.proc_laws.proofs.OfStatement.Fields.{no_field, unit_below, block_below}
use Rattle.proc_laws.proofs.OfStatement.Lacking.{condition_lacks}

-- ---- what is read

-- the statement that stood there, as a block
abbrev stood : Lifting → Block
stood (OutOfLoop l k) = over l (only_branch k.test k.main k.other)
stood (OutOfBranch c k) = only_branch c (only_branch k.test k.main end) end
stood (LoopOut c l) = only_branch c (over l l.body) end

-- a condition that leaves a loop lacks its variable
abbrev Lacks : Lifting → Type 0
Lacks (OutOfLoop l k) = in_condition (λ x. x == l.binder.id) k.test ≡ false
Lacks (OutOfBranch c k) = ⊤
Lacks (LoopOut c l) = ⊤

record IsRead (b : Block) (x : Lifting) : Type 0 where
  is : b ≡ stood x
  lacks : Lacks x

some_same : {A : Type 0} {a b : A} → Some a ≡ Some b → a ≡ b
some_same e = cc

-- a condition in a loop
by_test : (l : Loop) (k : Fork) (x : Lifting) (t : Bool)
    → in_condition (λ y. y == l.binder.id) k.test ≡ t
    → (if t then None else Some (OutOfLoop l k)) ≡ Some x
    → IsRead (over l (only_branch k.test k.main k.other)) x
by_test l k x true e h = cc
by_test l k x false e h =
    subst (IsRead (over l (only_branch k.test k.main k.other))) (some_same h)
    (record { is = refl; lacks = e })

read_in_loop : (l : Loop) (a : Statement) (x : Lifting) → fork_in_loop l a ≡ Some x
    → IsRead (over l (next a end)) x
read_in_loop l (Assign y is e) x h = cc
read_in_loop l (Reduce y is e) x h = cc
read_in_loop l (Config f a) x h = cc
read_in_loop l Pass x h = cc
read_in_loop l (If c a b) x h =
    by_test l (record { test = c; main = a; other = b }) x
    (in_condition (λ y. y == l.binder.id) c) refl h
read_in_loop l (For i lo hi b) x h = cc
read_in_loop l (Alloc y cell dims memory) x h = cc
read_in_loop l (View w y coords) x h = cc
read_in_loop l (Call k args) x h = cc

-- a statement in a condition without `else`
read_in_branch : (c : Condition) (a : Statement) (x : Lifting) → in_only_branch c a ≡ Some x
    → IsRead (only_branch c (next a end) end) x
read_in_branch c (Assign y is e) x h = cc
read_in_branch c (Reduce y is e) x h = cc
read_in_branch c (Config f a) x h = cc
read_in_branch c Pass x h = cc
read_in_branch c (If d a end) x h =
    subst (IsRead (only_branch c (only_branch d a end) end)) (some_same h)
    (record { is = refl; lacks = tt })
read_in_branch c (If d a (next e b)) x h = cc
read_in_branch c (For i lo hi b) x h =
    subst (IsRead (only_branch c (only_loop i lo hi b) end)) (some_same h)
    (record { is = refl; lacks = tt })
read_in_branch c (Alloc y cell dims memory) x h = cc
read_in_branch c (View w y coords) x h = cc
read_in_branch c (Call k args) x h = cc

read_of : (a : Statement) (x : Lifting) → lifting_in a ≡ Some x → IsRead (next a end) x
read_of (Assign y is e) x h = cc
read_of (Reduce y is e) x h = cc
read_of (Config f a) x h = cc
read_of Pass x h = cc
read_of (If c a end) x h =
    let f = found_then (alone_in a) (in_only_branch c) x h in
    subst (λ b. IsRead (only_branch c b end) x) (sym (alone_is a f.0 f.1))
    (read_in_branch c f.0 x f.2)
read_of (If c a (next d b)) x h = cc
read_of (For i lo hi b) x h =
    let l : Loop = record { binder = i; lo = lo; hi = hi; body = b } in
    let f = found_then (alone_in b) (fork_in_loop l) x h in
    subst (λ d. IsRead (only_loop i lo hi d) x) (sym (alone_is b f.0 f.1))
    (read_in_loop l f.0 x f.2)
read_of (Alloc y cell dims memory) x h = cc
read_of (View w y coords) x h = cc
read_of (Call k args) x h = cc

lifting_is : (b : Block) (x : Lifting) → lifting_of b ≡ Some x → IsRead b x
lifting_is b x h =
    let f = found_then (alone_in b) lifting_in x h in
    subst (λ d. IsRead d x) (sym (alone_is b f.0 f.1)) (read_of f.0 x f.2)

-- ---- what is not refused

some_none : {A : Type 0} {a : A} → Some a ≡ None → ⊥
some_none e = cc

not_refused : (s : Spot) (o : Option Lifting) (x : Lifting) → o ≡ Some x → lift_refusal s o ≡ None
    → changes_condition s x ≡ false
not_refused s o x found allowed =
    by (changes_condition s x) (sym (ap (lift_refusal s) found) ∙ allowed)
  where
    by : (t : Bool) → (if t then Some ConfigWrite else None) ≡ None → t ≡ false
    by true h = absurd (some_none h)
    by false h = refl

and_then : (t v : Bool) → (t && v) ≡ false → t ≡ true → v ≡ false
and_then true v h e = h
and_then false v h e = absurd (true≢false (sym e))

-- each field that the block writes is one of the unit
abbrev WritesFields : Spot → Block → Type 0
WritesFields s b =
    (f : ℕ)
    → writes_field (unit_writes s.target.unit.procedures) f b ≡ true
    → f < length s.target.unit.fields

-- then it writes none that the condition reads
writes_none : (s : Spot) (c : Condition) (b : Block) → WritesFields s b → writes_read s c b ≡ false
    → (f : ℕ) → read_by_condition f c ≡ true
    → writes_field (unit_writes s.target.unit.procedures) f b ≡ false
writes_none s c b below none f read =
    by (writes_field (unit_writes s.target.unit.procedures) f b) refl
  where
    reads_and_writes : ℕ → Bool
    reads_and_writes g =
        read_by_condition g c && writes_field (unit_writes s.target.unit.procedures) g b

    by : (t : Bool) → writes_field (unit_writes s.target.unit.procedures) f b ≡ t → t ≡ false
    by false e = refl
    by true e =
        sym e
        ∙ and_then (read_by_condition f c) (writes_field (unit_writes s.target.unit.procedures) f b)
        (no_field s.target.unit.fields reads_and_writes f none (below f e)) read

module _ (s : Spot) (is : IsSpot s) where
  -- a block that keeps the rules anywhere
  kept_writes : (scope : Scope) (root : ℕ → ℕ) (b : Block)
      → is_block (field_kind s.target.unit.fields) (length s.target.unit.memories)
      (callees_for s.target) scope root b ≡ true
      → WritesFields s b
  kept_writes scope root b h =
      let unit = s.target.unit in
      let memories = length unit.memories in
      block_below unit.fields memories (callees_for s.target) (unit_writes unit.procedures)
      (unit_below unit.fields memories unit.procedures is.runs.unit) scope root b h

  -- the body of a loop that stands there
  loop_writes : (l : Loop) (b : Block) → keeps_here s (over l b) ≡ true → WritesFields s b
  loop_writes l b h =
      let unit = s.target.unit in
      kept_writes (with_name (scope_here s) l.binder (ControlName Index)) (own_roots_at (around s)) b
      (body_keeps (field_kind unit.fields) (length unit.memories) (callees_for s.target)
      (scope_here s) (own_roots_at (around s)) l.binder l.lo l.hi b end h)

  -- what a condition with one branch keeps
  branch_keeps : (c : Condition) (b : Block) → keeps_here s (only_branch c b end) ≡ true
      → (is_condition (field_kind s.target.unit.fields) with_fields (scope_here s) c ≡ true)
      × (keeps_here s b ≡ true)
  branch_keeps c b h =
      let unit = s.target.unit in
      let kinds = field_kind unit.fields in
      let keeps =
      is_statement kinds (length unit.memories) (callees_for s.target) (scope_here s)
      (own_roots_at (around s)) (If c b end) in
      let p = and_parts (is_condition kinds with_fields (scope_here s) c) _ (and_parts keeps true h).0
      in
      let q = and_parts (not (is_empty b) && (is_short b && is_short end)) _ p.1 in
      (p.0, (and_parts (keeps_here s b) true q.1).0)

  -- a condition round a loop lacks its variable
  round_lacks : (c : Condition) (l : Loop) → keeps_here s (only_branch c (over l l.body) end) ≡ true
      → in_condition (λ x. x == l.binder.id) c ≡ false
  round_lacks c l h =
      let unit = s.target.unit in
      let kinds = field_kind unit.fields in
      let p = branch_keeps c (over l l.body) h in
      let keeps =
      is_statement kinds (length unit.memories) (callees_for s.target) (scope_here s)
      (own_roots_at (around s)) (For l.binder l.lo l.hi l.body) in
      let new = (and_parts (is_new (scope_here s) l.binder) _ (and_parts keeps true p.1).0).0 in
      condition_lacks kinds with_fields (scope_here s) l.binder.id
      (new_is_none (scope_here s) l.binder new) c p.0

-- ---- the runs

module _ (a : Site) (is : IsSite lift_rule a) where
  abbrev s : Spot
  s = a.spot

  abbrev but : List ℕ
  but = fields_at_exit lift_rule a

  stays_there : (x : Lifting) → old s ≡ stood x → keeps_here s (stood x) ≡ true
  stays_there x was = subst (λ b. keeps_here s b ≡ true) was is.spot.well.piece

  out_of_loop_stands : (l : Loop) (k : Fork) → old s ≡ stood (OutOfLoop l k)
      → in_condition (λ x. x == l.binder.id) k.test ≡ false
      → changes_condition s (OutOfLoop l k) ≡ false
      → (other : Block) → k.other ≡ other
      → Replaces s (only_branch k.test (over l k.main) (over_other l other a.base)) but
  out_of_loop_stands l k was lacks none end missing =
      let unit = s.target.unit in
      let body = only_branch k.test k.main k.other in
      let test = k.test in
      let writes =
      writes_none s test body (loop_writes s is.spot l body (stays_there (OutOfLoop l k) was)) none in
      same (λ first u good come stands.
      ap (λ b. run (world_of s) b u) was
      ∙ ap (λ b. run (world_of s) (over l (only_branch test k.main b)) u) missing
      ∙ lift_then_law (world_of s) l.binder l.lo l.hi test k.main u stands.sound
      (steady_in_loop_law (world_of s) (unit_writes unit.procedures) l.binder l.lo l.hi
      (only_branch test k.main end) test u (unit_leaves (kinds_of unit.fields) unit.procedures) lacks
      (λ f read.
      ap (λ b. writes_field (unit_writes unit.procedures) f (only_branch test k.main b)) (sym missing)
      ∙ writes f read)))
  out_of_loop_stands l k was lacks none (next d b) there =
      let unit = s.target.unit in
      let body = only_branch k.test k.main k.other in
      let writes =
      writes_none s k.test body (loop_writes s is.spot l body (stays_there (OutOfLoop l k) was)) none
      in
      subst (λ z. Replaces s (only_branch k.test (over l k.main) (fresh a.base (over l z))) but) there
      (whole (lift_law (world_of s) (unit_writes unit.procedures) s.target.proc (around s) l.binder
      l.lo l.hi k.test k.main k.other a.base
      (unit_leaves (kinds_of unit.fields) unit.procedures)
      (is.spot.body ∙ ap (fill (around s)) was) (is_below a is.spot is.below) lacks writes))

  loop_out_stands : (c : Condition) (l : Loop) → old s ≡ stood (LoopOut c l)
      → changes_condition s (LoopOut c l) ≡ false
      → Replaces s (over l (only_branch c l.body end)) but
  loop_out_stands c l was none =
      let unit = s.target.unit in
      let calls = unit_writes unit.procedures in
      let keeps = stays_there (LoopOut c l) was in
      let writes =
      writes_none s c l.body
      (loop_writes s is.spot l l.body (branch_keeps s is.spot c (over l l.body) keeps).1) none in
      same (λ first u good come stands.
      ap (λ b. run (world_of s) b u) was
      ∙ sym (lift_then_law (world_of s) l.binder l.lo l.hi c l.body u stands.sound
      (steady_in_loop_law (world_of s) calls l.binder l.lo l.hi (only_branch c l.body end) c u
      (unit_leaves (kinds_of unit.fields) unit.procedures) (round_lacks s is.spot c l keeps)
      (λ f read. ap (λ t. (t || false) || false) (writes f read)))))

  lifted_stands : (x : Lifting) → IsRead (old s) x → changes_condition s x ≡ false
      → Replaces s (lifted x a.base) but
  lifted_stands (OutOfLoop l k) r none =
      out_of_loop_stands l k r.is r.lacks none k.other refl
  lifted_stands (OutOfBranch c k) r none =
      same (λ first u good come stands.
      ap (λ b. run (world_of s) b u) r.is ∙ swap_branches_law (world_of s) c k.test k.main u)
  lifted_stands (LoopOut c l) r none = loop_out_stands c l r.is none

pub lift_is_lawful : IsLawful lift_rule
lift_is_lawful = record {
  replaces = λ a is versions met.
      let o = lifting_of (old a.spot) in
      let d = made_of o (λ x. lifted x a.base) a.draft is.drafted in
      subst (λ b. Replaces a.spot b (fields_at_exit lift_rule a)) d.made
      (lifted_stands a is d.of (lifting_is (old a.spot) d.of d.found)
      (not_refused a.spot o d.of d.found is.allowed));
}

-- ---- where statements go

abbrev here : Block × Block → Opened
here p = record { around = Here p.1; piece = p.0 }

abbrev in_loop : Loop → Opened → Opened
in_loop l o = record { around = InLoop l.binder l.lo l.hi o.around end; piece = o.piece }

abbrev in_main : Condition → Block → Opened → Opened
in_main c other o = record { around = InThen c o.around other end; piece = o.piece }

abbrev in_other : Condition → Block → Opened → Opened
in_other c main o = record { around = InElse c main o.around end; piece = o.piece }

-- all statements of a block that is all of one in another
all_in_two : (f g : Opened → Opened) (b : Block)
    → option_map f (option_map g (option_map here (parted (length (statements b)) b)))
    ≡ Some (f (g (here (b, end))))
all_in_two f g b = ap (λ o. option_map f (option_map g (option_map here o))) (all_parted b)

-- a condition or a loop in another, which change places
out_of_loop_turns : (l : Loop) (k : Fork) (other : Block)
    → Carries (turned_round (length (statements k.main)))
    (over l (only_branch k.test k.main k.other)) (only_branch k.test (over l k.main) other)
out_of_loop_turns l k other = (
  record {
    was = here (over l (only_branch k.test k.main k.other), end);
    is = in_main k.test other (here (over l k.main, end));
    before = refl;
    after = refl;
    alike = refl;
  },
  (
    record {
      was = in_loop l (here (only_branch k.test k.main k.other, end));
      is = here (only_branch k.test (over l k.main) other, end);
      before = refl;
      after = refl;
      alike = refl;
    },
    (
      record {
        was = in_loop l (in_main k.test k.other (here (k.main, end)));
        is = in_main k.test other (in_loop l (here (k.main, end)));
        before = all_in_two (in_loop l) (in_main k.test k.other) k.main;
        after = all_in_two (in_main k.test other) (in_loop l) k.main;
        alike = refl;
      },
      tt,
    ),
  ),
)

out_of_branch_turns : (c : Condition) (k : Fork)
    → Carries (turned_round (length (statements k.main)))
    (only_branch c (only_branch k.test k.main end) end)
    (only_branch k.test (only_branch c k.main end) end)
out_of_branch_turns c k = (
  record {
    was = here (only_branch c (only_branch k.test k.main end) end, end);
    is = in_main k.test end (here (only_branch c k.main end, end));
    before = refl;
    after = refl;
    alike = refl;
  },
  (
    record {
      was = in_main c end (here (only_branch k.test k.main end, end));
      is = here (only_branch k.test (only_branch c k.main end) end, end);
      before = refl;
      after = refl;
      alike = refl;
    },
    (
      record {
        was = in_main c end (in_main k.test end (here (k.main, end)));
        is = in_main k.test end (in_main c end (here (k.main, end)));
        before = all_in_two (in_main c end) (in_main k.test end) k.main;
        after = all_in_two (in_main k.test end) (in_main c end) k.main;
        alike = refl;
      },
      tt,
    ),
  ),
)

loop_out_turns : (c : Condition) (l : Loop)
    → Carries (turned_round (length (statements l.body))) (only_branch c (over l l.body) end)
    (over l (only_branch c l.body end))
loop_out_turns c l = (
  record {
    was = here (only_branch c (over l l.body) end, end);
    is = in_loop l (here (only_branch c l.body end, end));
    before = refl;
    after = refl;
    alike = refl;
  },
  (
    record {
      was = in_main c end (here (over l l.body, end));
      is = here (over l (only_branch c l.body end), end);
      before = refl;
      after = refl;
      alike = refl;
    },
    (
      record {
        was = in_main c end (in_loop l (here (l.body, end)));
        is = in_loop l (in_main c end (here (l.body, end)));
        before = all_in_two (in_main c end) (in_loop l) l.body;
        after = all_in_two (in_loop l) (in_main c end) l.body;
        alike = refl;
      },
      tt,
    ),
  ),
)

-- the statements of the other branch go into the copy of the loop
other_goes : (l : Loop) (test : Condition) (main : Block) (d : Statement) (b : Block) (base : ℕ)
    → Carries (else_shifts (next d b)) (over l (only_branch test main (next d b)))
    (only_branch test (over l main) (fresh base (over l (next d b))))
other_goes l test main d b base =
    let leaves = renaming (fresh_id (code.binders (over l (next d b))) base) in
    let other = next d b in
    let copy = mapped_block leaves other in
    let i = leaves.binder l.binder in
    let lo = code.re_control (fresh_id (code.binders (over l other)) base) l.lo in
    let hi = code.re_control (fresh_id (code.binders (over l other)) base) l.hi in
    let new : Loop = record { binder = i; lo = lo; hi = hi; body = copy } in
    let many : length (statements copy) ≡ length (statements other) = same_length leaves other in (
      record {
        was = in_loop l (in_other test main (here (other, end)));
        is = in_other test (over l main) (in_loop new (here (copy, end)));
        before = all_in_two (in_loop l) (in_other test main) other;
        after =
            subst (λ n. opened n loop_in_else (only_branch test (over l main) (over new copy))
            ≡ Some (in_other test (over l main) (in_loop new (here (copy, end))))) many
            (all_in_two (in_other test (over l main)) (in_loop new) copy);
        alike = sym (same_bones leaves other);
      },
      tt,
    )

out_of_loop_carried : (l : Loop) (k : Fork) (base : ℕ)
    → Carries (lift_shifts (OutOfLoop l k)) (stood (OutOfLoop l k)) (lifted (OutOfLoop l k) base)
out_of_loop_carried l k base = by k.other refl
  where
    by : (other : Block) → k.other ≡ other
        → Carries (lift_shifts (OutOfLoop l (record k { other = other })))
        (over l (only_branch k.test k.main other))
        (only_branch k.test (over l k.main) (over_other l other base))
    by end e = out_of_loop_turns l (record k { other = end }) end
    by (next d b) e = (
      (other_goes l k.test k.main d b base).0,
      out_of_loop_turns l (record k { other = next d b }) (fresh base (over l (next d b))),
    )

lifted_carried : (x : Lifting) (base : ℕ)
    → Carries (lift_shifts x) (stood x) (lifted x base)
lifted_carried (OutOfLoop l k) base = out_of_loop_carried l k base
lifted_carried (OutOfBranch c k) base = out_of_branch_turns c k
lifted_carried (LoopOut c l) base = loop_out_turns c l

-- what is made is one statement
stays_whole : (c : Context) (x : Lifting) (base : ℕ) → or_pass c (lifted x base) ≡ lifted x base
stays_whole c (OutOfLoop l k) base = or_pass_next c _ end
stays_whole c (OutOfBranch d k) base = or_pass_next c _ end
stays_whole c (LoopOut d l) base = or_pass_next c _ end

pub lift_is_carrying : IsCarrying lift_rule
lift_is_carrying = record {
  carries = λ a is. (
      let o = lifting_of (old a.spot) in
      let d = made_of o (λ x. lifted x a.base) a.draft is.drafted in
      let x = d.of in
      let new = or_pass (around a.spot) a.draft in
      subst (λ z. Carries (shifts_of_lifting z) (old a.spot) new) (sym d.found)
      (subst (λ b. Carries (lift_shifts x) b new) (sym (lifting_is (old a.spot) x d.found).is)
      (subst (λ b. Carries (lift_shifts x) (stood x) (or_pass (around a.spot) b)) d.made
      (subst (Carries (lift_shifts x) (stood x)) (sym (stays_whole (around a.spot) x a.base))
      (lifted_carried x a.base))))
      );
  apart = λ a is. apart_there (lifting_of (old a.spot));
}
  where
    with_else : (l : Loop) (test : Condition) (main other : Block)
        → are_apart (lift_shifts (OutOfLoop l (record { test = test; main = main; other = other })))
        ≡ true
    with_else l test main end = refl
    with_else l test main (next d b) = refl

    apart_there : (o : Option Lifting) → are_apart (shifts_of_lifting o) ≡ true
    apart_there None = refl
    apart_there (Some (OutOfLoop l k)) = with_else l k.test k.main k.other
    apart_there (Some (OutOfBranch c k)) = refl
    apart_there (Some (LoopOut c l)) = refl
