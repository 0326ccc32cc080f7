use Rattle.std.proofs.Common.{◌≡◌, ℕ, ◌+◌, zero, if◌then◌else◌, length, drop, IfOk, arith, rules}
use Rattle.std.proofs.Common.{refl, sym, ap, subst, ◌∙◌}
use Rattle.std.proofs.lemmas.Bool.{eq-eqb, ne_eqb}
use Rattle.exo_tree.specs.Tree.{block}
use Rattle.exo_tree.specs.Branches.{branch_of}
use Rattle.exo_tree.specs.Places.{Path, Main, Else}
use Rattle.exo_tree.specs.PlainArgument.{argument}
use Rattle.exo_tree.specs.PlainPlace.{branch_taken}
use Rattle.exo_tree.specs.PlainStatement.{statement}
use Rattle.exo_tree.specs.declared.block.Stmt.{Stmt}
use Rattle.exo_meaning.specs.Units.{step_levels}
use Rattle.meaning_laws.specs.KnownFields.{FieldValue, Known, UnknownAt}
use Rattle.config_state.specs.FieldSets.{in_table}
use Rattle.check_facts.specs.Values.{plain_value}
use Rattle.check_facts.specs.Walks.{telling_of, kept_value, value_after, value_at_end}
use Rattle.check_facts.specs.declared.basis.Basis.{Basis}
use Rattle.check_facts.proofs.Rooms.{room_before, room_for, room_inside, rules_for, short_length, inside}
use Rattle.check_facts.proofs.Steps.{writes_same, end_on, end_done}
use Rattle.check_facts.proofs.after.+after.Goals as goal

-- what the node says of a field is what the statement does
after_node : (g : Basis) (f : ℕ) (path : Path) (v : FieldValue) {s a : Stmt} {w : FieldValue}
    → s ≡ a → w ≡ value_after (telling_of g) f path (statement a) v
    → w ≡ value_after (telling_of g) f path (statement s) v
after_node g f path v is e =
    e ∙ sym (ap (λ s. value_after (telling_of g) f path (statement s) v) is)

pub after-returns-in-For : goal.after-returns-in-For
after-returns-in-For t c =
    let g = c.args.basis.now in
    let same = writes_same (in_table g.writes.now) (telling_of g).writes c.args.f.0 (λ k. g.table k c.args.f.0 c.requires.field) (block c.in-For.b) in
    after_node c.args.basis.now c.args.f.0 _ _ c.in-For.is
    (c.unless_written.ensures
    ∙ ap (λ may. if may then UnknownAt c.args.path.now else plain_value c.args.value)
    (c.writes.ensures ∙ same))

pub at_end-path_in-path-requires-clause-room : goal.at_end-path_in-path-requires-clause-room
at_end-path_in-path-requires-clause-room t c =
    let l = c.loop-k-test.true in
    let e = c.len-k-end.ensures in
    room_before _ c.loop-k.k c.args.b.now (omega arith) c.requires.room

pub at_end-path_in-path-requires-clause-number : goal.at_end-path_in-path-requires-clause-number
at_end-path_in-path-requires-clause-number t c =
    let l = c.loop-k-test.true in
    let e = c.len-k-end.ensures in
    let s = short_length c.args.b.now c.requires.short in
    omega arith

pub after-at_end-requires : goal.after-at_end-requires
after-at_end-requires t c =
    let i = inside (length c.args.path.now) Else (statement c.args.s.now) (block c.in-If.b)
    (ap (λ s. branch_of Else (statement s)) c.in-If.is) c.requires.rules c.requires.room in
    (search rules, (c.requires.field, (i.rules, (i.short, i.room))))

pub after-at_end-requires-in-If : goal.after-at_end-requires-in-If
after-at_end-requires-in-If t c =
    let i = inside (length c.args.path.now) Main (statement c.args.s.now) (block c.in-If.a)
    (ap (λ s. branch_of Main (statement s)) c.in-If.is) c.requires.rules c.requires.room in
    (search rules, (c.requires.field, (i.rules, (i.short, i.room))))

pub after-returns-in_ok-one-in-If : goal.after-returns-in_ok-one-in-If
after-returns-in_ok-one-in-If t c =
    let tell = telling_of c.args.basis.now in
    let f = c.args.f.0 in
    let path = c.args.path.now in
    let v = plain_value c.args.value in
    let one = c.in_ok-one-in-If.ensures in
    let other = c.in_ok-other-in-If.ensures
    ∙ ap (value_at_end tell f path Else zero (block c.in-If.b)) c.duplicate.ensures in
    subst (λ s. IfOk c.kept.result (λ x. plain_value x ≡ value_after tell f path (statement s) v)) (sym c.in-If.is)
    (subst (λ w. IfOk c.kept.result (λ x. plain_value x ≡ w)) (λ i. kept_value tell path (one i) (other i))
    c.kept.ensures)

pub after-returns-in-Call : goal.after-returns-in-Call
after-returns-in-Call t c =
    let g = c.args.basis.now in
    let v = plain_value c.args.value in
    let may = c.call_writes.ensures ∙ g.table c.in-Call.k.0 c.args.f.0 c.requires.field in
    after_node c.args.basis.now c.args.f.0 _ _ c.in-Call.is
    (c.unless_written-in-Call.ensures ∙ ap (λ t. if t then UnknownAt c.args.path.now else v) may)

pub at_end-after-requires : goal.at_end-after-requires
at_end-after-requires t c =
    let outer = c.args.outer.now in
    let k = c.loop-k.k in
    let left = drop k c.args.b.now in
    let rest = drop (k + 1) c.args.b.now in
    let a = statement c.statement.result.now in
    let is = c.statement.ensures.value in
    let way = c.loop-k.invariant in
    let rule = rules_for a left rest is way.rules in
    let room = room_for (length outer) a left rest is way.room in (
      search rules,
      (
        c.requires.field,
        (
          rule.0,
          room_inside outer c.path_in-path.result (branch_taken c.args.branch) k
              (step_levels a) c.path_in-path.ensures room.0,
        ),
      ),
    )

pub at_end-loop-k-preserved : goal.at_end-loop-k-preserved
at_end-loop-k-preserved t c =
    let tell = telling_of c.args.basis.now in
    let f = c.args.f.0 in
    let outer = c.args.outer.now in
    let branch = branch_taken c.args.branch in
    let k = c.loop-k.k in
    let ss = c.args.b.now in
    let left = drop k ss in
    let rest = drop (k + 1) ss in
    let a = statement c.statement.result.now in
    let is = c.statement.ensures.value in
    let way = c.loop-k.invariant in
    record {
      value = end_on tell f outer branch k left rest a c.path_in-path.result (plain_value c.loop-k.now)
          (plain_value c.in_ok-now.now) (value_at_end tell f outer branch zero (block ss) (plain_value c.args.value))
          is c.path_in-path.ensures c.in_ok-now.ensures way.value;
      rules = (rules_for a left rest is way.rules).1;
      room = (room_for (length outer) a left rest is way.room).1;
    }

pub at_end-returns : goal.at_end-returns
at_end-returns t c =
    let tell = telling_of c.args.basis.now in
    let f = c.args.f.0 in
    let outer = c.args.outer.now in
    let branch = branch_taken c.args.branch in
    let ss = c.args.b.now in
    end_done tell f outer branch c.loop-k.k ss (plain_value c.loop-k.now)
    (value_at_end tell f outer branch zero (block ss) (plain_value c.args.value))
    (omega (arith, c.len-k-end.ensures, c.loop-k-test.false)) c.loop-k.invariant.value

pub after-returns-in-Assign : goal.after-returns-in-Assign
after-returns-in-Assign t c = after_node c.args.basis.now c.args.f.0 _ _ c.in-Assign.is refl

pub after-returns-in-Reduce : goal.after-returns-in-Reduce
after-returns-in-Reduce t c = after_node c.args.basis.now c.args.f.0 _ _ c.in-Reduce.is refl

pub after-returns-in-Pass : goal.after-returns-in-Pass
after-returns-in-Pass t c = after_node c.args.basis.now c.args.f.0 _ _ c.in-Pass.is refl

pub after-returns-in-Alloc : goal.after-returns-in-Alloc
after-returns-in-Alloc t c = after_node c.args.basis.now c.args.f.0 _ _ c.in-Alloc.is refl

pub after-returns-in-View : goal.after-returns-in-View
after-returns-in-View t c = after_node c.args.basis.now c.args.f.0 _ _ c.in-View.is refl

-- a field that is written, and another
pub after-returns-then-f-g : goal.after-returns-then-f-g
after-returns-then-f-g t c =
    after_node c.args.basis.now c.args.f.0 _ _ c.in-Config.is
    (ap (λ b. if b then Known (argument c.in-Config.a) else plain_value c.args.value)
    (sym (eq-eqb c.args.f.0 c.in-Config.g.0 c.if-f-g.true)))

pub after-returns-else-f-g : goal.after-returns-else-f-g
after-returns-else-f-g t c =
    after_node c.args.basis.now c.args.f.0 _ _ c.in-Config.is
    (ap (λ b. if b then Known (argument c.in-Config.a) else plain_value c.args.value)
    (sym (ne_eqb c.args.f.0 c.in-Config.g.0 c.if-f-g.false)))
