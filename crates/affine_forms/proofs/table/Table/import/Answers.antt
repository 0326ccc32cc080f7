use Rattle.std.proofs.Common.{◌≡◌, ◌+◌, ◌<◌, ◌∙◌, ap, sym, subst, length, get_or, vec_len, arith}
use Rattle.std.proofs.lemmas.List.{length_push, get_or_read}
use Rattle.affine_forms.specs.Tables.{no_division, are_earlier, Holds, Follows}
use Rattle.affine_forms.specs.PlainTables.{plain_shares, plain_row}
use Rattle.affine_forms.proofs.Tables.{extends_on}
use Rattle.affine_forms.proofs.RowLists.{table_length}
use Rattle.affine_forms.proofs.Putting.{moved_with, names_earlier, import_earlier, import_kept, import_follows}
use Rattle.affine_forms.proofs.table.Table.import.Goals as goal

pub moved-requires : goal.moved-requires
moved-requires c = ap (λ ns. are_earlier (length ns) (plain_shares c.row-item.result.terms.items)) c.deref.ensures.value ∙ names_earlier c.loop-row.numbers.items c.loop-row.self c.args.other.now c.deref-row-items.result.now c.other.inside.rows.items c.loop-row.row-index c.row-item.result (plain_row c.row-item.result) c.deref-row-items.ensures.value c.other.view_is c.other.invariant.0 c.loop-row-test.true c.row-item.is c.loop-row.invariant.count c.loop-row.invariant.follows

pub put-requires-clause-earlier : goal.put-requires-clause-earlier
put-requires-clause-earlier c = import_earlier c.loop-row.numbers.items c.loop-row.self c.args.other.now c.deref-row-items.result.now c.other.inside.rows.items c.loop-row.row-index c.row-item.result (plain_row c.in_ok-moved.moved) c.deref-row-items.ensures.value c.other.view_is c.other.invariant.0 c.loop-row-test.true c.row-item.is c.loop-row.invariant.count c.loop-row.invariant.follows (moved_with c.deref.result.now c.loop-row.numbers.items c.row-item.result (plain_row c.in_ok-moved.moved) c.deref.ensures.value c.in_ok-moved.ensures)

pub put-requires-clause-kept : goal.put-requires-clause-kept
put-requires-clause-kept c = import_kept c.loop-row.numbers.items c.loop-row.self c.args.other.now c.deref-row-items.result.now c.other.inside.rows.items c.loop-row.row-index c.row-item.result (plain_row c.in_ok-moved.moved) c.deref-row-items.ensures.value c.other.view_is c.other.invariant.0 c.loop-row-test.true c.row-item.is c.loop-row.invariant.count c.loop-row.invariant.follows (moved_with c.deref.result.now c.loop-row.numbers.items c.row-item.result (plain_row c.in_ok-moved.moved) c.deref.ensures.value c.in_ok-moved.ensures) c.other.invariant.1

pub loop-row-preserved : goal.loop-row-preserved
loop-row-preserved c = record {
  count = ap length c.in_ok-push.ensures.items ∙ length_push c.loop-row.numbers.items c.in_ok-put.field-0 ∙ ap (λ n. n + 1) c.loop-row.invariant.count;
  grown = extends_on c.args.self.now c.loop-row.self c.put.new.self c.loop-row.invariant.grown c.in_ok-put.ensures.grown;
  follows = subst (λ ns. Follows ns c.put.new.self c.args.other.now) (sym c.in_ok-push.ensures.items) (import_follows c.loop-row.numbers.items c.loop-row.self c.args.other.now c.deref-row-items.result.now c.other.inside.rows.items c.loop-row.row-index c.row-item.result (plain_row c.in_ok-moved.moved) c.deref-row-items.ensures.value c.other.view_is c.other.invariant.0 c.loop-row-test.true c.row-item.is c.loop-row.invariant.count c.loop-row.invariant.follows c.put.new.self c.in_ok-put.field-0 (moved_with c.deref.result.now c.loop-row.numbers.items c.row-item.result (plain_row c.in_ok-moved.moved) c.deref.ensures.value c.in_ok-moved.ensures) c.in_ok-put.ensures.grown c.in_ok-put.ensures.put);
}

pub index-requires : goal.index-requires
index-requires c =
    let all = table_length c.other.inside.rows.items c.args.other.now c.other.view_is in
    let same = ap length c.deref-row-items.ensures.value in
    let len : vec_len c.loop-row.numbers ≡ length c.loop-row.numbers.items = omega arith in
    omega (arith, all, same, len, c.requires, c.loop-row.invariant.count, c.loop-row-test.false)

pub returns-clause-grown : goal.returns-clause-grown
returns-clause-grown c = c.loop-row.invariant.grown

pub returns-clause-put : goal.returns-clause-put
returns-clause-put c =
    let all = table_length c.other.inside.rows.items c.args.other.now c.other.view_is in
    let same = ap length c.deref-row-items.ensures.value in
    let inside : c.args.index < length c.loop-row.numbers.items = omega (arith, all, same, c.requires, c.loop-row.invariant.count, c.loop-row-test.false) in
    subst (λ k. Holds c.loop-row.self k (get_or c.args.other.now c.args.index no_division)) (sym (get_or_read c.loop-row.numbers.items c.args.index c.index.result.now inside c.index.ensures 0)) (c.loop-row.invariant.follows c.args.index inside)
