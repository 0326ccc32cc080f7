use Rattle.std.proofs.Common.{true, false, ap, sym, ◌∙◌, arith}
use Rattle.exo_tree.specs.Tree.{Select}
use Rattle.exo_tree.specs.PlainDatum.{datum}
use Rattle.exo_meaning.specs.Modes.{picked}
use Rattle.exo_tree.specs.declared.data.DataExpr.{DataExpr}
use Rattle.exo_modes.specs.Marks.{together, used, reads}
use Rattle.exo_modes.specs.Aliases.{roots_in}
use Rattle.exo_modes.specs.Seen.{row_says}
use Rattle.exo_modes.proofs.Unions.{read_name, read_both, read_four}
use Rattle.exo_modes.proofs.Walks.{made_of}
use Rattle.exo_modes.proofs.Weights.{weighs, first_two, last_two}
use Rattle.exo_modes.proofs.walk.+mark_reads.Goals as goal

pub mark_both-mark_reads-requires : goal.mark_both-mark_reads-requires
mark_both-mark_reads-requires t c = (omega (arith, c.decreases), tt)

pub mark_both-mark_reads-requires-2 : goal.mark_both-mark_reads-requires-2
mark_both-mark_reads-requires-2 t c = (omega (arith, c.decreases), tt)

pub mark_both-returns : goal.mark_both-returns
mark_both-returns t c =
    let root = roots_in c.args.aliases.now in
    made_of c.mark_reads-2.result (λ f. f) (row_says c.mark_reads-2.new.row) _ _
    c.mark_reads-2.ensures
    (read_both root (datum c.args.a.now) (datum c.args.b.now) (row_says c.args.row.now) _
    c.in_ok-mark_reads.ensures)

pub mark_reads-mark_both-requires : goal.mark_reads-mark_both-requires
mark_reads-mark_both-requires t c =
    let s = c.in-Select in
    let n = sym (ap weighs s.is) ∙ c.decreases in (
      first_two s.a.value s.b.value s.c.value s.d.value c.deref.result.now
          c.deref-in-Select.result.now t n c.deref.ensures c.deref-in-Select.ensures,
      tt,
    )

pub mark_reads-mark_both-requires-in-Select : goal.mark_reads-mark_both-requires-in-Select
mark_reads-mark_both-requires-in-Select t c =
    let s = c.in-Select in
    let n = sym (ap weighs s.is) ∙ c.decreases in (
      last_two s.a.value s.b.value s.c.value s.d.value c.deref-in-Select-2.result.now
          c.deref-in-Select-3.result.now t n c.deref-in-Select-2.ensures c.deref-in-Select-3.ensures,
      tt,
    )

pub mark_reads-returns-in_ok-mark_both-in-Select
    : goal.mark_reads-returns-in_ok-mark_both-in-Select
mark_reads-returns-in_ok-mark_both-in-Select t c =
    let o = row_says c.args.row.now in
    let root = roots_in c.args.aliases.now in
    let read = λ (e : DataExpr). together o (reads root (datum e)) in
    made_of c.mark_both-in-Select.result (λ f. f) (row_says c.mark_both-in-Select.new.row) _ _
    c.mark_both-in-Select.ensures
    (read_four root (datum c.deref.result.now) (datum c.deref-in-Select.result.now)
    (datum c.deref-in-Select-2.result.now) (datum c.deref-in-Select-3.result.now) o _
    c.in_ok-mark_both-in-Select.ensures
    ∙ (λ i. together o (reads root (Select (datum (c.deref.ensures i))
    (datum (c.deref-in-Select.ensures i)) (datum (c.deref-in-Select-2.ensures i))
    (datum (c.deref-in-Select-3.ensures i)))))
    ∙ sym (ap read c.in-Select.is))

pub mark_reads-returns-in-Read : goal.mark_reads-returns-in-Read
mark_reads-returns-in-Read t c =
    let o = row_says c.args.row.now in
    let read = λ (e : DataExpr). together o (reads (roots_in c.args.aliases.now) (datum e)) in
    made_of c.insert.result (λ f. f) (row_says c.insert.new.self) _ _ c.insert.ensures
    (ap (λ y. together o (used (λ m. picked m true false false) y)) c.root.ensures
    ∙ ap (together o) (read_name (roots_in c.args.aliases.now) c.in-Read.x.0 c.in-Read.field-1)
    ∙ sym (ap read c.in-Read.is))
