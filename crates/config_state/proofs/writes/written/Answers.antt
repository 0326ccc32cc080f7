use Rattle.std.proofs.Common.{◌≡◌, length, map, sym, ap, ◌∙◌, subst, false}
use Rattle.std.specs.Prelude.{IfSome, replicate, slice_range}
use Rattle.exo_tree.specs.Tree.{block}
use Rattle.exo_tree.specs.declared.number.FieldId.{FieldId}
use Rattle.meaning_laws.specs.Fields.{writes_field}
use Rattle.meaning_laws.specs.UnitFields.{unit_writes}
use Rattle.config_state.specs.FieldSets.{in_table, Marked, fields_where}
use Rattle.config_state.proofs.Sets.{if_ok, below_limit}
use Rattle.config_state.proofs.Tables.{written_members}
use Rattle.config_state.proofs.writes.written.Goals as goal

pub returns : goal.returns
returns c =
    let n = length c.args.unit.now.fields in
    let b = block (slice_range c.in-Some.piece.block.now c.in-Some.piece.from c.in-Some.piece.to) in
    let set = c.add_written_between.new.set in
    let table = c.in_ok-table.table in
    let marked : Marked (λ f. writes_field (in_table table) f b) (replicate n false) set = subst (λ s. Marked (λ f. writes_field (in_table table) f b) s set) (c.in_ok-set.ensures ∙ ap (λ m. replicate m false) c.len.ensures) c.add_written_between.ensures in
    if_ok c.to_vec.result _ _ (λ v e. subst (λ o. IfSome o (λ b. map (λ (f : FieldId). f.0) v.items ≡ fields_where n (λ f. writes_field (unit_writes c.args.unit.now.procs) f b))) (sym c.in-Some.ensures) (e ∙ written_members n set table c.args.unit.now.procs b c.in_ok-table.ensures marked)) c.to_vec.ensures

pub to_vec-requires : goal.to_vec-requires
to_vec-requires c =
    below_limit c.len.result (length c.args.unit.now.fields) 4294967296 c.in_ok-set.set c.add_written_between.new.set
    c.in_ok-set.ensures c.len.ensures c.add_written_between.ensures.same_length c.requires.numbered
