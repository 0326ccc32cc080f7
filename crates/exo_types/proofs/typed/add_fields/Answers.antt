use Rattle.std.proofs.Common.{List, ◌+◌, drop, map, ap, refl, subst}
use Rattle.exo_reader.specs.Source as source
use Rattle.exo_reader.specs.Views.{plain_field}
use Rattle.exo_types.proofs.Lists.{drop_read}
use Rattle.exo_types.proofs.Broken.{exit}
use Rattle.exo_types.proofs.Fielded.{Given, one_given, field_refused}
use Rattle.exo_types.proofs.typed.add_fields.Goals as goal

pub returns-in_err-add_field-clause-kept : goal.returns-in_err-add_field-clause-kept
returns-in_err-add_field-clause-kept c =
    let l = c.loop-field in
    let x = c.args.config.now in
    let whole = map plain_field c.args.list.now in
    let f = plain_field c.field-item.result in
    let more = map plain_field (drop (l.field-index + 1) c.args.list.now) in
    let read = ap (map plain_field) (drop_read c.args.list.now l.field-index c.field-item.result c.field-item.is c.loop-field-test.true) in
    let g = subst (λ (r : List source.ConfigField). Given x c.args.table.now l.table c.args.fields.now l.fields c.args.n l.next whole r) read l.invariant in
    exit _ _ _ _ c.from_residual.ensures.1 (field_refused x c.args.table.now l.table c.args.fields.now l.fields c.args.n l.next whole f more _ c.requires.new g c.in_err-add_field.ensures.kept)

pub loop-field-preserved : goal.loop-field-preserved
loop-field-preserved c =
    let l = c.loop-field in
    let x = c.args.config.now in
    let whole = map plain_field c.args.list.now in
    let f = plain_field c.field-item.result in
    let more = map plain_field (drop (l.field-index + 1) c.args.list.now) in
    let read = ap (map plain_field) (drop_read c.args.list.now l.field-index c.field-item.result c.field-item.is c.loop-field-test.true) in
    let g = subst (λ (r : List source.ConfigField). Given x c.args.table.now l.table c.args.fields.now l.fields c.args.n l.next whole r) read l.invariant in
    one_given x c.args.table.now l.table c.add_field.new.table c.args.fields.now l.fields c.add_field.new.fields c.args.n l.next (l.next + 4) whole f more c.requires.new g c.in_ok-add_field.ensures.kept c.in_ok-add_field.ensures.table c.in_ok-add_field.ensures.fields refl
