use Rattle.std.proofs.Common.{◌∙◌, length, map, sym}
use Rattle.exo_tree.specs.PlainControl.{control}
use Rattle.match_laws.specs.Windows.{all_moved}
use Rattle.block_matches.specs.Pairs.Held.{ids_in, names_in}
use Rattle.block_matches.specs.Pairs.PlainBuffer.{plain_buffer}
use Rattle.block_matches.specs.PlainMoving.{plain_moving}
use Rattle.block_matches.specs.PlainUse.{plain_use}
use Rattle.block_matches.proofs.Named.{none_among, not_named, not_moved, none_moved, some_moved}
use Rattle.block_matches.proofs.arguments.Windows.argument_among.Goals as goal

pub returns-in_default-clause-value : goal.returns-in_default-clause-value
returns-in_default-clause-value g c =
    let at = g.R.Reader.reading c.args.self.now.reader.now in
    let m = plain_moving c.args.self.now.by in
    let bound = ids_in c.args.self.now.bound.now in
    let u = plain_use c.args.first.now in
    let us = map plain_use c.args.others.now in
    let ob = names_in c.args.self.now.theirs.now c.args.first.now.name.0 in
    let ods = all_moved at m bound c.args.dims.now in
    not_named at m bound c.args.whole (length c.args.dims.now) u us ob ods c.in_default.ensures

pub returns-in_default-2-clause-value : goal.returns-in_default-2-clause-value
returns-in_default-2-clause-value g c =
    let at = g.R.Reader.reading c.args.self.now.reader.now in
    let m = plain_moving c.args.self.now.by in
    let bound = ids_in c.args.self.now.bound.now in
    let u = plain_use c.args.first.now in
    let us = map plain_use c.args.others.now in
    let ob = names_in c.args.self.now.theirs.now c.args.first.now.name.0 in
    let ods = all_moved at m bound c.args.dims.now in
    not_moved at m bound c.args.whole (length c.args.dims.now) u us ob ods (plain_buffer c.in-Some.buffer.now)
    c.in-Some.ensures
    (none_moved at m bound c.in_ok-moved.field-0 c.new.result (map control c.as_slice.result.now) c.args.dims.now
    c.in_ok-moved.ensures c.as_slice.ensures c.in_default-2.is)

pub returns-then-not-are_of_one-clause-value : goal.returns-then-not-are_of_one-clause-value
returns-then-not-are_of_one-clause-value g c =
    let at = g.R.Reader.reading c.args.self.now.reader.now in
    let m = plain_moving c.args.self.now.by in
    let bound = ids_in c.args.self.now.bound.now in
    let u = plain_use c.args.first.now in
    let us = map plain_use c.args.others.now in
    let ob = names_in c.args.self.now.theirs.now c.args.first.now.name.0 in
    let ods = all_moved at m bound c.args.dims.now in
    none_among at m bound c.args.whole (length c.args.dims.now) u us ob ods (plain_buffer c.in-Some.buffer.now)
    c.in-Some-2.moved (sym c.in-Some.ensures)
    (some_moved at m bound c.in_ok-moved.field-0 c.new.result (map control c.as_slice.result.now) c.args.dims.now
    c.in_ok-moved.ensures c.as_slice.ensures c.in-Some-2.moved c.new.ensures c.in-Some-2.is)
    (sym c.are_of_one.ensures ∙ c.if-not-are_of_one.true)
