use Rattle.std.proofs.Common.{refl}
use Rattle.c_lowering.specs.declared.templates.Place.TheVariants as places
use Rattle.c_lowering.proofs.Reading.{closed_step, lone_step}
use Rattle.c_lowering.proofs.templates.read_closed.Goals as goal

pub returns-in_ok-push : goal.returns-in_ok-push
returns-in_ok-push c = closed_step c.args.reader.now (record { parts = c.args.reader.now.parts; text = c.push.new.self; name = c.args.reader.now.name; place = places.Plain }) c.args.c c.if-c-eq125.true c.requires refl refl c.in_ok-push.ensures.bytes

pub returns-else-c-eq125 : goal.returns-else-c-eq125
returns-else-c-eq125 c = lone_step c.args.reader.now (record { parts = c.args.reader.now.parts; text = c.args.reader.now.text; name = c.args.reader.now.name; place = places.Ended }) c.args.c c.if-c-eq125.false c.requires refl refl refl
