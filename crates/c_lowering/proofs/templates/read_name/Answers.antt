use Rattle.std.proofs.Common.{refl}
use Rattle.c_lowering.proofs.Reading.{name_step}
use Rattle.c_lowering.proofs.templates.read_name.Goals as goal

pub returns : goal.returns
returns c = name_step c.args.reader.now (record { parts = c.args.reader.now.parts; text = c.args.reader.now.text; name = c.push.new.self; place = c.args.reader.now.place }) c.args.c c.if-c-eq125.false c.requires c.requires refl refl c.in_ok-push.ensures.bytes
