use Rattle.std.proofs.Common.{refl, arith}
use Rattle.c_lowering.proofs.Reading.{plain_step}
use Rattle.c_lowering.proofs.templates.read_plain.Goals as goal

pub returns-in_ok-push-in_default : goal.returns-in_ok-push-in_default
returns-in_ok-push-in_default c = plain_step c.args.reader.now (record { parts = c.args.reader.now.parts; text = c.push.new.self; name = c.args.reader.now.name; place = c.args.reader.now.place }) c.args.c (omega arith) (omega arith) c.requires c.requires refl c.in_ok-push-in_default.ensures.bytes
