use Rattle.std.proofs.Common.{◌∙◌, ◌++◌, refl, ap, arith}
use Rattle.std.specs.Char.{encode_utf8}
use Rattle.c_lowering.specs.declared.templates.Place.TheVariants as places
use Rattle.c_lowering.proofs.Reading.{brace_step, name_begins}
use Rattle.c_lowering.proofs.templates.read_opened.Goals as goal

pub returns-in_ok-push-in-123 : goal.returns-in_ok-push-in-123
returns-in_ok-push-in-123 c = brace_step c.args.reader.now (record { parts = c.args.reader.now.parts; text = c.push.new.self; name = c.args.reader.now.name; place = places.Plain }) c.args.c c.in-123.is c.requires refl refl c.in_ok-push-in-123.ensures.bytes

pub returns-in_ok-push-in_default : goal.returns-in_ok-push-in_default
returns-in_ok-push-in_default c =
    let named = c.in_ok-push-in_default.ensures.bytes ∙ ap (λ t. t ++ encode_utf8 c.args.c) c.clear.ensures.bytes in
    name_begins c.args.reader.now (record { parts = c.args.reader.now.parts; text = c.args.reader.now.text; name = c.push-in_default.new.self; place = places.InName }) c.args.c (omega arith) (omega arith) c.requires refl refl refl named
