use Rattle.std.proofs.Common.{◌∙◌, ◌++◌, [], sym, ap, map-id, append-nil}
use Rattle.std.proofs.lemmas.Str.{encodes-chars}
use Rattle.std.proofs.lemmas.Iterator.{YieldsList-from_chars}
use Rattle.std.proofs.lemmas.Iterator.Consumers.{YieldsList-end}
use Rattle.exo_meaning.specs.Units.{Plain}
use Rattle.c_lowering.specs.Made.LoweredUnit.{holes_from}
use lib.Utf8.{encode, encodes}
use Rattle.c_lowering.proofs.Reading.{one_more}
use Rattle.c_lowering.proofs.templates.read_all.Goals as goal

pub loop-c-preserved : goal.loop-c-preserved
loop-c-preserved c = λ rest. ap (holes_from Plain) (one_more c.loop-c.yielded c.in-Some.c rest) ∙ c.loop-c.invariant (encode c.in-Some.c ++ rest) ∙ c.in_ok-read.ensures rest

pub returns : goal.returns
returns c =
    let end = YieldsList-end (YieldsList-from_chars c.args.template.now c.utf8.template cc) c.loop-c.yielded _ c.loop-c.yielded_by _ _ c.in-None.is c.next.ensures.steps in
    ap (holes_from Plain) (sym (encodes-chars c.args.template.now c.utf8.template) ∙ ap encodes (sym end.0 ∙ map-id c.loop-c.yielded) ∙ sym (append-nil (encodes c.loop-c.yielded)))
    ∙ c.loop-c.invariant []
