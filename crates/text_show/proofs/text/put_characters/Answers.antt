use Rattle.std.proofs.Common.{◌++◌, flat_map, string_bytes, sym, ap, ◌∙◌, map-id}
use Rattle.std.proofs.lemmas.Iterator.{YieldsList-from_chars}
use Rattle.std.proofs.lemmas.Iterator.Consumers.{YieldsList-end}
use Rattle.std.proofs.lemmas.List.{flat_map_more}
use Rattle.text_show.specs.Layout.{escaped}
use Rattle.text_show.proofs.text.put_characters.Goals as goal

pub returns : goal.returns
returns c =
    let end = YieldsList-end (YieldsList-from_chars c.args.text.now c.utf8.text cc) c.loop-c.yielded _ c.loop-c.yielded_by _ _ c.in-None.is c.next.ensures.steps in
    c.loop-c.invariant ∙ ap (λ cs. string_bytes c.args.out.now ++ flat_map escaped cs) (sym (map-id c.loop-c.yielded) ∙ end.0)

pub loop-c-preserved : goal.loop-c-preserved
loop-c-preserved c =
    c.in_ok-put_escaped.ensures ∙ ap (λ x. x ++ escaped c.in-Some.c) c.loop-c.invariant
    ∙ flat_map_more escaped (string_bytes c.args.out.now) c.loop-c.yielded c.in-Some.c
