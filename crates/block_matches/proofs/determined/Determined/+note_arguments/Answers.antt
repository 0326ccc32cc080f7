use Rattle.std.proofs.Common.{List, map, ap, ap₂, sym, ◌∙◌}
use Rattle.std.proofs.lemmas.Result.{on_ok_weaker}
use Rattle.exo_tree.specs.Tree.{Argument, Param}
use Rattle.exo_tree.specs.PlainArgument.{argument}
use Rattle.exo_tree.specs.PlainParam.{parameter}
use Rattle.block_matches.specs.Held.{determined_in}
use Rattle.block_matches.specs.Noted.{earlier, entry, given_by}
use Rattle.block_matches.proofs.Tables.{joined}
use Rattle.block_matches.proofs.determined.Determined.+note_arguments.Goals as goal

pub returns-in_ok-insert-in-Some-Some : goal.returns-in_ok-insert-in-Some-Some
returns-in_ok-insert-in-Some-Some t c =
    let both = c.in-Some-Some in
    let old = determined_in c.args.self.now in
    let id = both.p.now.binder.id.0 in
    on_ok_weaker c.note_arguments.result
    (λ made. joined old (determined_in c.insert.new.self) (determined_in c.note_arguments.new.self)
    (entry id (argument both.a.now))
    (given_by (map parameter both.params.now) (map argument both.args.now))
    (c.in_ok-insert-in-Some-Some.ensures ∙ ap (λ a. earlier old (entry id a)) c.of.ensures)
    made
    ∙ ap₂ (λ (ps : List Param) (args : List Argument). earlier old (given_by ps args))
    (sym (ap (map parameter) both.ensures.cases.0))
    (sym (ap (map argument) both.ensures'.cases.0)))
    c.note_arguments.ensures
