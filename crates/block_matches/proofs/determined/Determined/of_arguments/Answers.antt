use Rattle.std.proofs.Common.{map, ap, ◌∙◌}
use Rattle.exo_tree.specs.PlainArgument.{argument}
use Rattle.block_matches.specs.Held.{determined_in}
use Rattle.block_matches.specs.Noted.{earlier, given_by}
use Rattle.block_matches.proofs.Tables.{arguments_all}
use Rattle.block_matches.proofs.determined.Determined.of_arguments.Goals as goal

pub returns : goal.returns
returns c =
    let none = determined_in c.new-found.result in
    arguments_all c.args.callee.now.params c.args.args.now none (determined_in c.note_arguments.new.self)
    (c.in_ok-note_arguments.ensures
    ∙ (ap (λ ps. earlier none (given_by ps (map argument c.as_slice-2.result.now)))
    c.as_slice.ensures
    ∙ ap (λ xs. earlier none (given_by c.args.callee.now.params xs)) c.as_slice-2.ensures))
    c.new-found.ensures
