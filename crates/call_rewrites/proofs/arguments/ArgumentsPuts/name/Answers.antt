use Rattle.exo_tree.specs.PlainArgument.{argument}
use Rattle.call_rewrites.specs.Numbered.{number_of}
use Rattle.call_rewrites.specs.PlainIds.{numbered}
use Rattle.call_rewrites.proofs.Given.{some_buffer}
use Rattle.call_rewrites.proofs.arguments.ArgumentsPuts.name.Goals as goal

pub returns-in-Some : goal.returns-in-Some
returns-in-Some c =
    let o = c.args.self.now in
    let to = number_of (numbered o.ids) in
    some_buffer to c.id-y.result.0 (to c.args.x.0) o.params.now o.args.now c.id-y.ensures
    (argument c.in-Some.a.now) c.in-Some.ensures
