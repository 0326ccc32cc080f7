use Rattle.std.proofs.Common.{ℕ, List, Option, subst}
use Rattle.exo_reader.specs.Views.{plain_definition}
use Rattle.exo_types.specs.Definitions.{IsDefined}
use Rattle.exo_types.specs.declared.definition.Defined.{Defined}
use Rattle.exo_types.proofs.definition.definition_of.Goals as goal

pub returns : goal.returns
returns c =
    let made : Defined = record {
      procedure = c.fill.new.made;
      lines = c.fill.new.walk.lines;
      next_id = c.fill.new.walk.next_id;
      end = c.in_ok-end.end;
    } in
    let whole = plain_definition c.args.definition.now in
    subst (λ (x : ℕ × Option (List ℕ)). IsDefined c.args.context.now x.0 x.1 c.args.n made whole)
    (λ i. (c.first_walk-walk.ensures.ids i, c.in_ok-procedure.ensures.template i)) c.in_ok-end.ensures
