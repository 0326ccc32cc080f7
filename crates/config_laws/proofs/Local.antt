-- Configuration writes at one state.
use Rattle.std.proofs.Common.{sym, ◌∙◌}
use Rattle.exo_tree.specs.Context.{rest_of}
use Rattle.meaning_laws.specs.Live.{refield}
use Rattle.config_laws.specs.FieldRule.{is_first}
use Rattle.config_laws.specs.Local.{WritesMayBePutIn, WritesMayBeLeftOut, ArgumentsMayBeBound}
use Rattle.config_laws.proofs.Holes.{left_out, writes_more, writes_less}
use Rattle.config_laws.proofs.Bind.{binds_alike}
use Rattle.exo_meaning.specs.Units.{is_empty}

pub writes_may_be_put_in : WritesMayBePutIn
writes_may_be_put_in world before behind f e u dead g fit agree a b i j =
    writes_more f behind dead world e (refield g u) a b i j

pub writes_may_be_left_out : WritesMayBeLeftOut
writes_may_be_left_out world before behind f e c u dead g fit agree a b i j =
    writes_less f behind dead world e (refield g u) a b i
    (sym (left_out world (refield g u) (is_first c) (is_empty (rest_of c))) ∙ j)

pub arguments_may_be_bound : ArgumentsMayBeBound
arguments_may_be_bound world calls f k args name params d behind u forget is dead g fit agree a b i
    j =
    binds_alike world calls forget f k args name params d is behind dead (refield g u) a b i j
