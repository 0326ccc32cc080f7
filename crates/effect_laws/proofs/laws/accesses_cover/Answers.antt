use Rattle.effect_laws.proofs.Covering.{covers_law}
use Rattle.effect_laws.proofs.laws.accesses_cover.Goals as goal

pub returns : goal.returns
returns c = covers_law c.normal_is_exact.ensures c.formulas_are_exact.ensures
