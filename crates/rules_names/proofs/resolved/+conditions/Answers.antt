use Rattle.std.proofs.Common.{ap, arith}
use Rattle.rules_names.proofs.Wide.{wide, wide_parens, wide_binary}
use Rattle.rules_names.proofs.resolved.+conditions.Goals as goal

pub condition_of-condition_of-requires : goal.condition_of-condition_of-requires
condition_of-condition_of-requires t c =
    let w = wide_parens _ _ c.in-Parens.is in let v = ap wide c.deref.ensures in (omega arith, tt)

pub condition_of-junction_of-requires : goal.condition_of-junction_of-requires
condition_of-junction_of-requires t c =
    let w = wide_binary _ _ _ _ c.in-Binary.is in let v = ap wide c.deref-in-Binary.ensures in let u = ap wide c.deref-in-Binary-2.ensures in (omega arith, tt)
