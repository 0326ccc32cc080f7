use Rattle.std.proofs.Common.{ap, arith}
use Rattle.rules_names.proofs.Wide.{wide, wide_negative, wide_parens, wide_binary}
use Rattle.rules_names.proofs.resolved.+controls.Goals as goal

pub control_of-boxed_control-requires : goal.control_of-boxed_control-requires
control_of-boxed_control-requires t c =
    let w = wide_negative _ _ c.in-Negative.is in let v = ap wide c.deref.ensures in (omega arith, tt)

pub control_of-control_of-requires : goal.control_of-control_of-requires
control_of-control_of-requires t c =
    let w = wide_parens _ _ c.in-Parens.is in let v = ap wide c.deref-in-Parens.ensures in (omega arith, tt)

pub control_of-arithmetic_of-requires : goal.control_of-arithmetic_of-requires
control_of-arithmetic_of-requires t c =
    let w = wide_binary _ _ _ _ c.in-Binary.is in let v = ap wide c.deref-in-Binary.ensures in let u = ap wide c.deref-in-Binary-2.ensures in (omega arith, tt)
