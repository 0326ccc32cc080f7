use Rattle.std.proofs.Common.{refl}
use Rattle.memory_kinds.proofs.Remembered.{none_is_true}
use Rattle.memory_kinds.proofs.recent.Recent.new.Goals as goal

pub returns : goal.returns
returns c = λ home. none_is_true _ home refl
