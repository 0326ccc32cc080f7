-- What the program's cache holds.
use Rattle.std.specs.Prelude.{List, map}
use Rattle.affine_forms.specs.Affine.{Constraints}
use Rattle.affine_forms.specs.System.{plain_system}
use Rattle.affine_prover.specs.declared.answer.Verdict.{Verdict}
use Rattle.ob_check.specs.declared.cache.Cache.{Cache}

abbrev pub held : Cache → List (Constraints × Verdict)
held c = map (λ e. (plain_system e.0, e.1)) c.verdicts.entries
