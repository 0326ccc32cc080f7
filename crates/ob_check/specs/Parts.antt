-- What is known of a list of obligations that comes in parts.
use Rattle.std.specs.Prelude.{◌≡◌, List, [], Option, Some, None, map, length, fold, filter}
use Rattle.affine_forms.specs.Affine.{Constraints}
use Rattle.affine_prover.specs.declared.answer.Verdict.{Verdict}
use Rattle.affine_prover.specs.Elimination.{elimination}
use Rattle.ob_check.specs.declared.cache.Cache.{Cache}
use Rattle.ob_check.specs.declared.parts.Parts.{Parts}
use Rattle.ob_check.specs.declared.pending.Pending.{Pending}
use Rattle.ob_check.specs.Entries.{asked, is_missing, kept}
use Rattle.ob_check.specs.Held.{held}
use Rattle.ob_check.specs.Answers.{answer_of, ShownHasNoPoint}

-- the verdicts on those systems wait in such a cache, if there are any
abbrev pub WaitIn : Option Cache → List Constraints → Type 0
WaitIn None ss = ss ≡ []
WaitIn (Some c) ss = held c ≡ fold kept [] ss

-- the verdicts on those systems wait
abbrev pub ArePending : List Constraints → Pending → Type 0
ArePending ss p = WaitIn p.cache ss

-- the parts so far have the systems ss, and the cache held es before the first of them
pub record AreTaken (es : List (Constraints × Verdict)) (ss : List Constraints)
    (c : Cache) (p : Parts) : Type 0 where
  pub looked_up : held c ≡ fold asked es ss
  pub pending : ArePending (filter (is_missing es) ss) p.pending
  pub count : p.count ≡ length ss
  pub exact : p.answer ≡ answer_of (map elimination ss)
  pub shown : ShownHasNoPoint ss p.answer
