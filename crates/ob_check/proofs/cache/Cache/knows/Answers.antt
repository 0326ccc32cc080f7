use Rattle.std.proofs.Common.{◌≡◌, not, Option, Some, None, refl, ap, ◌∙◌}
use Rattle.std.specs.Prelude.{is_none, is_some}
use Rattle.ob_check.proofs.Holding.{is_missing-held}
use Rattle.ob_check.proofs.cache.Cache.knows.Goals as goal

there : {X : Type 0} (o : Option X) → is_some o ≡ not (is_none o)
there None = refl
there (Some x) = refl

pub returns : goal.returns
returns c =
    c.contains.ensures ∙ there _
    ∙ ap not (is_missing-held c.args.system.now c.args.self.now.verdicts.entries)
