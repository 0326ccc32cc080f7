-- What the claims of a procedure are written from.
use Rattle.std.specs.Prelude.{◌≡◌}
use Rattle.exo_tree.specs.Tree.{Procedure, Program}
use Rattle.text_show.specs.Words.{words_of}
use Rattle.text_show.specs.Seen.{words_in}
use Rattle.check_claims.specs.Extents.{extents_of}
use Rattle.check_claims.specs.Seen.{extents_in}
use Rattle.check_claims.specs.declared.sources.Sources.{Sources}

-- the words and the extents of that procedure
pub record AreSources (s : Sources) (u : Program) (p : Procedure) : Type 0 where
  pub words : words_in s.words ≡ words_of u p
  pub extents : extents_in s.extents ≡ extents_of p
