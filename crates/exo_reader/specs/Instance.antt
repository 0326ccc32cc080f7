-- Texts of which the laws speak: of each kind one that is of it, and one that is not.
use Rattle.std.specs.Prelude.{ℕ, [], ◌∷◌, codes}
use Rattle.text_phrases.specs.Text.{IsText}
use Rattle.text_expressions.specs.Expression.{variable, control}
use Rattle.exo_reader.specs.Source.{span}
use Rattle.exo_reader.specs.Items.{unit}
use Rattle.exo_reader.specs.Texts.{tokens_of, places_of, IsFault}
use Rattle.exo_reader.specs.Strings.{line_tokens_of, line_places_of, window}
use Rattle.exo_reader.specs.declared.unit.ReadError.{ReadError}
use Rattle.exo_reader.specs.declared.unit.ReadKind.TheVariants.{Syntax}

-- no text goes on at this column of the first line
abbrev pub stops_at : ℕ → ReadError
stops_at column = record { line = 1; column = column; kind = Syntax }

pub record TextInstance : Type 0 where
  pub no_items : IsText unit (tokens_of []) []
  pub no_unit : IsFault unit (tokens_of (codes "i")) (places_of (codes "i")) (stops_at 1)
  pub name : IsText control (line_tokens_of (codes "i")) (variable (codes "i"))
  pub two_names :
      IsFault control (line_tokens_of (codes "i j")) (line_places_of (codes "i j")) (stops_at 3)
  pub span :
      IsText window (line_tokens_of (codes "x[i:j]"))
      (codes "x", span (variable (codes "i")) (variable (codes "j")) ∷ [])
  pub point :
      IsFault window (line_tokens_of (codes "x[i]")) (line_places_of (codes "x[i]")) (stops_at 4)
