-- Texts of schedules: their lines, and where and why one is refused.
use Rattle.std.specs.Prelude.{◌≡◌, ℕ, List, [], ◌∷◌, Result, MatchResult, length, drop}
use Rattle.text_phrases.specs.Text.{IsText}
use Rattle.text_lexer.specs.declared.place.Place.{Place}
use Rattle.exo_reader.specs.Texts.{tokens_of, places_of, IsRefusal}
use Rattle.exo_reader.specs.declared.unit.ReadError.{ReadError}
use Rattle.schedule_text.specs.Tree as tree
use Rattle.schedule_text.specs.Grammar.{line, schedule}
use Rattle.schedule_text.specs.Views.{plain_lines, numbers}
use Rattle.schedule_text.specs.declared.source.Schedule.{Schedule}

-- the line of the text at the first place
abbrev pub number_at : List Place → ℕ
number_at [] = 0
number_at (place ∷ more) = place.line

-- in which line of the text each line has its first token, where these are the places of all their tokens
abbrev pub line_numbers : List Place → List tree.Line → List ℕ
line_numbers places [] = []
line_numbers places (l ∷ more) =
    number_at places ∷ line_numbers (drop (length (line.spell l)) places) more

-- the text spells the schedule, and each of its lines has its number
abbrev pub IsReadAs : List ℕ → Schedule → Type 0
IsReadAs text s =
    IsText schedule (tokens_of text) (plain_lines s)
    × (numbers s ≡ line_numbers (places_of text) (plain_lines s))

-- exactly the schedule that a text spells, or exactly where and why it is none
abbrev pub ReadsSchedule : List ℕ → Result Schedule ReadError → Type 0
ReadsSchedule text result =
    MatchResult result (λ s. IsReadAs text s)
    (λ e. IsRefusal schedule (tokens_of text) (places_of text) e.kind e)
