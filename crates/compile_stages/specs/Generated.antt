-- What is promised of the summary of the texts of a number.
use Rattle.std.specs.Prelude.{◌≡◌, ℕ, List}
use Rattle.compile_stages.specs.Samples.Texts.{unit_text, schedule_text}
use Rattle.compile_stages.specs.Stages.{summary}
use Rattle.compile_stages.specs.Promise.{Promise}

-- The C of the texts keeps the promise; the report tells how many procedures the unit has, how many
-- steps made the versions, how much was shown and how many lines the C has.
pub record Generated (n : ℕ) (report : List ℕ) : Type 0 where
  pub printed : List ℕ
  pub kept : Promise (unit_text n) (schedule_text n) printed
  pub is_report : report ≡ summary n kept.versions printed
