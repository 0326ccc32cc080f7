-- What calls on versions answer.
use Rattle.std.specs.Prelude.{◌≡◌, Result, MatchResult, List}
use Rattle.schedule_text.specs.Tree as tree
use Rattle.schedule_laws.specs.Versions.Versions.{Versions}
use Rattle.schedule_laws.specs.Versions.Places.{Sought, Lost}
use Rattle.schedule_laws.specs.Versions.Places as place
use Rattle.schedule_laws.specs.Versions.Lines.{Act, Progress, Went, performed, Done, Stopped}
use Rattle.schedule_laws.specs.Versions.Lines as lines
use Rattle.schedule_run.specs.Runs.{IsAct, LinesRun}
use Rattle.schedule_run.specs.Planned.{Made, Got, Not}
use Rattle.schedule_run.specs.PlainVersions.{versions}
use Rattle.schedule_run.specs.PlainWhy.{plain_missing, Says}
use Rattle.schedule_run.specs.declared.session.Session.{Session}
use Rattle.schedule_run.specs.declared.why.Missing.{Missing}
use Rattle.schedule_run.specs.declared.why.Why.{Why}
use Rattle.schedule_run.specs.declared.why.Refused.{Refused}

-- exactly what is sought, or why it is not there
abbrev pub Finds : {T X : Type 0} → (X → T) → Sought T → Result X Missing → Type 0
Finds plain sought result =
    MatchResult result (λ x. sought ≡ place.Got (plain x)) (λ e. sought ≡ Lost (plain_missing e))

-- exactly what is made, or why the line is refused
abbrev pub Makes : {T X : Type 0} → (X → T) → Made T → Result X Why → Type 0
Makes plain made result =
    MatchResult result (λ x. made ≡ Got (plain x)) (λ e. Says (λ why. made ≡ Not why) e)

-- exactly the versions behind a line, or why it is refused
abbrev pub Performs : {X : Type 0} → Progress → Versions → Result X Why → Type 0
Performs progress new result =
    MatchResult result (λ _. progress ≡ Went new)
    (λ e. Says (λ why. progress ≡ lines.Refused why) e)

-- exactly what one line leaves, or why it is refused
abbrev pub RunsLine : {X : Type 0} → tree.Line → Versions → Versions → Result X Why → Type 0
RunsLine line v new result =
    MatchResult result (λ _. (a : Act) × IsAct line a × (performed v a ≡ Went new))
    (λ e. Says (λ why. (a : Act) × IsAct line a × (performed v a ≡ lines.Refused why)) e)

-- exactly what the lines leave, or the first line that is refused and why
abbrev pub RunsLines : List tree.Line → Versions → Result Session Refused → Type 0
RunsLines lines v result =
    MatchResult result (λ s. LinesRun 0 lines v (Done (versions s)))
    (λ e. Says (λ why. LinesRun 0 lines v (Stopped e.index why)) e.why)
