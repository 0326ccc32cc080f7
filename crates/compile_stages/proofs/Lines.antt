-- What holds behind the lines of a schedule: names hold versions that are there, and all versions have
-- names of the grammar.
use Rattle.std.proofs.Common.{◌≡◌, ◌<◌, ◌+◌, ℕ, zero, suc, List, [], ◌∷◌, map, length, Option, Some, None, refl}
use Rattle.std.proofs.Common.{sym, ap, ◌∙◌, subst, arith, get_or, option_map, IfSome, MatchOption}
use Rattle.exo_tree.specs.Tree.{Program}
use Rattle.exo_meaning.specs.Orders.{Each}
use Rattle.exo_types_laws.specs.Shown.Named.{AreNamed}
use Rattle.schedule_text.specs.Tree as tree
use Rattle.schedule_calls.specs.Requests.{Request}
use Rattle.schedule_calls.specs.Readings.{Asks}
use Rattle.schedule_laws.specs.Versions.Versions.{Versions, started, version_of}
use Rattle.schedule_laws.specs.Versions.Lines.{Why, UnknownOperator, BadArguments, Act, Faulty, Progress, Went}
use Rattle.schedule_laws.specs.Versions.Lines.{Refused, performed, Outcome, Done, Stopped, behind, run_from}
use Rattle.schedule_laws.specs.Versions.Behind.{RunsHoldVersions}
use Rattle.schedule_laws.specs.Operators.Operators.{act_of}
use Rattle.schedule_laws.specs.Names.Schedules.{GivesNames, LinesGiveNames, SchedulesKeepNames}
use Rattle.cursor_forward.specs.PlainProposal.{cause_of}
use Rattle.schedule_text.specs.Views.{plain_line, number}
use Rattle.schedule_text.specs.declared.source.Line.{Line}
use Rattle.schedule_laws.specs.Versions.Lines as lines
use Rattle.schedule_run.specs.PlainWhy.{fault_of, Says}
use Rattle.schedule_run.specs.declared.why.Why as code
use Rattle.schedule_run.specs.declared.why.Why.TheVariants as why
use Rattle.compile_stages.specs.Messages.{line_refused}
use Rattle.compile_stages.specs.Kinds.{why_text, message}
use Rattle.compile_stages.specs.Stops.{Stop}
use Rattle.compile_stages.specs.Stops as stop
use Rattle.compile_stages.specs.Stages.{Schedule, operator_of, stop_at, IsRan}
use Rattle.compile_stages.specs.Stages as stages
use Rattle.compile_stages.specs.Stopping.{plain_why}
use Rattle.schedule_run.specs.Runs.{IsAct, asked, unknown, bad, LinesRun, ends, stops, goes}

refused_went : {why : Why} {w : Versions} → Refused why ≡ Went w → ⊥
refused_went h = cc

stopped_done : {k : ℕ} {why : Why} {w : Versions} → Stopped k why ≡ Done w → ⊥
stopped_done h = cc

same_done : {v w : Versions} → Done v ≡ Done w → v ≡ w
same_done h = cc

-- a line asked it
abbrev IsAsked : Request → Type 0
IsAsked r = (line : tree.Line) × Asks line r

-- lines that ran to their end asked for something each
record Requested (k : ℕ) (v w : Versions) : Type 0 where
  pub requests : List Request
  pub asked : Each IsAsked requests
  pub ran : run_from k (map act_of requests) v ≡ Done w

requested_from : (k : ℕ) (lines : List tree.Line) (v w : Versions) (end : Outcome) → LinesRun k lines v end
    → end ≡ Done w → Requested k v w
requested_from k [] v w _ (ends _ _) e = record { requests = []; asked = tt; ran = e }
requested_from k (line ∷ more) v w _ (stops _ _ _ _ a why is refuses) e = absurd (stopped_done e)
requested_from k (line ∷ more) v w end (goes _ _ _ _ u a _ is went rest) e =
    by_act a is went (requested_from (suc k) more u w end rest e)
  where
    more_by_one : k + 1 ≡ suc k
    more_by_one = omega arith

    by_act : (a : Act) → IsAct line a → performed v a ≡ Went u → Requested (suc k) u w → Requested k v w
    by_act _ (asked _ r asks) went later = record {
      requests = r ∷ later.requests;
      asked = ((line, asks), later.asked);
      ran =
          ap (λ n. behind k (run_from n (map act_of later.requests)) (performed v (act_of r))) more_by_one
          ∙ (ap (behind k (run_from (suc k) (map act_of later.requests))) went ∙ later.ran);
    }
    by_act _ (unknown _ h) went later = absurd (refused_went went)
    by_act _ (bad _ h none) went later = absurd (refused_went went)

pub runs_hold : RunsHoldVersions → (unit : Program) (shown : ℕ) (lines : List tree.Line) (w : Versions)
    (name : List ℕ) (k : ℕ) → LinesRun 0 lines (started unit shown) (Done w)
    → version_of w name ≡ Some k → k < length w.unit.procedures
runs_hold law unit shown lines w name k runs is =
    let r = requested_from 0 lines (started unit shown) w (Done w) runs refl in
    law unit shown (map act_of r.requests) w name k r.ran is

-- names that lines ask for are of the grammar, so all versions have such names
all_give : LinesGiveNames → (requests : List Request) → Each IsAsked requests
    → Each GivesNames requests
all_give law [] h = tt
all_give law (r ∷ more) h = (law h.0.0 r h.0.1, all_give law more h.1)

pub runs_keep_names : LinesGiveNames → SchedulesKeepNames → (unit : Program) (shown : ℕ)
    (lines : List tree.Line) (w : Versions) → AreNamed unit
    → LinesRun 0 lines (started unit shown) (Done w) → AreNamed w.unit
runs_keep_names give keep unit shown lines w are runs =
    let r = requested_from 0 lines (started unit shown) w (Done w) runs refl in
    keep unit shown r.requests w are (all_give give r.requests r.asked) r.ran

-- ---- refused

of_option : {A : Type 0} (o : Option A) (f : A → Why) (P : Why → Type 0) → MatchOption o ⊥ (λ a. P (f a))
    → IfSome (option_map f o) P
of_option None f P h = absurd h
of_option (Some a) f P h = h

-- what a refusal says, but for want of memory
said : (P : Why → Type 0) (w : code.Why) → Says P w → IfSome (plain_why w) P
said P why.UnknownOperator h = h
said P why.BadArguments h = h
said P why.UnknownProc h = h
said P why.UnknownName h = h
said P (why.NoPlace m) h = h
said P (why.Step e) h = of_option (cause_of e) lines.Step P h
said P (why.Check e) h = of_option (fault_of e) lines.Check P h
said P (why.NotShown what place verdict) h = h
said P why.Memory h = tt

-- the stage at a line that is refused
pub refused_stage : (program : Program) (count : ℕ) (s : Schedule) (k : ℕ) (w : code.Why) (end : Option Stop)
    → Says (λ x. LinesRun 0 s.lines (started program count) (Stopped k x)) w
    → end ≡ option_map (stop_at s k) (plain_why w)
    → IfSome (option_map stages.Stopped end) (IsRan program count s)
refused_stage program count s k w end says is =
    subst (λ (o : Option Stop). IfSome (option_map stages.Stopped o) (IsRan program count s)) (sym is)
    (go (plain_why w) (said (λ x. LinesRun 0 s.lines (started program count) (Stopped k x)) w says))
  where
    go : (o : Option Why) → IfSome o (λ x. LinesRun 0 s.lines (started program count) (Stopped k x))
        → IfSome (option_map stages.Stopped (option_map (stop_at s k) o)) (IsRan program count s)
    go None h = tt
    go (Some x) h = (Stopped k x, h, refl)

-- the line of an index, by its number and its operator
pub line_at : (ls : List Line) (k : ℕ) (d : Line) → k < length ls
    → stop_at (record { lines = map plain_line ls; numbers = map number ls }) k
    ≡ stop.AtLine (get_or ls k d).number (operator_of (plain_line (get_or ls k d)))
line_at [] k d h = absurd (omega (arith, h))
line_at (l ∷ ls) zero d h = refl
line_at (l ∷ ls) (suc k) d h = line_at ls k d (omega (arith, h))

-- the message of a line that is refused
pub line_said : (procs file : List ℕ) (n : ℕ) (op text : List ℕ) (o : Option Why)
    → option_map why_text o ≡ Some text
    → option_map (message procs file) (option_map (stop.AtLine n op) o) ≡ Some (line_refused file n op text)
line_said procs file n op text None e = cc
line_said procs file n op text (Some w) e = ap (λ t. Some (line_refused file n op t)) (same e)
  where
    same : {a b : List ℕ} → Some a ≡ Some b → a ≡ b
    same e = cc
