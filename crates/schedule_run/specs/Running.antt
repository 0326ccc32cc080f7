-- What stands beside versions in memory while lines run.
use Rattle.std.specs.Prelude.{◌≡◌, ℕ, Bool, true, List, length, map, Option, None, Some, slice_get}
use Rattle.std.specs.Prelude.{IfSome, Result, MatchResult}
use Rattle.exo_tree.specs.Tree.{Procedure, Program}
use Rattle.exo_tree.specs.PlainUnit.{program}
use Rattle.exo_meaning.specs.Units.{IsUnit}
use Rattle.meaning_laws.specs.UnitFields.{unit_writes}
use Rattle.config_state.specs.FieldSets.{IsTable}
use Rattle.exo_modes.specs.Marks.{modes_of}
use Rattle.exo_modes.specs.Seen.{table_says}
use Rattle.affine_forms.specs.Affine.{Constraints}
use Rattle.affine_systems.specs.Outcomes.{plain_obligation}
use Rattle.affine_systems.specs.declared.obligation.Obligation.{Obligation}
use Rattle.affine_prover.specs.declared.answer.Verdict.{Verdict}
use Rattle.bounds_check.specs.Obligations.{list_fault, obligations_of}
use Rattle.bounds_check.specs.Outcomes.{IsRefusal}
use Rattle.bounds_check.specs.declared.error.CheckError.{CheckError}
use Rattle.ob_check.specs.Settled.{IsSettled}
use Rattle.unit_check.specs.Cached.{systems_in}
use Rattle.unit_check.specs.Checked.{first_open}
use Rattle.schedule_laws.specs.Versions.Versions as plain
use Rattle.schedule_run.specs.PlainVersions.{versions}
use Rattle.schedule_run.specs.declared.running.Latest.{Latest}
use Rattle.schedule_run.specs.declared.running.Running.{Running}
use Rattle.schedule_run.specs.declared.running.Tally.{Tally}
use Rattle.schedule_run.specs.declared.why.Why.{Why}
use Rattle.schedule_run.specs.Outcomes.{Makes}
use Rattle.schedule_run.specs.Planned.{Made}

-- of a unit with so many fields, which field each procedure may write
pub record AreWrites (fields : ℕ) (ps : List Procedure) (table : List (List Bool)) : Type 0 where
  pub count : length table ≡ length ps
  pub is : IsTable fields (unit_writes ps) table

-- the obligations are what a procedure owes, of which nothing is refused
abbrev pub AreKept : List Obligation → Program → Procedure → Type 0
AreKept os u p = (list_fault u p ≡ None) × (map plain_obligation os ≡ obligations_of u p)

-- what is listed of a procedure, or why its list is refused
abbrev pub IsListed : Result Latest CheckError → Program → Procedure → Type 0
IsListed result u p =
    MatchResult result (λ l. AreKept l.owed.items u p) (λ e. IsRefusal e (list_fault u p))

-- all of the obligations are shown, and discharging them again leaves the cache as it is
abbrev pub AreSettled : List Obligation → List (Constraints × Verdict) → Type 0
AreSettled os es =
    (first_open (map plain_obligation os) ≡ None)
    × IsSettled es (systems_in (map plain_obligation os))

-- where a list that is kept is marked as settled, it is
abbrev pub MarkHolds : Option Latest → List (Constraints × Verdict) → Type 0
MarkHolds latest es = IfSome latest (λ l. l.settled ≡ true → AreSettled l.owed.items es)

-- as many obligations are shown as are meant, or why the line is refused
abbrev pub Counts : Made ℕ → Result Tally Why → Type 0
Counts made result = Makes (λ (t : Tally). t.count) made result

-- the unit is well formed, the tables are those of its procedures, and the list is that of the
-- latest version
pub record IsRunning (r : Running) : Type 0 where
  pub formed : IsUnit (program r.session.unit)
  pub modes : table_says r.modes ≡ modes_of (program r.session.unit)
  pub writes :
      AreWrites (length (program r.session.unit).fields) (program r.session.unit).procedures r.writes
  pub latest : IfSome r.latest (λ l.
      (p : Procedure) → slice_get (program r.session.unit).procedures l.version.0 ≡ Some p
      → AreKept l.owed.items (program r.session.unit) p)

abbrev pub versions_in : Running → plain.Versions
versions_in r = versions r.session
