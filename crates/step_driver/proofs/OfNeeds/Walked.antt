-- A procedure of a well-formed unit may be asked for the context at each of its places.
use Rattle.std.proofs.Common.{◌≡◌, ℕ, ◌<◌, ◌^◌, nat_lt, true, ◌&&◌, length, arith}
use Rattle.std.proofs.lemmas.Bool.{and_parts}
use Rattle.std.proofs.lemmas.Bool.Decides.{nat_tests}
use Rattle.std.specs.List.{list_all}
use Rattle.exo_tree.specs.Tree.{Procedure, Program}
use Rattle.exo_meaning.specs.Run.{program_world}
use Rattle.exo_meaning.specs.Units.{field_kind, is_short, levels, IsUnit}
use Rattle.affine_forms.specs.Formulas.{condition_keeps_rules}
use Rattle.affine_places.specs.Roots.{has_extents}
use Rattle.affine_places.specs.Rules.{block_keeps_rules, procedure_keeps_rules}
use Rattle.check_facts.specs.Contexts.{may_be_walked}
use Rattle.check_facts.specs.Laws.{WellFormedMayBeWalked}
use Rattle.tree_laws.specs.Findings.Versions.{ProcedureLaw}
use Rattle.step_rules.specs.Rule.{Target}
use Rattle.step_rules.specs.Lawful.{IsTarget}
use Rattle.step_driver.specs.Needs.Sites.{IsWell}

pub walked : WellFormedMayBeWalked → ProcedureLaw → (t : Target) → IsTarget t → may_be_walked t.proc ≡ true
walked walks keeps t is =
    walks (field_kind t.unit.fields) (length t.unit.memories) (program_world t.unit).callees t.proc
    (keeps t.unit t.number t.proc is.unit is.there)

pub extents_there : (p : Procedure) → may_be_walked p ≡ true → has_extents p ≡ true
extents_there p h =
    let keeps = and_parts (procedure_keeps_rules p) (nat_lt (levels p.body) 33) h in
    (and_parts (has_extents p)
    (list_all condition_keeps_rules p.asserts && (is_short p.body && block_keeps_rules p.body)) keeps.0).0

pub few_fields : (u : Program) → IsUnit u → length u.fields < 4294967296
few_fields u is =
    let counts = and_parts (nat_lt (length u.procedures) (2 ^ 31))
    (nat_lt (length u.fields) (2 ^ 31) && nat_lt (length u.memories) (2 ^ 31)) is.counts in
    let fields = and_parts (nat_lt (length u.fields) (2 ^ 31)) (nat_lt (length u.memories) (2 ^ 31)) counts.1 in
    less (length u.fields) fields.0
  where
    less : (n : ℕ) → nat_lt n (2 ^ 31) ≡ true → n < 4294967296
    less n h = grind (arith, nat_tests)

pub well : WellFormedMayBeWalked → ProcedureLaw → (t : Target) → IsTarget t → IsWell (t.unit, t.proc)
well walks keeps t is = record {
  few = few_fields t.unit is.unit;
  walks = walked walks keeps t is;
  well = keeps t.unit t.number t.proc is.unit is.there;
}
