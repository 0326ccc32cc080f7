-- Rules that give names of the grammar alone, and so what they propose.
use Rattle.std.specs.Prelude.{◌≡◌, ℕ}
use Rattle.exo_tree.specs.Tree.{Block, Procedure}
use Rattle.exo_tree.specs.Places.{Path}
use Rattle.exo_types_laws.specs.Shown.Names.{IsName}
use Rattle.exo_types_laws.specs.Shown.Named.{IsNamedBlock, IsNamedProcedure, AreNamed}
use Rattle.tree_edits.specs.Made.Names.{named_copies}
use Rattle.cursor_forward.specs.Proposals.{Plan}
use Rattle.step_rules.specs.Rule.{Got, Target, Spot, Writing, Rule}
use Rattle.step_rules.specs.Answer.{proposed}
use Rattle.schedule_laws.specs.Operators.Rules.{OfRules}

-- binders of copies are given names of the grammar
abbrev pub CopiesAreNamed : Type 0
CopiesAreNamed =
    (p : Procedure) (copies : ℕ) (b : Block) → IsNamedBlock b → IsNamedBlock (named_copies p copies b)

-- where all names of a unit are of the grammar, so are those that the rule gives: to the result, and
-- to binders of what is put in the place of a piece
pub record IsNaming (r : Rule) : Type 0 where
  pub name : (p : Procedure) → IsName p.name → IsName (r.name p)
  pub draft :
      (s : Spot) (how : Writing) (base : ℕ) (made : Block)
      → AreNamed s.target.unit
      → IsNamedProcedure s.target.proc
      → IsNamedBlock s.opened.piece
      → r.draft s how base ≡ Got made
      → IsNamedBlock made

-- then all names of the result are
abbrev pub ProposalsAreNamed : Type 0
ProposalsAreNamed =
    (r : Rule) (t : Target) (at : Path) (m : Plan)
    → IsNaming r
    → AreNamed t.unit
    → IsNamedProcedure t.proc
    → proposed r t at ≡ Got m
    → IsNamedProcedure m.proc

-- so does each rule of an operator, where the names that are asked are of the grammar
abbrev pub RulesGiveNames : Type 0
RulesGiveNames = OfRules IsNaming IsName
