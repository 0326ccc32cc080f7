-- Versions behind lines whose operators give names of the grammar.
use Rattle.std.specs.Prelude.{◌≡◌, ⊤, ℕ, List}
use Rattle.exo_tree.specs.Tree.{Program}
use Rattle.exo_meaning.specs.Orders.{Each}
use Rattle.exo_types_laws.specs.Shown.Named.{AreNamed}
use Rattle.schedule_laws.specs.Versions.Versions.{Versions, started}
use Rattle.schedule_laws.specs.Versions.Lines.{Act, Faulty, Apply, Search, Moved, Emit}
use Rattle.schedule_laws.specs.Versions.Lines.{Done, run_acts}
use Rattle.schedule_laws.specs.Versions.Laws.{EachRule}
use Rattle.schedule_laws.specs.Names.Rules.{IsNaming}

-- every rule of an operator gives names of the grammar
abbrev pub IsNamingAct : Act → Type 0
IsNamingAct (Faulty why) = ⊤
IsNamingAct (Apply name of call) = EachRule IsNaming call
IsNamingAct (Search name of pattern nth moves) = ⊤
IsNamingAct (Moved name of moves) = ⊤
IsNamingAct (Emit name) = ⊤

-- behind such lines all versions have names of the grammar, where the text has
abbrev pub RunsKeepNames : Type 0
RunsKeepNames =
    (text : Program) (shown : ℕ) (acts : List Act) (v : Versions)
    → AreNamed text
    → Each IsNamingAct acts
    → run_acts acts (started text shown) ≡ Done v
    → AreNamed v.unit
