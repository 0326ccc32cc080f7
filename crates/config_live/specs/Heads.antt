-- Fields of calls, from the beginning of a procedure.
use Rattle.std.specs.Prelude.{◌≡◌, ◌<◌, ◌||◌, ◌++◌, ℕ, Bool, false, [], ◌∷◌}
use Rattle.exo_tree.specs.Tree.{Procedure}
use Rattle.meaning_laws.specs.UnitFields.{read_by_params, read_by_conditions, live_before}
use Rattle.config_laws.specs.FieldRule.{is_listed}
use Rattle.config_laws.specs.Surely.{surely_by}
use Rattle.config_live.specs.declared.table.LiveTable.{LiveTable}
use Rattle.config_live.specs.declared.table.CallFields.{CallFields}
use Rattle.config_live.specs.declared.way.Way.{Way}
use Rattle.config_live.specs.Tables.{calls_in, writes_surely}
use Rattle.config_live.specs.Ways.{IsStart}

-- in its dimensions and assertions
abbrev pub read_by_head : ℕ → Procedure → Bool
read_by_head f p = read_by_params f p.params || read_by_conditions f p.asserts

pub record AreFields (n : ℕ) (table : LiveTable) (p : Procedure) (c : CallFields) : Type 0 where
  pub reads :
      (f : ℕ) → f < n → is_listed f c.read_first ≡ live_before (calls_in table) p f false
  pub writes :
      (f : ℕ) → f < n → is_listed f c.surely_written ≡ surely_by (writes_surely table) p f

-- a way at the beginning is at the beginning again
abbrev pub CallsFrom : LiveTable → Procedure → Way → Way → CallFields → Type 0
CallsFrom table p old new c =
    (n : ℕ) → IsStart n old → AreFields n table p c × IsStart n new

-- an entry more
pub record Adds
    (table : LiveTable) (p : Procedure) (old new : Way) (longer : LiveTable) : Type 0 where
  pub entry : CallFields
  pub last : longer.calls.items ≡ table.calls.items ++ entry ∷ []
  pub calls : CallsFrom table p old new entry
