-- Fields that may differ from a place on, and what of them is live at the end.
use Rattle.std.specs.Prelude.{◌≡◌, ◌||◌, not, ℕ, Bool, true, false, List}
use Rattle.exo_tree.specs.Tree.{Block}
use Rattle.exo_tree.specs.Context.{Context}
use Rattle.meaning_laws.specs.Live.{live_behind}
use Rattle.config_laws.specs.Live.LiveFits.{LiveAtEnd}
use Rattle.config_laws.specs.Surely.{surely_behind}
use Rattle.config_laws.specs.Exits.{GoesByExit}
use Rattle.config_laws.specs.FieldRule.{is_listed, not_again}

-- all but those listed, and of these those that are written again
abbrev pub lives_at_end : (ℕ → Bool) → List ℕ → ℕ → Bool
lives_at_end again fs g = not (is_listed g fs) || again g

-- so only listed fields that are not written again may differ there
abbrev pub OthersLiveAtEnd : Type 0
OthersLiveAtEnd =
    (again : ℕ → Bool) (fs : List ℕ)
    → LiveAtEnd (not_again again fs) (lives_at_end again fs)

-- a listed field that is not live behind a hole, where none is live at the end, is not live there
-- where these are
abbrev pub ListedStayDead : Type 0
ListedStayDead =
    (calls : ℕ → ℕ → Bool → Bool) (sure : ℕ → ℕ → Bool) (f : ℕ) (old : Block) (c : Context)
    (fs : List ℕ)
    → let out = lives_at_end (λ g. surely_behind sure g c) fs in
    GoesByExit calls sure
    → is_listed f fs ≡ true
    → live_behind calls f old c false ≡ false
    → live_behind calls f old c (out f) ≡ false
