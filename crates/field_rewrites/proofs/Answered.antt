-- What the rules on writes say of what is found at a place.
use Rattle.std.proofs.Common.{◌≡◌, ℕ, Bool, true, false, ◌||◌, List, [], ◌∷◌, Option, Some, None, refl}
use Rattle.std.proofs.Common.{sym, ap, ◌∙◌}
use Rattle.exo_tree.specs.Tree.{Statement, Config, Procedure}
use Rattle.exo_tree.specs.Places.{Path, Opened, statement_at}
use Rattle.config_laws.specs.FieldRule as config
use Rattle.config_laws.specs.FieldRule.{gap, is_live, any_live, refused_if}
use Rattle.config_laws.specs.WriteConfig.{gap_at}
use Rattle.config_laws.specs.DeleteConfig.{write_piece, field_of}
use Rattle.cursor_forward.specs.Causes.{WrongShape}
use Rattle.step_rules.specs.Rule.{Got, Not, Target}
use Rattle.call_laws.specs.Fields.FieldRules.{of_tried, of_piece, known_cause}

-- ---- write_config

abbrev gap_by : config.Side → Path → Option Statement → config.Tried config.Piece
gap_by side at s = elim s [
  | None ↦ config.Not config.WrongShape
  | Some a ↦ config.Got (record { path = gap at side; count = 0 })
]

pub no_gap : (side : config.Side) (p : Procedure) (at : Path) → None ≡ statement_at at p.body
    → of_tried of_piece (gap_at side p at) ≡ Not WrongShape
no_gap side p at h = ap (λ s. of_tried of_piece (gap_by side at s)) (sym h)

pub a_gap : (side : config.Side) (p : Procedure) (at : Path) (a : Statement)
    → Some a ≡ statement_at at p.body
    → of_tried of_piece (gap_at side p at) ≡ Got (record { path = gap at side; count = 0 })
a_gap side p at a h = ap (λ s. of_tried of_piece (gap_by side at s)) (sym h)

-- ---- delete_config

pub no_write : (at : Path) (s : Option Statement) → [] ≡ field_of s
    → of_tried of_piece (write_piece at s) ≡ Not WrongShape
no_write at (Some (Config f e)) h = cc
no_write at s h = refl

pub a_write : (at : Path) (f : ℕ) (s : Option Statement) → f ∷ [] ≡ field_of s
    → of_tried of_piece (write_piece at s) ≡ Got (record { path = at; count = 1 })
a_write at f (Some (Config g e)) h = refl
a_write at f s h = cc

or_none : (b : Bool) → (b || false) ≡ b
or_none true = refl
or_none false = refl

module _ (t : Target) (o : Opened) where
  pub none_asked : (fs : List ℕ) → [] ≡ fs
      → known_cause t fs (refused_if (any_live t.unit.procedures o fs) config.ConfigLive) ≡ None
  none_asked fs h =
      ap (λ (gs : List ℕ). known_cause t gs
      (refused_if (any_live t.unit.procedures o gs) config.ConfigLive)) (sym h)

  pub one_asked : (f : ℕ) (fs : List ℕ) → f ∷ [] ≡ fs
      → known_cause t (f ∷ []) (refused_if (is_live t.unit.procedures f o) config.ConfigLive)
      ≡ known_cause t fs (refused_if (any_live t.unit.procedures o fs) config.ConfigLive)
  one_asked f fs h =
      ap (λ (b : Bool). known_cause t (f ∷ []) (refused_if b config.ConfigLive))
      (sym (or_none (is_live t.unit.procedures f o)))
      ∙ ap (λ (gs : List ℕ). known_cause t gs
      (refused_if (any_live t.unit.procedures o gs) config.ConfigLive)) h
