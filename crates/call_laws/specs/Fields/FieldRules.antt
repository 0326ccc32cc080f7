-- Rules on configuration writes as rules of steps: their answers are told in the words of steps,
-- and fields that the unit has not are of no account.
use Rattle.std.specs.Prelude.{◌≡◌, ◌<◌, ℕ, zero, nat_lt, Bool, true, if◌then◌else◌, List, [], ◌∷◌}
use Rattle.std.specs.Prelude.{length, Option, Some, None, option_map}
use Rattle.std.specs.List.{list_all}
use Rattle.exo_tree.specs.Tree.{Argument}
use Rattle.exo_tree.specs.Context.{fill}
use Rattle.exo_tree.specs.Renaming.{binders}
use Rattle.exo_meaning.specs.Orders.{Each}
use Rattle.tree_edits.specs.Made.Passes.{or_pass}
use Rattle.config_laws.specs.FieldRule as config
use Rattle.config_laws.specs.FieldRule.{FieldRule}
use Rattle.config_laws.specs.WriteConfig.{write_config}
use Rattle.config_laws.specs.DeleteConfig.{delete_config}
use Rattle.config_laws.specs.BindConfig.{bind_config}
use Rattle.config_laws.specs.Differing.{VersionsStand}
use Rattle.config_laws.specs.CallEqv.{call_eqv}
use Rattle.config_laws.specs.Keeps.{KeepsMeaning}
use Rattle.cursor_forward.specs.Causes.{Cause, WrongShape, ConfigLive, NotDescendant}
use Rattle.cursor_forward.specs.Cursors.{Side, Before, After}
use Rattle.cursor_forward.specs.Shifts.{Shift, at_index, alone}
use Rattle.step_rules.specs.Rule.{Tried, Got, Not, Target, Piece, Spot, Rule}
use Rattle.step_rules.specs.Lawful.{Site, IsSite, around, Replaces, fields_at_exit, IsLawful}

-- ---- in the words of steps

abbrev pub of_cause : config.Cause → Cause
of_cause config.WrongShape = WrongShape
of_cause config.ConfigLive = ConfigLive
of_cause config.NotDescendant = NotDescendant

abbrev pub of_tried : {T U : Type 0} → (T → U) → config.Tried T → Tried U
of_tried make (config.Got x) = Got (make x)
of_tried make (config.Not cause) = Not (of_cause cause)

abbrev pub of_piece : config.Piece → Piece
of_piece piece = record { path = piece.path; count = piece.count }

abbrev pub config_piece : Piece → config.Piece
config_piece piece = record { path = piece.path; count = piece.count }

abbrev pub of_side : config.Side → Side
of_side config.Before = Before
of_side config.Behind = After

-- where the first statement of the piece goes, by itself
abbrev pub moved_to : Option ℕ → List Shift
moved_to None = []
moved_to (Some k) = alone (at_index 0) (Some (at_index k)) ∷ []

-- ---- rules

-- the unit has these fields
abbrev pub are_fields : Target → List ℕ → Bool
are_fields t fs = list_all (λ f. nat_lt f (length t.unit.fields)) fs

-- a field that the unit has not is live nowhere and differs nowhere; where a result keeps the rules
-- there is none such
abbrev pub known_cause : Target → List ℕ → Option config.Cause → Option Cause
known_cause t fs why = if are_fields t fs then option_map of_cause why else None

abbrev pub known_fields : Target → List ℕ → List ℕ
known_fields t fs = if are_fields t fs then fs else []

module _ (rule : Target → FieldRule) where
  -- the fields that the rule says may differ
  abbrev pub differs : Spot → List ℕ
  differs s = (rule s.target).fields s.opened

  abbrev pub of_field_rule : Rule
  of_field_rule = record {
    piece = λ t at. of_tried of_piece ((rule t).piece t.proc at);
    draft = λ s how base. of_tried (λ made. made) ((rule s.target).draft s.target.proc s.opened);
    named = zero;
    refusal = λ s.
        known_cause s.target (differs s) ((rule s.target).refusal s.target.proc s.opened);
    needs = λ s. [];
    shifts = λ s. moved_to ((rule s.target).moved s.opened);
    name = λ p. p.name;
    fields = λ s. known_fields s.target (differs s);
    point = λ s. (
      ((rule s.target).point (config_piece s.piece) s.opened).0,
      of_side ((rule s.target).point (config_piece s.piece) s.opened).1,
    );
  }

-- `write_config`: a write in the gap beside a statement
abbrev pub write_rule : config.Side → ℕ → Argument → Rule
write_rule side f e = of_field_rule (λ t. write_config t.unit.procedures side f e)

-- `delete_config`
abbrev pub delete_rule : Rule
delete_rule = of_field_rule (λ t. delete_config t.unit.procedures)

-- `bind_config`: the argument for the parameter of that name
abbrev pub bind_rule : List ℕ → ℕ → Rule
bind_rule name f = of_field_rule (λ t. bind_config t.unit.procedures name f)

-- `call_eqv`: a call of the version of that number
abbrev pub version_rule : ℕ → Rule
version_rule j = of_field_rule (λ t. call_eqv t.unit t.origins j)

-- ---- laws

-- the fields that such a rule tells are the unit's
abbrev pub FieldsAreThere : Type 0
FieldsAreThere =
    (rule : Target → FieldRule) (s : Spot)
    → Each (λ f. f < length s.target.unit.fields) ((of_field_rule rule).fields s)

-- where a draft has no binders its body is the old one with the draft in it
abbrev pub BodyIsExact : Type 0
BodyIsExact =
    (r : Rule) (a : Site)
    → IsSite r a
    → binders a.draft ≡ []
    → a.body ≡ fill (around a.spot) (or_pass (around a.spot) a.draft)

-- the rule keeps the meaning in the target's unit
abbrev pub KeepsThere : (Target → FieldRule) → Target → Type 0
KeepsThere rule t =
    KeepsMeaning t.unit.fields (length t.unit.memories) t.unit.procedures (rule t)

-- what is drafted has no binders, and the fields are the unit's
pub record IsBare (rule : Target → FieldRule) (a : Site) : Type 0 where
  pub binders : binders a.draft ≡ []
  pub fields : are_fields a.spot.target (differs rule a.spot) ≡ true

-- then what is drafted may stand for the piece
abbrev pub FieldDraftsStand : Type 0
FieldDraftsStand =
    (rule : Target → FieldRule) (a : Site)
    → IsSite (of_field_rule rule) a
    → IsBare rule a
    → KeepsThere rule a.spot.target
    → Replaces a.spot a.draft (fields_at_exit (of_field_rule rule) a)

-- so such a rule is lawful
abbrev pub FieldRulesAreLawful : Type 0
FieldRulesAreLawful =
    (rule : Target → FieldRule)
    → ((t : Target) → VersionsStand t.unit t.origins → KeepsThere rule t)
    → ((a : Site) → IsSite (of_field_rule rule) a → IsBare rule a)
    → IsLawful (of_field_rule rule)
