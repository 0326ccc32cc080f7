-- What a rule on configuration writes drafts may stand for the piece.
use Rattle.std.proofs.Common.{◌≡◌, ℕ, List, [], Option, Some, None, option_map, refl}
use Rattle.std.proofs.Common.{sym, ap, ◌∙◌, subst, if◌then◌else◌}
use Rattle.exo_tree.specs.Tree.{Block, Procedure}
use Rattle.exo_tree.specs.Context.{fill}
use Rattle.exo_tree.specs.Places.{Path, Opened, opened}
use Rattle.exo_meaning.specs.Inputs.{Refines}
use Rattle.exo_meaning.specs.Run.{run}
use Rattle.config_laws.specs.FieldRule as config
use Rattle.config_laws.specs.FieldRule.{FieldRule, Proposed, with_fields, fields_at_end}
use Rattle.step_rules.specs.Rule.{Got, Target, Piece}
use Rattle.step_rules.specs.Lawful.{Site, IsSite, around, world_of, with_body, with_block, MayRunIn}
use Rattle.step_rules.specs.Lawful.{Replaces, whole, config_side, fields_at_exit}
use Rattle.step_rules.proofs.Replaced.{same_in, passed, written_otherwise}
use Rattle.call_laws.specs.Fields.FieldRules.{of_cause, of_tried, of_piece, config_piece, of_side}
use Rattle.call_laws.specs.Fields.FieldRules.{differs, of_field_rule}
use Rattle.call_laws.specs.Fields.FieldRules.{KeepsThere, IsBare, FieldDraftsStand}
use Rattle.call_laws.specs.Fields.FieldRules.{FieldRulesAreLawful}
use Rattle.call_laws.proofs.OfFields.Exact.{same_pass, body_is_exact}

-- ---- answers

pub tried_of : {T U : Type 0} (x : config.Tried T) (make : T → U) (y : U)
    → of_tried make x ≡ Got y
    → (z : T) × (x ≡ config.Got z) × (make z ≡ y)
tried_of (config.Got z) make y h = (z, refl, cc)
tried_of (config.Not cause) make y h = cc

pub no_cause : (o : Option config.Cause) → option_map of_cause o ≡ None → o ≡ None
no_cause None h = refl
no_cause (Some cause) h = cc

try_on : {T U : Type 0} (x : config.Tried T) (y : T) (f : T → config.Tried U) → x ≡ config.Got y
    → config.then_try x f ≡ f y
try_on x y f h = ap (λ z. config.then_try z f) h

-- from what it is made of
proposed_by : (r : FieldRule) (p : Procedure) (at : Path) (piece : config.Piece) (o : Opened)
    (made : Block)
    → r.piece p at ≡ config.Got piece
    → opened piece.count piece.path p.body ≡ Some o
    → r.draft p o ≡ config.Got made
    → r.refusal p o ≡ None
    → config.proposed r p at ≡ config.Got (with_fields r p piece o made)
proposed_by r p at piece o made chosen opens drafted allowed =
    try_on (r.piece p at) piece (λ piece.
    config.then_try (config.opened_or_wrong (opened piece.count piece.path p.body)) (λ o.
    config.then_try (r.draft p o) (λ made.
    config.unless (r.refusal p o) (with_fields r p piece o made)))) chosen
    ∙ try_on (config.opened_or_wrong (opened piece.count piece.path p.body)) o (λ o.
    config.then_try (r.draft p o) (λ made.
    config.unless (r.refusal p o) (with_fields r p piece o made)))
    (ap config.opened_or_wrong opens)
    ∙ try_on (r.draft p o) made (λ made.
    config.unless (r.refusal p o) (with_fields r p piece o made)) drafted
    ∙ ap (λ cause. config.unless cause (with_fields r p piece o made)) allowed

same_side : (s : config.Side) → config_side (of_side s) ≡ s
same_side config.Before = refl
same_side config.Behind = refl

-- ---- at a site

module _ (rule : Target → FieldRule) (a : Site) (is : IsSite (of_field_rule rule) a)
    (bare : IsBare rule a) (keeps : KeepsThere rule a.spot.target) where
  abbrev t : Target
  t = a.spot.target

  abbrev o : Opened
  o = a.spot.opened

  abbrev given : FieldRule
  given = rule t

  abbrev piece : config.Piece
  piece = config_piece a.spot.piece

  abbrev made : Proposed
  made = with_fields given t.proc piece o a.draft

  chosen : given.piece t.proc is.at ≡ config.Got piece
  chosen =
      let d = tried_of (given.piece t.proc is.at) of_piece a.spot.piece is.chosen in
      d.1 ∙ ap (λ (x : Piece). config.Got (config_piece x)) d.2

  drafted : given.draft t.proc o ≡ config.Got a.draft
  drafted =
      let d = tried_of (given.draft t.proc o) (λ b. b) a.draft is.drafted in d.1 ∙ ap config.Got d.2

  allowed : given.refusal t.proc o ≡ None
  allowed =
      no_cause (given.refusal t.proc o)
      (sym (ap (λ x. if x then option_map of_cause (given.refusal t.proc o) else None) bare.fields)
      ∙ is.allowed)

  proposes : config.proposed given t.proc is.at ≡ config.Got made
  proposes = proposed_by given t.proc is.at piece o a.draft chosen is.spot.opens drafted allowed

  exact : a.body ≡ made.proc.body
  exact =
      body_is_exact (of_field_rule rule) a is bare.binders
      ∙ ap (fill (around a.spot)) (sym (same_pass (around a.spot) a.draft))

  runs : MayRunIn t made.proc
  runs = subst (λ b. MayRunIn t (with_body a.spot b)) exact is.runs

  abbrev but : List ℕ
  but = fields_at_end t.unit.procedures made.proc.body made.place made.side made.fields

  refined : Refines (world_of a.spot) t.proc made.proc but
  refined = keeps t.proc is.at made proposes is.spot.runs runs

  same_fields : but ≡ fields_at_exit (of_field_rule rule) a
  same_fields =
      let own = ap (λ x. if x then differs rule a.spot else []) bare.fields in
      let side = same_side made.side in
      λ j. fields_at_end t.unit.procedures (sym exact j) made.place (sym side j) (sym own j)

  same_runs : run (world_of a.spot) (fill (around a.spot) a.draft)
      ≡ run (world_of a.spot) made.proc.body
  same_runs =
      sym (ap (λ b. run (world_of a.spot) (fill (around a.spot) b)) (same_pass (around a.spot) a.draft)
      ∙ same_in (world_of a.spot) _ a.draft (passed (world_of a.spot) (around a.spot) a.draft)
      (around a.spot))

  stands : Replaces a.spot a.draft (fields_at_exit (of_field_rule rule) a)
  stands =
      whole (subst (Refines (world_of a.spot) t.proc (with_block a.spot a.draft)) same_fields
      (written_otherwise (world_of a.spot) t.proc made.proc t.proc.name
      (fill (around a.spot) a.draft) but same_runs refined))

pub field_drafts_stand : FieldDraftsStand
field_drafts_stand rule a is bare keeps = stands rule a is bare keeps

pub field_rules_are_lawful : FieldRulesAreLawful
field_rules_are_lawful rule keeps bare =
    record {
      replaces = λ a is versions met. stands rule a is (bare a is) (keeps a.spot.target versions);
    }
