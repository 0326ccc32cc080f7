-- The walk puts a buffer in the place of a window.
use Rattle.std.proofs.Common.{◌≡◌, ◌==◌, ℕ, Bool, true, ◌&&◌, List, [], ◌∷◌, refl, sym, ap, ap₂, ◌∙◌}
use Rattle.std.specs.List.{list_all}
use Rattle.exo_tree.specs.Tree.{Control, Condition, True, False, Flag, FieldFlag, Lt, Le, Gt, Ge, Eq}
use Rattle.exo_tree.specs.Tree.{And, Or, Datum, Const, Read, Negated, Relu, Plus, Minus, Times}
use Rattle.exo_tree.specs.Tree.{Select, Coord, Argument, ControlArg, ConditionArg, Whole, Window}
use Rattle.exo_tree.specs.Tree.{Statement, Assign, Reduce, Config, Pass, If, For, Alloc, View, Call}
use Rattle.exo_tree.specs.Tree.{Block, end, next}
use Rattle.affine_forms.specs.Outcomes.{IsWide}
use Rattle.affine_forms.specs.declared.error.FormError.{FormError}
use Rattle.buffer_laws.specs.Simplified.{simplified_datum, simplified_argument}
use Rattle.buffer_laws.specs.Simplified.{simplified_arguments, simplified_statement, simplified}
use Rattle.buffer_laws.specs.Staging.Converted.{name_on, converted_datum, converted_argument}
use Rattle.buffer_laws.specs.Staging.Converted.{converted_arguments, converted_statement, converted}
use Rattle.step_rules.specs.Rule.{Writing}
use Rattle.alloc_laws.specs.Stage.Written.{written_as, indices_fit, coords_fit, datum_keeps}
use Rattle.alloc_laws.specs.Stage.Written.{argument_keeps, statement_keeps, block_keeps}
use Rattle.alloc_laws.specs.Stage.Written.{accesses_written}
use Rattle.tree_uses.specs.Uses.{Uses, used_condition, used_datum, used_argument, used_arguments}
use Rattle.tree_uses.specs.Uses.{used_controls, used_statement, used, controls_fit, condition_fits}
use Rattle.tree_uses.specs.Uses.{datum_fits, argument_fits, arguments_fit, statement_fits, used_fits}
use Rattle.stage_rewrites.specs.OnWindow.{on_window}
use Rattle.stage_rewrites.proofs.Written.{wide_same}

module _ (how : Writing) (a x : ℕ) (window : List Coord) where
  abbrev uses : Uses
  uses = on_window how a x window

  abbrev simple : Control → Control
  simple = written_as how

  abbrev names : ℕ → Bool
  names y = y == a

  -- ---- what is made

  controls : (es : List Control) → used_controls uses es ≡ es
  controls [] = refl
  controls (e ∷ es) = ap (λ rest. e ∷ rest) (controls es)

  condition : (c : Condition) → used_condition uses c ≡ c
  condition True = refl
  condition False = refl
  condition (Flag y) = refl
  condition (FieldFlag f) = refl
  condition (Lt e g) = refl
  condition (Le e g) = refl
  condition (Gt e g) = refl
  condition (Ge e g) = refl
  condition (Eq e g) = refl
  condition (And c d) = ap₂ And (condition c) (condition d)
  condition (Or c d) = ap₂ Or (condition c) (condition d)

  datum : (d : Datum)
      → used_datum uses d ≡ simplified_datum simple names (converted_datum a x window d)
  datum (Const n) = refl
  datum (Read y is) = refl
  datum (Negated d) = ap Negated (datum d)
  datum (Relu d) = ap Relu (datum d)
  datum (Plus d e) = ap₂ Plus (datum d) (datum e)
  datum (Minus d e) = ap₂ Minus (datum d) (datum e)
  datum (Times d e) = ap₂ Times (datum d) (datum e)
  datum (Select d e f g) =
      let p = datum d in
      let q = datum e in
      let r = datum f in
      let s = datum g in
      λ j. Select (p j) (q j) (r j) (s j)

  argument : (g : Argument)
      → used_argument uses g ≡ simplified_argument simple names (converted_argument a x window g)
  argument (ControlArg e) = refl
  argument (ConditionArg c) = ap ConditionArg (condition c)
  argument (Whole y) = refl
  argument (Window y ds) = refl

  arguments : (gs : List Argument)
      → used_arguments uses gs
      ≡ simplified_arguments simple names (converted_arguments a x window gs)
  arguments [] = refl
  arguments (g ∷ gs) = ap₂ ◌∷◌ (argument g) (arguments gs)

  mutual
    statement : (d : Statement)
        → used_statement uses d
        ≡ simplified_statement simple names (converted_statement a x window d)
    statement (Assign y is d) =
        ap (Assign (name_on a x window y) (uses.indices y is)) (datum d)
    statement (Reduce y is d) =
        ap (Reduce (name_on a x window y) (uses.indices y is)) (datum d)
    statement (Config f g) = ap (Config f) (argument g)
    statement Pass = refl
    statement (If c b d) =
        let p = condition c in
        let q = there b in
        let r = there d in
        λ j. If (p j) (q j) (r j)
    statement (For i lo hi b) = ap (For i lo hi) (there b)
    statement (Alloc y cell dims memory) = ap (λ ds. Alloc y cell ds memory) (controls dims)
    statement (View w y ds) = refl
    statement (Call k gs) = ap (Call k) (arguments gs)

    there : (b : Block) → used uses b ≡ simplified simple names (converted a x window b)
    there end = refl
    there (next d b) = ap₂ next (statement d) (there b)

  -- ---- where it can be written down

  abbrev indices_kept : ℕ → List Control → Bool
  indices_kept = indices_fit how a x window

  abbrev coords_kept : ℕ → List Coord → Bool
  coords_kept = coords_fit how a x window

  all_controls : (es : List Control) → controls_fit uses es ≡ true
  all_controls [] = refl
  all_controls (e ∷ es) = all_controls es

  all_conditions : (c : Condition) → condition_fits uses c ≡ true
  all_conditions True = refl
  all_conditions False = refl
  all_conditions (Flag y) = refl
  all_conditions (FieldFlag f) = refl
  all_conditions (Lt e g) = refl
  all_conditions (Le e g) = refl
  all_conditions (Gt e g) = refl
  all_conditions (Ge e g) = refl
  all_conditions (Eq e g) = refl
  all_conditions (And c d) = ap₂ ◌&&◌ (all_conditions c) (all_conditions d)
  all_conditions (Or c d) = ap₂ ◌&&◌ (all_conditions c) (all_conditions d)

  datum_kept : (d : Datum) → datum_fits uses d ≡ datum_keeps indices_kept coords_kept d
  datum_kept (Const n) = refl
  datum_kept (Read y is) = refl
  datum_kept (Negated d) = datum_kept d
  datum_kept (Relu d) = datum_kept d
  datum_kept (Plus d e) = ap₂ ◌&&◌ (datum_kept d) (datum_kept e)
  datum_kept (Minus d e) = ap₂ ◌&&◌ (datum_kept d) (datum_kept e)
  datum_kept (Times d e) = ap₂ ◌&&◌ (datum_kept d) (datum_kept e)
  datum_kept (Select d e f g) =
      ap₂ ◌&&◌ (ap₂ ◌&&◌ (datum_kept d) (datum_kept e)) (ap₂ ◌&&◌ (datum_kept f) (datum_kept g))

  argument_kept : (g : Argument)
      → argument_fits uses g ≡ argument_keeps indices_kept coords_kept g
  argument_kept (ControlArg e) = refl
  argument_kept (ConditionArg c) = all_conditions c
  argument_kept (Whole y) = refl
  argument_kept (Window y ds) = refl

  arguments_kept : (gs : List Argument)
      → arguments_fit uses gs ≡ list_all (argument_keeps indices_kept coords_kept) gs
  arguments_kept [] = refl
  arguments_kept (g ∷ gs) = ap₂ ◌&&◌ (argument_kept g) (arguments_kept gs)

  mutual
    statement_kept : (d : Statement)
        → statement_fits uses d ≡ statement_keeps indices_kept coords_kept d
    statement_kept (Assign y is d) = ap (λ r. indices_kept y is && r) (datum_kept d)
    statement_kept (Reduce y is d) = ap (λ r. indices_kept y is && r) (datum_kept d)
    statement_kept (Config f g) = argument_kept g
    statement_kept Pass = refl
    statement_kept (If c b d) =
        ap₂ ◌&&◌ (all_conditions c) (ap₂ ◌&&◌ (block_kept b) (block_kept d))
    statement_kept (For i lo hi b) = block_kept b
    statement_kept (Alloc y cell dims memory) = all_controls dims
    statement_kept (View w y ds) = refl
    statement_kept (Call k gs) = arguments_kept gs

    block_kept : (b : Block) → used_fits uses b ≡ block_keeps indices_kept coords_kept b
    block_kept end = refl
    block_kept (next d b) = ap₂ ◌&&◌ (statement_kept d) (block_kept b)

pub used_is_simplified : (how : Writing) (a x : ℕ) (window : List Coord) (b c : Block)
    → c ≡ used (on_window how a x window) b
    → c ≡ simplified (written_as how) (λ y. y == a) (converted a x window b)
used_is_simplified how a x window b c is = is ∙ there how a x window b

pub fits_are_kept : (how : Writing) (a x : ℕ) (window : List Coord) (b : Block)
    → used_fits (on_window how a x window) b ≡ accesses_written how a x window b
fits_are_kept how a x window b = block_kept how a x window b

pub accesses_wide : (x y : FormError) (how : Writing) (a r : ℕ) (window : List Coord) (b : Block)
    → x ≡ y → IsWide y (used_fits (on_window how a r window) b)
    → IsWide x (accesses_written how a r window b)
accesses_wide x y how a r window b same =
    wide_same x y (used_fits (on_window how a r window) b) (accesses_written how a r window b) same
    (sym (fits_are_kept how a r window b))
