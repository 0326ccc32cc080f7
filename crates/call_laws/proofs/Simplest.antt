-- In a block that keeps the rules each control expression is simplified.
use Rattle.std.proofs.Common.{◌≡◌, ℕ, Bool, true, not, ◌&&◌, if◌then◌else◌, List, [], ◌∷◌, Option}
use Rattle.std.proofs.Common.{refl}
use Rattle.std.proofs.Common.{ap, ap₂}
use Rattle.exo_tree.specs.Tree.{Kind, Index, Control, Condition, True, False, Flag, FieldFlag, Lt}
use Rattle.exo_tree.specs.Tree.{Le}
use Rattle.exo_tree.specs.Tree.{Gt, Ge, Eq, And, Or, Datum, Const, Read, Negated, Relu, Plus, Minus}
use Rattle.exo_tree.specs.Tree.{Times, Select, Coord, At, Span, Argument, ControlArg, ConditionArg}
use Rattle.exo_tree.specs.Tree.{Whole, Window, Statement, Assign, Reduce, Config, Pass, If, For}
use Rattle.exo_tree.specs.Tree.{Alloc}
use Rattle.exo_tree.specs.Tree.{View, Call, Block, end, next}
use Rattle.exo_meaning.specs.Calls.{Callee}
use Rattle.exo_meaning.specs.Run.{roots_after}
use Rattle.exo_meaning.specs.Units.{Scope, Reads, ControlName, with_name, scope_after, is_control}
use Rattle.exo_meaning.specs.Units.{is_condition, with_fields, plainly, is_new, is_empty, is_short}
use Rattle.exo_meaning.specs.Units.{is_block, is_statement}
use Rattle.affine_forms.specs.Forms.{Reading, keeps_rules, anything}
use Rattle.check_laws.proofs.OfFacts.Affine.{affine}
use Rattle.check_laws.proofs.OfFacts.Truths.{parts}
use Rattle.match_laws.specs.Simplify.Simplified.{simplified}
use Rattle.match_laws.specs.Simplify.SameControls.{in_controls, in_condition, in_datum, in_coords}
use Rattle.match_laws.specs.Simplify.SameControls.{in_argument, in_arguments, in_statement, in_block}
use Rattle.match_laws.specs.Simplify.SameControls.{OfControls, OfCondition, OfDatum, OfCoords, OfArgument}
use Rattle.match_laws.specs.Simplify.SameControls.{OfArguments, OfStatement}
use Rattle.call_laws.specs.Simplify.{simpler, SimplifiesAll}
use Rattle.call_laws.proofs.Each.{statement_so}

module _ (f g : Control → Control) where
  abbrev Same : Control → Type 0
  Same e = f e ≡ g e

  same_controls : (es : List Control) → OfControls Same es → in_controls f es ≡ in_controls g es
  same_controls [] h = refl
  same_controls (e ∷ es) h = ap₂ (λ x xs. x ∷ xs) h.0 (same_controls es h.1)

  same_condition : (c : Condition) → OfCondition Same c → in_condition f c ≡ in_condition g c
  same_condition True h = refl
  same_condition False h = refl
  same_condition (Flag x) h = refl
  same_condition (FieldFlag x) h = refl
  same_condition (Lt a b) h = ap₂ Lt h.0 h.1
  same_condition (Le a b) h = ap₂ Le h.0 h.1
  same_condition (Gt a b) h = ap₂ Gt h.0 h.1
  same_condition (Ge a b) h = ap₂ Ge h.0 h.1
  same_condition (Eq a b) h = ap₂ Eq h.0 h.1
  same_condition (And c d) h = ap₂ And (same_condition c h.0) (same_condition d h.1)
  same_condition (Or c d) h = ap₂ Or (same_condition c h.0) (same_condition d h.1)

  same_datum : (e : Datum) → OfDatum Same e → in_datum f e ≡ in_datum g e
  same_datum (Const n) h = refl
  same_datum (Read x is) h = ap (Read x) (same_controls is h)
  same_datum (Negated a) h = ap Negated (same_datum a h)
  same_datum (Relu a) h = ap Relu (same_datum a h)
  same_datum (Plus a b) h = ap₂ Plus (same_datum a h.0) (same_datum b h.1)
  same_datum (Minus a b) h = ap₂ Minus (same_datum a h.0) (same_datum b h.1)
  same_datum (Times a b) h = ap₂ Times (same_datum a h.0) (same_datum b h.1)
  same_datum (Select a b c d) h =
      let q = same_datum a h.0 in
      let r = same_datum b h.1 in
      let s = same_datum c h.2 in
      let t = same_datum d h.3 in
      λ j. Select (q j) (r j) (s j) (t j)

  same_coords : (cs : List Coord) → OfCoords Same cs → in_coords f cs ≡ in_coords g cs
  same_coords [] h = refl
  same_coords (At a ∷ cs) h = ap₂ (λ x xs. At x ∷ xs) h.0 (same_coords cs h.1)
  same_coords (Span a b ∷ cs) h =
      let q = h.0 in
      let r = h.1 in
      let s = same_coords cs h.2 in
      λ j. Span (q j) (r j) ∷ s j

  same_argument : (a : Argument) → OfArgument Same a → in_argument f a ≡ in_argument g a
  same_argument (ControlArg e) h = ap ControlArg h
  same_argument (ConditionArg c) h = ap ConditionArg (same_condition c h)
  same_argument (Whole x) h = refl
  same_argument (Window x cs) h = ap (Window x) (same_coords cs h)

  same_arguments : (args : List Argument) → OfArguments Same args
      → in_arguments f args ≡ in_arguments g args
  same_arguments [] h = refl
  same_arguments (a ∷ rest) h =
      ap₂ (λ x xs. x ∷ xs) (same_argument a h.0) (same_arguments rest h.1)

  -- of expressions that keep the rules both make the same
  module _ (fields : ℕ → Option Kind) (memories : ℕ) (callees : ℕ → Option Callee)
      (so : (scope : Scope) (reads : Reads) (e : Control)
      → is_control fields reads scope e ≡ true → Same e) where
    mutual
      pub same_block : (b : Block) (scope : Scope) (root : ℕ → ℕ)
          → is_block fields memories callees scope root b ≡ true
          → in_block f b ≡ in_block g b
      same_block end scope root h = refl
      same_block (next a b) scope root h =
          let q = parts (is_statement fields memories callees scope root a)
          (is_block fields memories callees (scope_after a scope) (roots_after a root) b) h in
          ap₂ next
          (same_statement a scope root q.0
          (statement_so fields scope Same (so scope) memories callees root a q.0))
          (same_block b (scope_after a scope) (roots_after a root) q.1)

      same_statement : (a : Statement) (scope : Scope) (root : ℕ → ℕ)
          → is_statement fields memories callees scope root a ≡ true
          → OfStatement Same a
          → in_statement f a ≡ in_statement g a
      same_statement (Assign x is e) scope root h k =
          ap₂ (Assign x) (same_controls is k.0) (same_datum e k.1)
      same_statement (Reduce x is e) scope root h k =
          ap₂ (Reduce x) (same_controls is k.0) (same_datum e k.1)
      same_statement (Config x a) scope root h k = ap (Config x) (same_argument a k)
      same_statement Pass scope root h k = refl
      same_statement (If c a b) scope root h k =
          let w = parts (is_condition fields with_fields scope c) _ h in
          let q = parts (not (is_empty a) && (is_short a && is_short b))
          (is_block fields memories callees scope root a
          && is_block fields memories callees scope root b) w.1 in
          let r = parts (is_block fields memories callees scope root a)
          (is_block fields memories callees scope root b) q.1 in
          let x = same_condition c k in
          let y = same_block a scope root r.0 in
          let z = same_block b scope root r.1 in
          λ j. If (x j) (y j) (z j)
      same_statement (For i lo hi b) scope root h k =
          let v = parts (is_new scope i) _ h in
          let w = parts (is_control fields plainly scope lo && is_control fields plainly scope hi)
          _ v.1 in
          let q = parts (not (is_empty b) && is_short b)
          (is_block fields memories callees (with_name scope i (ControlName Index)) root b) w.1 in
          let x = k.0 in
          let y = k.1 in
          let z = same_block b (with_name scope i (ControlName Index)) root q.1 in
          λ j. For i (x j) (y j) (z j)
      same_statement (Alloc x cell dims memory) scope root h k =
          ap (λ es. Alloc x cell es memory) (same_controls dims k)
      same_statement (View w x cs) scope root h k = ap (View w x) (same_coords cs k)
      same_statement (Call n args) scope root h k = ap (Call n) (same_arguments args k)

simpler_is : (at : Reading) (e : Control) (t : Bool) → t ≡ true
    → (if t then simplified at e else e) ≡ simplified at e
simpler_is at e t h = ap (λ b. if b then simplified at e else e) h

pub simplifies_all : SimplifiesAll
simplifies_all fields memories callees at scope root b h =
    same_block (simpler at) (simplified at) fields memories callees
    (λ scope reads e k. simpler_is at e (keeps_rules e)
    (affine fields reads scope anything
    (record { variables = λ x i. refl; of_fields = λ x i. refl; strides = λ x j i. refl }) e k))
    b scope root h
