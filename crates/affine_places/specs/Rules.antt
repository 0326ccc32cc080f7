-- What a well-formed procedure keeps: conditions, bounds and written values are affine, blocks are short.
use Rattle.std.specs.Prelude.{Bool, true, ◌&&◌}
use Rattle.std.specs.List.{list_all}
use Rattle.exo_tree.specs.Tree.{Statement, Assign, Reduce, Config, Pass, If, For, Alloc, View, Call, Block, end, next, Procedure}
use Rattle.exo_meaning.specs.Units.{is_short}
use Rattle.affine_forms.specs.Forms.{keeps_rules}
use Rattle.affine_forms.specs.Formulas.{condition_keeps_rules}
use Rattle.affine_places.specs.Facts.{fact_keeps_rules, Known}
use Rattle.affine_places.specs.Roots.{has_extents}

abbrev mutual
  pub block_keeps_rules : Block → Bool
  block_keeps_rules end = true
  block_keeps_rules (next a b) = statement_keeps_rules a && block_keeps_rules b

  pub statement_keeps_rules : Statement → Bool
  statement_keeps_rules (Assign x is e) = true
  statement_keeps_rules (Reduce x is e) = true
  statement_keeps_rules (Config f a) = fact_keeps_rules (Known a)
  statement_keeps_rules Pass = true
  statement_keeps_rules (If c a b) = condition_keeps_rules c && ((is_short a && is_short b) && (block_keeps_rules a && block_keeps_rules b))
  statement_keeps_rules (For i lo hi b) = (keeps_rules lo && keeps_rules hi) && (is_short b && block_keeps_rules b)
  statement_keeps_rules (Alloc x cell dims memory) = true
  statement_keeps_rules (View w x coords) = true
  statement_keeps_rules (Call k args) = true

abbrev pub procedure_keeps_rules : Procedure → Bool
procedure_keeps_rules p = has_extents p && (list_all condition_keeps_rules p.asserts && (is_short p.body && block_keeps_rules p.body))
