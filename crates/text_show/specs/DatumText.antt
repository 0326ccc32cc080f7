-- The text of expressions over cells.
use Rattle.std.specs.Prelude.{ℕ, [], ◌∷◌, ◌++◌, codes}
use Rattle.std.specs.Fmt.{signed_decimal}
use Rattle.exo_tree.specs.Tree.{Datum, Const, Read, Negated, Relu, Plus, Minus, Times, Select}
use Rattle.text_show.specs.declared.precedence.TheConstants.{SUM, PRODUCT, UNARY}
use Rattle.text_show.specs.Layout.{Text, listed, operand, between}
use Rattle.text_show.specs.Words.{Words}
use Rattle.text_show.specs.ControlText.{access_text}

-- how tightly the outermost operator binds
abbrev pub datum_precedence : Datum → ℕ
datum_precedence (Plus a b) = SUM
datum_precedence (Minus a b) = SUM
datum_precedence (Times a b) = PRODUCT
datum_precedence _ = UNARY

abbrev pub datum_in_place : ℕ → Datum → Text → Text
datum_in_place place e t = operand place (datum_precedence e) t

module _ (w : Words) where
  abbrev pub datum_text : Datum → Text
  datum_text (Const n) = signed_decimal n
  datum_text (Read x is) = access_text w x is
  datum_text (Negated a) = codes "-" ++ datum_in_place UNARY a (datum_text a)
  datum_text (Plus a b) = between (datum_in_place SUM a (datum_text a)) (codes "+") (datum_in_place PRODUCT b (datum_text b))
  datum_text (Minus a b) = between (datum_in_place SUM a (datum_text a)) (codes "-") (datum_in_place PRODUCT b (datum_text b))
  datum_text (Times a b) = between (datum_in_place PRODUCT a (datum_text a)) (codes "*") (datum_in_place UNARY b (datum_text b))
  datum_text (Relu a) = codes "relu(" ++ datum_text a ++ codes ")"
  datum_text (Select a b c d)
      = codes "select("
      ++ listed (datum_text a ∷ datum_text b ∷ datum_text c ∷ datum_text d ∷ [])
      ++ codes ")"
