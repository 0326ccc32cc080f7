-- The plain forms of patterns.
use Rattle.cursor_forward.specs.Search.Patterns as plain
use Rattle.cursor_forward.specs.declared.search.pattern.Pattern.{Pattern}
use Rattle.cursor_forward.specs.declared.search.pattern.Pattern.TheVariants.{Loop, Nest, Alloc}
use Rattle.cursor_forward.specs.declared.search.pattern.Pattern.TheVariants.{Assign, Reduce, If}
use Rattle.cursor_forward.specs.declared.search.pattern.Pattern.TheVariants.{Call, Pass, Config}
use Rattle.cursor_forward.specs.declared.search.pattern.ExprForm.{ExprForm}
use Rattle.cursor_forward.specs.declared.search.pattern.ExprForm.TheVariants.{Read, Add, Sub, Mul}
use Rattle.cursor_forward.specs.declared.search.pattern.ExprPattern.{ExprPattern}

abbrev pub plain_pattern : Pattern → plain.Pattern
plain_pattern (Loop i) = plain.Loop i
plain_pattern (Nest i j) = plain.Nest i j
plain_pattern (Alloc x) = plain.Alloc x
plain_pattern (Assign x) = plain.Assign x
plain_pattern (Reduce x) = plain.Reduce x
plain_pattern If = plain.If
plain_pattern (Call f) = plain.Call f
plain_pattern Pass = plain.Pass
plain_pattern (Config c f) = plain.Config c f

abbrev pub plain_form : ExprForm → plain.ExprForm
plain_form (Read x) = plain.Read x
plain_form Add = plain.Add
plain_form Sub = plain.Sub
plain_form Mul = plain.Mul

abbrev pub plain_expr_pattern : ExprPattern → plain.ExprPattern
plain_expr_pattern p = record { form = plain_form p.form; nth = p.nth }
