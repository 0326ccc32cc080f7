-- Texts of which the laws speak: one of each kind, and some that are none.
use Rattle.std.specs.Prelude.{◌≡◌, Some, None, codes}
use Rattle.exo_reader.specs.declared.unit.ReadKind.TheVariants.{Syntax}
use Rattle.cursor_forward.specs.Search.Patterns as p
use Rattle.schedule_text.specs.Patterns.Errors.{error_in}
use Rattle.schedule_text.specs.Patterns.Grammar.{statement, meant, expression, form_meant}
use Rattle.schedule_text.specs.Patterns.Names.{IsName, name_fault}
use Rattle.schedule_text.specs.Patterns.Texts.{IsPattern, IsPatternFault}

pub record TextInstance : Type 0 where
  pub loop : IsPattern statement meant (codes "i #1") (p.Loop (Some (codes "i"))) 1
  pub no_number : IsPatternFault statement (codes "i # 1") (error_in 3 Syntax)
  pub any : IsPattern expression form_meant (codes " _ ") (p.Read None) 0
  pub name : IsName (codes "i")
  pub word : name_fault (codes "in") ≡ Some (error_in 1 Syntax)
  pub blank : name_fault (codes "i ") ≡ Some (error_in 2 Syntax)
