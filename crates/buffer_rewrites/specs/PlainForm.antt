-- The plain form of what is looked for in an expression.
use Rattle.alloc_laws.specs.Bind.Binding as plain
use Rattle.buffer_rewrites.specs.declared.parts.Form.{Form}
use Rattle.buffer_rewrites.specs.declared.parts.Form.TheVariants.{AnyRead, Sum, Difference, Product}
use Rattle.buffer_rewrites.specs.declared.parts.Form.TheVariants.{ReadOf}

abbrev pub plain_form : Form → plain.Form
plain_form AnyRead = plain.AnyRead
plain_form (ReadOf x) = plain.ReadOf x.0
plain_form Sum = plain.Sum
plain_form Difference = plain.Difference
plain_form Product = plain.Product
