-- The plain form of an operation.
use Rattle.proc_laws.specs.Expression.Exchange as plain
use Rattle.proc_rewrites.specs.declared.expressions.exchange.Operation.{Operation}
use Rattle.proc_rewrites.specs.declared.expressions.exchange.Operation.TheVariants.{Sum, Product}

abbrev pub plain_operation : Operation → plain.Operation
plain_operation Sum = plain.Sum
plain_operation Product = plain.Product
