-- The plain form of what is sought.
use Rattle.call_rewrites.specs.Sought as plain
use Rattle.call_rewrites.specs.declared.arguments.Sought.{Sought}
use Rattle.call_rewrites.specs.declared.arguments.Sought.TheVariants.{Number, Truth, Buffer}

abbrev pub plain_sought : Sought → plain.Sought
plain_sought Number = plain.Number
plain_sought Truth = plain.Truth
plain_sought Buffer = plain.Buffer
