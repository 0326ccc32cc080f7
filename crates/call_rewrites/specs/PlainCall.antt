-- The plain form of a call.
use Rattle.match_laws.specs.Inline.InlineRule.{Called}
use Rattle.call_rewrites.specs.declared.calls.CallAt.{CallAt}

abbrev pub plain_call : CallAt → Called
plain_call c = record { callee = c.callee.0; args = c.args.now }
