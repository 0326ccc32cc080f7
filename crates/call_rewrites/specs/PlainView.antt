-- The plain form of a view.
use Rattle.exo_tree.specs.PlainBinder.{binding}
use Rattle.match_laws.specs.Inline.InlineWindowRule.{Viewed}
use Rattle.call_rewrites.specs.declared.windows.ViewAt.{ViewAt}

abbrev pub plain_view : ViewAt → Viewed
plain_view v = record { binder = binding v.binder.now; buffer = v.buffer.0; coords = v.coords.now }
