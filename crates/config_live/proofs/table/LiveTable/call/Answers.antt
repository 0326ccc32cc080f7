use Rattle.std.proofs.Common.{ap, sym, ◌∙◌}
use Rattle.std.specs.Prelude.{slice_get}
use Rattle.config_live.proofs.Statements.{callee_at, callee_on, on_ok}
use Rattle.config_live.proofs.table.LiveTable.call.Goals as goal

pub returns : goal.returns
returns c =
    on_ok c.write_all.result _ _
    (λ h. callee_on c.args.self.now c.args.p.0 c.in-Some.called.now c.args.way.now
    c.read_all.new.self c.write_all.new.self c.args.added.now c.write_all.new.added
    (ap (λ z. slice_get z c.args.p.0) (sym c.deref.ensures.value)
    ∙ callee_at c.deref.result.now c.args.p.0 c.in-Some.called.now
    c.in-Some.ensures.lookup.3.0 c.in-Some.ensures.lookup.1)
    c.in_ok-read_all.ensures h)
    c.write_all.ensures
