use Rattle.config_live.proofs.Listed.{listed_push}
use Rattle.config_live.proofs.fields.FieldList.push.Goals as goal

pub returns : goal.returns
returns c =
    listed_push c.args.self.now c.self.inside.items.items c.push.new.self.items c.args.f.0
    c.self.view_is c.in_ok-push.ensures.items
