use Rattle.config_live.proofs.table.LiveTable.add.Goals as goal

pub returns : goal.returns
returns c = record {
  entry = c.in_ok-called.called;
  last = c.in_ok-push.ensures.items;
  calls = c.in_ok-called.ensures;
}
