use Rattle.config_laws.proofs.OfLive.LiveFits.{live_fits}
use Rattle.config_laws.proofs.live.laws.replaced_where_fields_fit.Goals as goal

pub returns : goal.returns
returns c = live_fits
