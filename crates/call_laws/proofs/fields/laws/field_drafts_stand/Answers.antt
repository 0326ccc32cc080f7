use Rattle.call_laws.proofs.OfFields.Stand.{field_drafts_stand}
use Rattle.call_laws.proofs.fields.laws.field_drafts_stand.Goals as goal

pub returns : goal.returns
returns c = field_drafts_stand
