use Rattle.call_laws.proofs.OfReplace.MatchedKinds.{kinds_match}
use Rattle.call_laws.proofs.replace.laws.matches_give_arguments_of_kinds.Goals as goal

pub returns : goal.returns
returns c = kinds_match
