use Rattle.std.proofs.Common.{◌≡◌, false, true, refl}
use Rattle.text_phrases.proofs.Exits.{exit}
use Rattle.exo_reader.proofs.Parts.{optional_dims}
use Rattle.exo_reader.proofs.Optional.{something_err, something_taken, nothing_taken}
use Rattle.exo_reader.proofs.part.read_optional_dims.Goals as goal

pub returns-in_err-list : goal.returns-in_err-list
returns-in_err-list c = exit _ _ _ _ _ _ c.from_residual.ensures.1 (something_err optional_dims _ _ (c.if-stands_first.ensures.0 refl) c.in_err-list.ensures)

pub returns-then-stands_first : goal.returns-then-stands_first
returns-then-stands_first c = something_taken optional_dims _ _ _ c.in_ok-list.ensures

pub returns : goal.returns
returns c =
    rw c.new.ensures.items (nothing_taken optional_dims _ (λ opens. let h : false ≡ true =
    c.if-stands_first.ensures.1 opens in cc (h)))
