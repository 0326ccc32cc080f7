use Rattle.std.proofs.Common.{◌≡◌, false, true, refl, arith, inl}
use Rattle.text_phrases.proofs.Exits.{exit}
use Rattle.exo_reader.proofs.Parameters.{can_enclose, room_for, full_parameters}
use Rattle.exo_reader.proofs.Lists.{items_more, items_last, items_ended, items_err, comma_shorter}
use Rattle.exo_reader.proofs.parameter.read_parameters.Goals as goal

pub returns-in_err-param : goal.returns-in_err-param
returns-in_err-param c =
    exit _ _ _ _ _ _ c.from_residual.ensures.1 (items_err _ _ _ _ _ _ _ _ can_enclose (room_for _ (omega arith))
    c.more.invariant (λ ends. let h : false ≡ true = c.more-test.ensures.1 ends in cc (h)) c.in_err-param.ensures)

pub returns-in_default : goal.returns-in_default
returns-in_default c =
    rw c.in_ok-push.ensures.items (items_last _ _ _ _ _ _ _ _ _ can_enclose (room_for _ (omega arith))
    c.more.invariant (λ ends. let h : false ≡ true = c.more-test.ensures.1 ends in cc (h)) c.in_ok-param.ensures
    c.in_default.ensures)

pub more-preserved : goal.more-preserved
more-preserved c =
    rw c.in_ok-push.ensures.items (items_more _ _ _ _ _ _ _ _ _ _ can_enclose (room_for _ (omega arith))
    c.more.invariant (λ ends. let h : false ≡ true = c.more-test.ensures.1 ends in cc (h)) c.in_ok-param.ensures
    c.in-Some.ensures)

pub more-init : goal.more-init
more-init c = inl (c.new-items.ensures.items, refl, refl)

pub more-smaller : goal.more-smaller
more-smaller c = comma_shorter _ _ _ _ _ c.in_ok-param.ensures c.in-Some.ensures

pub returns-then-len-ge-PARAMETERS : goal.returns-then-len-ge-PARAMETERS
returns-then-len-ge-PARAMETERS c =
    full_parameters _ _ _ _ _ c.more.invariant (λ ends. let h : false ≡ true = c.more-test.ensures.1 ends in cc
    (h)) (omega arith) c.refuse_item.ensures

pub returns : goal.returns
returns c = items_ended _ _ _ _ _ _ _ can_enclose c.more.invariant (c.more-test.ensures.0 refl)
