-- What has been charged, and what is left to charge.
use Rattle.std.proofs.Common.{◌≡◌, List, [], ◌++◌, append_assoc, ap, sym, refl, ◌∙◌}
use Rattle.std.proofs.lemmas.List.{append-nil}
use Rattle.rules_names.specs.Faults.{charged}
use Rattle.rules_names.specs.declared.fault.Fault.{Fault}
use Rattle.rules_names.specs.declared.fault.Charge.{Charge}

-- the charge is that of the first of the faults, before the rest
pub record Gone (sum : Charge) (rest whole : List Fault) : Type 0 where
  pub done : List Fault
  pub charge : sum ≡ charged done
  pub left : whole ≡ done ++ rest

pub gone_first : (charge : Charge) (whole : List Fault) → charge ≡ charged [] → Gone charge whole whole
gone_first charge whole h = record { done = []; charge = h; left = refl }

-- nothing yet, of the same faults
pub gone_same : (charge : Charge) (rest whole : List Fault) → rest ≡ whole → charge ≡ charged [] → Gone charge rest whole
gone_same charge rest whole e h = record { done = []; charge = h; left = sym e }

pub gone_next : (charge after : Charge) (own rest more whole : List Fault) → ((a : List Fault) → charge ≡ charged a → after ≡ charged (a ++ own)) → rest ≡ own ++ more → Gone charge rest whole → Gone after more whole
gone_next charge after own rest more whole step r g = record {
  done = g.done ++ own;
  charge = step g.done g.charge;
  left = g.left ∙ ap (λ x. g.done ++ x) r ∙ sym (append_assoc g.done own more);
}

pub gone_all : (charge : Charge) (rest whole : List Fault) → rest ≡ [] → Gone charge rest whole → charge ≡ charged whole
gone_all charge rest whole r g = g.charge ∙ ap charged (sym (append-nil g.done) ∙ ap (λ x. g.done ++ x) (sym r) ∙ sym g.left)
