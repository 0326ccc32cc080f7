-- Known values keep the rules.
use Rattle.std.proofs.Common.{◌≡◌, ℕ, zero, suc, ◌<◌, true, List, [], ◌∷◌, length, get_or, map, arith, ap, ◌∙◌}
use Rattle.affine_places.specs.Facts.{fact_keeps_rules, facts_keep_rules}
use Rattle.affine_places.specs.PlainFacts.{plain_fact, plain_entry}
use Rattle.affine_places.specs.declared.facts.FieldFact.{FieldFact}
use Rattle.affine_forms.proofs.Values.{and_parts}

pub rules_at : (es : List FieldFact) (k : ℕ) (e : FieldFact) → facts_keep_rules (map plain_entry es) ≡ true → k < length es → e ≡ get_or es k e → fact_keeps_rules (plain_fact e.fact) ≡ true
rules_at [] k e r h is = absurd (omega arith)
rules_at (x ∷ es) zero e r h is = ap (λ v. fact_keeps_rules (plain_fact v.fact)) is ∙ (and_parts (fact_keeps_rules (plain_fact x.fact)) (facts_keep_rules (map plain_entry es)) r).0
rules_at (x ∷ es) (suc k) e r h is = rules_at es k e (and_parts (fact_keeps_rules (plain_fact x.fact)) (facts_keep_rules (map plain_entry es)) r).1 (omega arith) is
