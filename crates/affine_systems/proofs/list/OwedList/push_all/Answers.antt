use Rattle.std.proofs.Common.{◌≤◌, ◌-◌, map, length, sym, subst, ap, ◌++◌, ◌≡◌, true, List, ℕ, ◌+◌, ◌∙◌, arith, rules}
use Rattle.affine_systems.specs.Outcomes.{plain_obligation}
use Rattle.affine_systems.specs.Limits.{terms_in, are_within}
use Rattle.affine_systems.specs.declared.obligation.Obligation.{Obligation}
use Rattle.std.proofs.lemmas.List.{map-append}
use Rattle.affine_systems.proofs.Within.{both_within, none_before, few_terms, all_terms_few, terms_by_system}
use Rattle.affine_systems.proofs.list.OwedList.push_all.Goals as goal

pub overflow_add-terms : goal.overflow_add-terms
overflow_add-terms c =
    let now = few_terms (map plain_obligation c.self.inside.items.items) c.self.inside.terms c.self.invariant.0 c.self.invariant.1 in
    let more = c.deref.result.now in
    let few : length more ≤ 65536 = search rules in
    let counted = c.terms_of.ensures ∙ sym (terms_by_system more) in
    omega (arith, now, few, counted, all_terms_few more)

-- the number of terms, and that no limit is passed
abbrev Counted : ℕ → List Obligation → Type 0
Counted n os = (n ≡ terms_in (map plain_obligation os)) × (are_within (map plain_obligation os) ≡ true)

pub invariant_of-self : goal.invariant_of-self
invariant_of-self c =
    let old = c.self.inside.items.items in
    let more = c.args.more.items in
    let few : length more ≤ 65536 - length old = omega (arith, c.if-len.false, c.len.ensures, c.len-2.ensures) in
    let terms = c.terms_of.ensures ∙ ap (λ os. terms_in (map plain_obligation os)) c.deref.ensures.value in
    let both = both_within old more c.self.inside.terms c.terms_of.result c.self.invariant.0
    c.self.invariant.1 terms few c.if-terms-gt-MOST_TERMS.false in
    let none = none_before old c.self.inside.items.len (omega (arith, c.len-2.ensures)) c.if-is_empty.ensures in
    subst (λ xs. Counted (c.self.inside.terms + c.terms_of.result) (xs ++ more)) none both

pub invariant_of-self-2 : goal.invariant_of-self-2
invariant_of-self-2 c =
    let old = c.self.inside.items.items in
    let more = c.args.more.items in
    let few : length more ≤ 65536 - length old = omega (arith, c.if-len.false, c.len.ensures, c.len-2.ensures) in
    let terms = c.terms_of.ensures ∙ ap (λ os. terms_in (map plain_obligation os)) c.deref.ensures.value in
    let both = both_within old more c.self.inside.terms c.terms_of.result c.self.invariant.0
    c.self.invariant.1 terms few c.if-terms-gt-MOST_TERMS.false in
    subst (Counted (c.self.inside.terms + c.terms_of.result)) (sym c.in-Ok.ensures.items) both

pub returns : goal.returns
returns c =
    let old = c.self.inside.items.items in
    let more = c.args.more.items in
    let few : length more ≤ 65536 - length old = omega (arith, c.if-len.false, c.len.ensures, c.len-2.ensures) in
    let terms = c.terms_of.ensures ∙ ap (λ os. terms_in (map plain_obligation os)) c.deref.ensures.value in
    let both = both_within old more c.self.inside.terms c.terms_of.result c.self.invariant.0
    c.self.invariant.1 terms few c.if-terms-gt-MOST_TERMS.false in
    let parts = map-append plain_obligation old more ∙ ap (λ xs. xs ++ map plain_obligation more) c.self.view_is in
    (sym (ap are_within parts) ∙ both.1, ap (map plain_obligation) c.in-Ok.ensures.items ∙ parts)

pub returns-then-is_empty : goal.returns-then-is_empty
returns-then-is_empty c =
    let old = c.self.inside.items.items in
    let more = c.args.more.items in
    let few : length more ≤ 65536 - length old = omega (arith, c.if-len.false, c.len.ensures, c.len-2.ensures) in
    let terms = c.terms_of.ensures ∙ ap (λ os. terms_in (map plain_obligation os)) c.deref.ensures.value in
    let both = both_within old more c.self.inside.terms c.terms_of.result c.self.invariant.0
    c.self.invariant.1 terms few c.if-terms-gt-MOST_TERMS.false in
    let none = none_before old c.self.inside.items.len (omega (arith, c.len-2.ensures)) c.if-is_empty.ensures in
    let parts = map-append plain_obligation old more ∙ ap (λ xs. xs ++ map plain_obligation more) c.self.view_is in
    (sym (ap are_within parts) ∙ both.1, sym (ap (λ xs. map plain_obligation (xs ++ more)) none) ∙ parts)
