-- The attributes of a memory, one by one.
use Rattle.std.proofs.Common.{◌≡◌, ℕ, zero, suc, ◌+◌, ◌<◌, true, false, List, [], ◌∷◌, ◌++◌, Option, Some, None, length, map, drop, take, get_or, refl, ap, sym, ◌∙◌, add-one, arith}
use Rattle.std.specs.Option.{is_some}
use Rattle.exo_reader.specs.Views.{plain_attribute}
use Rattle.exo_reader.specs.declared.source.SourceAttribute.{SourceAttribute}
use Rattle.rules_names.specs.declared.fault.Fault.{Fault}
use Rattle.rules_names.specs.declared.fault.Charge.{Charge}
use Rattle.rules_names.specs.Faults.{charged, least, or_else}
use Rattle.exo_types.specs.MemoryRules.{attribute_faults, attributes_fault, attribute_width, attributes_width}
use Rattle.exo_types.proofs.Lists.{drop_read}

abbrev names : List SourceAttribute → List (List ℕ)
names xs = map (λ a. a.name) xs

some_stops : (o rest : Option Fault) → is_some o ≡ true → or_else o rest ≡ o
some_stops None rest h = cc
some_stops (Some f) rest h = refl

none_goes_on : (o rest : Option Fault) → is_some o ≡ false → or_else o rest ≡ rest
none_goes_on None rest h = refl
none_goes_on (Some f) rest h = cc

one_read : (xs : List SourceAttribute) (k n : ℕ) (x : SourceAttribute) (given : List (List ℕ)) → x ≡ get_or xs k x → k < length xs → attributes_fault given n (map plain_attribute (drop k xs)) ≡ or_else (least (attribute_faults given n (plain_attribute x))) (attributes_fault (given ++ x.name ∷ []) (n + attribute_width (plain_attribute x)) (map plain_attribute (drop (k + 1) xs)))
one_read xs k n x given e h = ap (λ l. attributes_fault given n (map plain_attribute l)) (drop_read xs k x e h)

-- the first of them that breaks a rule decides
pub stops : (xs before : List SourceAttribute) (k n : ℕ) (x : SourceAttribute) (own : Charge) (whole : Option Fault) → before ≡ take k xs → x ≡ get_or xs k x → k < length xs → own ≡ charged (attribute_faults (map (λ a. a.name) before) n (plain_attribute x)) → is_some own.first ≡ true → attributes_fault (map (λ a. a.name) (take k xs)) n (map plain_attribute (drop k xs)) ≡ whole → own.first ≡ whole
unfolding charged
stops xs before k n x own whole b e h o s w =
    let rest = attributes_fault (names (take k xs) ++ x.name ∷ []) (n + attribute_width (plain_attribute x)) (map plain_attribute (drop (k + 1) xs)) in
    sym (some_stops own.first rest s)
    ∙ ap (λ c. or_else c.first rest) (o ∙ ap (λ l. charged (attribute_faults (names l) n (plain_attribute x))) b)
    ∙ sym (one_read xs k n x (names (take k xs)) e h)
    ∙ w

taken_more : (xs : List SourceAttribute) (k : ℕ) (x : SourceAttribute) → x ≡ get_or xs k x → k < length xs → names (take (suc k) xs) ≡ names (take k xs) ++ x.name ∷ []
taken_more [] k x e h = absurd (omega (arith, h))
taken_more (y ∷ xs) zero x e h = ap (λ z. z.name ∷ []) (sym e)
taken_more (y ∷ xs) (suc k) x e h = ap (λ zs. y.name ∷ zs) (taken_more xs k x e (omega (arith, h)))

-- else the others do
pub goes_on : (xs before : List SourceAttribute) (k n after : ℕ) (x : SourceAttribute) (own : Charge) (whole : Option Fault) → before ≡ take k xs → x ≡ get_or xs k x → k < length xs → own ≡ charged (attribute_faults (map (λ a. a.name) before) n (plain_attribute x)) → is_some own.first ≡ false → after ≡ n + attribute_width (plain_attribute x) → attributes_fault (map (λ a. a.name) (take k xs)) n (map plain_attribute (drop k xs)) ≡ whole → attributes_fault (map (λ a. a.name) (take (k + 1) xs)) after (map plain_attribute (drop (k + 1) xs)) ≡ whole
unfolding charged
goes_on xs before k n after x own whole b e h o s a w =
    let given = names (take k xs) ++ x.name ∷ [] in
    let rest = attributes_fault given (n + attribute_width (plain_attribute x)) (map plain_attribute (drop (k + 1) xs)) in
    (λ i. attributes_fault (names (take (add-one k i) xs)) (a i) (map plain_attribute (drop (k + 1) xs)))
    ∙ ap (λ g. attributes_fault g (n + attribute_width (plain_attribute x)) (map plain_attribute (drop (k + 1) xs))) (taken_more xs k x e h)
    ∙ sym (none_goes_on own.first rest s)
    ∙ ap (λ c. or_else c.first rest) (o ∙ ap (λ l. charged (attribute_faults (names l) n (plain_attribute x))) b)
    ∙ sym (one_read xs k n x (names (take k xs)) e h)
    ∙ w

pub width_read : (xs : List SourceAttribute) (k : ℕ) (x : SourceAttribute) → x ≡ get_or xs k x → k < length xs → attributes_width (map plain_attribute (drop k xs)) ≡ attribute_width (plain_attribute x) + attributes_width (map plain_attribute (drop (k + 1) xs))
width_read xs k x e h = ap (λ l. attributes_width (map plain_attribute l)) (drop_read xs k x e h)
