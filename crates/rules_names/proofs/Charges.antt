-- The first fault of two lists of faults is the earlier of the first ones.
use Rattle.std.proofs.Common.{◌≡◌, ℕ, ◌==◌, nat_lt, Bool, true, false, ◌&&◌, ◌||◌, List, [], ◌∷◌, ◌++◌, Option, Some, None, refl, sym, ap, ◌∙◌, arith, if◌then◌else◌}
use Rattle.std.proofs.lemmas.Bool.Decides.{nat_tests}
use Rattle.std.proofs.lemmas.List.Folds.{list_any-append}
use Rattle.std.proofs.lemmas.List.{append-nil}
use Rattle.rules_names.specs.declared.fault.Charge.{Charge}
use Rattle.rules_names.specs.declared.fault.Fault.{Fault}
use Rattle.rules_names.specs.Faults.{rank_of, is_before, earlier, least, hides, any_hides, charged, parts_then_whole}

-- by tokens and then by ranks
abbrev before : ℕ → ℕ → ℕ → ℕ → Bool
before s p t q = nat_lt s t || ((s == t) && nat_lt p q)

before_trans : (s p t q u r : ℕ) → before s p t q ≡ true → before t q u r ≡ true → before s p u r ≡ true
before_trans s p t q u r h k = grind (arith, nat_tests)

not_before_trans : (s p t q u r : ℕ) → before s p t q ≡ false → before t q u r ≡ false → before s p u r ≡ false
not_before_trans s p t q u r h k = grind (arith, nat_tests)

trans : (a b c : Fault) → is_before a b ≡ true → is_before b c ≡ true → is_before a c ≡ true
trans a b c h k = before_trans a.token (rank_of a.rule) b.token (rank_of b.rule) c.token (rank_of c.rule) h k

not_trans : (a b c : Fault) → is_before a b ≡ false → is_before b c ≡ false → is_before a c ≡ false
not_trans a b c h k = not_before_trans a.token (rank_of a.rule) b.token (rank_of b.rule) c.token (rank_of c.rule) h k

-- by the tests of b against a, of c against b and of c against a
assoc_of : (a b c : Fault) (p q r : Bool) → is_before b a ≡ p → is_before c b ≡ q → is_before c a ≡ r → earlier (Some a) (earlier (Some b) (Some c)) ≡ earlier (earlier (Some a) (Some b)) (Some c)
assoc_of a b c true true true x y z = grind arith
assoc_of a b c true true false x y z = let w = trans c b a y x in grind arith
assoc_of a b c true false r x y z = grind arith
assoc_of a b c false true r x y z = grind arith
assoc_of a b c false false false x y z = grind arith
assoc_of a b c false false true x y z = let w = not_trans c b a y x in grind arith

earlier_none : (a : Option Fault) → earlier a None ≡ a
earlier_none None = refl
earlier_none (Some a) = refl

assoc : (a b c : Option Fault) → earlier a (earlier b c) ≡ earlier (earlier a b) c
assoc None b c = refl
assoc (Some a) None c = refl
assoc (Some a) (Some b) None = sym (earlier_none (earlier (Some a) (Some b)))
assoc (Some a) (Some b) (Some c) = assoc_of a b c _ _ _ refl refl refl

pub least_append : (xs ys : List Fault) → least (xs ++ ys) ≡ earlier (least xs) (least ys)
least_append [] ys = refl
least_append (x ∷ xs) ys = ap (earlier (Some x)) (least_append xs ys) ∙ assoc (Some x) (least xs) (least ys)

pub any_hides_append : (xs ys : List Fault) → any_hides (xs ++ ys) ≡ (any_hides xs || any_hides ys)
any_hides_append xs ys = list_any-append (λ f. hides f.rule) xs ys

pub hides_of : (c : Charge) (faults : List Fault) → c ≡ charged faults → c.hides ≡ any_hides faults
unfolding charged
hides_of c faults p = ap (λ k. k.hides) p

pub first_of : (c : Charge) (faults : List Fault) → c ≡ charged faults → c.first ≡ least faults
unfolding charged
first_of c faults p = ap (λ k. k.first) p

-- parts of which one hides the whole, and parts of which none does
pub whole_hidden : (parts whole : List Fault) → any_hides parts ≡ true → parts ≡ parts_then_whole parts whole
whole_hidden parts whole h = sym (append-nil parts) ∙ ap (λ b. parts ++ (if b then [] else whole)) (sym h)

pub whole_shown : (parts whole : List Fault) → any_hides parts ≡ false → parts ++ whole ≡ parts_then_whole parts whole
whole_shown parts whole h = ap (λ b. parts ++ (if b then [] else whole)) (sym h)
