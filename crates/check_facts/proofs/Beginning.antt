-- Formulas of parameters and assertions, where each field has its value at entry.
use Rattle.std.proofs.Common.{◌≡◌, ℕ, suc, ◌+◌, ◌<◌, Bool, true, List, [], ◌∷◌, ◌++◌, map, length, drop, get_or, sym, ap, ◌∙◌, subst, Result, IsErrAnd, drop-cons, add-one}
use Rattle.std.specs.List.{list_all}
use Rattle.std.proofs.lemmas.List.{map-append}
use Rattle.std.specs.Prelude.{pos}
use Rattle.exo_tree.specs.Tree.{Condition, Le, Lit, Var, Param}
use Rattle.exo_tree.specs.PlainProcedure.{procedure}
use Rattle.exo_tree.specs.PlainUnit.{program}
use Rattle.meaning_laws.specs.Facts.{Holds}
use Rattle.meaning_laws.specs.Known.{param_facts, params_facts}
use Rattle.meaning_laws.specs.KnownFields.{KnownFields, at_entry}
use Rattle.meaning_laws.specs.PlaceFacts.{PlaceFact}
use Rattle.affine_forms.specs.declared.error.FormError.{FormError}
use Rattle.affine_forms.specs.Formulas.{Formula}
use Rattle.affine_forms.specs.Outcomes.{IsWide}
use Rattle.check_facts.specs.Contexts.{all_fit}
use Rattle.check_facts.specs.Walks.{SameBelow, Added, known_first}
use Rattle.check_facts.specs.declared.basis.Basis.{Basis}
use Rattle.check_facts.proofs.Rooms.{parts}
use Rattle.check_facts.proofs.Adding.{Came, added_more, refused_first, left_early}

pub entry_same : (count : ℕ) (known : KnownFields) → known ≡ at_entry → SameBelow count known at_entry
entry_same count known h = λ f lt. ap (λ k. k f) h

-- ---- one after the other

-- facts that are some and then others
pub parts_added : {A : Type 0} (r : Result A FormError) (g : Basis) (es fs gs : List PlaceFact) (old now new : List Formula) → es ≡ fs ++ gs → Came g fs old now → Added r g gs now new → Added r g es old new
parts_added r g es fs gs old now new e first more = subst (λ xs. Added r g xs old new) (sym e) (added_more r g fs gs old now new first more)

pub part_refused : {A : Type 0} (r : Result A FormError) (g : Basis) (es fs gs : List PlaceFact) (old new : List Formula) (e : FormError) → es ≡ fs ++ gs → IsErrAnd r (λ x. x ≡ e) → IsWide e (all_fit (program g.unit.now) (procedure g.proc.now) fs) → Added r g es old new
part_refused r g es fs gs old new e s is w = subst (λ xs. Added r g xs old new) (sym s) (left_early r e g (fs ++ gs) old new is (refused_first g fs gs e w))

-- ---- parameters and assertions

pub first_param : (p : Param) (ps rest : List Param) → ps ≡ p ∷ rest → known_first (params_facts ps) ≡ known_first (param_facts p.binder.id p.kind) ++ known_first (params_facts rest)
first_param p ps rest e = ap (λ qs. known_first (params_facts qs)) e ∙ map-append (λ fact. record { known = at_entry; fact = fact }) (param_facts p.binder.id p.kind) (params_facts rest)

pub first_assert : (c : Condition) (cs rest : List Condition) → cs ≡ c ∷ rest → known_first (map Holds cs) ≡ (record { known = at_entry; fact = Holds c } ∷ []) ++ known_first (map Holds rest)
first_assert c cs rest e = ap (λ ds. known_first (map Holds ds)) e

pub rest_keeps : (f : Condition → Bool) (c : Condition) (cs rest : List Condition) → cs ≡ c ∷ rest → list_all f cs ≡ true → list_all f rest ≡ true
rest_keeps f c cs rest e h = (parts (f c) (list_all f rest) (sym (ap (list_all f) e) ∙ h)).1

-- a truth is 0 or 1
abbrev pub from_zero : ℕ → List PlaceFact
from_zero x = record { known = at_entry; fact = Holds (Le (Lit (pos 0)) (Var x)) } ∷ []

abbrev pub up_to_one : ℕ → List PlaceFact
up_to_one x = record { known = at_entry; fact = Holds (Le (Var x) (Lit (pos 1))) } ∷ []

-- ---- lists that are gone through

pub drop_read : {X : Type 0} (xs : List X) (k : ℕ) (x : X) → x ≡ get_or xs k x → k < length xs → drop k xs ≡ x ∷ drop (k + 1) xs
drop_read xs k x r h = drop-cons xs k x h ∙ ap (λ y. y ∷ drop (suc k) xs) (sym r) ∙ ap (λ n. x ∷ drop n xs) (sym (add-one k))
