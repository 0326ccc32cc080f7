-- Parameters and arguments, pair by pair.
use Rattle.std.proofs.Common.{◌≡◌, ◌<◌, ◌≤◌, ◌+◌, nat_le, min, ℕ, true, false, Bool, if◌then◌else◌, List, [], ◌∷◌, map, length, drop, get_or, refl, ap, ap₂, ◌∙◌, arith}
use Rattle.std.proofs.lemmas.List.{drop_more}
use Rattle.exo_tree.specs.Tree.{Param, Argument}
use Rattle.exo_meaning.specs.Units.{is_hole_of}
use Rattle.c_tree.specs.CTree.{Plain}
use Rattle.c_lowering.specs.Made.Lowered.{Naming, Forms, actual_of, actuals_of, piece_for}
use Rattle.c_lowering.specs.Made.Lowered.{piece_named}
use Rattle.c_lowering.proofs.Lists.{mapped_next, none_mapped}

pub actuals_next : (naming : Naming) (forms : Forms) (p : Param) (ps qs : List Param) (a : Argument) (rest args : List Argument) → qs ≡ p ∷ ps → args ≡ a ∷ rest → actuals_of naming forms qs args ≡ actual_of naming forms p.kind a ∷ actuals_of naming forms ps rest
actuals_next naming forms p ps qs a rest args e f = ap₂ (actuals_of naming forms) e f

pub no_params : (naming : Naming) (forms : Forms) (ps : List Param) (args : List Argument) → ps ≡ [] → actuals_of naming forms ps args ≡ []
no_params naming forms ps args e = ap (λ l. actuals_of naming forms l args) e

pub no_arguments : (naming : Naming) (forms : Forms) (ps : List Param) (args : List Argument) → args ≡ [] → actuals_of naming forms ps args ≡ []
no_arguments naming forms [] args e = refl
no_arguments naming forms (p ∷ ps) args e = ap (actuals_of naming forms (p ∷ ps)) e

pub is_named : (naming : Naming) (forms : Forms) (p : Param) (ps qs : List Param) (a : Argument) (rest args : List Argument) (name : List ℕ) → qs ≡ p ∷ ps → args ≡ a ∷ rest → is_hole_of name p ≡ true → piece_named naming forms qs args name ≡ piece_for naming forms p.kind a
is_named naming forms p ps qs a rest args name e f on = ap₂ (λ l m. piece_named naming forms l m name) e f ∙ ap (λ b. if b then piece_for naming forms p.kind a else piece_named naming forms ps rest name) on

pub is_not_named : (naming : Naming) (forms : Forms) (p : Param) (ps qs : List Param) (a : Argument) (rest args : List Argument) (name : List ℕ) → qs ≡ p ∷ ps → args ≡ a ∷ rest → is_hole_of name p ≡ false → piece_named naming forms qs args name ≡ piece_named naming forms ps rest name
is_not_named naming forms p ps qs a rest args name e f off = ap₂ (λ l m. piece_named naming forms l m name) e f ∙ ap (λ b. if b then piece_for naming forms p.kind a else piece_named naming forms ps rest name) off

pub none_named : (naming : Naming) (forms : Forms) (ps : List Param) (args : List Argument) (name : List ℕ) → ps ≡ [] → piece_named naming forms ps args name ≡ Plain []
none_named naming forms ps args name e = ap (λ l. piece_named naming forms l args name) e

pub none_given : (naming : Naming) (forms : Forms) (ps : List Param) (args : List Argument) (name : List ℕ) → args ≡ [] → piece_named naming forms ps args name ≡ Plain []
none_given naming forms [] args name e = refl
none_given naming forms (p ∷ ps) args name e = ap (λ l. piece_named naming forms (p ∷ ps) l name) e

-- ---- from one place on, of the shorter list at the most

abbrev Left : {P A : Type 0} → (List Param → List Argument → Type 0) → (P → Param) → (A → Argument) → List P → List A → ℕ → Type 0
Left claim param arg ps args k = claim (map param (drop k ps)) (map arg (drop k args))

ended : {P A : Type 0} (claim : List Param → List Argument → Type 0) (param : P → Param) (arg : A → Argument) → ((ps : List Param) (args : List Argument) → ps ≡ [] → claim ps args) → ((ps : List Param) (args : List Argument) → args ≡ [] → claim ps args) → (ps : List P) (args : List A) (k : ℕ) → min (length ps) (length args) ≤ k → Left claim param arg ps args k
ended claim param arg no_ps no_args ps args k h = go (nat_le (length ps) k) refl
  where
    go : (b : Bool) → nat_le (length ps) k ≡ b → Left claim param arg ps args k
    go true e = no_ps (map param (drop k ps)) (map arg (drop k args)) (none_mapped param ps k (grind (arith, e)))
    go false e = no_args (map param (drop k ps)) (map arg (drop k args)) (none_mapped arg args k (shorter (length ps) (length args) e h))
      where
        shorter : (a b : ℕ) → nat_le a k ≡ false → min a b ≤ k → b ≤ k
        shorter a b f m = let above : k < a = grind (arith, f) in omega (arith, above, m)

pub actuals_left : {P A : Type 0} (naming : Naming) (forms : Forms) (param : P → Param) (arg : A → Argument) (ps : List P) (args : List A) (k : ℕ) → min (length ps) (length args) ≤ k → actuals_of naming forms (map param (drop k ps)) (map arg (drop k args)) ≡ []
actuals_left naming forms param arg ps args k h = ended (λ l m. actuals_of naming forms l m ≡ []) param arg (no_params naming forms) (no_arguments naming forms) ps args k h

pub none_named_left : {P A : Type 0} (naming : Naming) (forms : Forms) (name : List ℕ) (param : P → Param) (arg : A → Argument) (ps : List P) (args : List A) (k : ℕ) → min (length ps) (length args) ≤ k → piece_named naming forms (map param (drop k ps)) (map arg (drop k args)) name ≡ Plain []
none_named_left naming forms name param arg ps args k h = ended (λ l m. piece_named naming forms l m name ≡ Plain []) param arg (λ l m e. none_named naming forms l m name e) (λ l m e. none_given naming forms l m name e) ps args k h

-- a parameter that the name does not mean is passed over
pub passed_over : {P A : Type 0} (naming : Naming) (forms : Forms) (name : List ℕ) (param : P → Param) (arg : A → Argument) (ps : List P) (args : List A) (k : ℕ) (p : P) → k < length ps → k < length args → p ≡ get_or ps k p → is_hole_of name (param p) ≡ false → piece_named naming forms (map param (drop k ps)) (map arg (drop k args)) name ≡ piece_named naming forms (map param (drop (k + 1) ps)) (map arg (drop (k + 1) args)) name
passed_over naming forms name param arg ps args k p h l is off =
    let next = some_next args k l in
    is_not_named naming forms (param p) (map param (drop (k + 1) ps)) (map param (drop k ps)) (arg next.0) (map arg (drop (k + 1) args)) (map arg (drop k args)) name (mapped_next param ps k p h is) (ap (map arg) next.1) off
  where
    some_next : {B : Type 0} (xs : List B) (n : ℕ) → n < length xs → (x : B) × (drop n xs ≡ x ∷ drop (n + 1) xs)
    some_next [] n m = absurd (omega (arith, m))
    some_next (x ∷ xs) n m = (get_or (x ∷ xs) n x, drop_more (x ∷ xs) n x m)
