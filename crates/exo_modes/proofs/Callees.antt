-- The procedures that may be called, and what a call of one touches.
use Rattle.std.proofs.Common.{◌≡◌, ℕ, zero, suc, ◌+◌, ◌<◌, ◌≤◌, List, [], ◌∷◌, ◌++◌, Option, Some, None, option_map, slice_get, get_or, length, take, map, refl, ap, sym, ◌∙◌, add-one, subst, arith}
use Rattle.exo_tree.specs.Tree.{Argument, Procedure}
use Rattle.exo_meaning.specs.Calls.{Callee}
use Rattle.exo_meaning.specs.Modes.{Mode, Modes, call_has, no_modes, modes_at}
use Rattle.exo_modes.specs.Marks.{argument_marks, call_marks, callable}

-- the procedure of that number, if there is a row of it
pub listed_at : List Procedure → List Modes → ℕ → Option Procedure
listed_at [] ms k = None
listed_at (p ∷ ps) [] k = None
listed_at (p ∷ ps) (m ∷ ms) zero = Some p
listed_at (p ∷ ps) (m ∷ ms) (suc k) = listed_at ps ms k

pub can_call : (ps : List Procedure) (ms : List Modes) (k : ℕ) → option_map (λ c. c.procedure) (callable ps ms k) ≡ listed_at ps ms k
unfolding listed_at
can_call [] ms k = refl
can_call (p ∷ ps) [] k = refl
can_call (p ∷ ps) (m ∷ ms) zero = refl
can_call (p ∷ ps) (m ∷ ms) (suc k) = can_call ps ms k

pub listed_taken : (ps : List Procedure) (ms : List Modes) (k : ℕ) → listed_at ps ms k ≡ slice_get (take (length ms) ps) k
unfolding listed_at
listed_taken [] [] k = refl
listed_taken [] (m ∷ ms) k = refl
listed_taken (p ∷ ps) [] k = refl
listed_taken (p ∷ ps) (m ∷ ms) zero = refl
listed_taken (p ∷ ps) (m ∷ ms) (suc k) = listed_taken ps ms k

listed_above : (ps : List Procedure) (ms : List Modes) (k : ℕ) → k < length ms → listed_at ps ms k ≡ slice_get ps k
unfolding listed_at
listed_above [] ms k h = refl
listed_above (p ∷ ps) [] k h = absurd (omega (arith, h))
listed_above (p ∷ ps) (m ∷ ms) zero h = refl
listed_above (p ∷ ps) (m ∷ ms) (suc k) h = listed_above ps ms k (omega (arith, h))

listed_below : (ps : List Procedure) (ms : List Modes) (k : ℕ) → length ms ≤ k → listed_at ps ms k ≡ None
unfolding listed_at
listed_below [] ms k h = refl
listed_below (p ∷ ps) [] k h = refl
listed_below (p ∷ ps) (m ∷ ms) zero h = absurd (omega (arith, h))
listed_below (p ∷ ps) (m ∷ ms) (suc k) h = listed_below ps ms k (omega (arith, h))

-- what a call touches depends on the callee's procedure alone
pub call_by : Option Procedure → Modes → (ℕ → ℕ) → List Argument → Modes
call_by None given root args = no_modes
call_by (Some p) given root args = argument_marks given root p.params args

pub call_of : (c : Option Callee) (given : Modes) (root : ℕ → ℕ) (args : List Argument) → (λ (m : Mode) (y : ℕ). call_has c (given m) root y args) ≡ call_by (option_map (λ x. x.procedure) c) given root args
unfolding call_by
call_of None given root args = refl
call_of (Some c) given root args = refl

call_is : (ps : List Procedure) (ms : List Modes) (k : ℕ) (root : ℕ → ℕ) (args : List Argument) (o : Option Procedure) → listed_at ps ms k ≡ o → call_marks ps ms root k args ≡ call_by o (modes_at ms k) root args
call_is ps ms k root args o e =
    call_of (callable ps ms k) (modes_at ms k) root args ∙ ap (λ o. call_by o (modes_at ms k) root args) (can_call ps ms k ∙ e)

-- a call of a procedure above
pub call_above : (ps : List Procedure) (ms : List Modes) (k : ℕ) (root : ℕ → ℕ) (args : List Argument) (p : Procedure) → k < length ms → slice_get ps k ≡ Some p → call_marks ps ms root k args ≡ argument_marks (modes_at ms k) root p.params args
unfolding call_by
call_above ps ms k root args p h e = call_is ps ms k root args (Some p) (listed_above ps ms k h ∙ e)

-- no procedure of that number is above
pub call_below : (ps : List Procedure) (ms : List Modes) (k : ℕ) (root : ℕ → ℕ) (args : List Argument) → length ms ≤ k → call_marks ps ms root k args ≡ no_modes
unfolding call_by
call_below ps ms k root args h = call_is ps ms k root args None (listed_below ps ms k h)

pub call_nowhere : (ps : List Procedure) (ms : List Modes) (k : ℕ) (root : ℕ → ℕ) (args : List Argument) → k < length ms → slice_get ps k ≡ None → call_marks ps ms root k args ≡ no_modes
unfolding call_by
call_nowhere ps ms k root args h e = call_is ps ms k root args None (listed_above ps ms k h ∙ e)

-- the modes that a row says
pub modes_of_read : {X : Type 0} (f : X → Modes) (xs : List X) (k : ℕ) (x : X) → x ≡ get_or xs k x → k < length xs → modes_at (map f xs) k ≡ f x
modes_of_read f [] k x e h = absurd (omega (arith, h))
modes_of_read f (y ∷ xs) zero x e h = ap f (sym e)
modes_of_read f (y ∷ xs) (suc k) x e h = modes_of_read f xs k x e (omega (arith, h))

-- where there is no row
pub modes_of_none : {X : Type 0} (f : X → Modes) (xs : List X) (k : ℕ) → length xs ≤ k
    → modes_at (map f xs) k ≡ no_modes
modes_of_none f [] k h = refl
modes_of_none f (y ∷ xs) zero h = absurd (omega (arith, h))
modes_of_none f (y ∷ xs) (suc k) h = modes_of_none f xs k (omega (arith, h))

taken_more : {X Y : Type 0} (f : X → Y) (xs : List X) (k : ℕ) (x : X) → x ≡ get_or xs k x → k < length xs → take (suc k) (map f xs) ≡ take k (map f xs) ++ f x ∷ []
taken_more f [] k x e h = absurd (omega (arith, h))
taken_more f (y ∷ xs) zero x e h = ap (λ z. f z ∷ []) (sym e)
taken_more f (y ∷ xs) (suc k) x e h = ap (λ zs. f y ∷ zs) (taken_more f xs k x e (omega (arith, h)))

-- one procedure more is taken
pub take_read : {X Y : Type 0} (f : X → Y) (xs : List X) (ys : List Y) (k : ℕ) (x : X) → map f xs ≡ ys → x ≡ get_or xs k x → k < length xs → take (k + 1) ys ≡ take k ys ++ f x ∷ []
take_read f xs ys k x m e h = subst (λ zs. take (k + 1) zs ≡ take k zs ++ f x ∷ []) m (ap (λ n. take n (map f xs)) (add-one k) ∙ taken_more f xs k x e h)
