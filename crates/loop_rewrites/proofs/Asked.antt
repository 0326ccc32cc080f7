-- What is asked, and what is not.
use Rattle.std.proofs.Common.{◌≡◌, Bool, false, List, [], ◌∷◌, ◌++◌, map, length}
use Rattle.std.proofs.Common.{Option, Some, None, Result, Ok, Err, sym, ap, ap₂, ◌∙◌, subst, arith}
use Rattle.std.specs.Prelude.{is_none}
use Rattle.std.specs.Result.{IsErrAnd}
use Rattle.exo_tree.specs.Tree.{Block}
use Rattle.cursor_forward.specs.Causes.{Cause, WrongShape}
use Rattle.cursor_forward.specs.PlainProposal.{cause_of}
use Rattle.cursor_forward.specs.declared.proposal.StepError.{StepError}
use Rattle.step_rules.specs.Rule.{Tried, Got, Not}
use Rattle.step_driver.specs.Outcomes.{Tries, RefusedBy}
use Rattle.exo_tree.specs.Places.{Opened}
use Rattle.step_rules.specs.Answer.{then_try, opened_or_wrong}
use Rattle.step_driver.specs.Spots.{or_nothing}
use Rattle.loop_laws.specs.Shapes.{listed_of}
use Rattle.loop_rewrites.proofs.Unrolled.{then_refused, then_got}
use Rattle.loop_rewrites.proofs.OfNest.Listed.{nothing_listed}

-- two that are pushed, one behind the other
pub both_pushed : {N M : Type 0} (f : N → M) (none one two : List N) (x y : N) (a b : M)
    → none ≡ [] → one ≡ none ++ (x ∷ []) → two ≡ one ++ (y ∷ []) → f x ≡ a → f y ≡ b
    → map f two ≡ a ∷ (b ∷ [])
both_pushed f none one two x y a b h i j k l =
    ap (map f) (j ∙ ap (λ ns. ns ++ (y ∷ [])) (i ∙ ap (λ ns. ns ++ (x ∷ [])) h))
    ∙ ap₂ (λ m n. m ∷ (n ∷ [])) k l

-- nothing of what is refused
pub nothing_asked : {N T U : Type 0} (f : N → T) (list : U → List T) (find : Block → Tried U)
    (ns : List N) (why : Option Cause) (a b : Block)
    → a ≡ b → RefusedBy (find a) why → false ≡ is_none why → ns ≡ []
    → map f ns ≡ listed_of list (find b)
nothing_asked f list find ns why a b e h k n =
    ap (map f) n
    ∙ sym (nothing_listed list (find b) why (subst (λ (x : Block). RefusedBy (find x) why) e h) (sym k))

-- an empty list and another
pub other_lists : {E P : Type 0} (f : E → P) (same : List P → List P → Bool) (y : E)
    (xs ys rest : List E) → length xs ≡ 0 → ys ≡ y ∷ rest
    → ((p : P) (ps : List P) → false ≡ same [] (p ∷ ps))
    → false ≡ same (map f xs) (map f ys)
other_lists f same y [] ys rest h e k =
    k (f y) (map f rest) ∙ ap (λ zs. same [] (map f zs)) (sym e)
other_lists f same y (x ∷ xs) ys rest h e k = absurd (omega (arith, h))

-- what is refused for a cause
pub refused_so : {T X : Type 0} (plain : X → T) (tried : Tried T) (result : Result X StepError)
    (e : StepError) → IsErrAnd result (λ r. r ≡ e) → RefusedBy tried (cause_of e)
    → Tries plain tried result
refused_so plain tried (Ok y) e away h = absurd away
refused_so plain tried (Err y) e away h =
    subst (λ (r : StepError). RefusedBy tried (cause_of r)) (sym away) h

-- what is refused at a place
pub refused_found : {X U T : Type 0} (find : Block → Tried U) (x : Option Opened) (k : U → Tried T)
    (plain : X → T) (b : Block) (result : Result X StepError) (e : StepError)
    → find (or_nothing None).piece ≡ Not WrongShape
    → IsErrAnd result (λ r. r ≡ e) → b ≡ (or_nothing x).piece → RefusedBy (find b) (cause_of e)
    → Tries plain (then_try (opened_or_wrong x) (λ (o : Opened). then_try (find o.piece) k)) result
refused_found {T = T} find x k plain b result e n away is h =
    refused_so plain (then_try (opened_or_wrong x) (λ (o : Opened). then_try (find o.piece) k)) result e away
    (at x (subst (λ (c : Block). RefusedBy (find c) (cause_of e)) is h))
  where
    at : (y : Option Opened) → RefusedBy (find (or_nothing y).piece) (cause_of e)
        → RefusedBy (then_try (opened_or_wrong y) (λ (o : Opened). then_try (find o.piece) k)) (cause_of e)
    at None q = subst (λ (t : Tried T). RefusedBy t (cause_of e)) (ap (λ t. then_try t k) n)
        (then_refused (find (or_nothing None).piece) k (cause_of e) q)
    at (Some o) q = then_refused (find o.piece) k (cause_of e) q

-- what is made of what is found
pub made_of : {T U : Type 0} (find : Block → Tried U) (made : U → T) (x : U) (y : T) (a b : Block)
    → a ≡ b → find a ≡ Got x → y ≡ made x
    → then_try (find b) (λ (u : U). Got (made u)) ≡ Got y
made_of find made x y a b e h k =
    then_got (find b) (λ u. Got (made u)) x (ap find (sym e) ∙ h) ∙ ap (λ z. Got z) (sym k)
