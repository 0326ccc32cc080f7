-- What is found is asked, and where nothing is found nothing is.
use Rattle.std.proofs.Common.{◌≡◌, Option, Some, None, subst}
use Rattle.schedule_calls.specs.Answers.{AsksOne}

pub some_of : {X T : Type 0} (asks : T → Type 0) (plain : X → T) (found : Option X) (x : X)
    → found ≡ Some x → AsksOne asks plain found → asks (plain x)
some_of asks plain found x is asked = subst (λ o. AsksOne asks plain o) is asked

pub none_of : {X T : Type 0} (asks : T → Type 0) (plain : X → T) (found : Option X)
    → found ≡ None → AsksOne asks plain found → (t : T) → asks t → ⊥
none_of asks plain found is asked = subst (λ o. AsksOne asks plain o) is asked
