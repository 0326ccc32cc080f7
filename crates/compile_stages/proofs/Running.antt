-- From one stage to the next.
use Rattle.std.proofs.Common.{◌≡◌, ℕ, List, Option, Some, None, option_map, refl, sym, ap, ◌∙◌, subst}
use Rattle.std.proofs.Common.{IfOk, IfSome, Ok, Err}
use Rattle.std.specs.Prelude.{Result}
use Rattle.compile_stages.specs.Stops.{Stop}
use Rattle.compile_stages.specs.Stages.{Stage, Passed, Stopped, then_do, GoesOn, Leads}

-- a stop that is known of one stage is known of what comes after it
pub stop_stays : {T U : Type 0} (why : Option Stop) (P : Stage T → Type 0) (Q : Stage U → Type 0)
    → ((s : Stop) → P (Stopped s) → Q (Stopped s))
    → IfSome (option_map Stopped why) P → IfSome (option_map Stopped why) Q
stop_stays None P Q step p = tt
stop_stays (Some s) P Q step p = step s p

-- where the first part of a way stops, the way stops
pub stops_first : {T U : Type 0} (First : Stage T → Type 0) (Next : T → Stage U → Type 0) (why : Stop)
    → First (Stopped why) → Leads First Next (Stopped why)
stops_first First Next why h = (Stopped why, h, refl)

-- where it passes, the way goes on
pub passes_first : {T U : Type 0} (First : Stage T → Type 0) (Next : T → Stage U → Type 0) (x : T)
    (end : Stage U) → First (Passed x) → Next x end → Leads First Next end
passes_first First Next x end h k = (Passed x, h, k)

-- what passed made what the next stage was given
pub passed_then : {T U : Type 0} (s : Stage T) (next : T → Stage U) (y : U)
    → then_do s next ≡ Passed y → (x : T) × (s ≡ Passed x) × (next x ≡ Passed y)
passed_then (Passed x) next y e = (x, refl, e)
passed_then (Stopped why) next y e = absurd cc

pub stopped_is_not_passed : {T : Type 0} {why : Stop} {x : T} → Stopped why ≡ Passed x → ⊥
stopped_is_not_passed e = cc

pub passed_is : {T : Type 0} {x y : T} → Passed x ≡ Passed y → x ≡ y
passed_is e = cc

-- a way that passed, passed its first part
pub led : {T U : Type 0} (First : Stage T → Type 0) (Next : T → Stage U → Type 0) (y : U)
    → Leads First Next (Passed y) → (x : T) × First (Passed x) × Next x (Passed y)
led {T} {U} First Next y h = go h.0 h.1 h.2
  where
    go : (s : Stage T) → First s → GoesOn Next s (Passed y)
        → (x : T) × First (Passed x) × Next x (Passed y)
    go (Passed x) f n = (x, f, n)
    go (Stopped why) f n = absurd (stopped_is_not_passed (sym n))

-- parts that come to one end are a way that comes to one end
pub leads_once : {T U : Type 0} (First : Stage T → Type 0) (Next : T → Stage U → Type 0)
    → ((a b : Stage T) → First a → First b → a ≡ b)
    → ((x : T) (a b : Stage U) → Next x a → Next x b → a ≡ b)
    → (a b : Stage U) → Leads First Next a → Leads First Next b → a ≡ b
leads_once {T} First Next first next a b h k =
    let same = first h.0 k.0 h.1 k.1 in
    go k.0 (subst (λ s. GoesOn Next s a) same h.2) k.2
  where
    go : (s : Stage T) → GoesOn Next s a → GoesOn Next s b → a ≡ b
    go (Passed x) p q = next x a b p q
    go (Stopped why) p q = p ∙ sym q

pub if-ok : {T E : Type 0} (r : Result T E) (P Q : T → Type 0) → ((x : T) → P x → Q x) → IfOk r P → IfOk r Q
if-ok (Ok x) P Q step p = step x p
if-ok (Err e) P Q step p = tt
