-- The first obligation that is open, by the answer on the systems.
use Rattle.std.proofs.Common.{◌≡◌, ℕ, suc, ◌+◌, Bool, true, false, cond, not, List, [], ◌∷◌, map, get_or, Option, Some, None, refl, sym, ap, ◌∙◌, subst, arith}
use Rattle.std.specs.Prelude.{slice_get, if◌then◌else◌}
use Rattle.std.specs.List.{position_or_len}
use Rattle.affine_forms.specs.System.{plain_system}
use Rattle.affine_systems.specs.Outcomes.{plain_obligation}
use Rattle.affine_systems.specs.declared.obligation.Obligation.{Obligation}
use Rattle.affine_prover.specs.declared.answer.Verdict.{Verdict}
use Rattle.affine_prover.specs.Elimination.{elimination}
use Rattle.ob_check.specs.Answers.{is_refused, answer_at, answer_of}
use Rattle.ob_check.specs.Systems.{systems_of}
use Rattle.ob_check.specs.declared.answer.Answer.{Answer}
use Rattle.ob_check.specs.declared.answer.Answer.TheVariants.{AllShown, First}
use Rattle.unit_check.specs.Checked.{Cause, NotShown, first_open}

-- where the first refused verdict is, behind a verdict that is not
one_more : (v : Verdict) (vs : List Verdict) (j : ℕ) → answer_at (1 + j) (slice_get (v ∷ vs) (1 + j)) ≡ answer_at (suc j) (slice_get vs j)
one_more v vs j = ap (λ (i : ℕ). answer_at i (slice_get (v ∷ vs) i)) (let e : 1 + j ≡ suc j = omega arith in e)

none_behind : (j : ℕ) (g : Option Verdict) → AllShown ≡ answer_at (suc j) g → AllShown ≡ answer_at j g
none_behind j None e = refl
none_behind j (Some w) e = cc

one_behind : (i j : ℕ) (v : Verdict) (g : Option Verdict) → First i v ≡ answer_at (suc j) g → (i ≡ suc j) × (First j v ≡ answer_at j g)
one_behind i j v None e = (cc, cc)
one_behind i j v (Some w) e = (cc, cc)

-- the answer on one verdict more, by whether that is refused
abbrev answer_with : Bool → Verdict → List Verdict → Answer
answer_with b v vs = answer_at (cond (not b) (1 + position_or_len is_refused vs) 0) (slice_get (v ∷ vs) (cond (not b) (1 + position_or_len is_refused vs) 0))

none_by : (b : Bool) (v : Verdict) (vs : List Verdict) (c : Cause) (rest : Option Cause) → (AllShown ≡ answer_of vs → rest ≡ None) → AllShown ≡ answer_with b v vs
    → (if b then Some c else rest) ≡ None
none_by true v vs c rest next e = cc
none_by false v vs c rest next e =
    next (none_behind (position_or_len is_refused vs) (slice_get vs (position_or_len is_refused vs)) (e ∙ one_more v vs (position_or_len is_refused vs)))

pub none_open : (os : List Obligation) → AllShown ≡ answer_of (map elimination (systems_of os)) → first_open (map plain_obligation os) ≡ None
none_open [] e = refl
none_open (o ∷ os) e =
    none_by (is_refused (elimination (plain_system o.system))) (elimination (plain_system o.system)) (map elimination (systems_of os))
    (NotShown o.what o.place (elimination (plain_system o.system))) (first_open (map plain_obligation os)) (none_open os) e

one_by : (b : Bool) (p o : Obligation) (os : List Obligation) (i : ℕ) (v w : Verdict) (vs : List Verdict) (rest : Option Cause)
    → ((j : ℕ) → First j v ≡ answer_of vs → o ≡ get_or os j o → rest ≡ Some (NotShown o.what o.place v)) → First i v ≡ answer_with b w vs → o ≡ get_or (p ∷ os) i o
    → (if b then Some (NotShown p.what p.place w) else rest) ≡ Some (NotShown o.what o.place v)
one_by true p o os i v w vs rest next e at =
    let here : i ≡ 0 = cc in
    let same : v ≡ w = cc in
    let is : o ≡ p = subst (λ (k : ℕ). o ≡ get_or (p ∷ os) k o) here at in
    ap (λ (q : Obligation). Some (NotShown q.what q.place w)) (sym is) ∙ ap (λ (x : Verdict). Some (NotShown o.what o.place x)) (sym same)
one_by false p o os i v w vs rest next e at =
    let further : (i ≡ suc (position_or_len is_refused vs)) × (First (position_or_len is_refused vs) v ≡ answer_of vs) =
    one_behind i (position_or_len is_refused vs) v (slice_get vs (position_or_len is_refused vs)) (e ∙ one_more w vs (position_or_len is_refused vs)) in
    next (position_or_len is_refused vs) further.1 (subst (λ (k : ℕ). o ≡ get_or (p ∷ os) k o) further.0 at)

pub one_open : (os : List Obligation) (i : ℕ) (v : Verdict) (o : Obligation) → First i v ≡ answer_of (map elimination (systems_of os)) → o ≡ get_or os i o
    → first_open (map plain_obligation os) ≡ Some (NotShown o.what o.place v)
one_open [] i v o e at = cc
one_open (p ∷ os) i v o e at =
    one_by (is_refused (elimination (plain_system p.system))) p o os i v (elimination (plain_system p.system)) (map elimination (systems_of os)) (first_open (map plain_obligation os))
    (λ j. one_open os j v o) e at
