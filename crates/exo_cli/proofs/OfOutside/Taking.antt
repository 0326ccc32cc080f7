-- Bytes taken one piece after the other, and counts of faults that never fall.
use Rattle.std.proofs.Common.{◌≡◌, ℕ, ◌+◌, List, [], ◌++◌, take, drop, length, Option, Some, None, refl, ap, sym, ◌∙◌, ◌-◌, length-drop}
use Rattle.std.proofs.Math.Seq.{take-add, take-length}
use Rattle.std.proofs.lemmas.List.{append-nil}
use Rattle.std.proofs.Common.{append_assoc}
use Rattle.exo_cli.specs.Outside.Outside.{with_more}

-- no bytes: nothing changes
pub with_more-nothing : (taken : Option (List ℕ)) → with_more taken [] ≡ taken
with_more-nothing None = refl
with_more-nothing (Some t) = ap Some (append-nil t)

-- one piece after the other is both at once
pub with_more-both : (taken : Option (List ℕ)) (a b : List ℕ) → with_more (with_more taken a) b ≡ with_more taken (a ++ b)
with_more-both None a b = refl
with_more-both (Some t) a b = ap Some (append_assoc t a b)

-- what is left of the bytes, as a range
pub rest-range : (bytes : List ℕ) (done : ℕ) → take (length bytes - done) (drop done bytes) ≡ drop done bytes
rest-range bytes done = ap (λ (n : ℕ). take n (drop done bytes)) (sym (length-drop done bytes)) ∙ take-length (drop done bytes)

-- the first bytes, and then some of those that are left
pub with_more-next : (taken : Option (List ℕ)) (bytes : List ℕ) (done count : ℕ)
    → with_more (with_more taken (take done bytes)) (take count (take (length bytes - done) (drop done bytes))) ≡ with_more taken (take (done + count) bytes)
with_more-next taken bytes done count =
    ap (λ (rest : List ℕ). with_more (with_more taken (take done bytes)) (take count rest)) (rest-range bytes done)
    ∙ with_more-both taken (take done bytes) (take count (drop done bytes)) ∙ ap (with_more taken) (sym (take-add done count bytes))

-- all bytes
pub with_more-whole : (taken : Option (List ℕ)) (bytes : List ℕ) (n : ℕ) → n ≡ length bytes → with_more taken (take n bytes) ≡ with_more taken bytes
with_more-whole taken bytes n e = ap (λ (k : ℕ). with_more taken (take k bytes)) e ∙ ap (with_more taken) (take-length bytes)
