-- The search for a free number.
use Rattle.std.proofs.Common.{◌≡◌, ◌-◌, ◌<◌, ℕ, zero, suc, Bool, true, false, ap, ◌∙◌, arith}
use Rattle.c_tree.specs.Names.Words.{Name}
use Rattle.c_tree.specs.Names.Names.{numbered, pick, first_free}

-- a name that is taken is passed by
pub passed_by : (taken : Name → Bool) (x : Name) (n k : ℕ) → k < n → taken (numbered x (suc k)) ≡ true → first_free taken x (n - k) (suc k) ≡ first_free taken x (n - suc k) (suc (suc k))
passed_by taken x n k h t =
    let more : n - k ≡ suc (n - suc k) = omega (arith, h) in
    ap (λ m. first_free taken x m (suc k)) more ∙ ap (λ b. pick b (first_free taken x (n - suc k) (suc (suc k))) (suc k)) t

-- one that is free is found
pub found : (taken : Name → Bool) (x : Name) (n k : ℕ) → k < n → taken (numbered x (suc k)) ≡ false → first_free taken x (n - k) (suc k) ≡ suc k
found taken x n k h t =
    let more : n - k ≡ suc (n - suc k) = omega (arith, h) in
    ap (λ m. first_free taken x m (suc k)) more ∙ ap (λ b. pick b (first_free taken x (n - suc k) (suc (suc k))) (suc k)) t

-- and past the last number there is only the next
pub none_left : (taken : Name → Bool) (x : Name) (n k : ℕ) → n ≡ k → first_free taken x (n - k) (suc k) ≡ suc k
none_left taken x n k h = let nothing : n - k ≡ zero = omega (arith, h) in ap (λ m. first_free taken x m (suc k)) nothing
