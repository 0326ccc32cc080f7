-- One more variable in the search for the cheapest.
use Rattle.std.proofs.Common.{ℕ, zero, suc, ◌+◌, ◌-◌, ◌<◌, ◌≤◌, ◌≡◌, true, false, cond, ltb, add-one, arith, ap, sym, subst, ◌∙◌}
use Rattle.std.proofs.lemmas.Bool.Decides.{nat_tests}
use Rattle.affine_prover.specs.RowSets.Rows.{least_at}

pub least_at-better : (f : ℕ → ℕ) (n best made least : ℕ) → best ≡ least_at f n → least ≡ f best → made ≡ f n → made < least → n ≡ least_at f (n + 1)
least_at-better f n best made least b l m h =
    let same = ap f b in
    let test : ltb (f n) (f (least_at f n)) ≡ true = grind (arith, nat_tests) in
    rw add-one (sym (ap (λ t. cond t n (least_at f n)) test))

pub least_at-kept : (f : ℕ → ℕ) (n best made least : ℕ) → best ≡ least_at f n → least ≡ f best → made ≡ f n → least ≤ made → best ≡ least_at f (n + 1)
least_at-kept f n best made least b l m h =
    let same = ap f b in
    let test : ltb (f n) (f (least_at f n)) ≡ false = grind (arith, nat_tests) in
    rw add-one (b ∙ sym (ap (λ t. cond t n (least_at f n)) test))

-- what is least among the first and 0 is least among all
least_at-none_more : (f : ℕ → ℕ) (best m k : ℕ) → best ≡ least_at f m → f best ≡ 0 → best ≡ least_at f (m + k)
least_at-none_more f best m zero b h =
    let none : m + 0 ≡ m = omega arith in
    rw none b
least_at-none_more f best m (suc k) b h =
    let before = least_at-none_more f best m k b h in
    let same = ap f before in
    let test : ltb (f (m + k)) (f (least_at f (m + k))) ≡ false = grind (arith, nat_tests) in
    let next : m + suc k ≡ suc (m + k) = omega arith in
    rw next (before ∙ sym (ap (λ t. cond t (m + k) (least_at f (m + k))) test))

pub least_at-none : (f : ℕ → ℕ) (best m n : ℕ) → best ≡ least_at f m → f best ≡ 0 → m ≤ n → best ≡ least_at f n
least_at-none f best m n b h l =
    let whole : m + (n - m) ≡ n = omega arith in
    subst (λ k. best ≡ least_at f k) whole (least_at-none_more f best m (n - m) b h)
