-- Ranges of statements: where a path lies in one, and that ranges that are apart have no path in common.
use Rattle.std.proofs.Common.{◌≡◌, ℕ, ◌+◌, ◌-◌, ◌<◌, ◌≤◌, Bool, true, false, [], ◌∷◌, Option, Some, None, refl, ap, sym, ◌∙◌, arith, true≢false}
use Rattle.std.specs.Prelude.{◌==◌, ◌&&◌, ◌||◌, not, ◌^◌, nat_le, nat_lt, if◌then◌else◌}
use Rattle.exo_tree.specs.Places.{Branch, Main, Else, Step, Path, same_branch, same_step}
use Rattle.cursor_forward.specs.Shifts.{Below, below, beyond, word, is_end}
use Rattle.cursor_forward.specs.Forwards.{is_among, are_beside, apart}
use Rattle.cursor_forward.proofs.Lands.{step, landing, none_some}
use Rattle.cursor_forward.proofs.Holes.{mapped_some}

pub same_branch_is : (r s : Branch) → same_branch r s ≡ true → r ≡ s
same_branch_is Main Main h = refl
same_branch_is Else Else h = refl
same_branch_is Main Else h = absurd (true≢false (sym h))
same_branch_is Else Main h = absurd (true≢false (sym h))

pub same_branch_self : (r : Branch) → same_branch r r ≡ true
same_branch_self Main = refl
same_branch_self Else = refl

pub both_true : (a b : Bool) → (a && b) ≡ true → (a ≡ true) × (b ≡ true)
both_true true b h = (refl, h)
both_true false b h = absurd (true≢false (sym h))

pub same_step_is : (s t : Step) → same_step s t ≡ true → s ≡ t
same_step_is s t h =
    let b = both_true (same_branch s.branch t.branch) (s.index == t.index) h in
    let e : s.index ≡ t.index = grind (arith, b.1) in
    let r = same_branch_is s.branch t.branch b.0 in
    λ i. step (r i) (e i)

pub same_step_self : (s : Step) → same_step s s ≡ true
same_step_self s =
    let e : (s.index == s.index) ≡ true = grind arith in
    ap (λ (x : Bool). x && (s.index == s.index)) (same_branch_self s.branch) ∙ e

-- ---- below, from what it says

if_some : {A : Type 0} (b : Bool) (x y : A) → (if b then Some x else None) ≡ Some y → (b ≡ true) × (x ≡ y)
if_some true x y h = (refl, cc)
if_some false x y h = absurd (none_some refl h)

if_more : {A : Type 0} (b : Bool) (o : Option A) (y : A) → (if b then o else None) ≡ Some y → (b ≡ true) × (o ≡ Some y)
if_more true o y h = (refl, h)
if_more false o y h = absurd (none_some refl h)

-- the step is so many behind the first one
pub below_one : (f s : Step) (path : Path) (w : Below) → below (f ∷ []) (s ∷ path) ≡ Some w → (s ≡ step f.branch (f.index + w.offset)) × (path ≡ w.rest)
below_one f s path w h =
    let i = if_some (same_branch f.branch s.branch && nat_le f.index s.index) (landing (s.index - f.index) path) w h in
    let b = both_true (same_branch f.branch s.branch) (nat_le f.index s.index) i.0 in
    let le : f.index ≤ s.index = grind (arith, b.1) in
    let minus : s.index - f.index ≡ w.offset = ap (λ (v : Below). v.offset) i.1 in
    let e : s.index ≡ f.index + w.offset = omega (arith, le, minus) in
    let r = sym (same_branch_is f.branch s.branch b.0) in
    (λ j. step (r j) (e j), ap (λ (v : Below). v.rest) i.1)

pub below_more : (f g s : Step) (from path : Path) (w : Below) → below (f ∷ g ∷ from) (s ∷ path) ≡ Some w → (f ≡ s) × (below (g ∷ from) path ≡ Some w)
below_more f g s from path w h =
    let i = if_more (same_step f s) (below (g ∷ from) path) w h in
    (same_step_is f s i.0, i.1)

-- what lies below is one path
pub below_unique : (from p q : Path) (w : Below) → below from p ≡ Some w → below from q ≡ Some w → p ≡ q
below_unique [] p q w h i = absurd (none_some refl h)
below_unique (f ∷ from) [] q w h i = absurd (none_some refl h)
below_unique (f ∷ from) (s ∷ p) [] w h i = absurd (none_some refl i)
below_unique (f ∷ []) (s ∷ p) (t ∷ q) w h i =
    let a = below_one f s p w h in
    let b = below_one f t q w i in
    λ j. (a.0 ∙ sym b.0) j ∷ (a.1 ∙ sym b.1) j
below_unique (f ∷ g ∷ from) (s ∷ p) (t ∷ q) w h i =
    let a = below_more f g s from p w h in
    let b = below_more f g t from q w i in
    let c = below_unique (g ∷ from) p q w a.1 b.1 in
    λ j. (sym a.0 ∙ b.0) j ∷ c j

-- what is beyond a path lies below it
pub beyond_below : (to : Path) (k : ℕ) (rest q : Path) → beyond to k rest ≡ Some q → below to q ≡ Some (landing k rest)
beyond_below [] k rest q h = absurd (none_some refl h)
beyond_below (t ∷ []) k rest q h =
    let m = mapped_some (λ n. record t { index = n } ∷ rest) (word (t.index + k)) q h in
    let n = if_some (nat_lt (t.index + k) (2 ^ 32)) (t.index + k) m.0 m.1 in
    ap (below (t ∷ [])) (sym m.2) ∙ at_step m.0 (sym n.1)
  where
    at_step : (n : ℕ) → n ≡ t.index + k → below (t ∷ []) (step t.branch n ∷ rest) ≡ Some (landing k rest)
    at_step n e =
        let le : nat_le t.index n ≡ true = grind (arith, e) in
        let minus : n - t.index ≡ k = omega (arith, e) in
        (λ j. if same_branch_self t.branch j && le j then Some (landing (minus j) rest) else None)
beyond_below (t ∷ u ∷ to) k rest q h =
    let m = mapped_some (λ p. t ∷ p) (beyond (u ∷ to) k rest) q h in
    ap (below (t ∷ u ∷ to)) (sym m.2)
    ∙ ap (λ (x : Bool). if x then below (u ∷ to) m.0 else None) (same_step_self t)
    ∙ beyond_below (u ∷ to) k rest m.0 m.1

-- ---- ranges that are apart

end_is : (path : Path) → is_end path ≡ true → path ≡ []
end_is [] h = refl
end_is (s ∷ path) h = absurd (true≢false (sym h))

-- a path to one of so many statements, or below one where that counts
pub record IsWithin (from : Path) (count : ℕ) (whole : Bool) (path : Path) (w : Below) : Type 0 where
  pub lies : below from path ≡ Some w
  pub among : w.offset < count
  pub counts : (whole || is_end w.rest) ≡ true

among_is : (s t : Step) (m k : ℕ) → t ≡ step s.branch (s.index + k) → k < m → is_among s m t ≡ true
among_is s t m k e h =
    ap (is_among s m) e ∙ among_at
  where
    among_at : is_among s m (step s.branch (s.index + k)) ≡ true
    among_at =
        let le : nat_le s.index (s.index + k) ≡ true = grind arith in
        let minus : s.index + k - s.index ≡ k = omega arith in
        let lt : nat_lt k m ≡ true = grind (arith, h) in
        λ j. same_branch_self s.branch j && (le j && (ap (λ (n : ℕ). nat_lt n m) minus ∙ lt) j)

-- something below one statement counts in the whole range alone
whole_counts : (v : Bool) (s : Step) (path : Path) → (v || is_end (s ∷ path)) ≡ true → v ≡ true
whole_counts true s path h = refl
whole_counts false s path h = h

not_both : (v a : Bool) → v ≡ true → a ≡ true → (not v || not a) ≡ true → ⊥
not_both v a e f h = absurd (true≢false (sym h ∙ (λ j. not (e j) || not (f j))))

not_beside : (s t u : Step) (m n k l : ℕ) → u ≡ step s.branch (s.index + k) → u ≡ step t.branch (t.index + l) → k < m → l < n → are_beside s m t n ≡ true → ⊥
not_beside s t u m n k l e f x y h =
    let r : s.branch ≡ t.branch = ap (λ (z : Step). z.branch) (sym e ∙ f) in
    let i : s.index + k ≡ t.index + l = ap (λ (z : Step). z.index) (sym e ∙ f) in
    let first : nat_le (s.index + m) t.index ≡ false = grind (arith, i, x, y) in
    let second : nat_le (t.index + n) s.index ≡ false = grind (arith, i, x, y) in
    let same : same_branch s.branch t.branch ≡ true = ap (λ (b : Branch). same_branch s.branch b) (sym r) ∙ same_branch_self s.branch in
    absurd (true≢false (sym h ∙ (λ j. not (same j) || (first j || second j))))

pub none_in_both : (p q path : Path) (m n : ℕ) (v w : Bool) (x y : Below) → apart p m v q n w ≡ true → IsWithin p m v path x → IsWithin q n w path y → ⊥
none_in_both [] q path m n v w x y h a b = none_some refl a.lies
none_in_both (s ∷ p) [] path m n v w x y h a b = none_some refl b.lies
none_in_both (s ∷ p) (t ∷ q) [] m n v w x y h a b = none_some refl a.lies
none_in_both (s ∷ []) (t ∷ []) (u ∷ path) m n v w x y h a b =
    not_beside s t u m n x.offset y.offset (below_one s u path x a.lies).0 (below_one t u path y b.lies).0 a.among b.among h
none_in_both (s ∷ []) (t ∷ r ∷ q) (u ∷ []) m n v w x y h a b = none_some refl (below_more t r u q [] y b.lies).1
none_in_both (s ∷ r ∷ p) (t ∷ []) (u ∷ []) m n v w x y h a b = none_some refl (below_more s r u p [] x a.lies).1
none_in_both (s ∷ []) (t ∷ r ∷ q) (u ∷ z ∷ path) m n v w x y h a b =
    let i = below_one s u (z ∷ path) x a.lies in
    let j = below_more t r u q (z ∷ path) y b.lies in
    not_both v (is_among s m t) (whole_counts v z path (ap (λ (r : Path). v || is_end r) i.1 ∙ a.counts)) (among_is s t m x.offset (j.0 ∙ i.0) a.among) h
none_in_both (s ∷ r ∷ p) (t ∷ []) (u ∷ z ∷ path) m n v w x y h a b =
    let i = below_one t u (z ∷ path) y b.lies in
    let j = below_more s r u p (z ∷ path) x a.lies in
    not_both w (is_among t n s) (whole_counts w z path (ap (λ (r : Path). w || is_end r) i.1 ∙ b.counts)) (among_is t s n y.offset (j.0 ∙ i.0) b.among) h
none_in_both (s ∷ r ∷ p) (t ∷ z ∷ q) (u ∷ path) m n v w x y h a b =
    let i = below_more s r u p path x a.lies in
    let j = below_more t z u q path y b.lies in
    let same : same_step s t ≡ true = ap (same_step s) (j.0 ∙ sym i.0) ∙ same_step_self s in
    none_in_both (r ∷ p) (z ∷ q) path m n v w x y
    (sym (ap (λ (e : Bool). if e then apart (r ∷ p) m v (z ∷ q) n w else true) same) ∙ h)
    (record { lies = i.1; among = a.among; counts = a.counts })
    (record { lies = j.1; among = b.among; counts = b.counts })
