-- The statement that follows a piece is that so many further on.
use Rattle.std.proofs.Common.{◌≡◌, ◌+◌, ℕ, zero, suc, [], ◌∷◌, Option, Some, None, refl, ap, ◌∙◌, arith}
use Rattle.std.specs.Prelude.{option_map, option_and_then}
use Rattle.exo_tree.specs.Tree.{Statement, If, For, Block, end, next}
use Rattle.exo_tree.specs.Context.{Context, After, InLoop, InThen, InElse, rest_of}
use Rattle.exo_tree.specs.Places.{Branch, Main, Else, Step, Path, Opened, parted, past, into}
use Rattle.exo_tree.specs.Places.{opened_in, opened, statement_at, first_of}
use Rattle.exo_tree.proofs.Openings.{around_by, with_rest}
use Rattle.place_laws.specs.Scope.PlacesCompose.{onward}
use Rattle.config_laws.specs.FieldRule.{further}

abbrev first_in : Option Opened → Option Statement
first_in x = option_and_then (λ (o : Opened). first_of o.piece) x

abbrev pub first_behind : Option Opened → Option Statement
first_behind x = option_and_then (λ (o : Opened). first_of (rest_of o.around)) x

-- what g opens begins with what is behind what f opens
abbrev Follows : (Block → Option Opened) → (Block → Option Opened) → Type 0
Follows f g = (b : Block) → first_in (g b) ≡ first_behind (f b)

around_both : (h : Context → Context) → ((c : Context) → rest_of (h c) ≡ rest_of c)
    → (x y : Option Opened) → first_in y ≡ first_behind x
    → first_in (around_by h y) ≡ first_behind (around_by h x)
around_both h same None None e = refl
around_both h same (Some o) None e = e ∙ ap first_of (behind o.around)
  where
    behind : (c : Context) → rest_of c ≡ rest_of (h c)
    behind c = let s = same c in cc
around_both h same None (Some p) e = e
around_both h same (Some o) (Some p) e =
    let s = same o.around in e ∙ ap first_of (let r : rest_of o.around ≡ rest_of (h o.around) = cc in r)

past_both : (k : ℕ) (f g : Block → Option Opened) → Follows f g → Follows (past k f) (past k g)
past_both zero f g h b = h b
past_both (suc k) f g h end = refl
past_both (suc k) f g h (next a b) =
    around_both (After a) (λ c. refl) (past k f b) (past k g b) (past_both k f g h b)

into_both : (which : Branch) (f g : Block → Option Opened) → Follows f g
    → Follows (into which f) (into which g)
into_both Main f g h (next (For i lo hi b) rest) =
    around_both (λ c. InLoop i lo hi c rest) (λ c. refl) (f b) (g b) (h b)
into_both Main f g h (next (If t a b) rest) =
    around_both (λ c. InThen t c b rest) (λ c. refl) (f a) (g a) (h a)
into_both Else f g h (next (If t a b) rest) =
    around_both (λ c. InElse t a c rest) (λ c. refl) (f b) (g b) (h b)
into_both which f g h b = refl

abbrev at_head : ℕ → Block → Option Opened
at_head n c = with_rest (parted n c)

-- behind the first n statements
behind_first : (n : ℕ) → Follows (at_head n) (past n (at_head 1))
behind_first zero end = refl
behind_first zero (next a b) = refl
behind_first (suc n) end = refl
behind_first (suc n) (next a b) = one_more (parted n b) (past n (at_head 1) b) (behind_first n b)
  where
    one_more : (x : Option (Block × Block)) (y : Option Opened)
        → first_in y ≡ first_behind (with_rest x)
        → first_in (around_by (After a) y)
        ≡ first_behind (with_rest (option_map (λ (p : Block × Block). (next a p.0, p.1)) x))
    one_more None None e = refl
    one_more None (Some o) e = e
    one_more (Some p) None e = e
    one_more (Some p) (Some o) e = e

past_sum : (k n : ℕ) (f : Block → Option Opened) (b : Block) → past (k + n) f b ≡ past k (past n f) b
past_sum zero n f b =
    let same : 0 + n ≡ n = omega arith in
    ap (λ (m : ℕ). past m f b) same
past_sum (suc k) n f b =
    let more : suc k + n ≡ suc (k + n) = omega arith in
    ap (λ (m : ℕ). past m f b) more ∙ one_more b (past_sum k n f)
  where
    one_more : (b : Block) → ((c : Block) → past (k + n) f c ≡ past k (past n f) c)
        → past (suc (k + n)) f b ≡ past (suc k) (past n f) b
    one_more end same = refl
    one_more (next a b) same = ap (around_by (After a)) (same b)

further_in : (n : ℕ) (s : Step) (path : Path)
    → Follows (opened_in n (s ∷ path)) (opened_in 1 (onward (s ∷ path) (record { branch = Main; index = n }) []))
further_in n s [] b =
    ap first_in (past_sum s.index n (at_head 1) b)
    ∙ past_both s.index (at_head n) (past n (at_head 1)) (behind_first n) b
further_in n s (t ∷ []) b =
    past_both s.index (into t.branch (opened_in n (t ∷ [])))
    (into t.branch (opened_in 1 (onward (t ∷ []) (record { branch = Main; index = n }) [])))
    (into_both t.branch (opened_in n (t ∷ []))
    (opened_in 1 (onward (t ∷ []) (record { branch = Main; index = n }) [])) (further_in n t [])) b
further_in n s (t ∷ u ∷ path) b =
    past_both s.index (into t.branch (opened_in n (t ∷ u ∷ path)))
    (into t.branch (opened_in 1 (onward (t ∷ u ∷ path) (record { branch = Main; index = n }) [])))
    (into_both t.branch (opened_in n (t ∷ u ∷ path))
    (opened_in 1 (onward (t ∷ u ∷ path) (record { branch = Main; index = n }) []))
    (further_in n t (u ∷ path))) b

pub next_statement : (n : ℕ) (path : Path) (body : Block)
    → statement_at (further n path) body ≡ first_behind (opened n path body)
next_statement n [] body = refl
next_statement n (s ∷ []) body = go s.branch
  where
    go : (branch : Branch)
        → first_in (elim branch [
          | Main ↦ opened_in 1 (onward (s ∷ []) (record { branch = Main; index = n }) []) body
          | Else ↦ None
        ])
        ≡ first_behind (elim branch [ Main ↦ opened_in n (s ∷ []) body | Else ↦ None ])
    go Main = further_in n s [] body
    go Else = refl
next_statement n (s ∷ t ∷ path) body = go s.branch
  where
    go : (branch : Branch)
        → first_in (elim branch [
          | Main ↦ opened_in 1 (onward (s ∷ t ∷ path) (record { branch = Main; index = n }) []) body
          | Else ↦ None
        ])
        ≡ first_behind (elim branch [ Main ↦ opened_in n (s ∷ t ∷ path) body | Else ↦ None ])
    go Main = further_in n s (t ∷ path) body
    go Else = refl
