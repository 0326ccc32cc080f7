-- What stands at a path of a block with a hole, by where the path leads from the hole.
use Rattle.std.proofs.Common.{◌≡◌, ℕ, zero, suc, ◌-◌, Bool, true, false, List, [], ◌∷◌, Option, Some, None, refl, ap, sym, ◌∙◌, arith}
use Rattle.std.specs.Prelude.{◌==◌, ◌&&◌, nat_le, if◌then◌else◌, slice_get, option_map, option_and_then}
use Rattle.exo_tree.specs.Tree.{Statement, If, For, Block, end, next, block, joined, statements}
use Rattle.exo_tree.specs.Context.{Context, Here, After, InLoop, InThen, InElse, fill}
use Rattle.exo_tree.specs.Places.{Branch, Main, Else, Step, Path, same_branch}
use Rattle.exo_tree.specs.Branches.{branch_of}
use Rattle.exo_tree.proofs.Openings.{statement_in, at_last, at_more}
use Rattle.cursor_forward.specs.Shifts.{Below, below}
use Rattle.cursor_forward.specs.Forwards.{StatementKind, kind_of}

abbrev pub step : Branch → ℕ → Step
step branch k = record { branch = branch; index = k }

abbrev pub landing : ℕ → Path → Below
landing k path = record { offset = k; rest = path }

-- ---- the statement at a path, by recursion over the path

abbrev pub found_in : Path → Statement → Option Statement
found_in [] a = Some a
found_in (t ∷ path) a = option_and_then (λ b. option_and_then (found_in path) (slice_get (statements b) t.index)) (branch_of t.branch a)

abbrev pub found : Block → ℕ → Path → Option Statement
found b k path = option_and_then (found_in path) (slice_get (statements b) k)

pub block_statements : (b : Block) → block (statements b) ≡ b
block_statements end = refl
block_statements (next a b) = ap (next a) (block_statements b)

then_some : (o : Option Statement) → option_and_then Some o ≡ o
then_some None = refl
then_some (Some x) = refl

same_then : {A : Type 0} (f g : A → Option Statement) → ((x : A) → f x ≡ g x) → (o : Option A) → option_and_then f o ≡ option_and_then g o
same_then f g h None = refl
same_then f g h (Some x) = h x

found_of_list : (path : Path) (s : Step) (ss : List Statement) → statement_in (s ∷ path) (block ss) ≡ option_and_then (found_in path) (slice_get ss s.index)
found_of_list [] s ss = at_last s ss ∙ sym (then_some (slice_get ss s.index))
found_of_list (t ∷ path) s ss =
    at_more s t path ss
    ∙ same_then (λ a. option_and_then (statement_in (t ∷ path)) (branch_of t.branch a)) (found_in (t ∷ path))
    (λ a. same_then (statement_in (t ∷ path)) (λ b. found b t.index path) (λ b. ap (statement_in (t ∷ path)) (sym (block_statements b)) ∙ found_of_list path t (statements b)) (branch_of t.branch a))
    (slice_get ss s.index)

pub is_found : (s : Step) (path : Path) (b : Block) → statement_in (s ∷ path) b ≡ found b s.index path
is_found s path b = ap (statement_in (s ∷ path)) (sym (block_statements b)) ∙ found_of_list path s (statements b)

-- ---- the hole of a context, as the path to it

abbrev pub depth_of : Context → ℕ
depth_of (Here rest) = zero
depth_of (After a o) = suc (depth_of o)
depth_of (InLoop i lo hi o rest) = zero
depth_of (InThen c o b rest) = zero
depth_of (InElse c a o rest) = zero

abbrev pub tail_of : Context → Path
tail_of (Here rest) = []
tail_of (After a o) = tail_of o
tail_of (InLoop i lo hi o rest) = step Main (depth_of o) ∷ tail_of o
tail_of (InThen c o b rest) = step Main (depth_of o) ∷ tail_of o
tail_of (InElse c a o rest) = step Else (depth_of o) ∷ tail_of o

-- what stands behind the hole in its block
abbrev pub rest_of : Context → Block
rest_of (Here rest) = rest
rest_of (After a o) = rest_of o
rest_of (InLoop i lo hi o rest) = rest_of o
rest_of (InThen c o b rest) = rest_of o
rest_of (InElse c a o rest) = rest_of o

-- ---- below, a step at a time

pub below_zero : (r s : Branch) (d : ℕ) (from path : Path) → below (step r (suc d) ∷ from) (step s zero ∷ path) ≡ None
below_zero r s d [] path = by_branch (same_branch r s)
  where
    le : nat_le (suc d) zero ≡ false
    le = grind arith

    by_branch : (x : Bool) → (if x && nat_le (suc d) zero then Some (landing (zero - suc d) path) else None) ≡ None
    by_branch true = ap (λ (y : Bool). if y then Some (landing (zero - suc d) path) else None) le
    by_branch false = refl
below_zero r s d (g ∷ from) path = by_branch (same_branch r s)
  where
    eq : (suc d == zero) ≡ false
    eq = grind arith

    by_branch : (x : Bool) → (if x && (suc d == zero) then below (g ∷ from) path else None) ≡ None
    by_branch true = ap (λ (y : Bool). if y then below (g ∷ from) path else None) eq
    by_branch false = refl

pub below_suc : (r s : Branch) (d k : ℕ) (from path : Path) → below (step r (suc d) ∷ from) (step s (suc k) ∷ path) ≡ below (step r d ∷ from) (step s k ∷ path)
below_suc r s d k [] path =
    let le : nat_le (suc d) (suc k) ≡ nat_le d k = grind arith in
    let minus : suc k - suc d ≡ k - d = omega arith in
    λ i. if same_branch r s && le i then Some (landing (minus i) path) else None
below_suc r s d k (g ∷ from) path =
    let eq : (suc d == suc k) ≡ (d == k) = grind arith in
    λ i. if same_branch r s && eq i then below (g ∷ from) path else None

-- only the first statement of a block, with a path on, comes to what is in its branch
pub below_later : (r s : Branch) (k : ℕ) (g : Step) (from path : Path) → below (step r zero ∷ g ∷ from) (step s (suc k) ∷ path) ≡ None
below_later r s k g from path = by_branch (same_branch r s)
  where
    eq : (zero == suc k) ≡ false
    eq = grind arith

    by_branch : (x : Bool) → (if x && (zero == suc k) then below (g ∷ from) path else None) ≡ None
    by_branch true = ap (λ (y : Bool). if y then below (g ∷ from) path else None) eq
    by_branch false = refl

pub below_first : (r s : Branch) (g : Step) (from path : Path) (w : Below) → below (step r zero ∷ g ∷ from) (step s zero ∷ path) ≡ Some w → below (g ∷ from) path ≡ Some w
below_first Main Main g from path w h = h
below_first Else Else g from path w h = h
below_first Main Else g from path w h = cc
below_first Else Main g from path w h = cc

pub below_branch : (r s : Branch) (d k : ℕ) (from path : Path) → same_branch r s ≡ false → below (step r d ∷ from) (step s k ∷ path) ≡ None
below_branch r s d k [] path h = ap (λ (x : Bool). if x && nat_le d k then Some (landing (k - d) path) else None) h
below_branch r s d k (g ∷ from) path h = ap (λ (x : Bool). if x && (d == k) then below (g ∷ from) path else None) h

pub none_some : {A : Type 0} {x : A} {o : Option A} → o ≡ None → o ≡ Some x → ⊥
none_some e f = cc

-- ---- a path to what is in the hole or behind it in its block

pub found_below : (o : Context) (r s : Branch) (k : ℕ) (path : Path) (w : Below) (c : Block) → below (step r (depth_of o) ∷ tail_of o) (step s k ∷ path) ≡ Some w → found (fill o c) k path ≡ found (joined c (rest_of o)) w.offset w.rest
found_below (Here rest) Main Main k path w c h = at_hole h
  where
    le : nat_le zero k ≡ true
    le = grind arith

    minus : k - zero ≡ k
    minus = omega arith

    at_hole : (if nat_le zero k then Some (landing (k - zero) path) else None) ≡ Some w → found (joined c rest) k path ≡ found (joined c rest) w.offset w.rest
    at_hole h =
        let e : Some (landing k path) ≡ Some w = sym (λ i. if le i then Some (landing (minus i) path) else None) ∙ h in
        let same : landing k path ≡ w = cc in
        ap (λ (v : Below). found (joined c rest) v.offset v.rest) same
found_below (Here rest) Else Else k path w c h = at_hole h
  where
    le : nat_le zero k ≡ true
    le = grind arith

    minus : k - zero ≡ k
    minus = omega arith

    at_hole : (if nat_le zero k then Some (landing (k - zero) path) else None) ≡ Some w → found (joined c rest) k path ≡ found (joined c rest) w.offset w.rest
    at_hole h =
        let e : Some (landing k path) ≡ Some w = sym (λ i. if le i then Some (landing (minus i) path) else None) ∙ h in
        let same : landing k path ≡ w = cc in
        ap (λ (v : Below). found (joined c rest) v.offset v.rest) same
found_below (Here rest) Main Else k path w c h = cc
found_below (Here rest) Else Main k path w c h = cc
found_below (After a o) r s zero path w c h = absurd (none_some (below_zero r s (depth_of o) (tail_of o) path) h)
found_below (After a o) r s (suc k) path w c h = found_below o r s k path w c (sym (below_suc r s (depth_of o) k (tail_of o) path) ∙ h)
found_below (InLoop i lo hi o rest) r s (suc k) path w c h = absurd (none_some (below_later r s k (step Main (depth_of o)) (tail_of o) path) h)
found_below (InLoop i lo hi o rest) r s zero [] w c h = absurd (none_some refl (below_first r s (step Main (depth_of o)) (tail_of o) [] w h))
found_below (InLoop i lo hi o rest) r s zero (t ∷ path) w c h = by_branch (λ e. found_below o Main Main t.index path w c e) t.branch (below_first r s (step Main (depth_of o)) (tail_of o) (t ∷ path) w h)
  where
    by_branch : (below (step Main (depth_of o) ∷ tail_of o) (step Main t.index ∷ path) ≡ Some w → found (fill o c) t.index path ≡ found (joined c (rest_of o)) w.offset w.rest) → (b : Branch) → below (step Main (depth_of o) ∷ tail_of o) (step b t.index ∷ path) ≡ Some w → option_and_then (λ x. found x t.index path) (branch_of b (For i lo hi (fill o c))) ≡ found (joined c (rest_of o)) w.offset w.rest
    by_branch further Main e = further e
    by_branch further Else e = absurd (none_some (below_branch Main Else (depth_of o) t.index (tail_of o) path refl) e)
found_below (InThen q o b rest) r s (suc k) path w c h = absurd (none_some (below_later r s k (step Main (depth_of o)) (tail_of o) path) h)
found_below (InThen q o b rest) r s zero [] w c h = absurd (none_some refl (below_first r s (step Main (depth_of o)) (tail_of o) [] w h))
found_below (InThen q o b rest) r s zero (t ∷ path) w c h = by_branch (λ e. found_below o Main Main t.index path w c e) t.branch (below_first r s (step Main (depth_of o)) (tail_of o) (t ∷ path) w h)
  where
    by_branch : (below (step Main (depth_of o) ∷ tail_of o) (step Main t.index ∷ path) ≡ Some w → found (fill o c) t.index path ≡ found (joined c (rest_of o)) w.offset w.rest) → (x : Branch) → below (step Main (depth_of o) ∷ tail_of o) (step x t.index ∷ path) ≡ Some w → option_and_then (λ y. found y t.index path) (branch_of x (If q (fill o c) b)) ≡ found (joined c (rest_of o)) w.offset w.rest
    by_branch further Main e = further e
    by_branch further Else e = absurd (none_some (below_branch Main Else (depth_of o) t.index (tail_of o) path refl) e)
found_below (InElse q a o rest) r s (suc k) path w c h = absurd (none_some (below_later r s k (step Else (depth_of o)) (tail_of o) path) h)
found_below (InElse q a o rest) r s zero [] w c h = absurd (none_some refl (below_first r s (step Else (depth_of o)) (tail_of o) [] w h))
found_below (InElse q a o rest) r s zero (t ∷ path) w c h = by_branch (λ e. found_below o Else Else t.index path w c e) t.branch (below_first r s (step Else (depth_of o)) (tail_of o) (t ∷ path) w h)
  where
    by_branch : (below (step Else (depth_of o) ∷ tail_of o) (step Else t.index ∷ path) ≡ Some w → found (fill o c) t.index path ≡ found (joined c (rest_of o)) w.offset w.rest) → (x : Branch) → below (step Else (depth_of o) ∷ tail_of o) (step x t.index ∷ path) ≡ Some w → option_and_then (λ y. found y t.index path) (branch_of x (If q a (fill o c))) ≡ found (joined c (rest_of o)) w.offset w.rest
    by_branch further Main e = absurd (none_some (below_branch Else Main (depth_of o) t.index (tail_of o) path refl) e)
    by_branch further Else e = further e

-- ---- a path that leads neither into the hole nor behind it

abbrev pub kind_found : Block → ℕ → Path → Option StatementKind
kind_found b k path = option_map kind_of (found b k path)

is_at_zero : (k : ℕ) (path : Path) → (if nat_le zero k then Some (landing (k - zero) path) else None) ≡ None → ⊥
is_at_zero k path h =
    let le : nat_le zero k ≡ true = grind arith in
    let e : Some (landing (k - zero) path) ≡ None = sym (ap (λ (x : Bool). if x then Some (landing (k - zero) path) else None) le) ∙ h in
    cc

pub kind_outside : (o : Context) (r : Branch) (k : ℕ) (path : Path) (c d : Block) → below (step r (depth_of o) ∷ tail_of o) (step r k ∷ path) ≡ None → kind_found (fill o c) k path ≡ kind_found (fill o d) k path
kind_outside (Here rest) Main k path c d h = absurd (is_at_zero k path h)
kind_outside (Here rest) Else k path c d h = absurd (is_at_zero k path h)
kind_outside (After a o) r zero path c d h = refl
kind_outside (After a o) r (suc k) path c d h = kind_outside o r k path c d (sym (below_suc r r (depth_of o) k (tail_of o) path) ∙ h)
kind_outside (InLoop i lo hi o rest) r (suc k) path c d h = refl
kind_outside (InLoop i lo hi o rest) r zero [] c d h = refl
kind_outside (InLoop i lo hi o rest) r zero (t ∷ path) c d h = by_branch (λ e. kind_outside o Main t.index path c d e) t.branch (entered r h)
  where
    entered : (r : Branch) → below (step r zero ∷ step Main (depth_of o) ∷ tail_of o) (step r zero ∷ t ∷ path) ≡ None → below (step Main (depth_of o) ∷ tail_of o) (t ∷ path) ≡ None
    entered Main e = e
    entered Else e = e

    by_branch : (below (step Main (depth_of o) ∷ tail_of o) (step Main t.index ∷ path) ≡ None → kind_found (fill o c) t.index path ≡ kind_found (fill o d) t.index path) → (b : Branch) → below (step Main (depth_of o) ∷ tail_of o) (step b t.index ∷ path) ≡ None → option_map kind_of (option_and_then (λ x. found x t.index path) (branch_of b (For i lo hi (fill o c)))) ≡ option_map kind_of (option_and_then (λ x. found x t.index path) (branch_of b (For i lo hi (fill o d))))
    by_branch further Main e = further e
    by_branch further Else e = refl
kind_outside (InThen q o b rest) r (suc k) path c d h = refl
kind_outside (InThen q o b rest) r zero [] c d h = refl
kind_outside (InThen q o b rest) r zero (t ∷ path) c d h = by_branch (λ e. kind_outside o Main t.index path c d e) t.branch (entered r h)
  where
    entered : (r : Branch) → below (step r zero ∷ step Main (depth_of o) ∷ tail_of o) (step r zero ∷ t ∷ path) ≡ None → below (step Main (depth_of o) ∷ tail_of o) (t ∷ path) ≡ None
    entered Main e = e
    entered Else e = e

    by_branch : (below (step Main (depth_of o) ∷ tail_of o) (step Main t.index ∷ path) ≡ None → kind_found (fill o c) t.index path ≡ kind_found (fill o d) t.index path) → (x : Branch) → below (step Main (depth_of o) ∷ tail_of o) (step x t.index ∷ path) ≡ None → option_map kind_of (option_and_then (λ y. found y t.index path) (branch_of x (If q (fill o c) b))) ≡ option_map kind_of (option_and_then (λ y. found y t.index path) (branch_of x (If q (fill o d) b)))
    by_branch further Main e = further e
    by_branch further Else e = refl
kind_outside (InElse q a o rest) r (suc k) path c d h = refl
kind_outside (InElse q a o rest) r zero [] c d h = refl
kind_outside (InElse q a o rest) r zero (t ∷ path) c d h = by_branch (λ e. kind_outside o Else t.index path c d e) t.branch (entered r h)
  where
    entered : (r : Branch) → below (step r zero ∷ step Else (depth_of o) ∷ tail_of o) (step r zero ∷ t ∷ path) ≡ None → below (step Else (depth_of o) ∷ tail_of o) (t ∷ path) ≡ None
    entered Main e = e
    entered Else e = e

    by_branch : (below (step Else (depth_of o) ∷ tail_of o) (step Else t.index ∷ path) ≡ None → kind_found (fill o c) t.index path ≡ kind_found (fill o d) t.index path) → (x : Branch) → below (step Else (depth_of o) ∷ tail_of o) (step x t.index ∷ path) ≡ None → option_map kind_of (option_and_then (λ y. found y t.index path) (branch_of x (If q a (fill o c)))) ≡ option_map kind_of (option_and_then (λ y. found y t.index path) (branch_of x (If q a (fill o d))))
    by_branch further Main e = refl
    by_branch further Else e = further e
