-- How long the paths are of a block with some statements replaced.
use Rattle.std.proofs.Common.{◌≡◌, ℕ, zero, suc, ◌+◌, ◌-◌, ◌<◌, ◌≤◌, max, List, [], ◌∷◌, drop, Option, Some, None, refl, ap, sym, ◌∙◌, arith, subst, length}
use Rattle.std.specs.Prelude.{option_map, IfSome, IsSomeAnd}
use Rattle.exo_tree.specs.Tree.{Statement, If, For, Block, end, next, block, joined}
use Rattle.exo_tree.specs.Context.{Context, After, InLoop, InThen, InElse, fill}
use Rattle.exo_tree.specs.Places.{Branch, Main, Else, Step, Path, Opened, parted, past, into, opened_in, opened, replaced}
use Rattle.exo_tree.specs.Heights.{height, height_below}
use Rattle.exo_tree.proofs.Openings.{around_by, with_rest, filled}

-- the block is the piece in its surroundings
abbrev pub IsWhole : Block → Option Opened → Type 0
IsWhole b x = IfSome x (λ (o : Opened). fill o.around o.piece ≡ b)

whole_around : (g : Context → Context) (m : Block → Block) → ((o : Context) (w : Block) → fill (g o) w ≡ m (fill o w)) → (b : Block) (x : Option Opened) → IsWhole b x → IsWhole (m b) (around_by g x)
whole_around g m e b None h = tt
whole_around g m e b (Some o) h = e o.around o.piece ∙ ap m h

whole_past : (f : Block → Option Opened) → ((c : Block) → IsWhole c (f c)) → (k : ℕ) (b : Block) → IsWhole b (past k f b)
whole_past f h zero b = h b
whole_past f h (suc k) end = tt
whole_past f h (suc k) (next a b) = whole_around (After a) (next a) (λ o w. refl) b (past k f b) (whole_past f h k b)

whole_into : (f : Block → Option Opened) → ((c : Block) → IsWhole c (f c)) → (which : Branch) (b : Block) → IsWhole b (into which f b)
whole_into f h Main (next (For i lo hi b) rest) = whole_around (λ o. InLoop i lo hi o rest) (λ c. next (For i lo hi c) rest) (λ o w. refl) b (f b) (h b)
whole_into f h Main (next (If c a b) rest) = whole_around (λ o. InThen c o b rest) (λ d. next (If c d b) rest) (λ o w. refl) a (f a) (h a)
whole_into f h Else (next (If c a b) rest) = whole_around (λ o. InElse c a o rest) (λ d. next (If c a d) rest) (λ o w. refl) b (f b) (h b)
whole_into f h _ b = tt

abbrev IsParted : Block → Option (Block × Block) → Type 0
IsParted b x = IfSome x (λ (p : Block × Block). joined p.0 p.1 ≡ b)

parted_next : (a : Statement) (b : Block) (x : Option (Block × Block)) → IsParted b x → IsParted (next a b) (option_map (λ (p : Block × Block). (next a p.0, p.1)) x)
parted_next a b None h = tt
parted_next a b (Some p) h = ap (next a) h

parted_whole : (n : ℕ) (b : Block) → IsParted b (parted n b)
parted_whole zero b = refl
parted_whole (suc n) end = tt
parted_whole (suc n) (next a b) = parted_next a b (parted n b) (parted_whole n b)

whole_rest : (b : Block) (x : Option (Block × Block)) → IsParted b x → IsWhole b (with_rest x)
whole_rest b None h = tt
whole_rest b (Some p) h = h

pub whole_in : (count : ℕ) (path : Path) (b : Block) → IsWhole b (opened_in count path b)
whole_in count [] b = tt
whole_in count (s ∷ []) b = whole_past (λ c. with_rest (parted count c)) (λ c. whole_rest c (parted count c) (parted_whole count c)) s.index b
whole_in count (s ∷ t ∷ path) b = whole_past (into t.branch (opened_in count (t ∷ path))) (whole_into (opened_in count (t ∷ path)) (whole_in count (t ∷ path)) t.branch) s.index b

whole_from : (which : Branch) (b : Block) (x : Option Opened) → IsWhole b x → IsWhole b (elim which [ Main ↦ x | Else ↦ None ])
whole_from Main b x h = h
whole_from Else b x h = tt

pub whole_opened : (count : ℕ) (path : Path) (b : Block) → IsWhole b (opened count path b)
whole_opened count [] b = tt
whole_opened count (s ∷ path) b = whole_from s.branch b (opened_in count (s ∷ path) b) (whole_in count (s ∷ path) b)

-- what is opened is the block itself
pub opened_whole : (count : ℕ) (path : Path) (b : Block) (o : Opened) → opened count path b ≡ Some o → fill o.around o.piece ≡ b
opened_whole count path b o e = subst (IsWhole b) e (whole_opened count path b)

height_joined : (a b : Block) → height (joined a b) ≡ max (height a) (height b)
height_joined end b = omega arith
height_joined (next s a) b = omega (arith, height_joined a b)

-- with w in place of what is opened n steps down, paths get as long as those of w there, and no longer than they were else
abbrev pub ReachesAs : ℕ → Block → Block → Option Opened → Type 0
ReachesAs n w b x = IfSome x (λ (o : Opened). (n + height w ≤ height (fill o.around w)) × (height (fill o.around w) ≤ max (height b) (n + height w)))

reaches_after : (n : ℕ) (w : Block) (a : Statement) (b : Block) (x : Option Opened) → ReachesAs n w b x → ReachesAs n w (next a b) (around_by (After a) x)
reaches_after n w a b None h = tt
reaches_after n w a b (Some o) h = (omega arith, omega arith)

reaches_past : (n : ℕ) (w : Block) (f : Block → Option Opened) → ((c : Block) → ReachesAs n w c (f c)) → (k : ℕ) (b : Block) → ReachesAs n w b (past k f b)
reaches_past n w f h zero b = h b
reaches_past n w f h (suc k) end = tt
reaches_past n w f h (suc k) (next a b) = reaches_after n w a b (past k f b) (reaches_past n w f h k b)

reaches_loop : (n : ℕ) (w : Block) (g : Context → Context) (s : Block → Statement) (rest : Block) → ((o : Context) → fill (g o) w ≡ next (s (fill o w)) rest) → (r : ℕ) → ((c : Block) → height_below (s c) ≡ max r (height c)) → (b : Block) (x : Option Opened) → ReachesAs n w b x → ReachesAs (1 + n) w (next (s b) rest) (around_by g x)
reaches_loop n w g s rest e r k b None h = tt
reaches_loop n w g s rest e r k b (Some o) h = (omega (arith, k (fill o.around w), ap height (e o.around)), omega (arith, k b, k (fill o.around w), ap height (e o.around)))

reaches_into : (n : ℕ) (w : Block) (f : Block → Option Opened) → ((c : Block) → ReachesAs n w c (f c)) → (which : Branch) (b : Block) → ReachesAs (1 + n) w b (into which f b)
reaches_into n w f h Main (next (For i lo hi b) rest) = reaches_loop n w (λ o. InLoop i lo hi o rest) (For i lo hi) rest (λ o. refl) 0 (λ c. omega arith) b (f b) (h b)
reaches_into n w f h Main (next (If c a b) rest) = reaches_loop n w (λ o. InThen c o b rest) (λ d. If c d b) rest (λ o. refl) (height b) (λ d. omega arith) a (f a) (h a)
reaches_into n w f h Else (next (If c a b) rest) = reaches_loop n w (λ o. InElse c a o rest) (If c a) rest (λ o. refl) (height a) (λ d. omega arith) b (f b) (h b)
reaches_into n w f h _ b = tt

reaches_rest : (w b : Block) (x : Option (Block × Block)) → IsParted b x → ReachesAs 0 w b (with_rest x)
reaches_rest w b None h = tt
reaches_rest w b (Some p) h = (omega (arith, height_joined w p.1), omega (arith, height_joined w p.1, height_joined p.0 p.1, ap height h))

one_more : (t : Step) (path : Path) → 1 + length path ≡ length (t ∷ path)
one_more t path = omega arith

pub reaches_in : (count : ℕ) (s : Step) (path : Path) (w b : Block) → ReachesAs (length path) w b (opened_in count (s ∷ path) b)
reaches_in count s [] w b = reaches_past 0 w (λ c. with_rest (parted count c)) (λ c. reaches_rest w c (parted count c) (parted_whole count c)) s.index b
reaches_in count s (t ∷ path) w b = reaches_past (length (t ∷ path)) w (into t.branch (opened_in count (t ∷ path))) (λ c. subst (λ n. ReachesAs n w c (into t.branch (opened_in count (t ∷ path)) c)) (one_more t path) (reaches_into (length path) w (opened_in count (t ∷ path)) (reaches_in count t path w) t.branch c)) s.index b

-- a statement that is too far down makes its block so
pub height_of_part : (ss rest : List Statement) (k room : ℕ) (s : Statement) → drop k ss ≡ s ∷ rest → height (block ss) ≤ room → 1 + height_below s ≤ room
height_of_part [] rest zero room s h f = cc
height_of_part [] rest (suc k) room s h f = cc
height_of_part (t ∷ ss) rest zero room s h f = let e : t ≡ s = cc in omega (arith, ap height_below e)
height_of_part (t ∷ ss) rest (suc k) room s h f = height_of_part ss rest k room s h (omega arith)

pub height_of_rest : (ss rest : List Statement) (k room : ℕ) (s : Statement) → drop k ss ≡ s ∷ rest → 1 + height_below s ≤ room → height (block rest) ≤ room → height (block (drop k ss)) ≤ room
height_of_rest ss rest k room s h f g = subst (λ (ts : List Statement). height (block ts) ≤ room) (sym h) (omega arith)

reaches_filled : (n : ℕ) (w b c : Block) (x : Option Opened) → ReachesAs n w b x → filled w x ≡ Some c → (n + height w ≤ height c) × (height c ≤ max (height b) (n + height w))
reaches_filled n w b c None h e = cc
reaches_filled n w b c (Some o) h e = let f : fill o.around w ≡ c = cc in (omega (arith, ap height f, h.0), omega (arith, ap height f, h.1))

reaches_from : (n : ℕ) (w b : Block) (which : Branch) (x : Option Opened) → ReachesAs n w b x → ReachesAs n w b (elim which [ Main ↦ x | Else ↦ None ])
reaches_from n w b Main x h = h
reaches_from n w b Else x h = tt

-- where paths had at most 32 steps, they have so after a replacement exactly where those of w are short enough there
pub height_replaced : (count : ℕ) (path : Path) (b w c : Block) → height b ≤ 32 → length path ≤ 32 → replaced count path b w ≡ Some c → (height w ≤ 33 - length path → height c ≤ 32) × (33 - length path < height w → 32 < height c)
height_replaced count [] b w c h l e = cc
height_replaced count (s ∷ path) b w c h l e =
    let r = reaches_filled (length path) w b c (opened count (s ∷ path) b) (reaches_from (length path) w b s.branch (opened_in count (s ∷ path) b) (reaches_in count s path w b)) e in
    let low : length path + height w ≤ height c = r.0 in
    let high : height c ≤ max (height b) (length path + height w) = r.1 in
    (λ k. omega arith, λ k. omega arith)

pub some_and : {X : Type 0} (P : X → Type 0) (x : Option X) (c : X) → x ≡ Some c → P c → IsSomeAnd x P
some_and P None c e h = cc
some_and P (Some d) c e h = let f : d ≡ c = cc in subst P (sym f) h
