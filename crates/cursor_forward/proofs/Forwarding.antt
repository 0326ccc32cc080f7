-- Shifts that carry statements, with targets apart, forward the statements of a procedure.
use Rattle.std.proofs.Common.{◌≡◌, ℕ, zero, suc, ◌+◌, ◌-◌, ◌<◌, ◌≤◌, Bool, true, false, List, [], ◌∷◌, length, Option, Some, None, refl, ap, sym, ◌∙◌, arith, subst, true≢false}
use Rattle.std.specs.Prelude.{◌||◌, ◌^◌, nat_lt, if◌then◌else◌, option_map, option_and_then}
use Rattle.std.specs.List.{list_all}
use Rattle.exo_tree.specs.Tree.{Statement, Block, end, next, joined, statements}
use Rattle.exo_tree.specs.Context.{Context, Here, After, InLoop, InThen, InElse, fill}
use Rattle.exo_tree.specs.Places.{Branch, Main, Else, Path, statement_at}
use Rattle.cursor_forward.specs.Shifts.{Shift, Move, Below, below, beyond, word, is_end, covers, covered, follow, lifted, moved_below, moved, move_of}
use Rattle.cursor_forward.specs.Forwards.{kind_of, kind_at, AreAlike, AreCarried, IsCarried, Carries, have_apart, are_apart, apart, MovesLaw}
use Rattle.cursor_forward.proofs.Lands.{step, landing, found, is_found, depth_of, tail_of, rest_of, none_some, found_below, kind_outside, kind_found}
use Rattle.cursor_forward.proofs.Holes.{mapped_some, then_some, is_opened}
use Rattle.cursor_forward.proofs.SameKinds.{same_bones, same_kinds, found_front, found_behind}
use Rattle.cursor_forward.proofs.Ranges.{both_true, below_unique, beyond_below, IsWithin, none_in_both}

abbrev hole : Context → Path
hole o = step Main (depth_of o) ∷ tail_of o

-- ---- what is beyond the hole of a context begins at a statement of the block

-- the number of the first statement on the way
abbrev top : Context → ℕ → ℕ
top (Here rest) k = k
top (After a o) k = suc (top o k)
top (InLoop i lo hi o rest) k = zero
top (InThen c o b rest) k = zero
top (InElse c a o rest) k = zero

abbrev top_of : ℕ → Path → ℕ → ℕ
top_of d [] k = d + k
top_of d (u ∷ tail) k = d

top_suc : (d : ℕ) (tail : Path) (k : ℕ) → top_of (suc d) tail k ≡ suc (top_of d tail k)
top_suc d [] k = omega arith
top_suc d (u ∷ tail) k = refl

top_is : (o : Context) (k : ℕ) → top_of (depth_of o) (tail_of o) k ≡ top o k
top_is (Here rest) k = omega arith
top_is (After a o) k = top_suc (depth_of o) (tail_of o) k ∙ ap suc (top_is o k)
top_is (InLoop i lo hi o rest) k = refl
top_is (InThen c o b rest) k = refl
top_is (InElse c a o rest) k = refl

if_word : (n m : ℕ) → word n ≡ Some m → m ≡ n
if_word n m h = by_test (nat_lt n (2 ^ 32)) h
  where
    by_test : (b : Bool) → (if b then Some n else None) ≡ Some m → m ≡ n
    by_test true e = cc
    by_test false e = absurd (none_some refl e)

pub record Begins (k : ℕ) (q : Path) : Type 0 where
  pub rest : Path
  pub is : q ≡ step Main k ∷ rest

begins : (d : ℕ) (tail : Path) (k : ℕ) (rest q : Path) → beyond (step Main d ∷ tail) k rest ≡ Some q → Begins (top_of d tail k) q
begins d [] k rest q h =
    let m = mapped_some (λ n. step Main n ∷ rest) (word (d + k)) q h in
    record { rest = rest; is = sym m.2 ∙ ap (λ (n : ℕ). step Main n ∷ rest) (if_word (d + k) m.0 m.1) }
begins d (u ∷ tail) k rest q h =
    let m = mapped_some (λ p. step Main d ∷ p) (beyond (u ∷ tail) k rest) q h in
    record { rest = m.0; is = sym m.2 }

longer : (c d : Block) → length (statements c) ≤ length (statements (joined c d))
longer end d = omega arith
longer (next a c) d = omega (arith, longer c d)

top_within : (o : Context) (k : ℕ) (c : Block) → k < length (statements c) → top o k < length (statements (fill o c))
top_within (Here rest) k c h = omega (arith, longer c rest, h)
top_within (After a o) k c h = omega (arith, top_within o k c h)
top_within (InLoop i lo hi o rest) k c h = omega arith
top_within (InThen t o b rest) k c h = omega arith
top_within (InElse t a o rest) k c h = omega arith

-- ---- within the piece

-- where a statement of the old piece goes in the new one
pub record Lands (k : ℕ) (path r : Path) (old new : Block) : Type 0 where
  pub first : ℕ
  pub rest : Path
  pub is : r ≡ step Main first ∷ rest
  pub within : first < length (statements new)
  pub kind : (a : Statement) → found old k path ≡ Some a → kind_found new first rest ≡ Some (kind_of a)

lt_true : (a b : ℕ) → nat_lt a b ≡ true → a < b
lt_true a b h = grind (arith, h)

end_of : (path : Path) → is_end path ≡ true → path ≡ []
end_of [] h = refl
end_of (s ∷ path) h = absurd (true≢false (sym h))

-- statements that are alike have the same kinds, where the shift takes them
same_landing : (v : Bool) (w : Below) (b c : Block) → AreAlike v b c → (v || is_end w.rest) ≡ true → kind_found b w.offset w.rest ≡ kind_found c w.offset w.rest
same_landing true w b c h e = same_bones w.rest w.offset b c h
same_landing false w b c h e =
    let at : w.rest ≡ [] = end_of w.rest e in
    ap (kind_found b w.offset) at ∙ same_kinds w.offset b c h ∙ ap (kind_found c w.offset) (sym at)

carried_lands : (s : Shift) (to : Path) (old new : Block) (k : ℕ) (path r : Path) (w : Below) → AreCarried s to old new → below s.from (step Main k ∷ path) ≡ Some w → covers s w ≡ true → beyond to w.offset w.rest ≡ Some r → Lands k path r old new
carried_lands s to old new k path r w c b v h =
    let was = is_opened s.count s.from old c.was c.before in
    let is = is_opened s.count to new c.is c.after in
    let counts = both_true (nat_lt w.offset s.count) (s.whole || is_end w.rest) v in
    let lt : w.offset < s.count = lt_true w.offset s.count counts.0 in
    let in_old : w.offset < length (statements c.was.piece) = omega (arith, lt, was.size) in
    let in_new : w.offset < length (statements c.is.piece) = omega (arith, lt, is.size) in
    let at : beyond (hole c.is.around) w.offset w.rest ≡ Some r = ap (λ (p : Path). beyond p w.offset w.rest) (sym is.hole) ∙ h in
    let start = begins (depth_of c.is.around) (tail_of c.is.around) w.offset w.rest r at in
    let first = top_of (depth_of c.is.around) (tail_of c.is.around) w.offset in
    let here : below (hole c.was.around) (step Main k ∷ path) ≡ Some w = ap (λ (p : Path). below p (step Main k ∷ path)) (sym was.hole) ∙ b in
    let there : below (hole c.is.around) (step Main first ∷ start.rest) ≡ Some w = ap (below (hole c.is.around)) (sym start.is) ∙ beyond_below (hole c.is.around) w.offset w.rest r at in
    let stood : found old k path ≡ found c.was.piece w.offset w.rest =
    ap (λ (x : Block). found x k path) (sym was.whole)
    ∙ found_below c.was.around Main Main k path w c.was.piece here
    ∙ found_front c.was.piece (rest_of c.was.around) w.offset w.rest in_old in
    let stands : found new first start.rest ≡ found c.is.piece w.offset w.rest =
    ap (λ (x : Block). found x first start.rest) (sym is.whole)
    ∙ found_below c.is.around Main Main first start.rest w c.is.piece there
    ∙ found_front c.is.piece (rest_of c.is.around) w.offset w.rest in_new in
    let bound : first < length (statements new) =
    subst (λ (n : ℕ). n < length (statements new)) (sym (top_is c.is.around w.offset))
    (subst (λ (x : Block). top c.is.around w.offset < length (statements x)) is.whole (top_within c.is.around w.offset c.is.piece in_new)) in
    record {
      first = first;
      rest = start.rest;
      is = start.is;
      within = bound;
      kind = λ a e. ap (option_map kind_of) stands ∙ sym (same_landing s.whole w c.was.piece c.is.piece c.alike counts.1) ∙ ap (option_map kind_of) (sym stood ∙ e);
    }

-- a shift covers nothing, or what lies in its range
covered_is : (s : Shift) (path : Path) (w : Below) → covered s path ≡ Some w → (below s.from path ≡ Some w) × (covers s w ≡ true)
covered_is s path w h = by_below (below s.from path) h
  where
    by_below : (o : Option Below) → (elim o as (λ (_ : Option Below). Option Below) [ None ↦ None | Some v ↦ if covers s v then Some v else None ]) ≡ Some w → (o ≡ Some w) × (covers s w ≡ true)
    by_below None e = absurd (none_some refl e)
    by_below (Some v) e = by_test v (covers s v) refl e
      where
        by_test : (v : Below) (b : Bool) → covers s v ≡ b → (if b then Some v else None) ≡ Some w → (Some v ≡ Some w) × (covers s w ≡ true)
        by_test v true f e = (e, ap (covers s) (sym (unpacked v e)) ∙ f)
          where
            unpacked : (v : Below) → Some v ≡ Some w → v ≡ w
            unpacked v e = cc
        by_test v false f e = absurd (none_some refl e)

pub follow_lands : (shifts : List Shift) (old new : Block) (k : ℕ) (path r : Path) → Carries shifts old new → follow shifts (step Main k ∷ path) ≡ Some r → Lands k path r old new
follow_lands [] old new k path r c h = absurd (none_some refl h)
follow_lands (s ∷ shifts) old new k path r c h = by_cover (λ e. follow_lands shifts old new k path r c.1 e) (covered s (step Main k ∷ path)) refl h
  where
    by_target : (w : Below) (t : Option Path) → IsCarried s t old new → below s.from (step Main k ∷ path) ≡ Some w → covers s w ≡ true → option_and_then (λ q. beyond q w.offset w.rest) t ≡ Some r → Lands k path r old new
    by_target w None i b v e = absurd (none_some refl e)
    by_target w (Some to) i b v e = carried_lands s to old new k path r w i b v e

    by_cover : (follow shifts (step Main k ∷ path) ≡ Some r → Lands k path r old new) → (o : Option Below) → covered s (step Main k ∷ path) ≡ o → (elim o as (λ (_ : Option Below). Option Path) [ None ↦ follow shifts (step Main k ∷ path) | Some w ↦ option_and_then (λ to. beyond to w.offset w.rest) s.to ]) ≡ Some r → Lands k path r old new
    by_cover further None f e = further e
    by_cover further (Some w) f e =
        let i = covered_is s (step Main k ∷ path) w f in
        by_target w s.to c.0 i.0 i.1 e

-- ---- no two to one place

-- what a shift takes lies in its range, and where it goes in the range of its target
pub record IsTaken (s : Shift) (path r : Path) : Type 0 where
  pub to : Path
  pub below_it : Below
  pub target : s.to ≡ Some to
  pub from : below s.from path ≡ Some below_it
  pub counts : covers s below_it ≡ true
  pub goes : beyond to below_it.offset below_it.rest ≡ Some r

is_taken : (s : Shift) (path r : Path) (w : Below) → covered s path ≡ Some w → option_and_then (λ to. beyond to w.offset w.rest) s.to ≡ Some r → IsTaken s path r
is_taken s path r w f e =
    let i = covered_is s path w f in
    let t = then_some (λ (to : Path). beyond to w.offset w.rest) s.to r e in
    record { to = t.0; below_it = w; target = t.1; from = i.0; counts = i.1; goes = t.2 }

-- where a path comes to is in the range of the target
comes_within : (s : Shift) (path r : Path) (t : IsTaken s path r) → IsWithin t.to s.count s.whole r t.below_it
comes_within s path r t =
    let b = both_true (nat_lt t.below_it.offset s.count) (s.whole || is_end t.below_it.rest) t.counts in
    record { lies = beyond_below t.to t.below_it.offset t.below_it.rest r t.goes; among = lt_true t.below_it.offset s.count b.0; counts = b.1 }

abbrev apart_by : Shift → Shift → Option Path → Option Path → Bool
apart_by s t a b = elim a [ None ↦ true | Some p ↦ elim b [ None ↦ true | Some q ↦ apart p s.count s.whole q t.count t.whole ] ]

not_taken_twice : (s t : Shift) (p q r : Path) → have_apart s t ≡ true → IsTaken s p r → IsTaken t q r → ⊥
not_taken_twice s t p q r h a b =
    let e : apart a.to s.count s.whole b.to t.count t.whole ≡ true = (λ i. apart_by s t (sym a.target i) (sym b.target i)) ∙ h in
    none_in_both a.to b.to r s.count t.count s.whole t.whole a.below_it b.below_it e (comes_within s p r a) (comes_within t q r b)

-- by a shift or by none
abbrev taken_by : List Shift → Shift → Path → Option Below → Option Path
taken_by shifts s q o = elim o [ None ↦ follow shifts q | Some w ↦ option_and_then (λ to. beyond to w.offset w.rest) s.to ]

if_none : (shifts : List Shift) (s : Shift) (q r : Path) → covered s q ≡ None → follow (s ∷ shifts) q ≡ Some r → follow shifts q ≡ Some r
if_none shifts s q r f e = ap (taken_by shifts s q) (sym f) ∙ e

if_some_taken : (shifts : List Shift) (s : Shift) (q r : Path) (w : Below) → covered s q ≡ Some w → follow (s ∷ shifts) q ≡ Some r → IsTaken s q r
if_some_taken shifts s q r w f e = is_taken s q r w f (ap (taken_by shifts s q) (sym f) ∙ e)

no_other : (s : Shift) (p q r : Path) → IsTaken s p r → (shifts : List Shift) → list_all (have_apart s) shifts ≡ true → follow shifts q ≡ Some r → ⊥
no_other s p q r a [] h e = none_some refl e
no_other s p q r a (t ∷ shifts) h e = by_cover (λ f. no_other s p q r a shifts (both_true (have_apart s t) (list_all (have_apart s) shifts) h).1 f) (covered t q) refl
  where
    by_cover : (follow shifts q ≡ Some r → ⊥) → (o : Option Below) → covered t q ≡ o → ⊥
    by_cover further None f = further (if_none shifts t q r f e)
    by_cover further (Some w) f = not_taken_twice s t p q r (both_true (have_apart s t) (list_all (have_apart s) shifts) h).0 a (if_some_taken shifts t q r w f e)

same_taken : (s : Shift) (p q r : Path) → IsTaken s p r → IsTaken s q r → p ≡ q
same_taken s p q r a b =
    let t : Some a.to ≡ Some b.to = sym a.target ∙ b.target in
    let to : a.to ≡ b.to = cc in
    let e : Some a.below_it ≡ Some b.below_it = sym (comes_within s p r a).lies ∙ ap (λ (x : Path). below x r) to ∙ (comes_within s q r b).lies in
    below_unique s.from p q b.below_it (a.from ∙ e) b.from

pub follow_apart : (shifts : List Shift) → are_apart shifts ≡ true → (p q r : Path) → follow shifts p ≡ Some r → follow shifts q ≡ Some r → p ≡ q
follow_apart [] h p q r e f = absurd (none_some refl e)
follow_apart (s ∷ shifts) h p q r e f =
    by_cover (λ a b. follow_apart shifts (both_true (list_all (have_apart s) shifts) (are_apart shifts) h).1 p q r a b) (covered s p) refl (covered s q) refl
  where
    others : list_all (have_apart s) shifts ≡ true
    others = (both_true (list_all (have_apart s) shifts) (are_apart shifts) h).0

    by_cover : (follow shifts p ≡ Some r → follow shifts q ≡ Some r → p ≡ q) → (x : Option Below) → covered s p ≡ x → (y : Option Below) → covered s q ≡ y → p ≡ q
    by_cover further None g None i = further (if_none shifts s p r g e) (if_none shifts s q r i f)
    by_cover further None g (Some w) i = absurd (no_other s q p r (if_some_taken shifts s q r w i f) shifts others (if_none shifts s p r g e))
    by_cover further (Some v) g None i = absurd (no_other s p q r (if_some_taken shifts s p r v g e) shifts others (if_none shifts s q r i f))
    by_cover further (Some v) g (Some w) i = same_taken s p q r (if_some_taken shifts s p r v g e) (if_some_taken shifts s q r w i f)

-- ---- the procedure

module _ (c : Context) (piece made : Block) (shifts : List Shift) (carries : Carries shifts piece made) where
  abbrev old : ℕ
  old = length (statements piece)

  abbrev new : ℕ
  new = length (statements made)

  -- where a statement of the piece goes: it is one of the new piece
  record GoesInside (w : Below) (to : Path) : Type 0 where
    was : w.offset < old
    inner : Path
    follows : follow shifts (step Main w.offset ∷ w.rest) ≡ Some inner
    lands : Lands w.offset w.rest inner piece made
    comes : below (hole c) to ≡ Some (landing lands.first lands.rest)
    start : Begins (top c lands.first) to

  -- and one behind the piece
  record GoesBehind (w : Below) (to : Path) : Type 0 where
    was : old ≤ w.offset
    comes : below (hole c) to ≡ Some (landing (w.offset - old + new) w.rest)
    start : Begins (top c (w.offset - old + new)) to

  data Goes (w : Below) (to : Path) : Type 0 where
    inside : GoesInside w to → Goes w to
    behind : GoesBehind w to → Goes w to

  begins_at : (k : ℕ) (rest to : Path) → beyond (hole c) k rest ≡ Some to → Begins (top c k) to
  begins_at k rest to h = subst (λ (n : ℕ). Begins n to) (top_is c k) (begins (depth_of c) (tail_of c) k rest to h)

  goes : (w : Below) (to : Path) → moved_below (hole c) old new (follow shifts) w ≡ Some to → Goes w to
  goes w to h = by_test (nat_lt w.offset old) refl h
    where
      by_inner : w.offset < old → (r : Path) → follow shifts (step Main w.offset ∷ w.rest) ≡ Some r → lifted (hole c) r ≡ Some to → Goes w to
      by_inner lt r f e =
          let l = follow_lands shifts piece made w.offset w.rest r carries f in
          let at : beyond (hole c) l.first l.rest ≡ Some to = ap (lifted (hole c)) (sym l.is) ∙ e in
          inside (record { was = lt; inner = r; follows = f; lands = l; comes = beyond_below (hole c) l.first l.rest to at; start = begins_at l.first l.rest to at })

      by_test : (b : Bool) → nat_lt w.offset old ≡ b → (if b then option_and_then (lifted (hole c)) (follow shifts (step Main w.offset ∷ w.rest)) else beyond (hole c) (w.offset - old + new) w.rest) ≡ Some to → Goes w to
      by_test true lt e =
          let t = then_some (lifted (hole c)) (follow shifts (step Main w.offset ∷ w.rest)) to e in
          by_inner (lt_true w.offset old lt) t.0 t.1 t.2
      by_test false ge e =
          let le : old ≤ w.offset = grind (arith, ge) in
          behind (record { was = le; comes = beyond_below (hole c) (w.offset - old + new) w.rest to e; start = begins_at (w.offset - old + new) w.rest to e })

  abbrev move : Move
  move = moved (hole c) old new (follow shifts)

  abbrev moved_by : Path → Option Below → Option Path
  moved_by path o = elim o [ None ↦ Some path | Some w ↦ moved_below (hole c) old new (follow shifts) w ]

  landing_is : (o : Option Below) (i j : ℕ) (p q : Path) → o ≡ Some (landing i p) → o ≡ Some (landing j q) → (i ≡ j) × (p ≡ q)
  landing_is o i j p q e f =
      let h : Some (landing i p) ≡ Some (landing j q) = sym e ∙ f in
      let g : landing i p ≡ landing j q = cc in
      (ap (λ (v : Below). v.offset) g, ap (λ (v : Below). v.rest) g)

  abbrev both_land : Below → Below → Path → Type 0
  both_land v w to = below (hole c) to ≡ Some v

  same_below : are_apart shifts ≡ true → (v w : Below) (to : Path) → Goes v to → Goes w to → v ≡ w
  same_below h v w to (inside a) (inside b) =
      let l = landing_is (below (hole c) to) a.lands.first b.lands.first a.lands.rest b.lands.rest a.comes b.comes in
      let inner : a.inner ≡ b.inner = a.lands.is ∙ (λ i. step Main (l.0 i) ∷ l.1 i) ∙ sym b.lands.is in
      let path : step Main v.offset ∷ v.rest ≡ step Main w.offset ∷ w.rest = follow_apart shifts h (step Main v.offset ∷ v.rest) (step Main w.offset ∷ w.rest) b.inner (a.follows ∙ ap Some inner) b.follows in
      let s : step Main v.offset ≡ step Main w.offset = cc in
      let r : v.rest ≡ w.rest = cc in
      λ i. landing ((s i).index) (r i)
  same_below h v w to (inside a) (behind b) =
      let l = landing_is (below (hole c) to) a.lands.first (w.offset - old + new) a.lands.rest w.rest a.comes b.comes in
      absurd (omega (arith, l.0, a.lands.within, b.was))
  same_below h v w to (behind a) (inside b) =
      let l = landing_is (below (hole c) to) (v.offset - old + new) b.lands.first v.rest b.lands.rest a.comes b.comes in
      absurd (omega (arith, l.0, b.lands.within, a.was))
  same_below h v w to (behind a) (behind b) =
      let l = landing_is (below (hole c) to) (v.offset - old + new) (w.offset - old + new) v.rest w.rest a.comes b.comes in
      let e : v.offset ≡ w.offset = omega (arith, l.0, a.was, b.was) in
      λ i. landing (e i) (l.1 i)

  lies : (w : Below) (to : Path) → Goes w to → below (hole c) to ≡ None → ⊥
  lies w to (inside a) h = none_some h a.comes
  lies w to (behind a) h = none_some h a.comes

  pub move_apart : are_apart shifts ≡ true → (one other to : Path) → move one ≡ Some to → move other ≡ Some to → one ≡ other
  move_apart h one other to e f = by_below (below (hole c) one) refl (below (hole c) other) refl
    where
      by_below : (x : Option Below) → below (hole c) one ≡ x → (y : Option Below) → below (hole c) other ≡ y → one ≡ other
      by_below None g None i =
          let a : Some one ≡ Some to = ap (moved_by one) (sym g) ∙ e in
          let b : Some other ≡ Some to = ap (moved_by other) (sym i) ∙ f in
          cc
      by_below None g (Some w) i =
          let a : Some one ≡ Some to = ap (moved_by one) (sym g) ∙ e in
          let same : to ≡ one = cc in
          absurd (lies w to (goes w to (ap (moved_by other) (sym i) ∙ f)) (ap (below (hole c)) same ∙ g))
      by_below (Some v) g None i =
          let a : Some other ≡ Some to = ap (moved_by other) (sym i) ∙ f in
          let same : to ≡ other = cc in
          absurd (lies v to (goes v to (ap (moved_by one) (sym g) ∙ e)) (ap (below (hole c)) same ∙ i))
      by_below (Some v) g (Some w) i =
          let same = same_below h v w to (goes v to (ap (moved_by one) (sym g) ∙ e)) (goes w to (ap (moved_by other) (sym i) ∙ f)) in
          below_unique (hole c) one other w (g ∙ ap Some same) i

  -- where a statement of the block goes one of its kind stands
  pub move_images : (k : ℕ) (path to : Path) (a : Statement) → found (fill c piece) k path ≡ Some a → move (step Main k ∷ path) ≡ Some to → kind_at to (fill c made) ≡ Some (kind_of a)
  move_images k path to a stands e = by_below (below (hole c) (step Main k ∷ path)) refl
    where
      at_start : (j : ℕ) (rest : Path) → to ≡ step Main j ∷ rest → kind_at to (fill c made) ≡ kind_found (fill c made) j rest
      at_start j rest is = ap (λ (p : Path). kind_at p (fill c made)) is ∙ ap (option_map kind_of) (is_found (step Main j) rest (fill c made))

      by_goes : (w : Below) → below (hole c) (step Main k ∷ path) ≡ Some w → Goes w to → kind_at to (fill c made) ≡ Some (kind_of a)
      by_goes w b (inside g) =
          let here : found piece w.offset w.rest ≡ Some a = sym (found_front piece (rest_of c) w.offset w.rest g.was) ∙ sym (found_below c Main Main k path w piece b) ∙ stands in
          let there = ap (below (hole c)) (sym g.start.is) ∙ g.comes in
          at_start (top c g.lands.first) g.start.rest g.start.is
          ∙ ap (option_map kind_of) (found_below c Main Main (top c g.lands.first) g.start.rest (landing g.lands.first g.lands.rest) made there)
          ∙ ap (option_map kind_of) (found_front made (rest_of c) g.lands.first g.lands.rest g.lands.within)
          ∙ g.lands.kind a here
      by_goes w b (behind g) =
          let split : w.offset ≡ old + (w.offset - old) = omega (arith, g.was) in
          let joins : w.offset - old + new ≡ new + (w.offset - old) = omega arith in
          let here : found (rest_of c) (w.offset - old) w.rest ≡ Some a =
          sym (found_behind piece (rest_of c) (w.offset - old) w.rest)
          ∙ ap (λ (n : ℕ). found (joined piece (rest_of c)) n w.rest) (sym split)
          ∙ sym (found_below c Main Main k path w piece b)
          ∙ stands in
          let there = ap (below (hole c)) (sym g.start.is) ∙ g.comes in
          at_start (top c (w.offset - old + new)) g.start.rest g.start.is
          ∙ ap (option_map kind_of) (found_below c Main Main (top c (w.offset - old + new)) g.start.rest (landing (w.offset - old + new) w.rest) made there
          ∙ ap (λ (n : ℕ). found (joined made (rest_of c)) n w.rest) joins
          ∙ found_behind made (rest_of c) (w.offset - old) w.rest
          ∙ here)

      by_below : (o : Option Below) → below (hole c) (step Main k ∷ path) ≡ o → kind_at to (fill c made) ≡ Some (kind_of a)
      by_below None b =
          let s : Some (step Main k ∷ path) ≡ Some to = ap (moved_by (step Main k ∷ path)) (sym b) ∙ e in
          let is : to ≡ step Main k ∷ path = cc in
          at_start k path is ∙ sym (kind_outside c Main k path piece made b) ∙ ap (option_map kind_of) stands
      by_below (Some w) b = by_goes w b (goes w to (ap (moved_by (step Main k ∷ path)) (sym b) ∙ e))

  pub images_at : (path to : Path) (a : Statement) → statement_at path (fill c piece) ≡ Some a → move path ≡ Some to → kind_at to (fill c made) ≡ Some (kind_of a)
  images_at [] to a h e = absurd (none_some refl h)
  images_at (s ∷ path) to a h e = by_branch s.branch s.index h e
    where
      by_branch : (r : Branch) (k : ℕ) → statement_at (step r k ∷ path) (fill c piece) ≡ Some a → move (step r k ∷ path) ≡ Some to → kind_at to (fill c made) ≡ Some (kind_of a)
      by_branch Main k h e = move_images k path to a (sym (is_found (step Main k) path (fill c piece)) ∙ h) e
      by_branch Else k h e = absurd (none_some refl h)

pub moves_forward : MovesLaw
moves_forward p q e o made opens makes size carries apart =
    let i = is_opened e.old e.place p.body o opens in
    let body : fill o.around o.piece ≡ p.body = i.whole in
    let same : move o.around o.piece made e.shifts carries ≡ move_of e = λ j. moved (sym i.hole j) (i.size j) (size j) (follow e.shifts) in
    record {
      apart = λ one other to f g. move_apart o.around o.piece made e.shifts carries apart one other to (ap (λ (m : Move). m one) same ∙ f) (ap (λ (m : Move). m other) same ∙ g);
      images = λ path to a h f. ap (kind_at to) makes ∙ images_at o.around o.piece made e.shifts carries path to a (ap (statement_at path) body ∙ h) (ap (λ (m : Move). m path) same ∙ f);
    }
