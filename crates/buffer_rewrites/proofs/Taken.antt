-- A part of an expression taken out, an expression at a time.
use Rattle.std.proofs.Common.{◌≡◌, ℕ, suc, ◌+◌, Bool, true, false, if◌then◌else◌, [], refl, sym, ap, ◌∙◌, subst, arith}
use Rattle.std.proofs.Common.{MatchBool}
use Rattle.std.proofs.lemmas.Bool.{false≢true}
use Rattle.exo_tree.specs.Tree.{Datum, Const, Read, Negated, Relu, Plus, Minus, Times, Select}
use Rattle.buffer_laws.specs.Bound.{Hole, Top, InNegated, InRelu, InPlus, InMinus, InTimes, PlusIn}
use Rattle.buffer_laws.specs.Bound.{MinusIn, TimesIn, InFirst, InSecond, InThird, InFourth, filled}
use Rattle.alloc_laws.specs.Bind.Binding.{Form, Sought, Found, Left, in_part, at_root, sought}
use Rattle.alloc_laws.specs.Bind.Binding.{part_found}
use Rattle.cursor_forward.specs.Causes.{WrongShape}
use Rattle.step_rules.specs.Rule.{Got, Not}
use Rattle.step_rules.specs.Shapes.{tried}
use Rattle.buffer_rewrites.specs.PlainTaken.{parted_by}
use Rattle.buffer_rewrites.specs.Taking.{is_one, Takes}

-- ---- at the root

module _ (m : Bool) (k : ℕ) where
  first_at_root : m ≡ true → k ≡ 0 → (e : Datum) (below : ℕ → Sought)
      → at_root m e below k ≡ Found (record { hole = Top; datum = e })
  first_at_root h z e below =
      ap (λ (t : Bool). at_root t e below k) h ∙ ap (λ (j : ℕ). at_root true e below j) z

  passed_at_root : (j : ℕ) → m ≡ true → k ≡ suc j → (e : Datum) (below : ℕ → Sought)
      → at_root m e below k ≡ below j
  passed_at_root j h z e below =
      ap (λ (t : Bool). at_root t e below k) h ∙ ap (λ (i : ℕ). at_root true e below i) z

-- what is looked for where the expression itself is not the one
abbrev pub below : Form → Datum → ℕ → Sought
below f (Const n) = Left
below f (Read y is) = Left
below f (Negated a) = λ k. in_part InNegated (sought f a k) Left
below f (Relu a) = λ k. in_part InRelu (sought f a k) Left
below f (Plus a b) =
    λ i. in_part (λ h. InPlus h b) (sought f a i) (λ j. in_part (PlusIn a) (sought f b j) Left)
below f (Minus a b) =
    λ i. in_part (λ h. InMinus h b) (sought f a i) (λ j. in_part (MinusIn a) (sought f b j) Left)
below f (Times a b) =
    λ i. in_part (λ h. InTimes h b) (sought f a i) (λ j. in_part (TimesIn a) (sought f b j) Left)
below f (Select a b c d) = λ k.
    in_part (λ h. InFirst h b c d) (sought f a k) (λ i.
    in_part (λ h. InSecond a h c d) (sought f b i) (λ j.
    in_part (λ h. InThird a b h d) (sought f c j) (λ l.
    in_part (λ h. InFourth a b c h) (sought f d l) Left)))

by_root : (f : Form) (e : Datum) (k : ℕ) → sought f e k ≡ at_root (is_one f e) e (below f e) k
by_root f (Const n) k = refl
by_root f (Read y is) k = refl
by_root f (Negated a) k = refl
by_root f (Relu a) k = refl
by_root f (Plus a b) k = refl
by_root f (Minus a b) k = refl
by_root f (Times a b) k = refl
by_root f (Select a b c d) k = refl

-- ---- what a walk does

-- as the test at the root says it
abbrev pub Tested : Bool → ℕ → ℕ → Bool → Type 0
Tested m k l r = MatchBool r ((m ≡ true) × (k ≡ 0)) (k ≡ (if m then 1 else 0) + l)

-- what that says of the walk
abbrev TestedAt : Bool → ℕ → ℕ → Bool → Type 0
TestedAt m k l r =
    (e : Datum) (below : ℕ → Sought)
    → MatchBool r
    (at_root m e below k ≡ Found (record { hole = Top; datum = e }))
    (at_root m e below k ≡ below l)

tested_at : (m : Bool) (k l : ℕ) (r : Bool) → Tested m k l r → TestedAt m k l r
tested_at m k l true h e below = first_at_root m k h.0 h.1 e below
tested_at false k l false h e below =
    let passed : k ≡ 0 + l = h in
    let same : k ≡ l = omega (arith, passed) in
    ap below same
tested_at true k l false h e below =
    let passed : k ≡ 1 + l = h in
    passed_at_root true k l refl (omega (arith, passed)) e below

took_top : (e held : Datum) (l : ℕ)
    → Takes (Found (record { hole = Top; datum = e })) e held true l held e
took_top e held l = record { so = (refl, refl) }

left_so : (e held : Datum) (l : ℕ) → Takes (Left l) e held false l e held
left_so e held l = record { so = (refl, refl, refl) }

as_root : (f : Form) (e : Datum) (m : Bool) (k : ℕ) → m ≡ is_one f e
    → sought f e k ≡ at_root m e (below f e) k
as_root f e m k is = by_root f e k ∙ ap (λ (t : Bool). at_root t e (below f e) k) (sym is)

pub is_below : (f : Form) (e : Datum) (k l : ℕ) {m r : Bool} → m ≡ is_one f e
    → Tested m k l r
    → r ≡ false
    → sought f e k ≡ below f e l
is_below f e k l {m} {r} is h z =
    as_root f e m k is ∙ subst (TestedAt m k l) z (tested_at m k l r h) e (below f e)

-- it is the expression itself
pub took_all : (f : Form) (k l : ℕ) {e held all now : Datum} {m r : Bool} → m ≡ is_one f e
    → Tested m k l r
    → r ≡ true
    → all ≡ held
    → now ≡ e
    → Takes (sought f e k) e held true l all now
took_all f k l {e} {held} {all} {now} {m} {r} is h z a b =
    subst (λ (x : Datum). Takes (sought f e k) e held true l x now) (sym a)
    (subst (λ (y : Datum). Takes (sought f e k) e held true l held y) (sym b)
    (subst (λ (x : Sought). Takes x e held true l held e)
    (sym (as_root f e m k is ∙ subst (TestedAt m k l) z (tested_at m k l r h) e (below f e))) (took_top e held l)))

-- there is none below
pub found_none : (f : Form) (e held : Datum) (k l : ℕ) → below f e l ≡ Left l
    → sought f e k ≡ below f e l
    → Takes (sought f e k) e held false l e held
found_none f e held k l none is =
    subst (λ (x : Sought). Takes x e held false l e held) (sym (is ∙ none)) (left_so e held l)

-- ---- in a part

module _ (wrap : Hole → Hole) (make : Datum → Datum)
    (law : (h : Hole) (d : Datum) → filled (wrap h) d ≡ make (filled h d)) where
  took_by : (later : ℕ → Sought) (a held new now e : Datum) (l : ℕ) (x : Sought)
      → Takes x a held true l new now
      → Takes (in_part wrap x later) e held true l (make new) now
  took_by later a held new now e l (Found p) h =
      record { so = (ap make h.so.0 ∙ sym (law p.hole held), h.so.1) }
  took_by later a held new now e l (Left k) h = absurd (false≢true (sym h.so))

  passed_by : (later : ℕ → Sought) (a held new now : Datum) (l : ℕ) (x : Sought)
      → Takes x a held false l new now
      → in_part wrap x later ≡ later l
  passed_by later a held new now l (Found p) h = absurd (false≢true (sym h.so))
  passed_by later a held new now l (Left k) h = ap later (sym h.so.0)

  last_by : (a held new now : Datum) (l : ℕ) (x : Sought) (r : Bool)
      → Takes x a held r l new now
      → Takes (in_part wrap x Left) (make a) held r l (make new) now
  last_by a held new now l (Found p) true h =
      record { so = (ap make h.so.0 ∙ sym (law p.hole held), h.so.1) }
  last_by a held new now l (Found p) false h = absurd (false≢true (sym h.so))
  last_by a held new now l (Left k) true h = absurd (false≢true (sym h.so))
  last_by a held new now l (Left k) false h =
      record { so = (h.so.0, ap make h.so.1, h.so.2) }

  module _ (x s : Sought) (a held new now : Datum) (l : ℕ) where
    -- it is in this part
    pub took : (later : ℕ → Sought) → s ≡ in_part wrap x later → Takes x a held true l new now
        → (e : Datum) → Takes s e held true l (make new) now
    took later is h e =
        subst (λ (t : Sought). Takes t e held true l (make new) now) (sym is)
        (took_by later a held new now e l x h)

    -- it is not in this part
    pub passed : (later : ℕ → Sought) → s ≡ in_part wrap x later
        → Takes x a held false l new now
        → s ≡ later l
    passed later is h = is ∙ passed_by later a held new now l x h

    -- in the last part it is, or it is nowhere
    pub last : (r : Bool) → s ≡ in_part wrap x Left → Takes x a held r l new now
        → Takes s (make a) held r l (make new) now
    last r is h =
        subst (λ (t : Sought). Takes t (make a) held r l (make new) now) (sym is)
        (last_by a held new now l x r h)

-- what is not taken stays
pub same_part : (x : Sought) (a held new now : Datum) (l : ℕ) → Takes x a held false l new now
    → new ≡ a
same_part (Found p) a held new now l h = absurd (false≢true (sym h.so))
same_part (Left k) a held new now l h = h.so.1

pub same_held : (x : Sought) (a held new now : Datum) (l : ℕ) → Takes x a held false l new now
    → now ≡ held
same_held (Found p) a held new now l h = absurd (false≢true (sym h.so))
same_held (Left k) a held new now l h = h.so.2

-- the same of equal expressions
pub moved : (s : Sought) (e held other new all now : Datum) (l : ℕ) (r : Bool) → held ≡ other
    → all ≡ new
    → Takes s e held r l new now
    → Takes s e other r l all now
moved s e held other new all now l r h k t =
    subst (λ (d : Datum). Takes s e d r l all now) h
    (subst (λ (d : Datum). Takes s e held r l d now) (sym k) t)

-- ---- of two parts

module _ (make : Datum → Datum → Datum) (in_first : Hole → Datum → Hole)
    (in_second : Datum → Hole → Hole)
    (first_law : (h : Hole) (b d : Datum) → filled (in_first h b) d ≡ make (filled h d) b)
    (second_law : (a : Datum) (h : Hole) (d : Datum)
    → filled (in_second a h) d ≡ make a (filled h d))
    (f : Form) (a b held : Datum) (s : Sought) (k : ℕ)
    (is : s
    ≡ in_part (λ h. in_first h b) (sought f a k) (λ j. in_part (in_second a) (sought f b j) Left))
  where
    abbrev later : ℕ → Sought
    later j = in_part (in_second a) (sought f b j) Left

    in_one : (l : ℕ) (new now : Datum) → Takes (sought f a k) a held true l new now
        → Takes s (make a b) held true l (make new b) now
    in_one l new now h =
        took (λ h. in_first h b) (λ d. make d b) (λ h d. first_law h b d) (sought f a k) s a held new
        now l later is h (make a b)

    in_other : (l m : ℕ) (new now part taken : Datum) (r : Bool)
        → Takes (sought f a k) a held false l new now
        → Takes (sought f b l) b now r m part taken
        → Takes s (make a b) held r m (make new part) taken
    in_other l m new now part taken r h t =
        moved s (make a b) now held (make a part) (make new part) taken m r
        (same_held (sought f a k) a held new now l h)
        (ap (λ d. make d part) (same_part (sought f a k) a held new now l h))
        (last (in_second a) (make a) (second_law a) (sought f b l) s b now part taken m r
        (passed (λ h. in_first h b) (λ d. make d b) (λ h d. first_law h b d) (sought f a k) s a held
        new now l later is h) t)

pub first_of_sum : (f : Form) (a b held : Datum) (s : Sought) (k : ℕ) → s ≡ below f (Plus a b) k
    → (l : ℕ) (new now : Datum)
    → Takes (sought f a k) a held true l new now
    → Takes s (Plus a b) held true l (Plus new b) now
first_of_sum = in_one Plus InPlus PlusIn (λ h b d. refl) (λ a h d. refl)

pub second_of_sum : (f : Form) (a b held : Datum) (s : Sought) (k : ℕ) → s ≡ below f (Plus a b) k
    → (l m : ℕ) (new now part taken : Datum) (r : Bool)
    → Takes (sought f a k) a held false l new now
    → Takes (sought f b l) b now r m part taken
    → Takes s (Plus a b) held r m (Plus new part) taken
second_of_sum = in_other Plus InPlus PlusIn (λ h b d. refl) (λ a h d. refl)

pub first_of_difference : (f : Form) (a b held : Datum) (s : Sought) (k : ℕ)
    → s ≡ below f (Minus a b) k
    → (l : ℕ) (new now : Datum)
    → Takes (sought f a k) a held true l new now
    → Takes s (Minus a b) held true l (Minus new b) now
first_of_difference = in_one Minus InMinus MinusIn (λ h b d. refl) (λ a h d. refl)

pub second_of_difference : (f : Form) (a b held : Datum) (s : Sought) (k : ℕ)
    → s ≡ below f (Minus a b) k
    → (l m : ℕ) (new now part taken : Datum) (r : Bool)
    → Takes (sought f a k) a held false l new now
    → Takes (sought f b l) b now r m part taken
    → Takes s (Minus a b) held r m (Minus new part) taken
second_of_difference = in_other Minus InMinus MinusIn (λ h b d. refl) (λ a h d. refl)

pub first_of_product : (f : Form) (a b held : Datum) (s : Sought) (k : ℕ)
    → s ≡ below f (Times a b) k
    → (l : ℕ) (new now : Datum)
    → Takes (sought f a k) a held true l new now
    → Takes s (Times a b) held true l (Times new b) now
first_of_product = in_one Times InTimes TimesIn (λ h b d. refl) (λ a h d. refl)

pub second_of_product : (f : Form) (a b held : Datum) (s : Sought) (k : ℕ)
    → s ≡ below f (Times a b) k
    → (l m : ℕ) (new now part taken : Datum) (r : Bool)
    → Takes (sought f a k) a held false l new now
    → Takes (sought f b l) b now r m part taken
    → Takes s (Times a b) held r m (Times new part) taken
second_of_product = in_other Times InTimes TimesIn (λ h b d. refl) (λ a h d. refl)

-- ---- of four

module _ (f : Form) (x v y z held : Datum) (s : Sought) (k : ℕ)
    (is : s ≡ below f (Select x v y z) k) where
  abbrev from_fourth : ℕ → Sought
  from_fourth l = in_part (λ h. InFourth x v y h) (sought f z l) Left

  abbrev from_third : ℕ → Sought
  from_third j = in_part (λ h. InThird x v h z) (sought f y j) from_fourth

  abbrev from_second : ℕ → Sought
  from_second i = in_part (λ h. InSecond x h y z) (sought f v i) from_third

  abbrev e : Datum
  e = Select x v y z

  pub first_of_four : (l : ℕ) (new now : Datum) → Takes (sought f x k) x held true l new now
      → Takes s e held true l (Select new v y z) now
  first_of_four l new now h =
      took (λ h. InFirst h v y z) (λ d. Select d v y z) (λ h d. refl) (sought f x k) s x held new
      now
      l from_second is h e

  module _ (l : ℕ) (new now : Datum) (h : Takes (sought f x k) x held false l new now) where
    behind_first : s ≡ from_second l
    behind_first =
        passed (λ h. InFirst h v y z) (λ d. Select d v y z) (λ h d. refl) (sought f x k) s x held
        new now l from_second is h

    first_same : new ≡ x
    first_same = same_part (sought f x k) x held new now l h

    held_first : now ≡ held
    held_first = same_held (sought f x k) x held new now l h

    pub second_of_four : (m : ℕ) (part taken : Datum) → Takes (sought f v l) v now true m part taken
        → Takes s e held true m (Select new part y z) taken
    second_of_four m part taken t =
        moved s e now held (Select x part y z) (Select new part y z) taken m true held_first
        (ap (λ d. Select d part y z) first_same)
        (took (λ h. InSecond x h y z) (λ d. Select x d y z) (λ h d. refl) (sought f v l) s v now
        part
        taken m from_third behind_first t e)

    module _ (m : ℕ) (part taken : Datum) (t : Takes (sought f v l) v now false m part taken) where
      behind_second : s ≡ from_third m
      behind_second =
          passed (λ h. InSecond x h y z) (λ d. Select x d y z) (λ h d. refl) (sought f v l) s v now
          part taken m from_third behind_first t

      second_same : part ≡ v
      second_same = same_part (sought f v l) v now part taken m t

      held_second : taken ≡ held
      held_second = same_held (sought f v l) v now part taken m t ∙ held_first

      pub third_of_four : (n : ℕ) (third kept : Datum)
          → Takes (sought f y m) y taken true n third kept
          → Takes s e held true n (Select new part third z) kept
      third_of_four n third kept u =
          moved s e taken held (Select x v third z) (Select new part third z) kept n true
          held_second
          (λ i. Select (first_same i) (second_same i) third z)
          (took (λ h. InThird x v h z) (λ d. Select x v d z) (λ h d. refl) (sought f y m) s y taken
          third kept n from_fourth behind_second u e)

      pub fourth_of_four : (n j : ℕ) (third kept fourth last_held : Datum) (r : Bool)
          → Takes (sought f y m) y taken false n third kept
          → Takes (sought f z n) z kept r j fourth last_held
          → Takes s e held r j (Select new part third fourth) last_held
      fourth_of_four n j third kept fourth last_held r u w =
          let third_same = same_part (sought f y m) y taken third kept n u in
          let held_third = same_held (sought f y m) y taken third kept n u ∙ held_second in
          moved s e kept held (Select x v y fourth) (Select new part third fourth) last_held j r
          held_third (λ i. Select (first_same i) (second_same i) (third_same i) fourth)
          (last (λ h. InFourth x v y h) (λ d. Select x v y d) (λ h d. refl) (sought f z n) s z kept
          fourth last_held j r
          (passed (λ h. InThird x v h z) (λ d. Select x v d z) (λ h d. refl) (sought f y m) s y
          taken
          third kept n from_fourth behind_second u) w)

-- ---- as the code finds it

pub in_negated : (f : Form) (k l : ℕ) {e a held new now : Datum} {m : ℕ} {r : Bool} → e ≡ Negated a
    → sought f e k ≡ below f e l
    → Takes (sought f a l) a held r m new now
    → Takes (sought f e k) e held r m (Negated new) now
in_negated f k l {e} {a} {held} {new} {now} {m} {r} is at t =
    subst (λ (d : Datum). Takes (sought f d k) d held r m (Negated new) now) (sym is)
    (last InNegated Negated (λ h d. refl) (sought f a l) (sought f (Negated a) k) a held new now m r
    (subst (λ (d : Datum). sought f d k ≡ below f d l) is at) t)

pub in_relu : (f : Form) (k l : ℕ) {e a held new now : Datum} {m : ℕ} {r : Bool} → e ≡ Relu a
    → sought f e k ≡ below f e l
    → Takes (sought f a l) a held r m new now
    → Takes (sought f e k) e held r m (Relu new) now
in_relu f k l {e} {a} {held} {new} {now} {m} {r} is at t =
    subst (λ (d : Datum). Takes (sought f d k) d held r m (Relu new) now) (sym is)
    (last InRelu Relu (λ h d. refl) (sought f a l) (sought f (Relu a) k) a held new now m r
    (subst (λ (d : Datum). sought f d k ≡ below f d l) is at) t)

pub left_of_sum : (f : Form) (k l : ℕ) {e a b held new now : Datum} {m : ℕ} {r : Bool}
    → e ≡ Plus a b
    → sought f e k ≡ below f e l
    → r ≡ true
    → Takes (sought f a l) a held r m new now
    → Takes (sought f e k) e held true m (Plus new b) now
left_of_sum f k l {e} {a} {b} {held} {new} {now} {m} {r} is at z t =
    subst (λ (d : Datum). Takes (sought f d k) d held true m (Plus new b) now) (sym is)
    (first_of_sum f a b held (sought f (Plus a b) k) l
    (subst (λ (d : Datum). sought f d k ≡ below f d l) is at) m new now
    (subst (λ (x : Bool). Takes (sought f a l) a held x m new now) z t))

pub right_of_sum : (f : Form) (k l : ℕ) {e a b held new now part taken : Datum} {m n : ℕ}
    {r q : Bool}
    → e ≡ Plus a b
    → sought f e k ≡ below f e l
    → r ≡ false
    → Takes (sought f a l) a held r m new now
    → Takes (sought f b m) b now q n part taken
    → Takes (sought f e k) e held q n (Plus new part) taken
right_of_sum f k l {e} {a} {b} {held} {new} {now} {part} {taken} {m} {n} {r} {q} is at z t u =
    subst (λ (d : Datum). Takes (sought f d k) d held q n (Plus new part) taken) (sym is)
    (second_of_sum f a b held (sought f (Plus a b) k) l
    (subst (λ (d : Datum). sought f d k ≡ below f d l) is at) m n new now part taken q
    (subst (λ (x : Bool). Takes (sought f a l) a held x m new now) z t) u)

pub left_of_difference : (f : Form) (k l : ℕ) {e a b held new now : Datum} {m : ℕ} {r : Bool}
    → e ≡ Minus a b
    → sought f e k ≡ below f e l
    → r ≡ true
    → Takes (sought f a l) a held r m new now
    → Takes (sought f e k) e held true m (Minus new b) now
left_of_difference f k l {e} {a} {b} {held} {new} {now} {m} {r} is at z t =
    subst (λ (d : Datum). Takes (sought f d k) d held true m (Minus new b) now) (sym is)
    (first_of_difference f a b held (sought f (Minus a b) k) l
    (subst (λ (d : Datum). sought f d k ≡ below f d l) is at) m new now
    (subst (λ (x : Bool). Takes (sought f a l) a held x m new now) z t))

pub right_of_difference : (f : Form) (k l : ℕ) {e a b held new now part taken : Datum} {m n : ℕ}
    {r q : Bool}
    → e ≡ Minus a b
    → sought f e k ≡ below f e l
    → r ≡ false
    → Takes (sought f a l) a held r m new now
    → Takes (sought f b m) b now q n part taken
    → Takes (sought f e k) e held q n (Minus new part) taken
right_of_difference f k l {e} {a} {b} {held} {new} {now} {part} {taken} {m} {n} {r} {q}
    is at z t u =
    subst (λ (d : Datum). Takes (sought f d k) d held q n (Minus new part) taken) (sym is)
    (second_of_difference f a b held (sought f (Minus a b) k) l
    (subst (λ (d : Datum). sought f d k ≡ below f d l) is at) m n new now part taken q
    (subst (λ (x : Bool). Takes (sought f a l) a held x m new now) z t) u)

pub left_of_product : (f : Form) (k l : ℕ) {e a b held new now : Datum} {m : ℕ} {r : Bool}
    → e ≡ Times a b
    → sought f e k ≡ below f e l
    → r ≡ true
    → Takes (sought f a l) a held r m new now
    → Takes (sought f e k) e held true m (Times new b) now
left_of_product f k l {e} {a} {b} {held} {new} {now} {m} {r} is at z t =
    subst (λ (d : Datum). Takes (sought f d k) d held true m (Times new b) now) (sym is)
    (first_of_product f a b held (sought f (Times a b) k) l
    (subst (λ (d : Datum). sought f d k ≡ below f d l) is at) m new now
    (subst (λ (x : Bool). Takes (sought f a l) a held x m new now) z t))

pub right_of_product : (f : Form) (k l : ℕ) {e a b held new now part taken : Datum} {m n : ℕ}
    {r q : Bool}
    → e ≡ Times a b
    → sought f e k ≡ below f e l
    → r ≡ false
    → Takes (sought f a l) a held r m new now
    → Takes (sought f b m) b now q n part taken
    → Takes (sought f e k) e held q n (Times new part) taken
right_of_product f k l {e} {a} {b} {held} {new} {now} {part} {taken} {m} {n} {r} {q} is at z t u =
    subst (λ (d : Datum). Takes (sought f d k) d held q n (Times new part) taken) (sym is)
    (second_of_product f a b held (sought f (Times a b) k) l
    (subst (λ (d : Datum). sought f d k ≡ below f d l) is at) m n new now part taken q
    (subst (λ (x : Bool). Takes (sought f a l) a held x m new now) z t) u)

module _ (f : Form) (e x v y z held : Datum) (k l : ℕ) (is : e ≡ Select x v y z)
    (at : sought f e k ≡ below f e l) where
  below_four : sought f (Select x v y z) k ≡ below f (Select x v y z) l
  below_four = subst (λ (d : Datum). sought f d k ≡ below f d l) is at

  abbrev Told : Bool → ℕ → Datum → Datum → Type 0
  Told r m new now = Takes (sought f e k) e held r m new now

  told : {r : Bool} {m : ℕ} {new now : Datum}
      → Takes (sought f (Select x v y z) k) (Select x v y z) held r m new now
      → Told r m new now
  told {r} {m} {new} {now} t =
      subst (λ (d : Datum). Takes (sought f d k) d held r m new now) (sym is) t

  as_said : {s : Sought} {a kept new now : Datum} {m : ℕ} {r q : Bool} → r ≡ q
      → Takes s a kept r m new now
      → Takes s a kept q m new now
  as_said {s} {a} {kept} {new} {now} {m} z t =
      subst (λ (b : Bool). Takes s a kept b m new now) z t

  pub in_first : {r : Bool} {m : ℕ} {new now : Datum} → r ≡ true
      → Takes (sought f x l) x held r m new now
      → Told true m (Select new v y z) now
  in_first {r} {m} {new} {now} a t =
      told (first_of_four f x v y z held (sought f (Select x v y z) k) l below_four m new now
      (as_said a t))

  module _ {r : Bool} {m : ℕ} {new now : Datum} (a : r ≡ false)
      (t : Takes (sought f x l) x held r m new now) where
    pub in_second : {q : Bool} {n : ℕ} {part taken : Datum} → q ≡ true
        → Takes (sought f v m) v now q n part taken
        → Told true n (Select new part y z) taken
    in_second {q} {n} {part} {taken} b u =
        told (second_of_four f x v y z held (sought f (Select x v y z) k) l below_four m new now
        (as_said a t) n part taken (as_said b u))

    module _ {q : Bool} {n : ℕ} {part taken : Datum} (b : q ≡ false)
        (u : Takes (sought f v m) v now q n part taken) where
      pub in_third : {o : Bool} {i : ℕ} {third kept : Datum} → o ≡ true
          → Takes (sought f y n) y taken o i third kept
          → Told true i (Select new part third z) kept
      in_third {o} {i} {third} {kept} d w =
          told (third_of_four f x v y z held (sought f (Select x v y z) k) l below_four m new now
          (as_said a t) n part taken (as_said b u) i third kept (as_said d w))

      pub in_fourth : {o p : Bool} {i j : ℕ} {third kept fourth rest : Datum} → o ≡ false
          → Takes (sought f y n) y taken o i third kept
          → Takes (sought f z i) z kept p j fourth rest
          → Told p j (Select new part third fourth) rest
      in_fourth {o} {p} {i} {j} {third} {kept} {fourth} {rest} d w g =
          told (fourth_of_four f x v y z held (sought f (Select x v y z) k) l below_four m new now
          (as_said a t) n part taken (as_said b u) i j third kept fourth rest p (as_said d w) g)

-- ---- what is made of it

pub part_taken : (x : ℕ) (e whole part : Datum) (left : ℕ) (s : Sought)
    → Takes s e (Read x []) true left whole part
    → tried (part_found s) (parted_by x) ≡ Got (record { whole = whole; part = part })
part_taken x e whole part left (Found p) h =
    λ i. Got (record { whole = sym h.so.0 i; part = sym h.so.1 i })
part_taken x e whole part left (Left k) h = absurd (false≢true (sym h.so))

pub no_part : (x : ℕ) (e whole part : Datum) (left : ℕ) (s : Sought)
    → Takes s e (Read x []) false left whole part
    → tried (part_found s) (parted_by x) ≡ Not WrongShape
no_part x e whole part left (Found p) h = absurd (false≢true (sym h.so))
no_part x e whole part left (Left k) h = refl
