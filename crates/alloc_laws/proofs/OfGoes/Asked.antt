-- From what is asked at paths of a procedure to what holds in the runs of a block in it.
use Rattle.std.proofs.Common.{◌≡◌, ℕ, zero, suc, List, [], ◌∷◌, ◌++◌, Option, Some, None}
use Rattle.std.proofs.Common.{option_map, refl, sym, ap, ◌∙◌, subst}
use Rattle.exo_tree.specs.Tree.{Control, Condition, Coord, Statement, Assign, Reduce, Config, Pass, If}
use Rattle.exo_tree.specs.Tree.{For, Alloc, View, Call, Block, end, next, Procedure}
use Rattle.exo_tree.specs.Context.{Context, Here, After, InLoop, InThen, InElse, fill}
use Rattle.exo_tree.specs.Places.{Branch, Main, Else, Step, Path, Opened, parted, past, into}
use Rattle.exo_tree.specs.Places.{opened_in, opened}
use Rattle.exo_meaning.specs.State.{State}
use Rattle.exo_meaning.specs.Run.{World}
use Rattle.exo_meaning.specs.Inputs.{IsAdmissible}
use Rattle.exo_meaning.specs.Orders.{Each}
use Rattle.meaning_laws.specs.Context.{ComesTo}
use Rattle.meaning_laws.proofs.Parts.{none_some, map_gives}
use Rattle.meaning_laws.proofs.Places.{opened_law}
use Rattle.place_laws.specs.Scope.Holes.{followed, within}
use Rattle.place_laws.proofs.OfScope.Within.{holes_compose}
use Rattle.buffer_laws.specs.StageMem.{Asked, asked_in, asked_at, all_at, asked_of_statement}
use Rattle.buffer_laws.specs.Stride.OnView.{AllHold}
use Rattle.buffer_laws.proofs.OfStride.StagePassed.{lies_at_places}
use Rattle.alloc_laws.specs.Goes.Asked.{number_from, below, path_from, PathLaw, HoleOpens}
use Rattle.alloc_laws.specs.Goes.Asked.{asked_from, IsMetAt, AskedLies}

-- ---- lists

left_part : {A : Type 0} (P : A → Type 0) (xs ys : List A) → Each P (xs ++ ys) → Each P xs
left_part P [] ys h = tt
left_part P (x ∷ xs) ys h = (h.0, left_part P xs ys h.1)

right_part : {A : Type 0} (P : A → Type 0) (xs ys : List A) → Each P (xs ++ ys) → Each P ys
right_part P [] ys h = h
right_part P (x ∷ xs) ys h = right_part P xs ys h.1

one_further : (outer : Path) (p : Step) (rest : Path) → (outer ++ p ∷ []) ++ rest ≡ outer ++ p ∷ rest
one_further [] p rest = refl
one_further (q ∷ outer) p rest = ap (λ l. q ∷ l) (one_further outer p rest)

-- ---- where a hole is

later : (k : ℕ) (c : Context) → number_from (suc k) c ≡ suc (number_from k c)
later k (Here rest) = refl
later k (After a c) = later (suc k) c
later k (InLoop i lo hi c rest) = refl
later k (InThen t c other rest) = refl
later k (InElse t other c rest) = refl

same_number : (k : ℕ) (d : Context) (rest : Block) → number_from k (followed d rest) ≡ number_from k d
same_number k (Here r) rest = refl
same_number k (After a c) rest = same_number (suc k) c rest
same_number k (InLoop i lo hi c r) rest = refl
same_number k (InThen t c other r) rest = refl
same_number k (InElse t other c r) rest = refl

same_below : (d : Context) (rest : Block) → below (followed d rest) ≡ below d
same_below (Here r) rest = refl
same_below (After a c) rest = same_below c rest
same_below (InLoop i lo hi c r) rest = refl
same_below (InThen t c other r) rest = refl
same_below (InElse t other c r) rest = refl

-- ---- a hole's path leads to it

abbrev behind_one : Statement → Opened → Opened
behind_one a o = record { around = After a o.around; piece = o.piece }

one_later : (branch : Branch) (k : ℕ) (rest : Path) (a : Statement) (b : Block) (o : Opened)
    → opened_in 1 (record { branch = branch; index = k } ∷ rest) b ≡ Some o
    → opened_in 1 (record { branch = branch; index = suc k } ∷ rest) (next a b)
    ≡ Some (behind_one a o)
one_later branch k [] a b o e = ap (option_map (behind_one a)) e
one_later branch k (s ∷ rest) a b o e = ap (option_map (behind_one a)) e

hole_opens_in : (branch : Branch) (c : Context) (a : Statement)
    → opened_in 1 (path_from branch 0 c) (fill c (next a end))
    ≡ Some (record { around = c; piece = next a end })
hole_opens_in branch (Here rest) a = refl
hole_opens_in branch (After d c) a =
    subst (λ k. opened_in 1 (record { branch = branch; index = k } ∷ below c)
    (next d (fill c (next a end))) ≡ Some (record { around = After d c; piece = next a end }))
    (sym (later 0 c))
    (one_later branch (number_from 0 c) (below c) d (fill c (next a end))
    (record { around = c; piece = next a end }) (hole_opens_in branch c a))
hole_opens_in branch (InLoop i lo hi c rest) a =
    ap (option_map (λ (o : Opened). record { around = InLoop i lo hi o.around rest; piece = o.piece }))
    (hole_opens_in Main c a)
hole_opens_in branch (InThen t c other rest) a =
    ap (option_map (λ (o : Opened). record { around = InThen t o.around other rest; piece = o.piece }))
    (hole_opens_in Main c a)
hole_opens_in branch (InElse t other c rest) a =
    ap (option_map (λ (o : Opened). record { around = InElse t other o.around rest; piece = o.piece }))
    (hole_opens_in Else c a)

pub hole_opens : HoleOpens
hole_opens c a = hole_opens_in Main c a

-- ---- what is opened at a path has it

record Past (k : ℕ) (f : Block → Option Opened) (c : Context) : Type 0 where
  block : Block
  inner : Opened
  is : f block ≡ Some inner
  number : number_from 0 c ≡ number_from k inner.around
  under : below c ≡ below inner.around

past_is : (k : ℕ) (f : Block → Option Opened) (b : Block) (o : Opened) → past k f b ≡ Some o
    → Past k f o.around
past_is zero f b o e = record { block = b; inner = o; is = e; number = refl; under = refl }
past_is (suc k) f end o e = absurd (none_some e)
past_is (suc k) f (next a b) o e =
    let q = map_gives (past k f b) (behind_one a) o e in
    let r = past_is k f b q.0 q.1 in
    subst (λ (z : Opened). Past (suc k) f z.around) q.2 (record {
      block = r.block;
      inner = r.inner;
      is = r.is;
      number = later 0 q.0.around ∙ ap suc r.number ∙ sym (later k r.inner.around);
      under = r.under;
    })

record Into (branch : Branch) (f : Block → Option Opened) (c : Context) : Type 0 where
  block : Block
  inner : Opened
  is : f block ≡ Some inner
  number : (k : ℕ) → number_from k c ≡ k
  under : below c ≡ path_from branch 0 inner.around

into_is : (branch : Branch) (f : Block → Option Opened) (b : Block) (o : Opened)
    → into branch f b ≡ Some o → Into branch f o.around
into_is Main f (next (For i lo hi b) rest) o e =
    let q = map_gives (f b)
    (λ o. record { around = InLoop i lo hi o.around rest; piece = o.piece }) o e in
    subst (λ (z : Opened). Into Main f z.around) q.2
    (record { block = b; inner = q.0; is = q.1; number = λ k. refl; under = refl })
into_is Main f (next (If c a b) rest) o e =
    let q = map_gives (f a)
    (λ o. record { around = InThen c o.around b rest; piece = o.piece }) o e in
    subst (λ (z : Opened). Into Main f z.around) q.2
    (record { block = a; inner = q.0; is = q.1; number = λ k. refl; under = refl })
into_is Else f (next (If c a b) rest) o e =
    let q = map_gives (f b)
    (λ o. record { around = InElse c a o.around rest; piece = o.piece }) o e in
    subst (λ (z : Opened). Into Else f z.around) q.2
    (record { block = b; inner = q.0; is = q.1; number = λ k. refl; under = refl })
into_is branch f b o e = absurd (none_some e)

step_of : (s : Step) (k : ℕ) (path rest : Path) → s.index ≡ k → path ≡ rest
    → s ∷ path ≡ record { branch = s.branch; index = k } ∷ rest
step_of s k path rest e f =
    ap (λ n. record { branch = s.branch; index = n } ∷ path) e
    ∙ ap (λ l. record { branch = s.branch; index = k } ∷ l) f

path_in : (count : ℕ) (s : Step) (path : Path) (b : Block) (o : Opened)
    → opened_in count (s ∷ path) b ≡ Some o → s ∷ path ≡ path_from s.branch 0 o.around
path_in count s [] b o e =
    let here : Block → Option Opened =
    λ c. option_map (λ p. record { around = Here p.1; piece = p.0 }) (parted count c) in
    let r = past_is s.index here b o e in
    let q = map_gives (parted count r.block) (λ p. record { around = Here p.1; piece = p.0 })
    r.inner r.is in
    step_of s (number_from 0 o.around) [] (below o.around)
    (sym (r.number ∙ ap (λ (z : Opened). number_from s.index z.around) (sym q.2)))
    (sym (r.under ∙ ap (λ (z : Opened). below z.around) (sym q.2)))
path_in count s (t ∷ path) b o e =
    let r = past_is s.index (into t.branch (opened_in count (t ∷ path))) b o e in
    let q = into_is t.branch (opened_in count (t ∷ path)) r.block r.inner r.is in
    step_of s (number_from 0 o.around) (t ∷ path) (below o.around)
    (sym (r.number ∙ q.number s.index))
    (path_in count t path q.block q.inner q.is ∙ sym (r.under ∙ q.under))

-- a path leads into the body itself
body_is : (s : Step) (found : Option Opened) (o : Opened)
    → elim s.branch [ Main ↦ found | Else ↦ None ] ≡ Some o
    → (s.branch ≡ Main) × (found ≡ Some o)
body_is s found o e = go s.branch e
  where
    go : (branch : Branch) → elim branch [ Main ↦ found | Else ↦ None ] ≡ Some o
        → (branch ≡ Main) × (found ≡ Some o)
    go Main e = (refl, e)
    go Else e = absurd (none_some e)

pub path_law : PathLaw
path_law count [] b o e = absurd (none_some e)
path_law count (s ∷ path) b o e =
    let h = body_is s (opened_in count (s ∷ path) b) o e in
    path_in count s path b o h.1 ∙ ap (λ z. path_from z 0 o.around) h.0

-- ---- what is asked at a hole

module _ (x : ℕ) (dims : List Control) (coords : List Coord) (P : Asked → Type 0) where
  abbrev At : Path → Statement → Type 0
  At path a = Each P (all_at x dims coords path (asked_of_statement x dims coords a))

  at_itself : (path : Path) (a : Statement) → Each P (asked_at x dims coords path a) → At path a
  at_itself path (Assign y is d) h = h
  at_itself path (Reduce y is d) h = h
  at_itself path (Config f g) h = tt
  at_itself path Pass h = tt
  at_itself path (If c b d) h = tt
  at_itself path (For i lo hi b) h = tt
  at_itself path (Alloc y cell ds memory) h = tt
  at_itself path (View w y ds) h = h
  at_itself path (Call k gs) h = h

  in_hole : (outer : Path) (branch : Branch) (k : ℕ) (d : Context) (a : Statement)
      → Each P (asked_in x dims coords outer branch k (fill d (next a end)))
      → At (outer ++ path_from branch k d) a
  in_hole outer branch k (Here rest) a h =
      let here : Path = outer ++ record { branch = branch; index = k } ∷ [] in
      at_itself here a (left_part P (asked_at x dims coords here a)
      (asked_in x dims coords outer branch (suc k) rest) h)
  in_hole outer branch k (After b d) a h =
      let here : Path = outer ++ record { branch = branch; index = k } ∷ [] in
      in_hole outer branch (suc k) d a (right_part P (asked_at x dims coords here b)
      (asked_in x dims coords outer branch (suc k) (fill d (next a end))) h)
  in_hole outer branch k (InLoop i lo hi d rest) a h =
      let p : Step = record { branch = branch; index = k } in
      let here : Path = outer ++ p ∷ [] in
      subst (λ l. At l a) (one_further outer p (path_from Main 0 d))
      (in_hole here Main 0 d a (left_part P (asked_in x dims coords here Main 0 (fill d (next a end)))
      (asked_in x dims coords outer branch (suc k) rest) h))
  in_hole outer branch k (InThen t d other rest) a h =
      let p : Step = record { branch = branch; index = k } in
      let here : Path = outer ++ p ∷ [] in
      let main = asked_in x dims coords here Main 0 (fill d (next a end)) in
      let second = asked_in x dims coords here Else 0 other in
      subst (λ l. At l a) (one_further outer p (path_from Main 0 d))
      (in_hole here Main 0 d a (left_part P main second (left_part P (main ++ second)
      (asked_in x dims coords outer branch (suc k) rest) h)))
  in_hole outer branch k (InElse t other d rest) a h =
      let p : Step = record { branch = branch; index = k } in
      let here : Path = outer ++ p ∷ [] in
      let main = asked_in x dims coords here Main 0 other in
      let second = asked_in x dims coords here Else 0 (fill d (next a end)) in
      subst (λ l. At l a) (one_further outer p (path_from Else 0 d))
      (in_hole here Else 0 d a (right_part P main second (left_part P (main ++ second)
      (asked_in x dims coords outer branch (suc k) rest) h)))

  -- the hole of a block that stands in a hole
  in_holes : (outer : Path) (branch : Branch) (k : ℕ) (c d : Context) (a : Statement)
      → Each P (asked_from x dims coords outer (path_from branch k c) (fill d (next a end)))
      → At (outer ++ path_from branch k (within c d)) a
  in_holes outer branch k (Here rest) d a h =
      subst (λ l. At (outer ++ l) a)
      (ap (λ n. record { branch = branch; index = n } ∷ below d) (sym (same_number k d rest))
      ∙ ap (λ l. record { branch = branch; index = number_from k (followed d rest) } ∷ l)
      (sym (same_below d rest)))
      (in_hole outer branch k d a h)
  in_holes outer branch k (After b c) d a h = in_holes outer branch (suc k) c d a h
  in_holes outer branch k (InLoop i lo hi c rest) d a h =
      let p : Step = record { branch = branch; index = k } in
      subst (λ l. At l a) (one_further outer p (path_from Main 0 (within c d)))
      (in_holes (outer ++ p ∷ []) Main 0 c d a h)
  in_holes outer branch k (InThen t c other rest) d a h =
      let p : Step = record { branch = branch; index = k } in
      subst (λ l. At l a) (one_further outer p (path_from Main 0 (within c d)))
      (in_holes (outer ++ p ∷ []) Main 0 c d a h)
  in_holes outer branch k (InElse t other c rest) d a h =
      let p : Step = record { branch = branch; index = k } in
      subst (λ l. At l a) (one_further outer p (path_from Else 0 (within c d)))
      (in_holes (outer ++ p ∷ []) Else 0 c d a h)

-- ---- in runs

module _ (world : World) (p : Procedure) (x : ℕ) (dims : List Control) (coords : List Coord)
    (path : Path) (o : Opened) (is : opened 1 path p.body ≡ Some o) (s u : State)
    (good : IsAdmissible world p s) (come : ComesTo world o.piece o.around s u) where
  all_hold : (cs : List Condition) → Each (IsMetAt world p) (all_at x dims coords path cs)
      → AllHold u.scene cs
  all_hold [] h = tt
  all_hold (c ∷ cs) h = (h.0 o s u is good come, all_hold cs h.1)

pub asked_lies : AskedLies
asked_lies world p count path o x dims coords s u is met good come =
    lies_at_places world p o.around o.piece x dims coords s u good come
    (λ d a v e there.
    let hole = within o.around d in
    let body : fill hole (next a end) ≡ p.body =
    (holes_compose (next a end) o.around d).body ∙ ap (fill o.around) (sym e)
    ∙ opened_law count path p.body o is in
    let found : opened 1 (path_from Main 0 hole) p.body
    ≡ Some (record { around = hole; piece = next a end }) =
    subst (λ b. opened 1 (path_from Main 0 hole) b
    ≡ Some (record { around = hole; piece = next a end })) body (hole_opens hole a) in
    let asked : Each (IsMetAt world p)
    (asked_from x dims coords [] (path_from Main 0 o.around) (fill d (next a end))) =
    subst (λ l. Each (IsMetAt world p) (asked_from x dims coords [] l (fill d (next a end))))
    (path_law count path p.body o is)
    (subst (λ b. Each (IsMetAt world p) (asked_from x dims coords [] path b)) e met) in
    all_hold world p x dims coords (path_from Main 0 hole)
    (record { around = hole; piece = next a end }) found s v good there
    (asked_of_statement x dims coords a)
    (in_holes x dims coords (IsMetAt world p) [] Main 0 o.around d a asked))
