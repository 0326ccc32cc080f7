-- A path opens a block a step at a time: past the first statements, and into a branch of the next one.
use Rattle.std.proofs.Common.{◌≡◌, ℕ, zero, suc, ◌+◌, ◌<◌, List, [], ◌∷◌, ◌++◌, drop, length, Option, Some, None, arith, refl, sym, ap, ◌∙◌}
use Rattle.std.specs.Prelude.{option_map}
use Rattle.exo_tree.specs.Tree.{Statement, If, For, Block, end, next, block}
use Rattle.exo_tree.specs.Context.{Context, Here, After, InLoop, InThen, InElse, fill}
use Rattle.exo_tree.specs.Places.{Branch, Main, Else, Step, Path, Opened, parted, past, into, opened_in}
use Rattle.exo_tree.specs.Branches.{branch_of}
use Rattle.meaning_laws.specs.Fields.{writes_field}
use Rattle.meaning_laws.specs.KnownFields.{KnownFields, Telling, path_in, after, forgotten, known_at}
use Rattle.meaning_laws.specs.PlaceFacts.{facts_round}
use Rattle.check_facts.specs.Walks.{passed, entered, known_inside}

-- ---- what is opened is the block

abbrev pub Whole : (Block → Option Opened) → Type 0
Whole f = (b : Block) (o : Opened) → f b ≡ Some o → fill o.around o.piece ≡ b

-- what an opening behind something more was, without it
pub record Was (g : Context → Context) (x : Option Opened) (o : Opened) : Type 0 where
  pub inner : Opened
  pub there : x ≡ Some inner
  pub is : o ≡ record { around = g inner.around; piece = inner.piece }

pub was : (g : Context → Context) (x : Option Opened) (o : Opened) → option_map (λ (i : Opened). record { around = g i.around; piece = i.piece }) x ≡ Some o → Was g x o
was g None o e = cc
was g (Some i) o e = record { inner = i; there = refl; is = cc }

pub record WasHere (x : Option (Block × Block)) (o : Opened) : Type 0 where
  pub first : Block
  pub rest : Block
  pub there : x ≡ Some (first, rest)
  pub is : o ≡ record { around = Here rest; piece = first }

pub was_here : (x : Option (Block × Block)) (o : Opened) → option_map (λ (p : Block × Block). record { around = Here p.1; piece = p.0 }) x ≡ Some o → WasHere x o
was_here None o e = cc
was_here (Some p) o e = record { first = p.0; rest = p.1; there = refl; is = cc }

abbrev pub here : Block → Option Opened
here c = option_map (λ (p : Block × Block). record { around = Here p.1; piece = p.0 }) (parted 1 c)

past_whole : (f : Block → Option Opened) → Whole f → (k : ℕ) → Whole (past k f)
past_whole f w zero b o e = w b o e
past_whole f w (suc k) end o e = cc
past_whole f w (suc k) (next a b) o e =
    let h = was (After a) (past k f b) o e in
    ap (λ (i : Opened). fill i.around i.piece) h.is ∙ ap (next a) (past_whole f w k b h.inner h.there)

into_whole : (t : Branch) (f : Block → Option Opened) → Whole f → Whole (into t f)
into_whole Main f w (next (For i lo hi b) rest) o e =
    let h = was (λ c. InLoop i lo hi c rest) (f b) o e in
    ap (λ (j : Opened). fill j.around j.piece) h.is ∙ ap (λ c. next (For i lo hi c) rest) (w b h.inner h.there)
into_whole Main f w (next (If c a b) rest) o e =
    let h = was (λ d. InThen c d b rest) (f a) o e in
    ap (λ (j : Opened). fill j.around j.piece) h.is ∙ ap (λ d. next (If c d b) rest) (w a h.inner h.there)
into_whole Else f w (next (If c a b) rest) o e =
    let h = was (λ d. InElse c a d rest) (f b) o e in
    ap (λ (j : Opened). fill j.around j.piece) h.is ∙ ap (λ d. next (If c a d) rest) (w b h.inner h.there)
into_whole _ f w _ o e = cc

here_whole : Whole here
here_whole end o e = cc
here_whole (next a b) o e = ap (λ (j : Opened). fill j.around j.piece) (was_here (Some (next a end, b)) o e).is ∙ (let h = (was_here (Some (next a end, b)) o e).there in ap (λ (p : Option (Block × Block)). elim p [ None ↦ end | Some q ↦ fill (Here q.1) q.0 ]) (sym h))

pub opened_whole : (path : Path) → Whole (opened_in 1 path)
opened_whole [] b o e = cc
opened_whole (s ∷ []) b o e = past_whole here here_whole s.index b o e
opened_whole (s ∷ t ∷ path) b o e = past_whole (into t.branch (opened_in 1 (t ∷ path))) (into_whole t.branch (opened_in 1 (t ∷ path)) (opened_whole (t ∷ path))) s.index b o e

-- ---- past the first statements

pub past_within : (f : Block → Option Opened) → f end ≡ None → (k : ℕ) (xs : List Statement) (o : Opened) → past k f (block xs) ≡ Some o → k < length xs
past_within f n zero [] o e = cc
past_within f n zero (x ∷ xs) o e = omega arith
past_within f n (suc k) [] o e = cc
past_within f n (suc k) (x ∷ xs) o e = let h = was (After x) (past k f (block xs)) o e in let l = past_within f n k xs h.inner h.there in omega arith

pub opened_within : (s : Step) (path : Path) (xs : List Statement) (o : Opened) → opened_in 1 (s ∷ path) (block xs) ≡ Some o → s.index < length xs
opened_within s [] xs o e = past_within here refl s.index xs o e
opened_within s (t ∷ path) xs o e = past_within (into t.branch (opened_in 1 (t ∷ path))) (none t.branch) s.index xs o e
  where
    none : (u : Branch) → into u (opened_in 1 (t ∷ path)) end ≡ None
    none Main = refl
    none Else = refl

module _ (tell : Telling) (outer : Path) (branch : Branch) where
  -- what is opened behind the first k statements, seen from there
  pub record IsPast (f : Block → Option Opened) (n k : ℕ) (xs : List Statement) (o : Opened) (known : KnownFields) : Type 0 where
    pub inner : Opened
    pub there : f (block (drop k xs)) ≡ Some inner
    pub facts : facts_round tell outer branch n o.around o.piece known ≡ facts_round tell outer branch (n + k) inner.around inner.piece (passed tell outer branch n k (block xs) known)
    pub known_there : known_at tell outer branch n o.around o.piece known ≡ known_at tell outer branch (n + k) inner.around inner.piece (passed tell outer branch n k (block xs) known)

  pub is_past : (f : Block → Option Opened) (n k : ℕ) (xs : List Statement) (o : Opened) (known : KnownFields) → past k f (block xs) ≡ Some o → IsPast f n k xs o known
  is_past f n zero xs o known e =
      let z : n + zero ≡ n = omega arith in
      record {
        inner = o;
        there = e;
        facts = sym (ap (λ m. facts_round tell outer branch m o.around o.piece known) z);
        known_there = sym (ap (λ m. known_at tell outer branch m o.around o.piece known) z);
      }
  is_past f n (suc k) [] o known e = cc
  is_past f n (suc k) (x ∷ xs) o known e =
      let h = was (After x) (past k f (block xs)) o e in
      let new = after tell (path_in outer branch n) x known in
      let r = is_past f (suc n) k xs h.inner new h.there in
      let m : suc n + k ≡ n + suc k = omega arith in
      record {
        inner = r.inner;
        there = r.there;
        facts = ap (λ (i : Opened). facts_round tell outer branch n i.around i.piece known) h.is ∙ r.facts ∙ ap (λ j. facts_round tell outer branch j r.inner.around r.inner.piece (passed tell outer branch (suc n) k (block xs) new)) m;
        known_there = ap (λ (i : Opened). known_at tell outer branch n i.around i.piece known) h.is ∙ r.known_there ∙ ap (λ j. known_at tell outer branch j r.inner.around r.inner.piece (passed tell outer branch (suc n) k (block xs) new)) m;
      }

  -- what is opened in a branch of a statement, seen from inside
  pub record IsInside (t : Branch) (f : Block → Option Opened) (n : ℕ) (a : Statement) (o : Opened) (known : KnownFields) : Type 0 where
    pub block_inside : Block
    pub is_branch : branch_of t a ≡ Some block_inside
    pub inner : Opened
    pub there : f block_inside ≡ Some inner
    pub facts : facts_round tell outer branch n o.around o.piece known ≡ entered t a known ++ facts_round tell (path_in outer branch n) t zero inner.around inner.piece (known_inside tell (path_in outer branch n) a known)
    pub known_there : known_at tell outer branch n o.around o.piece known ≡ known_at tell (path_in outer branch n) t zero inner.around inner.piece (known_inside tell (path_in outer branch n) a known)

  pub is_inside : (t : Branch) (f : Block → Option Opened) → Whole f → (n : ℕ) (a : Statement) (rest : Block) (o : Opened) (known : KnownFields) → into t f (next a rest) ≡ Some o → IsInside t f n a o known
  is_inside Main f w n (For i lo hi b) rest o known e =
      let h = was (λ c. InLoop i lo hi c rest) (f b) o e in
      let path = path_in outer branch n in
      let same : forgotten (λ g. writes_field tell.writes g (fill h.inner.around h.inner.piece)) path known ≡ after tell path (For i lo hi b) known = ap (λ c. forgotten (λ g. writes_field tell.writes g c) path known) (w b h.inner h.there) in
      record {
        block_inside = b;
        is_branch = refl;
        inner = h.inner;
        there = h.there;
        facts = ap (λ (j : Opened). facts_round tell outer branch n j.around j.piece known) h.is ∙ ap (λ k. entered Main (For i lo hi b) known ++ facts_round tell path Main zero h.inner.around h.inner.piece k) same;
        known_there = ap (λ (j : Opened). known_at tell outer branch n j.around j.piece known) h.is ∙ ap (λ k. known_at tell path Main zero h.inner.around h.inner.piece k) same;
      }
  is_inside Main f w n (If c a b) rest o known e =
      let h = was (λ d. InThen c d b rest) (f a) o e in
      record {
        block_inside = a;
        is_branch = refl;
        inner = h.inner;
        there = h.there;
        facts = ap (λ (j : Opened). facts_round tell outer branch n j.around j.piece known) h.is;
        known_there = ap (λ (j : Opened). known_at tell outer branch n j.around j.piece known) h.is;
      }
  is_inside Else f w n (If c a b) rest o known e =
      let h = was (λ d. InElse c a d rest) (f b) o e in
      record {
        block_inside = b;
        is_branch = refl;
        inner = h.inner;
        there = h.there;
        facts = ap (λ (j : Opened). facts_round tell outer branch n j.around j.piece known) h.is;
        known_there = ap (λ (j : Opened). known_at tell outer branch n j.around j.piece known) h.is;
      }
  is_inside _ f w n _ rest o known e = cc

  -- a statement itself
  pub here_facts : (n : ℕ) (b : Block) (o : Opened) (known : KnownFields) → here b ≡ Some o → (facts_round tell outer branch n o.around o.piece known ≡ []) × (known_at tell outer branch n o.around o.piece known ≡ known)
  here_facts n b o known e =
      let h = was_here (parted 1 b) o e in
      (ap (λ (j : Opened). facts_round tell outer branch n j.around j.piece known) h.is, ap (λ (j : Opened). known_at tell outer branch n j.around j.piece known) h.is)
