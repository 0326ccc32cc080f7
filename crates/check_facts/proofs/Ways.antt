-- The way to a place, a step at a time: past the statements before it, and into a branch.
use Rattle.std.proofs.Common.{◌≡◌, ℕ, zero, ◌+◌, ◌<◌, List, [], ◌∷◌, ◌++◌, drop, length, map, Option, Some, None, arith, refl, sym, ap, ◌∙◌}
use Rattle.std.specs.Prelude.{IsSome}
use Rattle.exo_tree.specs.Tree.{Statement, For, Block, block}
use Rattle.exo_tree.specs.Places.{Branch, Step, Path, Opened, into, opened_in}
use Rattle.exo_tree.specs.Branches.{branch_of}
use Rattle.exo_tree.specs.PlainPlace.{step_taken}
use Rattle.exo_tree.specs.declared.place.Step as taken
use Rattle.meaning_laws.specs.KnownFields.{KnownFields, Telling, path_in, known_at}
use Rattle.meaning_laws.specs.PlaceFacts.{facts_round}
use Rattle.check_facts.specs.Walks.{passed, entered, known_inside}
use Rattle.check_facts.proofs.Steps.{after_same}
use Rattle.check_facts.proofs.Openings.{here, opened_whole, opened_within, is_past, is_inside, here_facts}

-- ---- the first steps

block_same : (x y : Block) → Some x ≡ Some y → x ≡ y
block_same x y e = ap (λ (o : Option Block). elim o [ None ↦ x | Some z ↦ z ]) e

pub no_block : (b : Block) → None ≡ Some b → ⊥
no_block b e = cc

pub record Found (x : Option Opened) : Type 0 where
  pub place : Opened
  pub is : x ≡ Some place

pub found : (x : Option Opened) → IsSome x → Found x
found None h = cc
found (Some o) h = record { place = o; is = refl }

pub within : (s : Step) (steps : Path) (xs : List Statement) → IsSome (opened_in 1 (s ∷ steps) (block xs)) → s.index < length xs
within s steps xs h =
    let w = found (opened_in 1 (s ∷ steps) (block xs)) h in
    opened_within s steps xs w.place w.is

pub no_more : (steps : List taken.Step) → length steps ≡ 0 → map step_taken steps ≡ []
no_more [] h = refl
no_more (s ∷ steps) h = absurd (omega arith)

-- ---- what is known on the way

module _ (tell : Telling) where
  pub inside_same : (path : Path) (a : Statement) (known other : KnownFields) (f : ℕ) → known f ≡ other f → known_inside tell path a known f ≡ known_inside tell path a other f
  inside_same path (For i lo hi b) known other f h = after_same tell f path (For i lo hi b) known other h
  inside_same path _ known other f h = h

module _ (tell : Telling) (outer : Path) (branch : Branch) where
  -- the way ends at a statement of the block
  pub ended : (s : Step) (xs : List Statement) (o : Opened) (first : KnownFields) → opened_in 1 (s ∷ []) (block xs) ≡ Some o → (facts_round tell outer branch zero o.around o.piece first ≡ []) × (known_at tell outer branch zero o.around o.piece first ≡ passed tell outer branch zero s.index (block xs) first)
  ended s xs o first e =
      let now = passed tell outer branch zero s.index (block xs) first in
      let r = is_past tell outer branch here zero s.index xs o first e in
      let l = here_facts tell outer branch (zero + s.index) (block (drop s.index xs)) r.inner now r.there in
      (r.facts ∙ l.0, r.known_there ∙ l.1)

  -- the way goes on in a branch of a statement of the block, at that path
  pub record Onward (t : Branch) (onwards : Path) (a : Statement) (path : Path) (o : Opened) (first now : KnownFields) : Type 0 where
    pub block_inside : Block
    pub is_branch : branch_of t a ≡ Some block_inside
    pub inner : Opened
    pub there : opened_in 1 onwards block_inside ≡ Some inner
    pub facts : facts_round tell outer branch zero o.around o.piece first ≡ entered t a now ++ facts_round tell path t zero inner.around inner.piece (known_inside tell path a now)
    pub known_there : known_at tell outer branch zero o.around o.piece first ≡ known_at tell path t zero inner.around inner.piece (known_inside tell path a now)

  pub onward : (s t : Step) (rest : Path) (xs others : List Statement) (a : Statement) (path : Path) (o : Opened) (first : KnownFields) → drop s.index xs ≡ a ∷ others → path ≡ path_in outer branch s.index → opened_in 1 (s ∷ t ∷ rest) (block xs) ≡ Some o → Onward t.branch (t ∷ rest) a path o first (passed tell outer branch zero s.index (block xs) first)
  onward s t rest xs others a path o first x at e =
      let f = opened_in 1 (t ∷ rest) in
      let now = passed tell outer branch zero s.index (block xs) first in
      let r = is_past tell outer branch (into t.branch f) zero s.index xs o first e in
      let i = is_inside tell outer branch t.branch f (opened_whole (t ∷ rest)) (zero + s.index) a (block others) r.inner now (sym (ap (λ ys. into t.branch f (block ys)) x) ∙ r.there) in
      let z : zero + s.index ≡ s.index = omega arith in
      let same : path_in outer branch (zero + s.index) ≡ path = ap (path_in outer branch) z ∙ sym at in
      record {
        block_inside = i.block_inside;
        is_branch = i.is_branch;
        inner = i.inner;
        there = i.there;
        facts = r.facts ∙ i.facts ∙ ap (λ w. entered t.branch a now ++ facts_round tell w t.branch zero i.inner.around i.inner.piece (known_inside tell w a now)) same;
        known_there = r.known_there ∙ i.known_there ∙ ap (λ w. known_at tell w t.branch zero i.inner.around i.inner.piece (known_inside tell w a now)) same;
      }

  -- the block of the branch is the one that the program finds
  pub onward_in : (t : Branch) (onwards path : Path) (a : Statement) (b : Block) (o : Opened) (first now : KnownFields) → Some b ≡ branch_of t a → (w : Onward t onwards a path o first now) → opened_in 1 onwards b ≡ Some w.inner
  onward_in t onwards path a b o first now e w = ap (opened_in 1 onwards) (block_same b w.block_inside (e ∙ w.is_branch)) ∙ w.there
