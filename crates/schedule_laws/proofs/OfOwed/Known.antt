-- What is known of fields at the places of a block that calls the first procedures alone.
use Rattle.std.proofs.Common.{◌≡◌, ◌||◌, ◌&&◌, ℕ, zero, suc, Bool, true, ◌∷◌, refl, ap, ap₂, ◌∙◌}
use Rattle.std.specs.Prelude.{nat_lt}
use Rattle.std.proofs.lemmas.Bool.{and_parts}
use Rattle.exo_tree.specs.Tree.{Condition, Var, Lt, Le, Statement, Assign, Reduce, Config, Pass, If, For, Alloc, View, Call}
use Rattle.exo_tree.specs.Tree.{Block, end, next}
use Rattle.exo_tree.specs.Context.{Context, Here, After, InLoop, InThen, InElse, fill}
use Rattle.exo_tree.specs.Places.{Branch, Main, Else, Path}
use Rattle.meaning_laws.specs.Facts.{Holds, Fails}
use Rattle.meaning_laws.specs.Fields.{writes_field, step_writes_field}
use Rattle.meaning_laws.specs.Grown.{calls_below, step_calls_below}
use Rattle.meaning_laws.specs.KnownFields.{KnownFields, Telling, path_in, forgotten, agreed, after, at_end, known_at}
use Rattle.meaning_laws.specs.PlaceFacts.{PlaceFact, facts_round}

abbrev pub holding : KnownFields → Condition → PlaceFact
holding known c = record { known = known; fact = Holds c }

abbrev pub failing : KnownFields → Condition → PlaceFact
failing known c = record { known = known; fact = Fails c }

-- calls of procedures below that number write what they write by the other table
module _ (tell : Telling) (writes : ℕ → ℕ → Bool) (n : ℕ)
    (same : (k f : ℕ) → nat_lt k n ≡ true → writes k f ≡ tell.writes k f) where
  abbrev pub other : Telling
  other = record tell { writes = writes }

  abbrev pub Below : Block → Type 0
  Below b = calls_below n b ≡ true

  abbrev StepBelow : Statement → Type 0
  StepBelow a = step_calls_below n a ≡ true

  parts : (a : Statement) (b : Block) → Below (next a b) → StepBelow a × Below b
  parts a b h = and_parts (step_calls_below n a) (calls_below n b) h

  branches : (a b : Block) → (calls_below n a && calls_below n b) ≡ true → Below a × Below b
  branches a b h = and_parts (calls_below n a) (calls_below n b) h

  mutual
    written : (f : ℕ) (b : Block) → Below b → writes_field writes f b ≡ writes_field tell.writes f b
    written f end h = refl
    written f (next a b) h =
        let p = parts a b h in
        ap₂ ◌||◌ (step_written f a p.0) (written f b p.1)

    step_written : (f : ℕ) (a : Statement) → StepBelow a
        → step_writes_field writes f a ≡ step_writes_field tell.writes f a
    step_written f (Assign x is e) h = refl
    step_written f (Reduce x is e) h = refl
    step_written f (Config g a) h = refl
    step_written f Pass h = refl
    step_written f (If c a b) h =
        let p = branches a b h in
        ap₂ ◌||◌ (written f a p.0) (written f b p.1)
    step_written f (For i lo hi b) h = written f b h
    step_written f (Alloc x cell dims memory) h = refl
    step_written f (View w x coords) h = refl
    step_written f (Call k args) h = same k f h

  forgotten_same : (b : Block) → Below b → (path : Path) (known : KnownFields)
      → forgotten (λ f. writes_field writes f b) path known
      ≡ forgotten (λ f. writes_field tell.writes f b) path known
  forgotten_same b h path known = λ j. forgotten (λ f. written f b h j) path known

  mutual
    after_same : (path : Path) (a : Statement) → StepBelow a → (known : KnownFields)
        → after other path a known ≡ after tell path a known
    after_same path (Assign x is e) h known = refl
    after_same path (Reduce x is e) h known = refl
    after_same path (Config f a) h known = refl
    after_same path Pass h known = refl
    after_same path (If c a b) h known =
        let p = branches a b h in
        ap₂ (agreed tell.agree path) (at_end_same path Main zero a p.0 known)
        (at_end_same path Else zero b p.1 known)
    after_same path (For i lo hi b) h known = forgotten_same b h path known
    after_same path (Alloc x cell dims memory) h known = refl
    after_same path (View w x coords) h known = refl
    after_same path (Call k args) h known = λ j. forgotten (λ f. same k f h j) path known

    at_end_same : (outer : Path) (branch : Branch) (m : ℕ) (b : Block) → Below b
        → (known : KnownFields)
        → at_end other outer branch m b known ≡ at_end tell outer branch m b known
    at_end_same outer branch m end h known = refl
    at_end_same outer branch m (next a b) h known =
        let p = parts a b h in
        ap (at_end other outer branch (suc m) b) (after_same (path_in outer branch m) a p.0 known)
        ∙ at_end_same outer branch (suc m) b p.1 (after tell (path_in outer branch m) a known)

  -- ---- at a hole

  pub known_same : (outer : Path) (branch : Branch) (m : ℕ) (c : Context) (old : Block)
      → Below (fill c old) → (known : KnownFields)
      → known_at other outer branch m c old known ≡ known_at tell outer branch m c old known
  known_same outer branch m (Here rest) old h known = refl
  known_same outer branch m (After a c) old h known =
      let p = parts a (fill c old) h in
      ap (known_at other outer branch (suc m) c old) (after_same (path_in outer branch m) a p.0 known)
      ∙ known_same outer branch (suc m) c old p.1 (after tell (path_in outer branch m) a known)
  known_same outer branch m (InLoop i lo hi c rest) old h known =
      let path = path_in outer branch m in
      let b = fill c old in
      let p = parts (For i lo hi b) rest h in
      ap (known_at other path Main zero c old) (forgotten_same b p.0 path known)
      ∙ known_same path Main zero c old p.0 (forgotten (λ f. writes_field tell.writes f b) path known)
  known_same outer branch m (InThen t c b rest) old h known =
      let p = parts (If t (fill c old) b) rest h in
      known_same (path_in outer branch m) Main zero c old (branches (fill c old) b p.0).0 known
  known_same outer branch m (InElse t a c rest) old h known =
      let p = parts (If t a (fill c old)) rest h in
      known_same (path_in outer branch m) Else zero c old (branches a (fill c old) p.0).1 known

  pub round_same : (outer : Path) (branch : Branch) (m : ℕ) (c : Context) (old : Block)
      → Below (fill c old) → (known : KnownFields)
      → facts_round other outer branch m c old known ≡ facts_round tell outer branch m c old known
  round_same outer branch m (Here rest) old h known = refl
  round_same outer branch m (After a c) old h known =
      let p = parts a (fill c old) h in
      ap (facts_round other outer branch (suc m) c old) (after_same (path_in outer branch m) a p.0 known)
      ∙ round_same outer branch (suc m) c old p.1 (after tell (path_in outer branch m) a known)
  round_same outer branch m (InLoop i lo hi c rest) old h known =
      let path = path_in outer branch m in
      let b = fill c old in
      let p = parts (For i lo hi b) rest h in
      ap (λ es. holding known (Le lo (Var i.id)) ∷ holding known (Lt (Var i.id) hi) ∷ es)
      (ap (facts_round other path Main zero c old) (forgotten_same b p.0 path known)
      ∙ round_same path Main zero c old p.0 (forgotten (λ f. writes_field tell.writes f b) path known))
  round_same outer branch m (InThen t c b rest) old h known =
      let p = parts (If t (fill c old) b) rest h in
      ap (λ es. holding known t ∷ es)
      (round_same (path_in outer branch m) Main zero c old (branches (fill c old) b p.0).0 known)
  round_same outer branch m (InElse t a c rest) old h known =
      let p = parts (If t a (fill c old)) rest h in
      ap (λ es. failing known t ∷ es)
      (round_same (path_in outer branch m) Else zero c old (branches a (fill c old) p.0).1 known)
