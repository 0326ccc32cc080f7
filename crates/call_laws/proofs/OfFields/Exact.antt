-- A draft without binders stands in the body as it is.
use Rattle.std.proofs.Common.{◌≡◌, ℕ, ◌+◌, Bool, true, false, ◌&&◌, List, [], ◌∷◌, ◌++◌, map}
use Rattle.std.proofs.Common.{refl, sym, ap, ◌∙◌, subst, nat_lt, if◌then◌else◌, arith}
use Rattle.std.specs.List.{list_all}
use Rattle.exo_tree.specs.Tree.{Statement, Pass, Block, end, next, joined}
use Rattle.exo_tree.specs.Context.{Context, Here, After, InLoop, InThen, InElse, fill, rest_of}
use Rattle.exo_tree.specs.Renaming.{binders, binders_below}
use Rattle.exo_meaning.specs.Units.{is_empty}
use Rattle.meaning_laws.proofs.Substitute.{and_parts}
use Rattle.tree_edits.specs.Made.Passes.{has_nothing, is_alone, or_pass}
use Rattle.config_laws.specs.FieldRule as config
use Rattle.config_laws.specs.FieldRule.{is_first}
use Rattle.step_rules.specs.Lawful.{around, old, with_body}
use Rattle.step_rules.proofs.Found.{and_true}
use Rattle.step_rules.proofs.Shapes.{or_pass_next}
use Rattle.call_laws.proofs.OfCalls.OfNames.Copies.{bodies_without_copies}
use Rattle.call_laws.specs.Fields.FieldRules.{BodyIsExact}

-- ---- tests of all binders

module _ (keeps : ℕ → Bool) where
  all_of : (xs ys : List ℕ) → list_all keeps xs ≡ true → list_all keeps ys ≡ true
      → list_all keeps (xs ++ ys) ≡ true
  all_of [] ys h k = k
  all_of (x ∷ xs) ys h k =
      let p = and_parts (keeps x) (list_all keeps xs) h in and_true p.0 (all_of xs ys p.1 k)

  parts_of : (xs ys : List ℕ) → list_all keeps (xs ++ ys) ≡ true
      → (list_all keeps xs ≡ true) × (list_all keeps ys ≡ true)
  parts_of [] ys h = (refl, h)
  parts_of (x ∷ xs) ys h =
      let p = and_parts (keeps x) (list_all keeps (xs ++ ys)) h in
      let q = parts_of xs ys p.1 in
      (and_true p.0 q.0, q.1)

  abbrev AllKeep : Block → Type 0
  AllKeep b = list_all keeps (binders b) ≡ true

  joined_keep : (a b : Block) → AllKeep a → AllKeep b → AllKeep (joined a b)
  joined_keep end b h k = k
  joined_keep (next a c) b h k =
      let p = parts_of (binders_below a) (binders c) h in
      all_of (binders_below a) (binders (joined c b)) p.0 (joined_keep c b p.1 k)

  behind_keeps : (a b : Block) → AllKeep (joined a b) → AllKeep b
  behind_keeps end b h = h
  behind_keeps (next a c) b h =
      behind_keeps c b (parts_of (binders_below a) (binders (joined c b)) h).1

  -- another block in the hole
  put_in : (c : Context) (was b : Block) → AllKeep (fill c was) → AllKeep b → AllKeep (fill c b)
  put_in (Here rest) was b h k = joined_keep b rest k (behind_keeps was rest h)
  put_in (After a c) was b h k =
      let p = parts_of (binders_below a) (binders (fill c was)) h in
      all_of (binders_below a) (binders (fill c b)) p.0 (put_in c was b p.1 k)
  put_in (InLoop i lo hi c rest) was b h k =
      let p = parts_of (i.id ∷ binders (fill c was)) (binders rest) h in
      let q = and_parts (keeps i.id) (list_all keeps (binders (fill c was))) p.0 in
      all_of (i.id ∷ binders (fill c b)) (binders rest) (and_true q.0 (put_in c was b q.1 k)) p.1
  put_in (InThen t c other rest) was b h k =
      let p = parts_of (binders (fill c was) ++ binders other) (binders rest) h in
      let q = parts_of (binders (fill c was)) (binders other) p.0 in
      all_of (binders (fill c b) ++ binders other) (binders rest)
      (all_of (binders (fill c b)) (binders other) (put_in c was b q.0 k) q.1) p.1
  put_in (InElse t other c rest) was b h k =
      let p = parts_of (binders other ++ binders (fill c was)) (binders rest) h in
      let q = parts_of (binders other) (binders (fill c was)) p.0 in
      all_of (binders other ++ binders (fill c b)) (binders rest)
      (all_of (binders other) (binders (fill c b)) q.0 (put_in c was b q.1 k)) p.1

-- ---- a `pass`

passed_binders : (c : Context) (b : Block) → binders b ≡ [] → binders (or_pass c b) ≡ []
passed_binders c b h = by (is_alone c && is_empty b)
  where
    by : (t : Bool) → binders (if t then next Pass end else b) ≡ []
    by true = refl
    by false = h

same_end : (b : Block) → is_empty b ≡ is_empty b
same_end end = refl
same_end (next a b) = refl

mutual
  same_first : (c : Context) → has_nothing true c ≡ (is_first c && is_empty (rest_of c))
  same_first (Here rest) = same_end rest
  same_first (After a c) = same_later a c
  same_first (InLoop i lo hi c rest) = same_first c
  same_first (InThen t c other rest) = same_first c
  same_first (InElse t other c rest) = same_first c

  same_later : (a : Statement) (c : Context)
      → has_nothing false c ≡ (is_first (After a c) && is_empty (rest_of c))
  same_later a (Here rest) = refl
  same_later a (After b c) = same_later b c
  same_later a (InLoop i lo hi c rest) = same_first c
  same_later a (InThen t c other rest) = same_first c
  same_later a (InElse t other c rest) = same_first c

-- what stands in a block that would be empty is told twice, and is one
pub same_pass : (c : Context) (b : Block) → config.or_pass c b ≡ or_pass c b
same_pass c (next a b) = sym (or_pass_next c a b)
same_pass c end = by (is_first c) (is_empty (rest_of c)) ∙ ap given (sym (same_first c))
  where
    given : Bool → Block
    given t = if t && true then next Pass end else end

    by : (x y : Bool) → (if x then (if y then next Pass end else end) else end) ≡ given (x && y)
    by true true = refl
    by true false = refl
    by false y = refl

-- ---- the body

lower : (n k : ℕ) (xs : List ℕ) → list_all (λ x. nat_lt x n) xs ≡ true
    → list_all (λ x. nat_lt x (n + k)) xs ≡ true
lower n k [] h = refl
lower n k (x ∷ xs) h =
    let p = and_parts (nat_lt x n) (list_all (λ x. nat_lt x n) xs) h in
    and_true (one p.0) (lower n k xs p.1)
  where
    one : nat_lt x n ≡ true → nat_lt x (n + k) ≡ true
    one h = grind (arith, h)

pub body_is_exact : BodyIsExact
body_is_exact r a is none =
    let p = a.spot.target.proc in
    let c = around a.spot in
    let made = or_pass c a.draft in
    let copies = a.base + r.named in
    let keeps = λ (x : ℕ). nat_lt x copies in
    let below = (parts_of (λ x. nat_lt x a.base) (map (λ q. q.binder.id) p.params) (binders p.body)
    is.below).1 in
    let was = subst (λ b. list_all keeps (binders b) ≡ true) is.spot.body
    (lower a.base r.named (binders p.body) below) in
    let made_keeps = ap (list_all keeps) (passed_binders c a.draft none) in
    bodies_without_copies p (with_body a.spot a.body) copies (fill c made)
    (put_in keeps c (old a.spot) made was made_keeps) is.exact is.runs.procedure.distinct
