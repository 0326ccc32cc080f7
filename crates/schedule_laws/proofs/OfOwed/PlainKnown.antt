-- What is known of fields at a place, and what is in scope there, is the same without the stores.
use Rattle.std.proofs.Common.{◌≡◌, ◌||◌, ℕ, zero, suc, ◌∷◌, refl, ap, ap₂, ◌∙◌}
use Rattle.exo_tree.specs.Tree.{Var, Lt, Le, Statement, Assign, If, For}
use Rattle.exo_tree.specs.Tree.{Block, end, next}
use Rattle.exo_tree.specs.Calls.{passed_by, call_arguments}
use Rattle.exo_tree.specs.Context.{Context, Here, After, InLoop, InThen, InElse, fill}
use Rattle.exo_tree.specs.Places.{Branch, Main, Else, Path}
use Rattle.meaning_laws.specs.Fields.{writes_field, step_writes_field}
use Rattle.meaning_laws.specs.KnownFields.{KnownFields, Telling, path_in, forgotten, agreed, after, at_end, known_at}
use Rattle.meaning_laws.specs.PlaceFacts.{facts_round}
use Rattle.exo_effects.specs.Parts.{Parts, passed, parts_at}
use Rattle.schedule_laws.proofs.OfOwed.Known.{holding, failing}
use Rattle.schedule_laws.proofs.OfOwed.Plain.{plain, step_plain, plain_around, fill_plain}

module _ (tell : Telling) where
  mutual
    written_plain : (f : ℕ) (b : Block)
        → writes_field tell.writes f (plain b) ≡ writes_field tell.writes f b
    written_plain f end = refl
    written_plain f (next a b) = ap₂ ◌||◌ (step_written_plain f a) (written_plain f b)

    step_written_plain : (f : ℕ) (a : Statement)
        → step_writes_field tell.writes f (step_plain a) ≡ step_writes_field tell.writes f a
    step_written_plain f (If c a b) = ap₂ ◌||◌ (written_plain f a) (written_plain f b)
    step_written_plain f (For i lo hi b) = written_plain f b
    step_written_plain f a = refl

  mutual
    after_plain : (path : Path) (a : Statement) (known : KnownFields)
        → after tell path (step_plain a) known ≡ after tell path a known
    after_plain path (If c a b) known =
        ap₂ (agreed tell.agree path) (end_plain path Main zero a known) (end_plain path Else zero b known)
    after_plain path (For i lo hi b) known = λ j. forgotten (λ f. written_plain f b j) path known
    after_plain path a known = refl

    end_plain : (outer : Path) (branch : Branch) (n : ℕ) (b : Block) (known : KnownFields)
        → at_end tell outer branch n (plain b) known ≡ at_end tell outer branch n b known
    end_plain outer branch n end known = refl
    end_plain outer branch n (next a b) known =
        ap (at_end tell outer branch (suc n) (plain b)) (after_plain (path_in outer branch n) a known)
        ∙ end_plain outer branch (suc n) b (after tell (path_in outer branch n) a known)

  -- ---- at a hole

  abbrev in_loop : Context → Block → Path → KnownFields → KnownFields
  in_loop c old path known = forgotten (λ f. writes_field tell.writes f (fill c old)) path known

  loop_plain : (c : Context) (old : Block) (path : Path) (known : KnownFields)
      → in_loop (plain_around c) (plain old) path known ≡ in_loop c old path known
  loop_plain c old path known =
      (λ j. forgotten (λ f. writes_field tell.writes f (fill_plain c old j)) path known)
      ∙ (λ j. forgotten (λ f. written_plain f (fill c old) j) path known)

  pub known_plain : (outer : Path) (branch : Branch) (n : ℕ) (c : Context) (old : Block)
      (known : KnownFields)
      → known_at tell outer branch n (plain_around c) (plain old) known
      ≡ known_at tell outer branch n c old known
  known_plain outer branch n (Here rest) old known = refl
  known_plain outer branch n (After a c) old known =
      let path = path_in outer branch n in
      ap (known_at tell outer branch (suc n) (plain_around c) (plain old)) (after_plain path a known)
      ∙ known_plain outer branch (suc n) c old (after tell path a known)
  known_plain outer branch n (InLoop i lo hi c rest) old known =
      let path = path_in outer branch n in
      ap (known_at tell path Main zero (plain_around c) (plain old)) (loop_plain c old path known)
      ∙ known_plain path Main zero c old (in_loop c old path known)
  known_plain outer branch n (InThen t c b rest) old known =
      known_plain (path_in outer branch n) Main zero c old known
  known_plain outer branch n (InElse t a c rest) old known =
      known_plain (path_in outer branch n) Else zero c old known

  pub round_plain : (outer : Path) (branch : Branch) (n : ℕ) (c : Context) (old : Block)
      (known : KnownFields)
      → facts_round tell outer branch n (plain_around c) (plain old) known
      ≡ facts_round tell outer branch n c old known
  round_plain outer branch n (Here rest) old known = refl
  round_plain outer branch n (After a c) old known =
      let path = path_in outer branch n in
      ap (facts_round tell outer branch (suc n) (plain_around c) (plain old)) (after_plain path a known)
      ∙ round_plain outer branch (suc n) c old (after tell path a known)
  round_plain outer branch n (InLoop i lo hi c rest) old known =
      let path = path_in outer branch n in
      ap (λ es. holding known (Le lo (Var i.id)) ∷ holding known (Lt (Var i.id) hi) ∷ es)
      (ap (facts_round tell path Main zero (plain_around c) (plain old)) (loop_plain c old path known)
      ∙ round_plain path Main zero c old (in_loop c old path known))
  round_plain outer branch n (InThen t c b rest) old known =
      ap (λ es. holding known t ∷ es) (round_plain (path_in outer branch n) Main zero c old known)
  round_plain outer branch n (InElse t a c rest) old known =
      ap (λ es. failing known t ∷ es) (round_plain (path_in outer branch n) Else zero c old known)

-- ---- what names stand for, and what is passed

passed_plain : (a : Statement) (parts : Parts) → passed (step_plain a) parts ≡ passed a parts
passed_plain (Assign x is e) parts = refl
passed_plain a parts = refl

pub parts_plain : (c : Context) (parts : Parts) → parts_at (plain_around c) parts ≡ parts_at c parts
parts_plain (Here rest) parts = refl
parts_plain (After a c) parts =
    ap (parts_at (plain_around c)) (passed_plain a parts) ∙ parts_plain c (passed a parts)
parts_plain (InLoop i lo hi c rest) parts = parts_plain c parts
parts_plain (InThen t c other rest) parts = parts_plain c parts
parts_plain (InElse t other c rest) parts = parts_plain c parts

passed_by_plain : (a : Statement) → passed_by (step_plain a) ≡ passed_by a
passed_by_plain (Assign x is e) = refl
passed_by_plain a = refl

pub arguments_plain : (b : Block) → call_arguments (plain b) ≡ call_arguments b
arguments_plain end = refl
arguments_plain (next a b) = passed_by_plain a
