-- Blocks without their stores: these stand for what a block says of names, fields and places.
use Rattle.std.proofs.Common.{◌≡◌, refl, sym, ap, ◌∙◌}
use Rattle.exo_tree.specs.Tree.{Statement, Assign, Reduce, Config, Pass, If, For, Alloc, View, Call}
use Rattle.exo_tree.specs.Tree.{Block, end, next, joined}
use Rattle.exo_tree.specs.Context.{Context, Here, After, InLoop, InThen, InElse, fill}
use Rattle.schedule_laws.specs.Owed.Stores.{IsStore}

abbrev mutual
  -- each store gives way to nothing
  pub plain : Block → Block
  plain end = end
  plain (next a b) = next (step_plain a) (plain b)

  pub step_plain : Statement → Statement
  step_plain (Assign x is e) = Pass
  step_plain (Reduce x is e) = Pass
  step_plain (Config f a) = Config f a
  step_plain Pass = Pass
  step_plain (If c a b) = If c (plain a) (plain b)
  step_plain (For i lo hi b) = For i lo hi (plain b)
  step_plain (Alloc x cell dims memory) = Alloc x cell dims memory
  step_plain (View w x coords) = View w x coords
  step_plain (Call k args) = Call k args

abbrev pub plain_around : Context → Context
plain_around (Here rest) = Here (plain rest)
plain_around (After a c) = After (step_plain a) (plain_around c)
plain_around (InLoop i lo hi c rest) = InLoop i lo hi (plain_around c) (plain rest)
plain_around (InThen t c other rest) = InThen t (plain_around c) (plain other) (plain rest)
plain_around (InElse t other c rest) = InElse t (plain other) (plain_around c) (plain rest)

joined_plain : (a b : Block) → joined (plain a) (plain b) ≡ plain (joined a b)
joined_plain end b = refl
joined_plain (next a c) b = ap (next (step_plain a)) (joined_plain c b)

pub fill_plain : (c : Context) (b : Block) → fill (plain_around c) (plain b) ≡ plain (fill c b)
fill_plain (Here rest) b = joined_plain b rest
fill_plain (After a c) b = ap (next (step_plain a)) (fill_plain c b)
fill_plain (InLoop i lo hi c rest) b =
    ap (λ (x : Block). next (For i lo hi x) (plain rest)) (fill_plain c b)
fill_plain (InThen t c other rest) b =
    ap (λ (x : Block). next (If t x (plain other)) (plain rest)) (fill_plain c b)
fill_plain (InElse t other c rest) b =
    ap (λ (x : Block). next (If t (plain other) x) (plain rest)) (fill_plain c b)

store_plain : (s : Statement) → IsStore s → step_plain s ≡ Pass
store_plain (Assign x is e) h = refl
store_plain (Reduce x is e) h = refl
store_plain (Config f a) h = absurd h
store_plain Pass h = absurd h
store_plain (If c a b) h = absurd h
store_plain (For i lo hi b) h = absurd h
store_plain (Alloc x cell dims memory) h = absurd h
store_plain (View w x coords) h = absurd h
store_plain (Call k args) h = absurd h

-- with another store a block is the same without stores
pub changed_plain : (c : Context) (old new : Statement) → IsStore old → IsStore new
    → plain (fill c (next new end)) ≡ plain (fill c (next old end))
changed_plain c old new from to =
    sym (fill_plain c (next new end))
    ∙ (ap (λ (s : Statement). fill (plain_around c) (next s end))
    (store_plain new to ∙ sym (store_plain old from))
    ∙ fill_plain c (next old end))

-- what is the same without stores is the same of blocks that are the same without them
pub through_plain : {A : Type 0} (f : Block → A) → ((b : Block) → f (plain b) ≡ f b)
    → (b c : Block) → plain b ≡ plain c → f b ≡ f c
through_plain f same b c e = sym (same b) ∙ (ap f e ∙ same c)
