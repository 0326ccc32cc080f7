-- What the binders of a procedure call their ids.
use Rattle.std.specs.Prelude.{ℕ, ◌==◌, List, [], ◌∷◌, ◌++◌, if◌then◌else◌, codes, decimal}
use Rattle.exo_tree.specs.Tree.{Binder, Statement, Assign, Reduce, Config, Pass, If, For, Alloc}
use Rattle.exo_tree.specs.Tree.{View, Call, Block, end, next, Param, Procedure}
use Rattle.text_show.specs.Layout.{Text}

-- a number that names nothing, as no text of the language spells it
abbrev pub unknown : ℕ → Text
unknown n = codes "?" ++ decimal n

-- the binder gives its name to its id
abbrev pub with_binder : Binder → (ℕ → Text) → ℕ → Text
with_binder b names x = if x == b.id then b.name else names x

abbrev pub with_params : List Param → (ℕ → Text) → ℕ → Text
with_params [] names = names
with_params (p ∷ ps) names = with_params ps (with_binder p.binder names)

-- the binders of a block, at every depth
abbrev mutual
  pub with_block : Block → (ℕ → Text) → ℕ → Text
  with_block end names = names
  with_block (next a b) names = with_block b (with_statement a names)

  pub with_statement : Statement → (ℕ → Text) → ℕ → Text
  with_statement (Assign x is e) names = names
  with_statement (Reduce x is e) names = names
  with_statement (Config f a) names = names
  with_statement Pass names = names
  with_statement (If c a b) names = with_block b (with_block a names)
  with_statement (For i lo hi b) names = with_block b (with_binder i names)
  with_statement (Alloc x cell dims memory) names = with_binder x names
  with_statement (View w x coords) names = with_binder w names
  with_statement (Call k args) names = names

-- the name of each id in a procedure
abbrev pub names_of : Procedure → ℕ → Text
names_of p = with_block p.body (with_params p.params unknown)
