-- Arguments and new ids put at once.
use Rattle.std.specs.Prelude.{◌≡◌, ℕ, true}
use Rattle.exo_tree.specs.Tree.{Statement, Assign, Reduce, Config, Pass, If, For, Alloc, View, Call}
use Rattle.exo_tree.specs.Tree.{Block, end, next}
use Rattle.exo_tree.specs.Renaming.{re_binder, re_block}
use Rattle.inplace_laws.specs.Inline.{is_view}
use Rattle.match_laws.specs.Inline.AtOnce.{Put, root_for, put_control, put_controls, put_condition}
use Rattle.match_laws.specs.Inline.AtOnce.{put_index}
use Rattle.match_laws.specs.Inline.AtOnce.{put_datum, put_window, put_argument, put_arguments}
use Rattle.match_laws.specs.Inline.AtOnce.{put_block}

-- what stands for a name is what stands for its new id
abbrev pub after : (ℕ → ℕ) → Put → Put
after to put =
    record {
      variable = λ x. put.variable (to x);
      flag = λ x. put.flag (to x);
      name = λ x. put.name (to x);
    }

-- own names get other ids on the way
module _ (to : ℕ → ℕ) (put : Put) where
  abbrev mutual
    pub put_under_statement : Statement → Statement
    put_under_statement (Assign x is e) =
        Assign (root_for put x) (put_index put x is) (put_datum put e)
    put_under_statement (Reduce x is e) =
        Reduce (root_for put x) (put_index put x is) (put_datum put e)
    put_under_statement (Config f a) = Config f (put_argument put a)
    put_under_statement Pass = Pass
    put_under_statement (If c a b) = If (put_condition put c) (put_under a) (put_under b)
    put_under_statement (For i lo hi b) =
        For (re_binder to i) (put_control put lo) (put_control put hi) (put_under b)
    put_under_statement (Alloc x cell dims memory) =
        Alloc (re_binder to x) cell (put_controls put dims) memory
    put_under_statement (View w x cs) = View (re_binder to w) (root_for put x) (put_window put x cs)
    put_under_statement (Call k args) = Call k (put_arguments put args)

    pub put_under : Block → Block
    put_under end = end
    put_under (next a b) = next (put_under_statement a) (put_under b)

-- a view stands for each buffer
abbrev pub GivesViews : Put → Type 0
GivesViews put = (x : ℕ) → is_view (put.name x) ≡ true

-- then new ids first and arguments behind are one pass
abbrev pub PutsRenumbered : Type 0
PutsRenumbered =
    (to : ℕ → ℕ) (put : Put) (b : Block)
    → GivesViews put
    → put_block put (re_block to b) ≡ put_under to (after to put) b
