-- Arguments in the place of names, and other ids for what a block binds.
use Rattle.std.specs.Prelude.{◌≡◌, ℕ, ◌==◌, true, if◌then◌else◌}
use Rattle.exo_tree.specs.Tree.{Argument, Whole, Block}
use Rattle.exo_tree.specs.Renaming.{re_binder}
use Rattle.inplace_laws.specs.Inline.{is_view}
use Rattle.inplace_laws.specs.Windows.{in_block as with_window}
use Rattle.match_laws.specs.Inline.AtOnce.{Put, itself, root_for, put_control, put_index}
use Rattle.match_laws.specs.Inline.AtOnce.{put_window}
use Rattle.match_laws.specs.Inline.AtOnce.{put_block}
use Rattle.tree_uses.specs.Uses.{Uses, used, used_fits}

abbrev pub putting : (ℕ → ℕ) → Put → Uses
putting to put = record {
  control = put_control put;
  flag = put.flag;
  name = root_for put;
  indices = put_index put;
  coords = put_window put;
  whole = put.name;
  binder = re_binder to;
  control_fits = λ e. true;
  indices_fit = λ x is. true;
  coords_fit = λ x cs. true;
}

-- a window, or another name, in the place of one name
abbrev pub one_window : ℕ → Argument → Put
one_window w t = record itself { name = λ y. if y == w then t else Whole y }

-- ---- what is put there

-- nothing is too wide
abbrev pub PuttingFits : Type 0
PuttingFits = (to : ℕ → ℕ) (put : Put) (b : Block) → used_fits (putting to put) b ≡ true

-- binders stay
abbrev pub PuttingPuts : Type 0
PuttingPuts = (put : Put) (b : Block) → used (putting (λ x. x) put) b ≡ put_block put b

abbrev pub PuttingWindow : Type 0
PuttingWindow =
    (w : ℕ) (t : Argument) (b : Block)
    → is_view t ≡ true
    → used (putting (λ x. x) (one_window w t)) b ≡ with_window w t b
