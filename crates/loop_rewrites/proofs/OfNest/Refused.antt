-- Whether a piece is refused for what it writes.
use Rattle.std.proofs.Common.{◌≡◌, ℕ, true, false, List, [], ◌∷◌, Some, None, refl, ap, sym, ◌∙◌}
use Rattle.exo_tree.specs.Tree.{Block, Program}
use Rattle.cursor_forward.specs.Causes.{ConfigWrite}
use Rattle.config_state.specs.Steps.Fields.{some_listed}
use Rattle.loop_laws.specs.Nest.Shapes.{fields_written, refused_for}

listed : (fs : List ℕ) → some_listed fs ≡ true → refused_for fs ≡ Some ConfigWrite
listed [] h = cc
listed (f ∷ fs) h = refl

unlisted : (fs : List ℕ) → some_listed fs ≡ false → refused_for fs ≡ None
unlisted [] h = refl
unlisted (f ∷ fs) h = cc

pub some_written : (u : Program) (b old : Block) → b ≡ old
    → true ≡ some_listed (fields_written u b) → refused_for (fields_written u old) ≡ Some ConfigWrite
some_written u b old is h =
    ap (λ c. refused_for (fields_written u c)) (sym is) ∙ listed (fields_written u b) (sym h)

pub none_written : (u : Program) (b old : Block) → b ≡ old
    → false ≡ some_listed (fields_written u b) → refused_for (fields_written u old) ≡ None
none_written u b old is h =
    ap (λ c. refused_for (fields_written u c)) (sym is) ∙ unlisted (fields_written u b) (sym h)
