-- Another name is in the set where it was, or where it is the one that came.
use Rattle.std.proofs.Common.{◌≡◌, ◌∙◌, ◌||◌, Bool, true, false, cond, refl}
use Rattle.c_tree.specs.Names.Held.{names_in}
use Rattle.c_tree.specs.Names.Words.{Name, same_name}
use Rattle.c_tree.proofs.names.set.NameSet.insert.Goals as goal

either : (t u : Bool) → cond t true u ≡ (t || u)
either true u = refl
either false u = refl

pub returns : goal.returns
returns c =
    let held : (y : Name) → names_in (record { set = c.insert.new.self }) y ≡ (same_name c.args.x.now y || names_in c.args.self.now y) =
    λ y. c.in_ok-insert.ensures.updates.0 (record { ref_ptr = (0, 0); now = y })
    ∙ either (same_name c.args.x.now y) (names_in c.args.self.now y) in
    λ i y. held y i
