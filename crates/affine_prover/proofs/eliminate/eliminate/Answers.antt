use Rattle.std.proofs.Common.{◌≡◌, [], ◌++◌, sym, subst}
use Rattle.std.specs.Prelude.{IfOk}
use Rattle.affine_prover.specs.RowSets.Shapes.{AreWide}
use Rattle.affine_prover.specs.RowSets.Settled.{AreSettled}
use Rattle.affine_prover.specs.Elimination.{verdict_on_rows}
use Rattle.affine_prover.proofs.eliminate.eliminate.Goals as goal

pub eliminate_behind-requires : goal.eliminate_behind-requires
eliminate_behind-requires c =
    let none : c.new.result.items ≡ [] = c.new.ensures.items in
    record {
      wide = subst (λ rs. AreWide c.args.n (rs ++ c.args.rows.items)) (sym none) c.requires;
      settled = subst AreSettled (sym none) (tt, tt);
    }

pub returns : goal.returns
returns c = subst (λ rs. IfOk c.eliminate_behind.result (λ v. v ≡ verdict_on_rows c.args.n (rs ++ c.args.rows.items)))
    c.new.ensures.items c.eliminate_behind.ensures
