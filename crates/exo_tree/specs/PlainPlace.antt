-- The plain forms of the steps of a path.
use Rattle.exo_tree.specs.Places as place
use Rattle.exo_tree.specs.declared.place.Branch.{Branch}
use Rattle.exo_tree.specs.declared.place.Branch.TheVariants.{Main, Else}
use Rattle.exo_tree.specs.declared.place.Step.{Step}

abbrev pub branch_taken : Branch → place.Branch
branch_taken Main = place.Main
branch_taken Else = place.Else

abbrev pub step_taken : Step → place.Step
step_taken s = record { branch = branch_taken s.branch; index = s.index }
