-- A callee with other ids: a call of it is a call of the callee.
use Rattle.std.specs.Prelude.{◌≡◌, List, [], ◌∷◌, Some}
use Rattle.exo_tree.specs.Tree.{Condition, Argument, Param, Procedure}
use Rattle.exo_meaning.specs.State.{State}
use Rattle.exo_meaning.specs.Run.{World, call_to, callee_in}
use Rattle.exo_meaning.specs.Renaming.{Renaming, re_condition, re_block}
pub use Rattle.exo_meaning.specs.Renaming.{re_kind, re_param}

module _ (r : Renaming) where
  abbrev pub re_params : List Param → List Param
  re_params [] = []
  re_params (p ∷ ps) = re_param r p ∷ re_params ps

  abbrev pub re_conditions : List Condition → List Condition
  re_conditions [] = []
  re_conditions (c ∷ cs) = re_condition r c ∷ re_conditions cs

  abbrev pub re_procedure : Procedure → Procedure
  re_procedure q = record q {
    params = re_params q.params;
    asserts = re_conditions q.asserts;
    body = re_block r q.body;
  }

-- the ids of the caller stay
abbrev pub RenamedCallee : Type 0
RenamedCallee =
    (r : Renaming) (above : World) (q : Procedure) (args : List Argument) (s : State)
    → call_to (Some (callee_in above (re_procedure r q))) args s
    ≡ call_to (Some (callee_in above q)) args s
