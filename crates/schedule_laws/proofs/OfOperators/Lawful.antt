-- Every operator works by lawful rules, so schedules keep what holds of versions.
use Rattle.std.proofs.Common.{◌≡◌, ℕ, suc, List, [], ◌∷◌, map, length, refl, ap, sym, subst}
use Rattle.std.specs.Prelude.{⊤}
use Rattle.exo_meaning.specs.Orders.{Each}
use Rattle.step_rules.specs.Lawful.{IsLawful}
use Rattle.step_rules.specs.Rule.{Rule}
use Rattle.config_laws.specs.WriteConfig.{write_config}
use Rattle.config_laws.specs.DeleteConfig.{delete_config}
use Rattle.config_laws.specs.BindConfig.{bind_config}
use Rattle.config_laws.specs.CallEqv.{call_eqv}
use Rattle.call_laws.specs.Fields.FieldRules.{FieldsAreThere}
use Rattle.schedule_calls.specs.Requests.{Change, Alone, WithControl, WithWord, MultLoops}
use Rattle.schedule_calls.specs.Requests.{Specialize, CommuteExpr, BindExpr, ExpandDim, StageMem}
use Rattle.schedule_calls.specs.Requests.{WriteConfig, BindConfig, DivideLoop, EliminateDeadCode}
use Rattle.schedule_calls.specs.Requests.{Operation, At, Whole, Rename, Request}
use Rattle.schedule_calls.specs.Requests as request
use Rattle.schedule_laws.specs.Versions.Versions.{started}
use Rattle.schedule_laws.specs.Versions.Laws.{EachRule, NamesFields, IsLawfulAct, HasRoom}
use Rattle.schedule_laws.specs.Versions.Laws.{StartedIsDerived, RunIsDerived}
use Rattle.schedule_laws.specs.Operators.Operators.{call_of, act_of}
use Rattle.schedule_laws.specs.Operators.Rules.{OfRules, ChangeTakes, Takes}
use Rattle.schedule_laws.specs.Operators.Laws.{OperatorsAreLawful, SchedulesDerive}
use Rattle.schedule_laws.proofs.OfOperators.Each.{of_operation}

-- ---- operators, whatever names they are given

abbrev pub Any : List ℕ → Type 0
Any name = ⊤

any_change : (change : Change) → ChangeTakes Any change
any_change (Alone o) = tt
any_change (WithControl o e) = tt
any_change (WithWord o word) = tt
any_change (MultLoops name) = tt
any_change (Specialize c) = tt
any_change (CommuteExpr x) = tt
any_change (BindExpr x name) = tt
any_change (ExpandDim size point) = tt
any_change (StageMem window name accum) = tt
any_change (WriteConfig config field e) = tt
any_change (BindConfig param config field) = tt
any_change (DivideLoop d) = (tt, tt)
any_change (EliminateDeadCode keep) = tt

any_names : (o : Operation) → Takes Any o
any_names (At at change) = any_change change
any_names (Whole o) = tt
any_names (Rename name) = tt

each : (Holds : Rule → Type 0) → OfRules Holds Any → (o : Operation) → EachRule Holds (call_of o)
each Holds rules o = of_operation Holds Any rules o (any_names o)

all_name_fields : FieldsAreThere → OfRules NamesFields Any
all_name_fields there = record {
  reorder_loops = λ s. tt;
  divide = λ d outer inner s. tt;
  cut = λ e s. tt;
  join = λ s. tt;
  mult = λ name is s. tt;
  shift = λ e s. tt;
  fission = λ count s. tt;
  fuse = λ s. tt;
  unroll = λ s. tt;
  remove = λ s. tt;
  lift = λ s. tt;
  specialize = λ count c s. tt;
  empty_loop = λ s. tt;
  keep = λ keep s. tt;
  reorder_statements = λ s. tt;
  commute = λ x s. tt;
  delete_pass = λ s. tt;
  rename = λ name is s. tt;
  memory = λ m s. tt;
  delete_buffer = λ s. tt;
  lift_alloc = λ branch k s. tt;
  expand = λ size e s. tt;
  bind = λ f k name is s. tt;
  stage = λ count w is s. tt;
  inline_window = λ s. tt;
  inline = λ s. tt;
  replace = λ k count s. tt;
  simplify = λ s. tt;
  write_field = λ side f e. there (λ t. write_config t.unit.procedures side f e);
  delete_field = there (λ t. delete_config t.unit.procedures);
  bind_field = λ param f. there (λ t. bind_config t.unit.procedures param f);
  version = λ j. there (λ t. call_eqv t.unit t.origins j);
}

pub operators_are_lawful : FieldsAreThere → OfRules IsLawful Any → OperatorsAreLawful
operators_are_lawful there rules o = record {
  lawful = each IsLawful rules o;
  fields = each NamesFields (all_name_fields there) o;
}

-- ---- schedules

module _ (lawful : OperatorsAreLawful) where
  acts_are_lawful : (requests : List Request) → Each IsLawfulAct (map act_of requests)
  acts_are_lawful [] = tt
  acts_are_lawful (request.Apply bind of o ∷ more) = (lawful o, acts_are_lawful more)
  acts_are_lawful (request.Search bind of pattern nth moves ∷ more) = (tt, acts_are_lawful more)
  acts_are_lawful (request.Moved bind of moves ∷ more) = (tt, acts_are_lawful more)
  acts_are_lawful (request.Emit name ∷ more) = (tt, acts_are_lawful more)

  as_many : (requests : List Request) → length (map act_of requests) ≡ length requests
  as_many [] = refl
  as_many (r ∷ more) = ap suc (as_many more)

  pub schedules_derive : StartedIsDerived → RunIsDerived → SchedulesDerive
  schedules_derive starts runs unit shown requests v is quiet room h =
      runs (map act_of requests) (started unit shown) v (acts_are_lawful requests)
      (starts unit shown is quiet)
      (subst (HasRoom (started unit shown)) (sym (as_many requests)) room) h
