-- Each rule gives names that were there, and those that are asked.
use Rattle.schedule_laws.specs.Names.Rules.{RulesGiveNames}
use Rattle.schedule_laws.proofs.OfNames.LoopRules.{commute_names, rename_names, delete_pass_names}
use Rattle.schedule_laws.proofs.OfNames.LoopRules.{cut_names, divide_names, unroll_names}
use Rattle.schedule_laws.proofs.OfNames.LoopRules.{specialize_names, shift_names, mult_names}
use Rattle.schedule_laws.proofs.OfNames.OrderRules.{reorder_names, fuse_names, fission_names}
use Rattle.schedule_laws.proofs.OfNames.OrderRules.{keep_names, empty_loop_names, remove_names}
use Rattle.schedule_laws.proofs.OfNames.OrderRules.{exchange_names}
use Rattle.schedule_laws.proofs.OfNames.ScopeRules.{join_names, lift_names}
use Rattle.schedule_laws.proofs.OfNames.BufferRules.{memory_names, delete_names, lift_alloc_names}
use Rattle.schedule_laws.proofs.OfNames.BufferRules.{expand_names, bind_names}
use Rattle.schedule_laws.proofs.OfNames.StageRule.{stage_names}
use Rattle.schedule_laws.proofs.OfNames.CallRules.{inline_window_names, inline_names, replace_names}
use Rattle.schedule_laws.proofs.OfNames.SimplifyRules.{simplify_names}
use Rattle.schedule_laws.proofs.OfNames.FieldRules.{write_field_names, delete_field_names}
use Rattle.schedule_laws.proofs.OfNames.FieldRules.{bind_field_names, version_names}

pub rules_give_names : RulesGiveNames
rules_give_names = record {
  reorder_loops = reorder_names;
  divide = divide_names;
  cut = cut_names;
  join = join_names;
  mult = mult_names;
  shift = shift_names;
  fission = fission_names;
  fuse = fuse_names;
  unroll = unroll_names;
  remove = remove_names;
  lift = lift_names;
  specialize = specialize_names;
  empty_loop = empty_loop_names;
  keep = keep_names;
  reorder_statements = exchange_names;
  commute = commute_names;
  delete_pass = delete_pass_names;
  rename = rename_names;
  memory = memory_names;
  delete_buffer = delete_names;
  lift_alloc = lift_alloc_names;
  expand = expand_names;
  bind = bind_names;
  stage = stage_names;
  inline_window = inline_window_names;
  inline = inline_names;
  replace = replace_names;
  simplify = simplify_names;
  write_field = write_field_names;
  delete_field = delete_field_names;
  bind_field = bind_field_names;
  version = version_names;
}
