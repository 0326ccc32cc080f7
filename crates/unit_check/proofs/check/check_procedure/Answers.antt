use Rattle.std.proofs.Common.{ap, sym, ◌∙◌, ◌≤◌, length, arith}
use Rattle.exo_tree.specs.PlainUnit.{program}
use Rattle.ob_check.specs.Held.{held}
use Rattle.bounds_check.specs.Obligations.{list_fault, obligations_of}
use Rattle.bounds_check.specs.Parts.{listed_of, proc_of}
use Rattle.unit_check.proofs.Listing.{not_listed}
use Rattle.unit_check.proofs.Taking.{has_begun, all_taken, refused_in}
use Rattle.unit_check.proofs.Taking.{answers_ok, not_shown, few_done, hold_done, cached_done}
use Rattle.unit_check.proofs.check.check_procedure.Goals as goal

pub show_all-requires-clause-begins : goal.show_all-requires-clause-begins
show_all-requires-clause-begins g c κs within =
    (has_begun c.in-Ok-Some.field-0 _ _ c.in-Ok-Some.listing c.in-Ok-Some.field-0-is
    c.in-Ok-Some.ensures).none

pub returns-in-Err-show_all-clause-exact : goal.returns-in-Err-show_all-clause-exact
returns-in-Err-show_all-clause-exact g c = λ q at.
    let u = program c.args.unit.now in
    let e = c.in-Err-show_all.e in
    let l = c.in-Ok-Some.listing in
    let begun = has_begun c.in-Ok-Some.field-0 _ _ l c.in-Ok-Some.field-0-is
    c.in-Ok-Some.ensures in
    not_listed e c.not_listed-in-Err-show_all.result c.args.p.0 (list_fault u q)
    (obligations_of u q) c.not_listed-in-Err-show_all.ensures.fault
    c.not_listed-in-Err-show_all.ensures.memory
    (refused_in e u q _ l begun.unit begun.found at c.in-Err-show_all.ensures)

pub count-requires : goal.count-requires
count-requires g c =
    let u = program c.args.unit.now in
    let l = c.in-Ok-Some.listing in
    let begun = has_begun c.in-Ok-Some.field-0 _ _ l c.in-Ok-Some.field-0-is
    c.in-Ok-Some.ensures in
    (all_taken u (proc_of l) _ l c.show_all.new.listing (held c.args.cache.now) c.show_all.new.cache
    c.in-Ok.showing begun c.in-Ok.ensures (sym begun.found)).listed

pub returns-in-Ok-end-clause-exact : goal.returns-in-Ok-end-clause-exact
returns-in-Ok-end-clause-exact g c = λ q at.
    let u = program c.args.unit.now in
    let l = c.in-Ok-Some.listing in
    let m = c.show_all.new.listing in
    let begun = has_begun c.in-Ok-Some.field-0 _ _ l c.in-Ok-Some.field-0-is
    c.in-Ok-Some.ensures in
    let all = all_taken u q _ l m (held c.args.cache.now) c.show_all.new.cache c.in-Ok.showing begun
    c.in-Ok.ensures at in
    answers_ok 0 c.args.p.0 u q (listed_of m) all.done
    (c.in-Ok-end.ensures.exact (held c.args.cache.now) (listed_of m) all.shown)

pub returns-in-Ok-end-clause-count : goal.returns-in-Ok-end-clause-count
returns-in-Ok-end-clause-count g c = λ q at.
    let u = program c.args.unit.now in
    let l = c.in-Ok-Some.listing in
    let m = c.show_all.new.listing in
    let begun = has_begun c.in-Ok-Some.field-0 _ _ l c.in-Ok-Some.field-0-is
    c.in-Ok-Some.ensures in
    let all = all_taken u q _ l m (held c.args.cache.now) c.show_all.new.cache c.in-Ok.showing begun
    c.in-Ok.ensures at in
    c.count.ensures ∙ ap length all.done.owed

pub returns-in-Ok-end-clause-few : goal.returns-in-Ok-end-clause-few
returns-in-Ok-end-clause-few g c =
    let u = program c.args.unit.now in
    let l = c.in-Ok-Some.listing in
    let m = c.show_all.new.listing in
    let begun = has_begun c.in-Ok-Some.field-0 _ _ l c.in-Ok-Some.field-0-is
    c.in-Ok-Some.ensures in
    let all = all_taken u (proc_of l) _ l m (held c.args.cache.now) c.show_all.new.cache
    c.in-Ok.showing begun c.in-Ok.ensures (sym begun.found) in
    let few : length (listed_of m) ≤ 65536 = few_done u (proc_of l) (listed_of m) all.done in
    omega (arith, few, c.count.ensures)

pub returns-in-Ok-end-clause-shown : goal.returns-in-Ok-end-clause-shown
returns-in-Ok-end-clause-shown g c = λ q at.
    let u = program c.args.unit.now in
    let l = c.in-Ok-Some.listing in
    let m = c.show_all.new.listing in
    let begun = has_begun c.in-Ok-Some.field-0 _ _ l c.in-Ok-Some.field-0-is
    c.in-Ok-Some.ensures in
    let all = all_taken u q _ l m (held c.args.cache.now) c.show_all.new.cache c.in-Ok.showing begun
    c.in-Ok.ensures at in
    hold_done u q (listed_of m) all.done
    (c.in-Ok-end.ensures.shown (held c.args.cache.now) (listed_of m) all.shown)

pub returns-in-Ok-end-clause-cache : goal.returns-in-Ok-end-clause-cache
returns-in-Ok-end-clause-cache g c = λ q at.
    let u = program c.args.unit.now in
    let l = c.in-Ok-Some.listing in
    let m = c.show_all.new.listing in
    let begun = has_begun c.in-Ok-Some.field-0 _ _ l c.in-Ok-Some.field-0-is
    c.in-Ok-Some.ensures in
    let all = all_taken u q _ l m (held c.args.cache.now) c.show_all.new.cache c.in-Ok.showing begun
    c.in-Ok.ensures at in
    cached_done u q (listed_of m) (held c.args.cache.now) _ all.done
    (c.in-Ok-end.ensures.cache (held c.args.cache.now) (listed_of m) all.shown)

pub returns-clause-exact : goal.returns-clause-exact
returns-clause-exact g c = λ q at.
    let u = program c.args.unit.now in
    let l = c.in-Ok-Some.listing in
    let m = c.show_all.new.listing in
    let begun = has_begun c.in-Ok-Some.field-0 _ _ l c.in-Ok-Some.field-0-is
    c.in-Ok-Some.ensures in
    let all = all_taken u q _ l m (held c.args.cache.now) c.show_all.new.cache c.in-Ok.showing begun
    c.in-Ok.ensures at in
    not_shown c.in-Err-end.why c.not_shown.result c.args.p.0 u q (listed_of m) all.done
    (c.in-Err-end.ensures.exact (held c.args.cache.now) (listed_of m) all.shown)
    c.not_shown.ensures.why c.not_shown.ensures.proc c.not_shown.ensures.place
