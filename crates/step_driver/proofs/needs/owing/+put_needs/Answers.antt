use Rattle.std.proofs.Common.{List, ◌-◌, take, drop, length, map, subst, sym, ◌∙◌, arith}
use Rattle.std.proofs.Common.{◌≡◌, Bool, true, false, ◌&&◌, length-drop}
use Rattle.std.proofs.lemmas.List.{length-take}
use Rattle.std.specs.Prelude.{IsTrue}
use Rattle.std.specs.List.{list_all}
use Rattle.step_driver.specs.Needs.Owing.{target_in, PutsAll, is_affine}
use Rattle.step_driver.specs.Needs.PlainNeed.{plain_need}
use Rattle.step_driver.specs.Needs.Sites.{seen}
use Rattle.step_driver.specs.declared.needs.need.Need.{Need}
use Rattle.step_driver.proofs.OfNeeds.OneNeed.{stopped, went_on}
use Rattle.step_driver.proofs.OfNeeds.Rests.{first_and_rest}
use Rattle.step_driver.proofs.needs.owing.+put_needs.Goals as goal

second_true : (a b : Bool) → a && b ≡ true → b ≡ true
second_true true b h = h
second_true false b h = cc

pub returns-in_err-put_need : goal.returns-in_err-put_need
returns-in_err-put_need t c k =
    let needs = c.args.needs.now in
    let it = target_in (seen c.args.site.now) k in
    let whole = first_and_rest needs c.n-item.result c.n-item.is c.in-len1-up.len_at_least in
    subst (λ (ns : List Need). PutsAll c.from_residual.result it (map plain_need ns) c.args.out.now c.put_need.new.out) whole
    (stopped it c.from_residual.result (plain_need c.n-item.result) (map plain_need (take (length needs - 1) (drop 1 needs)))
    c.in_err-put_need.field-0.0 c.args.out.now c.put_need.new.out c.from_residual.ensures.1 (c.in_err-put_need.ensures.puts k))

pub returns : goal.returns
returns t c k =
    let needs = c.args.needs.now in
    let it = target_in (seen c.args.site.now) k in
    let rest = map plain_need (take (length needs - 1) (drop 1 needs)) in
    let whole = first_and_rest needs c.n-item.result c.n-item.is c.in-len1-up.len_at_least in
    subst (λ (ns : List Need). PutsAll c.put_needs.result it (map plain_need ns) c.args.out.now c.put_needs.new.out) whole
    (went_on it c.put_needs.result (plain_need c.n-item.result) rest c.args.out.now c.put_need.new.out c.put_needs.new.out
    (c.in_ok-put_need.ensures.puts k) (c.put_needs.ensures k))

pub put_needs-requires : goal.put_needs-requires
put_needs-requires t c =
    let needs = c.args.needs.now in
    let long = c.in-len1-up.len_at_least in
    let whole = first_and_rest needs c.n-item.result c.n-item.is long in
    let rest = take (length needs - 1) (drop 1 needs) in
    let short = length-drop 1 needs in
    let all = subst (λ (ns : List Need). IsTrue (list_all is_affine (map plain_need ns))) (sym whole)
    c.requires.affine in (
      omega (arith, long, short, length-take (length needs - 1) (drop 1 needs)),
      (
        c.requires.site,
        (
          c.in_ok-put_need.ensures.same ∙ c.requires.walk,
          second_true (is_affine (plain_need c.n-item.result)) (list_all is_affine (map plain_need rest)) all,
        ),
      ),
    )
