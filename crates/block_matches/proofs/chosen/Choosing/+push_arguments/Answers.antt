use Rattle.std.proofs.Common.{◌≡◌, ◌<◌, ◌∙◌, length, map, ap, sym, subst, arith}
use Rattle.std.specs.Prelude.{IfOk}
use Rattle.std.specs.Result.{result_map_both}
use Rattle.exo_tree.specs.PlainArgument.{argument}
use Rattle.exo_tree.specs.PlainParam.{parameter}
use Rattle.exo_tree.specs.PlainProcedure.{procedure}
use Rattle.exo_tree.specs.Tree.{block}
use Rattle.match_laws.specs.Matched.{arguments_for}
use Rattle.block_matches.specs.Pairs.Held.{names_in}
use Rattle.block_matches.specs.Choices.{put_behind, outcome}
use Rattle.block_matches.proofs.Choices.{goes_on, ends_here}
use Rattle.block_matches.proofs.chosen.Choosing.+push_arguments.Goals as goal

pub returns-in_ok-push-in-Ok-clause-value : goal.returns-in_ok-push-in-Ok-clause-value
returns-in_ok-push-in-Ok-clause-value g t c =
    let s = c.args.self.now in
    let at = g.R.Reader.reading s.reader.now in
    let theirs = names_in s.theirs.now in
    let b = block s.against.now in
    let q = procedure s.by.callee.now in
    let found = sym (ap (result_map_both argument (λ p. p)) c.in-Ok.is) ∙ c.in_ok-found.ensures.value in
    subst (λ z. IfOk c.push_arguments.result (λ o. z ≡ outcome o c.push_arguments.new.args))
    (goes_on at theirs b q (parameter c.in-Some.p.now) (map parameter c.in-Some.rest.now) c.args.args.now
    c.push.new.self (argument c.in-Ok.a) found c.in_ok-push-in-Ok.ensures.pushed
    ∙ ap (λ l. put_behind c.args.args.now (arguments_for at theirs b q (map parameter l)))
    (sym c.in-Some.ensures.cases.0))
    c.push_arguments.ensures.value

pub push_arguments-requires : goal.push_arguments-requires
push_arguments-requires g t c κs lives =
    let whole : length c.args.params.now ≡ t = c.decreases in
    let less : length c.in-Some.rest.now < t = omega (arith, whole, ap length c.in-Some.ensures.cases.0) in
    (less, (lives, c.requires))

pub returns-in-Err-clause-value : goal.returns-in-Err-clause-value
returns-in-Err-clause-value g t c =
    let s = c.args.self.now in
    let at = g.R.Reader.reading s.reader.now in
    let theirs = names_in s.theirs.now in
    let b = block s.against.now in
    let q = procedure s.by.callee.now in
    let found = sym (ap (result_map_both argument (λ p. p)) c.in-Err.is) ∙ c.in_ok-found.ensures.value in
    ap (λ l. put_behind c.args.args.now (arguments_for at theirs b q (map parameter l))) c.in-Some.ensures.cases.0
    ∙ ends_here at theirs b q (parameter c.in-Some.p.now) (map parameter c.in-Some.rest.now) c.args.args.now
    c.in-Err.path found
