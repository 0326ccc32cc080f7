use Rattle.std.proofs.Common.{arith, ◌≡◌, ℕ, ◌++◌, replicate, ap, ◌∙◌}
use Rattle.text_lexer.specs.Layout.{put}
use Rattle.text_lexer.specs.declared.token.Token.TheVariants.{Dedent}
use Rattle.text_lexer.proofs.Pushed.{pushed_same}
use Rattle.text_lexer.proofs.layout.put_dedents.Goals as goal

pub loop-preserved : goal.loop-preserved
loop-preserved c =
    pushed_same c.args.given.now.items c.loop.given.items c.push.new.self.items c.loop.counter (put c.args.place Dedent)
    c.in_ok-push.ensures.items c.loop.invariant

pub returns : goal.returns
returns c =
    let all : c.loop.counter ≡ c.args.count = omega (arith, c.loop-test.false, c.loop.auto.counter-end) in
    c.loop.invariant ∙ ap (λ (n : ℕ). c.args.given.now.items ++ replicate n (put c.args.place Dedent)) all
