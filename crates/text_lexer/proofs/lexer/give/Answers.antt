use Rattle.text_lexer.specs.Layout.{token_of, place_of}
use Rattle.text_lexer.proofs.Pushed.{pushed_image}
use Rattle.text_lexer.proofs.lexer.give.Goals as goal

pub loop-one-preserved : goal.loop-one-preserved
loop-one-preserved c = record {
  tokens = pushed_image token_of c.args.lexed.now.tokens.items c.loop-one.lexed.tokens.items c.push.new.self.items
      c.loop-one.yielded c.in-Some.one c.in_ok-push.ensures.items c.loop-one.invariant.tokens;
  places = pushed_image place_of c.args.lexed.now.places.items c.loop-one.lexed.places.items
      c.push-in-loop-one.new.self.items
      c.loop-one.yielded c.in-Some.one c.in_ok-push-2.ensures.items c.loop-one.invariant.places;
}
