use Rattle.std.proofs.Common.{arith, rules, refl, ◌≡◌, ◌+◌, ◌∷◌, []}
use Rattle.text_lexer.specs.Layout.{up_to_fault, layout, lines}
use Rattle.text_lexer.proofs.Cuts.{parted, parted_last, lay_faulty, lay_next, lay_last, Kept, kept_none, kept_more, kept_all, kept_ok}
use Rattle.text_lexer.proofs.lexer.lay_text.Goals as goal

pub lines-init : goal.lines-init
lines-init c = record {
  few_lines = omega arith;
  few_brackets = omega arith;
  kept = rw c.new-open_blocks.ensures (kept_none _ _ _ c.requires.none.0 c.requires.none.1);
}

pub returns-then-not-sound : goal.returns-then-not-sound
returns-then-not-sound c =
    kept_all _ c.cut_at_fault-sound.new.tokens.items _ _ _ _ _ c.lines.invariant.kept c.in_ok-give.ensures.0 c.in_ok-give.ensures.1
    (λ placed whole. lay_faulty _ placed c.in_ok-laid.laid.given.items c.cut_at_fault-sound.new.tokens.items _ c.args.end c.lines.line c.lines.open_blocks c.lines.brackets _ (lines c.lines.rest.now)
    (parted _ _ _ c.first_line.ensures.value) whole c.in_ok-laid.ensures.given c.cut_at_fault-sound.ensures.cut (search rules) refl)

pub returns-in_default : goal.returns-in_default
returns-in_default c =
    let part : lines c.lines.rest.now ≡ c.first_line.result.0.now ∷ [] = parted_last _ _ _ c.first_line.ensures.value c.in_default.not-Some in
    let kept : Kept (up_to_fault (layout c.args.end 1 [] 0 (lines c.args.text.now))) c.give.new.lexed.tokens.items c.give.new.lexed.places.items (up_to_fault (layout c.args.end (c.lines.line + 1) c.lay_line.new.blocks c.in_ok-laid.laid.brackets [])) =
    kept_more _ c.cut_at_fault-sound.new.tokens.items _ _ _ _ _ _ c.lines.invariant.kept c.in_ok-give.ensures.0 c.in_ok-give.ensures.1
    (λ placed whole. lay_next _ placed c.in_ok-laid.laid.given.items c.cut_at_fault-sound.new.tokens.items _ c.args.end c.lines.line c.lines.open_blocks c.lay_line.new.blocks c.lines.brackets c.in_ok-laid.laid.brackets _ (lines c.lines.rest.now) []
    part whole c.in_ok-laid.ensures.given c.in_ok-laid.ensures.opened c.in_ok-laid.ensures.brackets c.cut_at_fault-sound.ensures.cut (search rules) refl) in
    kept_ok c.give-in_default.result _ c.in_ok-last.last.items _ _ _ _ _ kept c.give-in_default.ensures
    (λ placed whole. lay_last _ placed c.in_ok-last.last.items _ c.args.end (c.lines.line + 1) c.lay_line.new.blocks c.in_ok-laid.laid.brackets whole c.in_ok-last.ensures refl)

pub lines-preserved : goal.lines-preserved
lines-preserved c =
    let value = rw c.in-Some.is at c.first_line.ensures.value in
    let shorter = rw c.in-Some.is at c.first_line.ensures.shorter in
    record {
      few_lines = omega (arith, shorter);
      few_brackets = omega (arith, shorter, c.in_ok-laid.ensures.bound);
      kept = kept_more _ c.cut_at_fault-sound.new.tokens.items _ _ _ _ _ _ c.lines.invariant.kept
          c.in_ok-give.ensures.0 c.in_ok-give.ensures.1
          (λ placed whole. lay_next _ placed c.in_ok-laid.laid.given.items c.cut_at_fault-sound.new.tokens.items _ c.args.end c.lines.line c.lines.open_blocks c.lay_line.new.blocks c.lines.brackets c.in_ok-laid.laid.brackets _ (lines c.lines.rest.now) (lines c.in-Some.next.now)
          value whole c.in_ok-laid.ensures.given c.in_ok-laid.ensures.opened c.in_ok-laid.ensures.brackets c.cut_at_fault-sound.ensures.cut (search rules) refl);
    }

pub lines-smaller : goal.lines-smaller
lines-smaller c =
    let shorter = rw c.in-Some.is at c.first_line.ensures.shorter in
    omega (arith, shorter)
