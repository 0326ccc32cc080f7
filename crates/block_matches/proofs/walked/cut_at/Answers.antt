use Rattle.std.proofs.Common.{◌≡◌, ◌∷◌, [], ◌++◌, Some, length, refl, sym, ap, ◌∙◌}
use Rattle.std.proofs.lemmas.Option.{slice_get_read}
use Rattle.std.specs.Prelude.{slice_get}
use Rattle.match_laws.specs.Pairs.{Unlike}
use Rattle.block_matches.specs.Pairs.PlainPair.{plain_pair}
use Rattle.block_matches.specs.declared.pairs.pair.Pair.TheVariants as pair
use Rattle.block_matches.proofs.Cuts.{cut_pushed}
use Rattle.block_matches.proofs.walked.cut_at.Goals as goal

pub returns : goal.returns
returns c =
    let read = c.deref.result.now in
    let there : slice_get c.args.pairs.items c.args.end ≡ Some c.in-Some.pair.now =
    ap (λ xs. slice_get xs c.args.end) (sym c.deref.ensures.value)
    ∙ slice_get_read read (length read) c.args.end c.in-Some.pair.now refl
    c.in-Some.ensures.lookup.3.0 c.in-Some.ensures.lookup.1 in
    cut_pushed plain_pair c.args.end c.args.pairs.items c.push.new.self.items c.in-Some.pair.now
    (pair.Unlike c.path_of-path.result) there (ap Unlike c.path_of-path.ensures)
    (c.in_ok-push.ensures.items
    ∙ ap (λ xs. xs ++ pair.Unlike c.path_of-path.result ∷ []) c.truncate.ensures.items)
