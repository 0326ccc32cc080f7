use Rattle.std.proofs.Common.{[], refl, sym, subst, Ok}
use Rattle.exo_tree.specs.PlainProcedure.{procedure}
use Rattle.check_facts.specs.Contexts.{IsPlaceOf, ContextMade}
use Rattle.check_facts.specs.Walks.{telling_of, head_facts, round_facts, place_of}
use Rattle.check_facts.proofs.Adding.{Came, refused_first, refused_second, added_more}
use Rattle.check_facts.proofs.Arrivals.{context_refused, context_made}
use Rattle.check_facts.proofs.place_walk.PlaceWalk.at.Goals as goal

pub returns-in_err-facts-clause-made : goal.returns-in_err-facts-clause-made
returns-in_err-facts-clause-made c =
    let g = c.self.inside.basis in
    let path = c.args.path.now in
    let head = head_facts (procedure g.proc.now) in
    let round = round_facts (telling_of g) (place_of path g) in
    let middle = c.add_first.new.context in
    let result = c.from_residual-in_err-facts.result in
    let first = subst (λ old. Came g head old middle) c.new-context.ensures c.in_ok-add_first.ensures in
    subst (λ v. ContextMade result v.0 v.1 path) c.self.view_is
    (context_refused result _ g path c.from_residual-in_err-facts.ensures.1 (refused_second g head round [] middle _ first c.in_err-facts.ensures.facts))

pub returns-clause-made : goal.returns-clause-made
returns-clause-made c =
    let g = c.self.inside.basis in
    let path = c.args.path.now in
    let head = head_facts (procedure g.proc.now) in
    let round = round_facts (telling_of g) (place_of path g) in
    let middle = c.add_first.new.context in
    let first = subst (λ old. Came g head old middle) c.new-context.ensures c.in_ok-add_first.ensures in
    subst (λ v. ContextMade (Ok (c.go.new.context, c.in_ok-facts.facts)) v.0 v.1 path) c.self.view_is
    (context_made g path c.go.new.context c.in_ok-facts.facts (added_more (Ok (tt {0})) g head round [] middle c.go.new.context first c.in_ok-facts.ensures.facts) c.in_ok-facts.ensures.known)

pub returns-in_err-add_first-clause-made : goal.returns-in_err-add_first-clause-made
returns-in_err-add_first-clause-made c =
    let g = c.self.inside.basis in
    let path = c.args.path.now in
    let head = head_facts (procedure g.proc.now) in
    let round = round_facts (telling_of g) (place_of path g) in
    let result = c.from_residual.result in
    subst (λ v. ContextMade result v.0 v.1 path) c.self.view_is
    (context_refused result _ g path c.from_residual.ensures.1
    (refused_first g head round _ c.in_err-add_first.ensures))

pub returns-in_err-add_first-clause-same : goal.returns-in_err-add_first-clause-same
returns-in_err-add_first-clause-same c = refl

pub returns-in_err-facts-clause-same : goal.returns-in_err-facts-clause-same
returns-in_err-facts-clause-same c = c.self.view_is

pub returns-clause-same : goal.returns-clause-same
returns-clause-same c = c.self.view_is

pub invariant_of-self : goal.invariant_of-self
invariant_of-self c = (c.self.invariant.0, c.go.ensures.stand)

pub invariant_of-self-2 : goal.invariant_of-self-2
invariant_of-self-2 c = (c.self.invariant.0, c.go.ensures.stand)

pub go-requires-clause-place : goal.go-requires-clause-place
go-requires-clause-place c = subst (λ v. IsPlaceOf c.args.path.now v.1) (sym c.self.view_is) c.requires

pub go-requires-clause-rules : goal.go-requires-clause-rules
go-requires-clause-rules c = c.self.invariant.0

pub go-requires-clause-stand : goal.go-requires-clause-stand
go-requires-clause-stand c = c.self.invariant.1
