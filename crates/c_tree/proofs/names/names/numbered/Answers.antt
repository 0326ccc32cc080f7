use Rattle.std.proofs.Common.{◌≡◌, ◌∙◌, ◌++◌, sym, subst, codes, decimal, IfOk}
use Rattle.c_tree.specs.Names.Names.{pick}
use Rattle.c_tree.proofs.names.names.numbered.Goals as goal

pub returns-then-own : goal.returns-then-own
returns-then-own c = subst (λ t. IfOk c.own_numbered.result (λ n. n ≡ pick t (codes "v" ++ c.args.x.now ++ codes "_" ++ decimal c.args.k ++ codes "_") (c.args.x.now ++ codes "_" ++ decimal c.args.k))) (sym (sym c.in_ok-own.ensures ∙ c.if-own.true)) c.own_numbered.ensures

pub returns : goal.returns
returns c = subst (λ t. IfOk c.numbered.result (λ n. n ≡ pick t (codes "v" ++ c.args.x.now ++ codes "_" ++ decimal c.args.k ++ codes "_") (c.args.x.now ++ codes "_" ++ decimal c.args.k))) (sym (sym c.in_ok-own.ensures ∙ c.if-own.false)) c.numbered.ensures
