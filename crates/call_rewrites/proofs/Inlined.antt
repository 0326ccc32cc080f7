-- The callee's body with arguments and new ids, made by the walk.
use Rattle.std.proofs.Common.{◌≡◌, ℕ, refl, ap, ap₂, ◌∙◌}
use Rattle.exo_tree.specs.Tree.{Statement, Assign, Reduce, Config, Pass, If, For, Alloc, View, Call}
use Rattle.exo_tree.specs.Tree.{Block, end, next, Procedure}
use Rattle.exo_tree.specs.Renaming.{re_binder, fresh_id}
use Rattle.match_laws.specs.Inline.AtOnce.{Put, root_for, put_control, put_index}
use Rattle.match_laws.specs.Inline.FreshCallee.{ids_of}
use Rattle.match_laws.specs.Inline.InlineRule.{Called}
use Rattle.tree_uses.specs.Uses.{used_statement, used}
use Rattle.tree_uses.specs.Putting.{putting}
use Rattle.tree_uses.proofs.IsPut.{controls_put, condition_put, datum_put, argument_put, arguments_put}
use Rattle.call_laws.specs.Calls.Here.{inlined_by}
use Rattle.call_laws.specs.Calls.Puts.{put_under_statement, put_under}
use Rattle.call_rewrites.specs.Drafts.{put_for}
use Rattle.call_rewrites.specs.Numbered.{Numbered, numbered_from, with_ids, number_of}
use Rattle.call_rewrites.proofs.Numbers.{numbers}

module _ (to : ℕ → ℕ) (put : Put) where
  mutual
    statement_under : (a : Statement)
        → used_statement (putting to put) a ≡ put_under_statement to put a
    statement_under (Assign x is e) =
        ap (Assign (root_for put x) (put_index put x is)) (datum_put to put e)
    statement_under (Reduce x is e) =
        ap (Reduce (root_for put x) (put_index put x is)) (datum_put to put e)
    statement_under (Config f a) = ap (Config f) (argument_put to put a)
    statement_under Pass = refl
    statement_under (If c a b) =
        let p = condition_put to put c in
        let q = block_under a in
        let r = block_under b in
        λ j. If (p j) (q j) (r j)
    statement_under (For i lo hi b) =
        ap (For (re_binder to i) (put_control put lo) (put_control put hi)) (block_under b)
    statement_under (Alloc x cell dims memory) =
        ap (λ ds. Alloc (re_binder to x) cell ds memory) (controls_put to put dims)
    statement_under (View w x cs) = refl
    statement_under (Call k args) = ap (Call k) (arguments_put to put args)

    block_under : (b : Block) → used (putting to put) b ≡ put_under to put b
    block_under end = refl
    block_under (next a b) = ap₂ next (statement_under a) (block_under b)

pub inlined_is : (first : ℕ) (c : Called) (q : Procedure) (t : Numbered) (b : Block)
    → t ≡ with_ids (ids_of q) (numbered_from first)
    → b ≡ used (putting (number_of t) (put_for (number_of t) q.params c.args)) q.body
    → b ≡ inlined_by first c q
inlined_is first c q t b h e =
    let ids : number_of t ≡ fresh_id (ids_of q) first =
    ap number_of h ∙ numbers (ids_of q) first in
    e
    ∙ ap (λ (to : ℕ → ℕ). used (putting to (put_for to q.params c.args)) q.body) ids
    ∙ block_under (fresh_id (ids_of q) first)
    (put_for (fresh_id (ids_of q) first) q.params c.args) q.body
