-- New ids that the callee has already, and why buffers stand for buffers.
use Rattle.std.proofs.Common.{◌≡◌, ℕ, suc, pos, ◌+◌, [], ◌∷◌, None, refl}
use Rattle.exo_tree.specs.Tree.{I32, Size, Lit, Var, Const, Flag, ControlArg, Whole, ControlParam, WindowParam}
use Rattle.exo_tree.specs.Tree.{Assign, For, Binder, Block, end, next, Procedure}
use Rattle.exo_tree.specs.Renaming.{re_block}
use Rattle.match_laws.specs.Inline.InlineRule.{with_fresh_ids}
use Rattle.match_laws.specs.Inline.AtOnce.{Put, put_block}
use Rattle.call_laws.specs.Calls.Puts.{after, put_under}
use Rattle.call_laws.specs.Calls.Here.{inlined_by}

abbrev named : ℕ → Binder
named x = record { id = x; name = (97 + x) ∷ [] }

-- `def p(f: size, w: window of f): for c in seq(0, f): w[c] = 1`, with the ids 5, 6 and 2
abbrev callee : Procedure
callee =
    record {
      name = [];
      params =
          record { binder = named 5; kind = ControlParam Size }
          ∷ record { binder = named 6; kind = WindowParam I32 (Var 5 ∷ []) 0 } ∷ [];
      asserts = [];
      body = next (For (named 2) (Lit (pos 0)) (Var 5) (next (Assign 6 (Var 2 ∷ []) (Const (pos 1))) end)) end;
      template = None;
    }

-- from 4 on its ids are 4, 5 and 6: the number 5 goes to one id and is another one's
abbrev filled : ℕ → ℕ → ℕ → Block
filled i n w = next (For (record { id = i; name = 99 ∷ [] }) (Lit (pos 0)) (Var n) (next (Assign w (Var i ∷ []) (Const (pos 1))) end)) end

renumbered_body : (with_fresh_ids 4 callee).body ≡ filled 4 5 6
renumbered_body = refl

-- called with its number of cells, 1, and a buffer, 0
once : inlined_by 4 (record { callee = 0; args = ControlArg (Var 1) ∷ Whole 0 ∷ [] }) callee ≡ filled 4 1 0
once = refl

-- a number for a buffer: the root of a name would be the new id on one side and the old one on the other
abbrev number_put : Put
number_put = record { variable = λ x. Var x; flag = λ x. Flag x; name = λ x. ControlArg (Lit (pos 0)) }

abbrev store : ℕ → Block
store x = next (Assign x [] (Const (pos 1))) end

new_side : put_block number_put (re_block (λ x. suc x) (store 0)) ≡ store 1
new_side = refl

old_side : put_under (λ x. suc x) (after (λ x. suc x) number_put) (store 0) ≡ store 0
old_side = refl
