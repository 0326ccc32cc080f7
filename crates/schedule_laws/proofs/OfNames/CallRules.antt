-- The rules that inline views and calls, or put a call in the place of a block, give names that were
-- there.
use Rattle.std.proofs.Common.{◌≡◌, ℕ, List, Option, Some, None, option_map}
use Rattle.std.proofs.Common.{refl, subst}
use Rattle.std.specs.Prelude.{slice_get}
use Rattle.exo_tree.specs.Tree.{Argument, Statement, Assign, Reduce, Config, Pass, If, For, Alloc}
use Rattle.exo_tree.specs.Tree.{View, Call, Block, end, next, Procedure, Window}
use Rattle.exo_tree.specs.Renaming.{fresh_id}
use Rattle.exo_types_laws.specs.Shown.Named.{IsNamedStatement, IsNamedBlock, IsNamedProcedure}
use Rattle.exo_types_laws.specs.Shown.Named.{AreNamed}
use Rattle.exo_types_laws.proofs.OfShown.Each.{each_at}
use Rattle.match_laws.specs.Inline.AtOnce.{Put, puts}
use Rattle.match_laws.specs.Inline.FreshCallee.{ids_of}
use Rattle.match_laws.specs.Inline.InlineRule.{Called, called_in, with_fresh_ids}
use Rattle.match_laws.specs.Inline.InlineWindowRule.{window_draft}
use Rattle.step_rules.specs.Rule.{Tried, Got, Not}
use Rattle.step_rules.specs.Answer.{then_try}
use Rattle.step_rules.specs.Lawful.{old}
use Rattle.step_rules.proofs.Shapes.{made_of}
use Rattle.loop_laws.proofs.Sites.{found_then}
use Rattle.call_laws.specs.Calls.Here.{inlined_by}
use Rattle.call_laws.specs.Calls.Inline.{inlined_there, inline_rule}
use Rattle.call_laws.specs.Calls.InlineWindow.{inline_window_rule}
use Rattle.call_laws.specs.Calls.Puts.{put_under_statement, put_under, after}
use Rattle.call_laws.specs.Replace.Rule.{said, replace_rule}
use Rattle.schedule_laws.specs.Names.Rules.{IsNaming}
use Rattle.schedule_laws.proofs.OfNames.LoopRules.{some_same, got_same}
use Rattle.schedule_laws.proofs.OfNames.BufferRules.{at_named}

-- ---- a view

window_named : (b made : Block) → window_draft b ≡ Some made → IsNamedBlock b → IsNamedBlock made
window_named end made h named = cc
window_named (next (Assign x is e) b) made h named = cc
window_named (next (Reduce x is e) b) made h named = cc
window_named (next (Config g a) b) made h named = cc
window_named (next Pass b) made h named = cc
window_named (next (If c a d) b) made h named = cc
window_named (next (For i lo hi a) b) made h named = cc
window_named (next (Alloc x cell dims memory) b) made h named = cc
window_named (next (View w x coords) b) made h named =
    subst IsNamedBlock (some_same h) (at_named w.id (Window x coords) b named.1)
window_named (next (Call k args) b) made h named = cc

pub inline_window_names : IsNaming inline_window_rule
inline_window_names = record {
  name = λ p h. h;
  draft = λ s how base made unit proc piece h.
      let d = made_of (window_draft (old s)) (λ b. b) made h in
      subst IsNamedBlock d.made (window_named (old s) d.of d.found piece);
}

-- ---- a call

module _ (to : ℕ → ℕ) (put : Put) where
  mutual
    put_named : (b : Block) → IsNamedBlock b → IsNamedBlock (put_under to put b)
    put_named end h = tt
    put_named (next a b) h = (put_statement_named a h.0, put_named b h.1)

    put_statement_named : (a : Statement) → IsNamedStatement a
        → IsNamedStatement (put_under_statement to put a)
    put_statement_named (Assign x is e) h = tt
    put_statement_named (Reduce x is e) h = tt
    put_statement_named (Config g a) h = tt
    put_statement_named Pass h = tt
    put_statement_named (If c a b) h = (put_named a h.0, put_named b h.1)
    put_statement_named (For i lo hi b) h = (h.0, put_named b h.1)
    put_statement_named (Alloc x cell dims memory) h = h
    put_statement_named (View w x coords) h = h
    put_statement_named (Call k args) h = tt

callee_named : (base : ℕ) (c : Called) (found : Option Procedure) (made : Block)
    → option_map (inlined_by base c) found ≡ Some made
    → ((q : Procedure) → found ≡ Some q → IsNamedProcedure q) → IsNamedBlock made
callee_named base c None made h named = cc
callee_named base c (Some q) made h named =
    subst IsNamedBlock (some_same h) (put_named to (after to put) q.body (named q refl).body)
  where
    to : ℕ → ℕ
    to = fresh_id (ids_of q) base

    put : Put
    put = puts (with_fresh_ids base q).params c.args

pub inline_names : IsNaming inline_rule
inline_names = record {
  name = λ p h. h;
  draft = λ s how base made unit proc piece h.
      let d = made_of (inlined_there s base) (λ b. b) made h in
      let called = slice_get s.target.unit.procedures in
      let c = found_then (called_in (old s))
      (λ (c : Called). option_map (inlined_by base c) (called c.callee)) d.of d.found in
      subst IsNamedBlock d.made
      (callee_named base c.0 (called c.0.callee) d.of c.2
      (λ q there. each_at IsNamedProcedure s.target.unit.procedures c.0.callee q unit.procedures there));
}

-- ---- a call in the place of a block

call_named : (k : ℕ) (args : Tried (List Argument)) (made : Block)
    → then_try args (λ args. Got (next (Call k args) end)) ≡ Got made → IsNamedBlock made
call_named k (Not cause) made h = cc
call_named k (Got args) made h = subst IsNamedBlock (got_same h) (tt, tt)

pub replace_names : (k count : ℕ) → IsNaming (replace_rule k count)
replace_names k count = record {
  name = λ p h. h;
  draft = λ s how base made unit proc piece h.
      call_named k (said k s.target s.opened) made h;
}
