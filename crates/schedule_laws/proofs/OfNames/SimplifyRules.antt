-- The rule that simplifies gives names that were there.
use Rattle.std.proofs.Common.{◌≡◌, ℕ, Bool, true, false, subst}
use Rattle.std.specs.Prelude.{if◌then◌else◌}
use Rattle.exo_tree.specs.Tree.{Control, Statement, Assign, Reduce, Config, Pass, If, For, Alloc}
use Rattle.exo_tree.specs.Tree.{View, Call, Block, end, next}
use Rattle.exo_types_laws.specs.Shown.Named.{IsNamedStatement, IsNamedBlock}
use Rattle.match_laws.specs.Simplify.SameControls.{in_statement, in_block}
use Rattle.cursor_forward.specs.Causes.{WideNumber, Form}
use Rattle.step_rules.specs.Rule.{Got, Not, Spot, Writing, AsMade, Simplified}
use Rattle.call_laws.specs.Simplify.{simpler, reading_of, all_fit, simplify_draft, simplify_rule}
use Rattle.schedule_laws.specs.Names.Rules.{IsNaming}
use Rattle.schedule_laws.proofs.OfNames.LoopRules.{got_same}

module _ (f : Control → Control) where
  mutual
    in_named : (b : Block) → IsNamedBlock b → IsNamedBlock (in_block f b)
    in_named end h = tt
    in_named (next a b) h = (in_statement_named a h.0, in_named b h.1)

    in_statement_named : (a : Statement) → IsNamedStatement a → IsNamedStatement (in_statement f a)
    in_statement_named (Assign x is e) h = tt
    in_statement_named (Reduce x is e) h = tt
    in_statement_named (Config g a) h = tt
    in_statement_named Pass h = tt
    in_statement_named (If c a b) h = (in_named a h.0, in_named b h.1)
    in_statement_named (For i lo hi b) h = (h.0, in_named b h.1)
    in_statement_named (Alloc x cell dims memory) h = h
    in_statement_named (View w x coords) h = h
    in_statement_named (Call k args) h = tt

by_fit : (fits : Bool) (new made : Block)
    → (if fits then Got new else Not (Form WideNumber)) ≡ Got made
    → IsNamedBlock new → IsNamedBlock made
by_fit true new made h named = subst IsNamedBlock (got_same h) named
by_fit false new made h named = cc

draft_named : (s : Spot) (how : Writing) (base : ℕ) (made : Block)
    → simplify_draft s how base ≡ Got made → IsNamedBlock s.opened.piece → IsNamedBlock made
draft_named s AsMade base made h named =
    subst IsNamedBlock (got_same h) named
draft_named s Simplified base made h named =
    by_fit (all_fit (reading_of s.target) s.opened.piece)
    (in_block (simpler (reading_of s.target)) s.opened.piece) made h
    (in_named (simpler (reading_of s.target)) s.opened.piece named)

pub simplify_names : IsNaming simplify_rule
simplify_names = record {
  name = λ p h. h;
  draft = λ s how base made unit proc piece h. draft_named s how base made h piece;
}
