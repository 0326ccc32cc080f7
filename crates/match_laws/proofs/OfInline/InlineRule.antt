-- A procedure with a call inlined by the rewrite is a refinement.
use Rattle.std.proofs.Common.{◌≡◌, ℕ, List, [], Option, Some, None, slice_get, refl, sym, ap}
use Rattle.std.proofs.Common.{◌∙◌, subst}
use Rattle.exo_tree.specs.Tree.{Argument, Call, Block, end, next, Procedure}
use Rattle.exo_tree.specs.Context.{fill}
use Rattle.exo_tree.specs.Places.{Opened}
use Rattle.exo_meaning.specs.Run.{World, unit_world}
use Rattle.exo_meaning.specs.Inputs.{Refines}
use Rattle.meaning_laws.proofs.Parts.{some_injective}
use Rattle.meaning_laws.proofs.Places.{opened_law}
use Rattle.inplace_laws.specs.Inline.{inlined, MayInline}
use Rattle.inplace_laws.proofs.Inline.{inline_refines}
use Rattle.match_laws.specs.Inline.InlineRule.{called_in, with_fresh_ids, inlined_call}
use Rattle.match_laws.specs.Inline.InlineRule.{inline_draft, InlineRule}

pub no_some : {A : Type 0} (a : A) → None ≡ Some a → ⊥
no_some a e = cc

abbrev call : ℕ → List Argument → Block
call k args = next (Call k args) end

-- the draft in the place
abbrev pub Made : World → Procedure → Opened → Block → Type 0
Made world p o made = Refines world p (record p { body = fill o.around made }) []

pub inline_rule : InlineRule
inline_rule kinds ps p at base o made above own opens draft may = go o.piece refl draft
  where
    by_callee : (k : ℕ) (args : List Argument) (callee : Option Procedure)
        → o.piece ≡ call k args → slice_get ps k ≡ callee
        → inlined_call base args callee ≡ Some made → Made (unit_world kinds ps) p o made
    by_callee k args None e f d = absurd (no_some made d)
    by_callee k args (Some q) e f d =
        let fresh = with_fresh_ids base q in
        let body = inlined fresh.params args fresh.body in
        subst (λ b. Made (unit_world kinds ps) p o b)
        (some_injective body made d)
        (inline_refines kinds ps p fresh o.around k args above own
        (sym (opened_law 1 at p.body o opens) ∙ ap (fill o.around) e)
        (subst (λ b. MayInline (unit_world kinds ps) above own p fresh o.around b k args) e
        (may (record { callee = k; args = args }) q (ap called_in e) f)))

    go : (b : Block) → o.piece ≡ b → inline_draft ps base b ≡ Some made
        → Made (unit_world kinds ps) p o made
    go end e d = absurd (no_some made d)
    go (next a (next b c)) e d = absurd (no_some made d)
    go (next (Call k args) end) e d = by_callee k args (slice_get ps k) e refl d
    go (next a end) e d = absurd (no_some made d)
