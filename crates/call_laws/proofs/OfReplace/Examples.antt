-- Ids of matched blocks.
use Rattle.std.proofs.Common.{◌≡◌, ℕ, pos, false, List, [], ◌∷◌, map, None, arith, refl, sym, ap, ◌∙◌}
use Rattle.exo_tree.specs.Tree.{I32, Control, Lit, Var, Const, Span, Window, Assign, Pass, For}
use Rattle.exo_tree.specs.Tree.{Block, end, next, Binder, WindowParam, Param, Procedure}
use Rattle.exo_tree.specs.Renaming.{binders}
use Rattle.exo_meaning.specs.Renaming.{Renaming}
use Rattle.exo_meaning.specs.Units.{are_distinct}
use Rattle.match_laws.specs.Names.{names_of}
use Rattle.match_laws.specs.Matched.{Arguments, matched}
use Rattle.match_laws.proofs.Instances.{own}
use Rattle.call_laws.proofs.OfReplace.BlockIds.{block_ids}

abbrev named : ℕ → Binder
named x = record { id = x; name = [] }

abbrev procedure : List Param → Block → Procedure
procedure ps b = record { name = []; params = ps; asserts = []; body = b; template = None }

abbrev lit : ℕ → Control
lit n = Lit (pos n)

-- ---- for i in seq(0, 4): x[i] = 1

abbrev fills : ℕ → ℕ → Block
fills i x =
    next (For (named i) (lit 0) (lit 4) (next (Assign x (Var i ∷ []) (Const (pos 1))) end)) end

abbrev eight : ℕ → Param
eight x = record { binder = named x; kind = WindowParam I32 (lit 8 ∷ []) 0 }

abbrev filler : ℕ → ℕ → Procedure
filler i x = procedure (eight x ∷ []) (fills i x)

fills_match : matched own (names_of (filler 5 7)) (fills 5 7) (filler 1 0)
    ≡ Arguments (Window 7 (Span (lit 0) (lit 8) ∷ []) ∷ [])
fills_match = refl

-- the binder gets the id of the block's, the parameter the first new one
ids_are_taken : (r : Renaming) × ((r.to 1 ∷ [] ≡ 5 ∷ []) × (r.to 0 ∷ [] ≡ 9 ∷ []))
ids_are_taken =
    let told = block_ids own (names_of (filler 5 7)) (fills 5 7) (filler 1 0)
    (Window 7 (Span (lit 0) (lit 8) ∷ []) ∷ []) 9 fills_match refl refl refl in
    (told.0, (told.1.body, told.1.params))

-- ---- two loops that bind one id: the match does not see it, and no renaming gives it

abbrev pass_twice : ℕ → ℕ → Block
pass_twice i j =
    next (For (named i) (lit 0) (lit 4) (next Pass end))
    (next (For (named j) (lit 0) (lit 4) (next Pass end)) end)

twice_matches : matched own (names_of (procedure [] (pass_twice 5 5))) (pass_twice 5 5)
    (procedure [] (pass_twice 1 2)) ≡ Arguments []
twice_matches = refl

not_distinct : are_distinct (binders (pass_twice 5 5)) ≡ false
not_distinct = refl

one_of : (a b c d : ℕ) → a ∷ b ∷ [] ≡ c ∷ d ∷ [] → a ≡ c
one_of a b c d e = cc

other_of : (a b c d : ℕ) → a ∷ b ∷ [] ≡ c ∷ d ∷ [] → b ≡ d
other_of a b c d e = cc

apart : (m n : ℕ) → m ≡ n → m ≡ 1 → n ≡ 2 → ⊥
apart m n e h k = omega arith

no_renaming : (r : Renaming) → map r.to (binders (pass_twice 1 2)) ≡ binders (pass_twice 5 5) → ⊥
no_renaming r e = apart 1 2 (sym (r.from_to 1)
    ∙ ap r.from (one_of (r.to 1) (r.to 2) 5 5 e ∙ sym (other_of (r.to 1) (r.to 2) 5 5 e))
    ∙ r.from_to 2) refl refl
