-- half(x: i32[8]) sets each even cell to 7: what is made of its loop on x[0:8], and what is asked.
use Rattle.std.proofs.Common.{◌≡◌, ℕ, zero, pos, Bool, true, false, List, [], ◌∷◌, None, refl}
use Rattle.std.specs.Fmt.{digits}
use Rattle.exo_tree.specs.Tree.{Binder, I32, Control, Lit, Var, Add, Sub, Mul}
use Rattle.exo_tree.specs.Tree.{Lt, Le, Span, Const, Read, Assign, For, Alloc}
use Rattle.exo_tree.specs.Tree.{View, Block, end, next}
use Rattle.exo_tree.specs.Places.{Main}
use Rattle.exo_meaning.specs.Modes.{has_mode, no_modes}
use Rattle.buffer_laws.specs.StageMem.{is_view_used}
use Rattle.buffer_laws.specs.StageMem.{Staging, staged_block, asked_in, is_aliased, is_only_reduced}

abbrev pub named : ℕ → List ℕ → Binder
named n name = record { id = n; name = name }

-- 0 + e is e, e - 0 is e
abbrev simple : Control → Control
simple (Add (Lit (pos zero)) e) = e
simple (Sub e (Lit (pos zero))) = e
simple e = e

-- x is number 0, i number 1
abbrev pub sevens : Block
sevens = next (For (named 1 (105 ∷ [])) (Lit (pos 0)) (Lit (pos 4))
    (next (Assign 0 (Mul (Lit (pos 2)) (Var 1) ∷ []) (Const (pos 7))) end)) end

abbrev on_all : Bool → Staging
on_all accum = record {
  root = 0;
  coords = Span (Lit (pos 0)) (Lit (pos 8)) ∷ [];
  name = 116 ∷ [];
  accum = accum;
}

-- for i0 in seq(0, 8)
abbrev each_of_eight : ℕ → Block → Block
each_of_eight n b =
    next (For (named n (105 ∷ 48 ∷ [])) (Lit (pos 0)) (Lit (pos 8)) b) end

joined_text : staged_block simple (on_all false) I32 0 2 true sevens
    ≡ next (Alloc (named 2 (116 ∷ [])) I32 (Lit (pos 8) ∷ []) 0)
    (next (For (named 3 (105 ∷ 48 ∷ [])) (Lit (pos 0)) (Lit (pos 8))
    (next (Assign 2 (Var 3 ∷ []) (Read 0 (Var 3 ∷ []))) end))
    (next (For (named 1 (105 ∷ [])) (Lit (pos 0)) (Lit (pos 4))
    (next (Assign 2 (Mul (Lit (pos 2)) (Var 1) ∷ []) (Const (pos 7))) end))
    (each_of_eight 4 (next (Assign 0 (Var 4 ∷ []) (Read 2 (Var 4 ∷ []))) end))))
unfolding digits
joined_text = refl

-- 0 <= 2 * i and 2 * i < 8, in the loop
asked_there : asked_in 0 (Lit (pos 8) ∷ []) (Span (Lit (pos 0)) (Lit (pos 8)) ∷ []) [] Main 0 sevens
    ≡ (let path = record { branch = Main; index = 0 } ∷ record { branch = Main; index = 0 } ∷ [] in
    record { path = path; condition = Le (Lit (pos 0)) (Mul (Lit (pos 2)) (Var 1)) }
    ∷ record { path = path; condition = Lt (Mul (Lit (pos 2)) (Var 1)) (Lit (pos 8)) }
    ∷ [])
asked_there = refl

not_aliased : is_aliased (λ y. y) 0 sevens ≡ false
not_aliased = refl

-- with accum it is refused, since x is written
not_only_reduced : is_only_reduced
    (λ m y. has_mode (λ k. None) (λ k. no_modes) m (λ z. z) sevens y) 0 ≡ false
not_only_reduced = refl

-- w = x[0:4], and w[0] = 1 after it: the shape is wrong
used_after : is_view_used (λ y. y) 0
    (next (View (named 1 (119 ∷ [])) 0 (Span (Lit (pos 0)) (Lit (pos 4)) ∷ [])) end)
    (next (Assign 1 (Lit (pos 0) ∷ []) (Const (pos 1))) end) ≡ true
used_after = refl
