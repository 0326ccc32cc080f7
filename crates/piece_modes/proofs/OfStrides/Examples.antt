-- keep(w: [i32][4]) keeps stride(w, 0) in a field and asserts nothing; over(x: [i32][8], y: [i32][8])
-- calls it on a window of a view of x; told(w: [i32][4]) asserts what stride(w, 0) is, and sets w[0].
use Rattle.std.proofs.Common.{◌≡◌, ℕ, pos, true, false, List, [], ◌∷◌, None, refl}
use Rattle.exo_tree.specs.Tree.{Binder, Condition, I32, Stride, Lit, StrideOf, Eq, Span, Const, Whole, Window, ControlArg, Param, WindowParam, Assign, Config, View, Call, Block, end, next, Procedure, Program}
use Rattle.exo_meaning.specs.Scene.{updated}
use Rattle.piece_modes.specs.Strides.Seen.{param_seen, is_used_in}
use Rattle.piece_modes.specs.Strides.Table.{seen_rows, word_at}

abbrev binder : ℕ → Binder
binder n = record { id = n; name = n ∷ [] }

abbrev window : ℕ → Param
window n = record { binder = binder n; kind = WindowParam I32 (Lit (pos 4) ∷ []) 0 }

abbrev of_windows : ℕ → List Param → List Condition → Block → Procedure
of_windows n ps asserts b = record {
  name = n ∷ [];
  params = ps;
  asserts = asserts;
  body = b;
  template = None;
}

abbrev keep : Procedure
keep = of_windows 97 (window 1 ∷ []) [] (next (Config 0 (ControlArg (StrideOf 1 0))) end)

abbrev over : Procedure
over = of_windows 98 (window 1 ∷ window 2 ∷ []) []
    (next (View (binder 3) 1 (Span (Lit (pos 0)) (Lit (pos 8)) ∷ []))
    (next (Call 0 (Window 3 (Span (Lit (pos 0)) (Lit (pos 4)) ∷ []) ∷ [])) end))

abbrev told : Procedure
told = of_windows 99 (window 1 ∷ []) (Eq (StrideOf 1 0) (Lit (pos 1)) ∷ [])
    (next (Assign 1 (Lit (pos 0) ∷ []) (Const (pos 7))) end)

abbrev program : Program
program = record {
  procedures = keep ∷ over ∷ told ∷ [];
  fields = record { config = 67 ∷ []; name = 115 ∷ []; kind = Stride } ∷ [];
  memories = [];
}

-- what a callee sees of a window of a view is seen of the parameter
through_a_view : param_seen program 1 0 ≡ true
through_a_view = refl

not_of_others : param_seen program 1 1 ≡ false
not_of_others = refl

-- an assertion does not count
assertions_left_out : param_seen program 2 0 ≡ false
assertions_left_out = refl

-- the whole table
whole_table : seen_rows program ≡ (true ∷ []) ∷ (true ∷ false ∷ []) ∷ (false ∷ []) ∷ []
whole_table = refl

-- no such parameter
none_there : word_at (seen_rows program) 1 2 ≡ false
none_there = refl

-- behind the view, a block that passes a part of it uses a stride of its buffer
abbrev behind_view : ℕ → ℕ
behind_view = updated (λ y. y) 3 1

abbrev passing : Block
passing = next (Call 0 (Window 3 (Span (Lit (pos 0)) (Lit (pos 4)) ∷ []) ∷ [])) end

used_by_parts : is_used_in program behind_view 1 passing ≡ true
used_by_parts = refl

not_of_another : is_used_in program behind_view 2 passing ≡ false
not_of_another = refl

-- so does not one that passes it where an assertion alone looks at strides
used_by_none : is_used_in program behind_view 1 (next (Call 2 (Whole 3 ∷ [])) end) ≡ false
used_by_none = refl
