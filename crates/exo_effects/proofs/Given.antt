-- The use of an argument of a call.
use Rattle.std.proofs.Common.{◌≡◌, ◌+◌, ◌<◌, ℕ, zero, suc, List, [], ◌∷◌, map, length, get_or}
use Rattle.std.proofs.Common.{Option, Some, None, sym, ap, ◌∙◌, arith}
use Rattle.std.specs.Prelude.{slice_get, slice_range}
use Rattle.exo_tree.specs.Tree.{Argument, Procedure, Program, block}
use Rattle.exo_tree.specs.Calls.{call_arguments}
use Rattle.exo_tree.specs.Places.{Path, Opened, opened}
use Rattle.exo_tree.specs.PlainArgument.{argument}
use Rattle.exo_tree.specs.declared.argument.Arg.{Arg}
use Rattle.exo_meaning.specs.Modes.{Writing}
use Rattle.text_show.specs.StatementText.{argument_text}
use Rattle.text_show.specs.Words.{Words, words_of}
use Rattle.exo_effects.specs.Parts.{Parts, no_parts, with_params, parts_at}
use Rattle.exo_effects.specs.PlainSpots.{LeadsTo}
use Rattle.exo_effects.specs.Uses.{Use, uses_of, part_of_argument, at_hole, argument_in, argument_at}
use Rattle.exo_effects.specs.declared.piece.PieceStart.{PieceStart}

got : {A B : Type 0} (f : A → B) (xs : List A) (k : ℕ) (x : A) → k < length xs → x ≡ get_or xs k x
    → slice_get (map f xs) k ≡ Some (f x)
got f [] k x l e = absurd (omega (arith, l))
got f (y ∷ xs) zero x l e = ap (λ z. Some (f z)) (sym e)
got f (y ∷ xs) (suc k) x l e = got f xs k x (omega (arith, l)) e

-- the whole of an argument, with nothing round it
abbrev pub whole_use : Words → Parts → Argument → List Use
whole_use w parts a =
    uses_of (record { parts = parts; own = []; round = [] }) (argument_text w a) (part_of_argument parts a)
    (Writing ∷ [])

module _ (u : Program) (p : Procedure) (path : Path) (k : ℕ) where
  pub argued : (s : PieceStart) (old new : Parts) (args : List Arg) (a : Arg) (w : Words)
      → LeadsTo 1 (opened 1 path p.body) (Some s) old new → old ≡ with_params p.params no_parts
      → map argument args ≡ call_arguments (block (slice_range s.block.now s.from (s.from + 1)))
      → k < length args → a ≡ get_or args k a → w ≡ words_of u p
      → whole_use w new (argument a) ≡ argument_at u p path k
  argued s old new args a w h start given few is spoken =
      let o = h.0 in
      let names : new ≡ parts_at o.around (with_params p.params no_parts) = h.3 ∙ ap (parts_at o.around) start in
      let there : slice_get (call_arguments o.piece) k ≡ Some (argument a) =
      ap (λ b. slice_get (call_arguments b) k) h.2.1 ∙ ap (λ l. slice_get l k) (sym given) ∙ got argument args k a few is in
      (λ i. whole_use (spoken i) (names i) (argument a))
      ∙ sym (ap (λ (y : Option Argument). elim y [ None ↦ [] | Some b ↦ whole_use (words_of u p) (at_hole u p o).parts b ]) there)
      ∙ sym (ap (λ (x : Option Opened). elim x [ None ↦ [] | Some q ↦ argument_in u p q k ]) h.1)
