use Rattle.std.proofs.Common.{ℕ, ◌+◌, ◌<◌, ◌≡◌, Bool, true, false, ◌&&◌, List, [], ◌∷◌, ◌++◌, map, length, take, get_or}
use Rattle.std.proofs.Common.{arith, ap, sym, subst, ◌∙◌}
use Rattle.std.proofs.lemmas.Bool.{false≢true}
use Rattle.std.proofs.lemmas.List.{take_more, take_all, flat_map_more}
use Rattle.std.proofs.lemmas.List.Folds.{list_all-append}
use Rattle.std.specs.List.{list_all, flat_map}
use Rattle.affine_forms.specs.Affine.{Affine}
use Rattle.affine_prover.specs.RowSets.Rows.{combination, is_narrow_combination}
use Rattle.affine_prover.proofs.OfRowSets.Filtering.{all-fails}
use Rattle.affine_prover.proofs.row_sets.combine.combine_all.Goals as goal

pub returns-then-not-branch : goal.returns-then-not-branch
returns-then-not-branch c =
    let wide : list_all (is_narrow_combination c.args.v c.p-item.result) c.args.upper.now ≡ false = sym c.in_ok-combine_with.ensures.0 ∙ c.if-not-branch.true in (
      sym (all-fails (λ p. list_all (is_narrow_combination c.args.v p) c.args.upper.now) c.args.lower.now c.loop-p.p-index c.p-item.result (omega arith) c.p-item.is wide),
      λ t. absurd (false≢true t),
    )

-- one more row whose combinations were made
combined-next :
    {X Y : Type 0} (f : X → List Y) (n : X → Bool) (xs : List X) (i : ℕ) (x : X) (start made next : List Y)
    → i < length xs → x ≡ get_or xs i x → made ≡ start ++ flat_map f (take i xs) → list_all n (take i xs) ≡ true
    → n x ≡ true → next ≡ made ++ f x
    → (next ≡ start ++ flat_map f (take (i + 1) xs)) × (list_all n (take (i + 1) xs) ≡ true)
combined-next f n xs i x start made next l e m a k p =
    let more = take_more xs i x l ∙ ap (λ z. take i xs ++ z ∷ []) (sym e) in (
      p ∙ ap (λ zs. zs ++ f x) m ∙ flat_map_more f start (take i xs) x ∙ ap (λ zs. start ++ flat_map f zs) (sym more),
      ap (list_all n) more ∙ list_all-append n (take i xs) (x ∷ []) ∙ ap (λ b. b && (n x && true)) a
          ∙ ap (λ b. b && true) k,
    )

pub loop-p-preserved : goal.loop-p-preserved
loop-p-preserved c =
    let both = combined-next (λ p. map (combination c.args.v p) c.args.upper.now)
    (λ p. list_all (is_narrow_combination c.args.v p) c.args.upper.now) c.args.lower.now c.loop-p.p-index
    c.p-item.result c.args.next.now.items c.loop-p.next.items c.combine_with.new.next.items c.loop-p-test.true
    c.p-item.is c.loop-p.invariant.made c.loop-p.invariant.narrow
    (sym c.in_ok-combine_with.ensures.0 ∙ c.if-not-branch.false)
    (c.in_ok-combine_with.ensures.1 c.if-not-branch.false) in
    record { made = both.0; narrow = both.1 }

pub returns : goal.returns
returns c =
    let whole = take_all c.loop-p.p-index c.args.lower.now c.loop-p-test.false in (
      sym (ap (list_all (λ p. list_all (is_narrow_combination c.args.v p) c.args.upper.now)) (sym whole)
          ∙ c.loop-p.invariant.narrow),
      λ _. c.loop-p.invariant.made ∙ ap (λ ps. c.args.next.now.items ++ flat_map
          (λ p. map (combination c.args.v p) c.args.upper.now) ps) whole,
    )

pub combine_with-requires-clause-wide : goal.combine_with-requires-clause-wide
combine_with-requires-clause-wide c =
    let wide = ap (λ (r : Affine). length r.coefficients) c.p-item.is
    ∙ c.requires.wide_lower c.loop-p.p-index c.p-item.result c.loop-p-test.true in
    λ k d l. c.requires.wide_upper k d l ∙ sym wide

pub combine_with-requires-clause-below : goal.combine_with-requires-clause-below
combine_with-requires-clause-below c =
    let wide = ap (λ (r : Affine). length r.coefficients) c.p-item.is
    ∙ c.requires.wide_lower c.loop-p.p-index c.p-item.result c.loop-p-test.true in
    subst (λ n. c.args.v < n) (sym wide) c.requires.below
