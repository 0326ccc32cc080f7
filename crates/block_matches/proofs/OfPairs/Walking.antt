-- Two blocks, one statement after the other.
use Rattle.std.proofs.Common.{◌≡◌, ◌≢◌, ℕ, Bool, suc, min, List, [], ◌∷◌, ◌++◌, length, drop}
use Rattle.std.proofs.Common.{refl, ap, sym, ◌∙◌, append_assoc, length-drop, arith}
use Rattle.std.proofs.Math.Path.{fun_ext}
use Rattle.exo_tree.specs.Tree.{Statement, block}
use Rattle.exo_tree.specs.Places.{Branch, Path, path_below}
use Rattle.match_laws.specs.Names.{Names}
use Rattle.match_laws.specs.Pairs.{Pair, Unlike, step_to, blocks_paired, statements_paired}
use Rattle.block_matches.specs.Pairs.Walks.{below}

-- behind a step
behind : (params bound : ℕ → Bool) (ours theirs : Names) (outer : Path) (branch : Branch) (n : ℕ)
    → below (path_below outer branch n) ≡ step_to params bound ours theirs (below outer) branch n
behind params bound ours theirs outer branch n = fun_ext (λ rest. append_assoc outer _ rest)

module _ (params bound : ℕ → Bool) (ours theirs : Names) (outer : Path) (branch : Branch) where
  abbrev paired_from : ℕ → List Statement → List Statement → List Pair
  paired_from n ss ts =
      blocks_paired params bound ours theirs (below outer) branch n (block ss) (block ts)

  pub one_on : (n m : ℕ) (old new whole : List Pair) (path : Path) (a c : Statement)
      (ss rest ts more : List Statement) → m ≡ suc n → ss ≡ a ∷ rest → ts ≡ c ∷ more
      → path ≡ path_below outer branch n
      → new ≡ old ++ statements_paired params bound ours theirs (below path) a c
      → old ++ paired_from n ss ts ≡ whole → new ++ paired_from m rest more ≡ whole
  one_on n m old new whole path a c ss rest ts more i h j p made k =
      let here : (Path → Path) → List Pair =
      λ at. statements_paired params bound ours theirs at a c in
      let at : below path ≡ step_to params bound ours theirs (below outer) branch n =
      ap below p ∙ behind params bound ours theirs outer branch n in
      ap (λ o. new ++ paired_from o rest more) i
      ∙ ap (λ l. l ++ paired_from (suc n) rest more) (made ∙ ap (λ at. old ++ here at) at)
      ∙ append_assoc old _ _
      ∙ ap (λ (l : List Statement). old ++ paired_from n l (c ∷ more)) (sym h)
      ∙ ap (λ (l : List Statement). old ++ paired_from n ss l) (sym j)
      ∙ k

  one_ends : (n : ℕ) (us vs : List Statement) → min (length us) (length vs) ≡ 0
      → length us ≢ length vs → paired_from n us vs ≡ Unlike (path_below outer branch n) ∷ []
  one_ends n [] [] h j = absurd (j refl)
  one_ends n [] (v ∷ vs) h j = refl
  one_ends n (u ∷ us) [] h j = refl
  one_ends n (u ∷ us) (v ∷ vs) h j = absurd (omega (arith, h))

  pub some_left : (k n : ℕ) (old new whole : List Pair) (path : Path) (ss ts : List Statement)
      → k ≡ min (length ss) (length ts) → length ss ≢ length ts → n ≡ k
      → path ≡ path_below outer branch n
      → new ≡ old ++ Unlike path ∷ []
      → old ++ paired_from k (drop k ss) (drop k ts) ≡ whole → new ≡ whole
  some_left k n old new whole path ss ts h j e p made g =
      let l = length-drop k ss in
      let m = length-drop k ts in
      made ∙ ap (λ q. old ++ Unlike q ∷ []) (p ∙ ap (path_below outer branch) e)
      ∙ ap (λ l. old ++ l)
      (sym (one_ends k (drop k ss) (drop k ts) (omega (arith, h, l, m)) (omega (arith, h, j, l, m))))
      ∙ g
