-- What is known of fields at a place, and the facts there, are affine over variables below 2^31.
use Rattle.std.proofs.Common.{◌≡◌, ◌^◌, ℕ, zero, suc, ◌==◌, nat_lt, Bool, true, false, cond, ◌&&◌}
use Rattle.std.proofs.Common.{List, [], ◌∷◌, ◌++◌, map, refl, ap₂}
use Rattle.std.specs.List.{list_all}
use Rattle.exo_tree.specs.Tree.{Kind, Size, Index, Truth, Stride, Argument, Statement}
use Rattle.exo_tree.specs.Tree.{Assign, Reduce, Config, Pass, If, For, Alloc, View, Call}
use Rattle.exo_tree.specs.Tree.{Block, end, next, Param, ParamKind, ControlParam, TensorParam}
use Rattle.exo_tree.specs.Tree.{WindowParam, Procedure, Program}
use Rattle.exo_tree.specs.Context.{Context, Here, After, InLoop, InThen, InElse, fill}
use Rattle.exo_tree.specs.Places.{Branch, Main, Else, Path}
use Rattle.exo_meaning.specs.Orders.{Each}
use Rattle.meaning_laws.specs.Facts.{Fact, Holds}
use Rattle.meaning_laws.specs.Fields.{writes_field}
use Rattle.meaning_laws.specs.Known.{kind_facts, param_facts, params_facts}
use Rattle.meaning_laws.specs.KnownFields.{Known, UnknownAt, KnownFields, at_entry, Telling, path_in}
use Rattle.meaning_laws.specs.KnownFields.{forgotten, agreed, same_value, after, at_end}
use Rattle.meaning_laws.specs.PlaceFacts.{PlaceFact, facts_round, place_facts}
use Rattle.meaning_laws.specs.PlaceFacts.{all_written, step_all_written, is_written, AreWritten}
use Rattle.meaning_laws.proofs.Known.{each_join}
use Rattle.affine_forms.proofs.Values.{and_parts}
use Rattle.check_facts.specs.Contexts.{telling}
use Rattle.exo_effects.specs.Low.{is_low, condition_is_low, fact_is_low, block_is_low}
use Rattle.exo_effects.specs.Low.{statement_is_low}
use Rattle.effect_laws.proofs.OfBounds.LowNames.{may_be_written}

abbrev low_id : ℕ → Bool
low_id x = nat_lt x (2 ^ 31)

-- what is known of each field is low
abbrev pub KnownLow : KnownFields → Type 0
KnownLow known = AreWritten may_be_written known

-- and so is the fact
abbrev pub IsLow : PlaceFact → Type 0
IsLow e = KnownLow e.known × (fact_is_low e.fact ≡ true)

-- ---- after statements

forgotten_low :
    (w : ℕ → Bool) (path : Path) (known : KnownFields)
    → KnownLow known → KnownLow (forgotten w path known)
forgotten_low w path known h f = go (w f)
  where
    go : (z : Bool) → is_written may_be_written f (cond z (UnknownAt path) (known f)) ≡ true
    go true = refl
    go false = h f

module _ (u : Program) (p : Procedure) where
  abbrev tell : Telling
  tell = telling u p

  agreed_low :
      (path : Path) (one two : KnownFields)
      → KnownLow one → KnownLow (agreed tell.agree path one two)
  agreed_low path one two h f = go (same_value tell.agree (one f) (two f))
    where
      go : (z : Bool) → is_written may_be_written f (cond z (one f) (UnknownAt path)) ≡ true
      go true = h f
      go false = refl

  set_low :
      (f g : ℕ) (a : Argument) (known : KnownFields)
      → may_be_written g a ≡ true → KnownLow known
      → (z : Bool) → is_written may_be_written f (cond z (Known a) (known f)) ≡ true
  set_low f g a known k h true = k
  set_low f g a known k h false = h f

  mutual
    after_low :
        (path : Path) (a : Statement) (known : KnownFields)
        → step_all_written may_be_written a ≡ true
        → KnownLow known → KnownLow (after tell path a known)
    after_low path (Assign x is e) known k h = h
    after_low path (Reduce x is e) known k h = h
    after_low path (Config g a) known k h = λ f. set_low f g a known k h (f == g)
    after_low path Pass known k h = h
    after_low path (If c a b) known k h =
        let q = and_parts (all_written may_be_written a) (all_written may_be_written b) k in
        agreed_low path (at_end tell path Main zero a known) (at_end tell path Else zero b known)
        (at_end_low path Main zero a known q.0 h)
    after_low path (For i lo hi b) known k h =
        forgotten_low (λ f. writes_field tell.writes f b) path known h
    after_low path (Alloc x cell dims memory) known k h = h
    after_low path (View w x coords) known k h = h
    after_low path (Call n args) known k h = forgotten_low (tell.writes n) path known h

    at_end_low :
        (outer : Path) (branch : Branch) (n : ℕ) (b : Block) (known : KnownFields)
        → all_written may_be_written b ≡ true
        → KnownLow known → KnownLow (at_end tell outer branch n b known)
    at_end_low outer branch n end known k h = h
    at_end_low outer branch n (next a b) known k h =
        let path = path_in outer branch n in
        let q = and_parts (step_all_written may_be_written a) (all_written may_be_written b) k in
        at_end_low outer branch (suc n) b (after tell path a known) q.1
        (after_low path a known q.0 h)

  -- ---- round a place

  round_low :
      (outer : Path) (branch : Branch) (n : ℕ) (c : Context) (old : Block) (known : KnownFields)
      → all_written may_be_written (fill c old) ≡ true
      → block_is_low (fill c old) ≡ true
      → KnownLow known
      → Each IsLow (facts_round tell outer branch n c old known)
  round_low outer branch n (Here rest) old known w l h = tt
  round_low outer branch n (After a c) old known w l h =
      let path = path_in outer branch n in
      let b = fill c old in
      let v = and_parts (step_all_written may_be_written a) (all_written may_be_written b) w in
      round_low outer branch (suc n) c old (after tell path a known) v.1
      (and_parts (statement_is_low a) (block_is_low b) l).1 (after_low path a known v.0 h)
  round_low outer branch n (InLoop i lo hi c rest) old known w l h =
      let path = path_in outer branch n in
      let b = fill c old in
      let v = and_parts (all_written may_be_written b) (all_written may_be_written rest) w in
      let s = and_parts (statement_is_low (For i lo hi b)) (block_is_low rest) l in
      let q = and_parts (low_id i.id) ((is_low lo && is_low hi) && block_is_low b) s.0 in
      let r = and_parts (is_low lo && is_low hi) (block_is_low b) q.1 in
      let t = and_parts (is_low lo) (is_low hi) r.0 in (
        (h, ap₂ ◌&&◌ t.0 q.0),
        (
          (h, ap₂ ◌&&◌ q.0 t.1),
          round_low path Main zero c old (forgotten (λ f. writes_field tell.writes f b) path known)
              v.0 r.1 (forgotten_low (λ f. writes_field tell.writes f b) path known h),
        ),
      )
  round_low outer branch n (InThen t c other rest) old known w l h =
      let b = fill c old in
      let v = and_parts (all_written may_be_written b && all_written may_be_written other)
      (all_written may_be_written rest) w in
      let s = and_parts (statement_is_low (If t b other)) (block_is_low rest) l in
      let q = and_parts (condition_is_low t) (block_is_low b && block_is_low other) s.0 in (
        (h, q.0),
        round_low (path_in outer branch n) Main zero c old known
            (and_parts (all_written may_be_written b) (all_written may_be_written other) v.0).0
            (and_parts (block_is_low b) (block_is_low other) q.1).0 h,
      )
  round_low outer branch n (InElse t other c rest) old known w l h =
      let b = fill c old in
      let v = and_parts (all_written may_be_written other && all_written may_be_written b)
      (all_written may_be_written rest) w in
      let s = and_parts (statement_is_low (If t other b)) (block_is_low rest) l in
      let q = and_parts (condition_is_low t) (block_is_low other && block_is_low b) s.0 in (
        (h, q.0),
        round_low (path_in outer branch n) Else zero c old known
            (and_parts (all_written may_be_written other) (all_written may_be_written b) v.0).1
            (and_parts (block_is_low other) (block_is_low b) q.1).1 h,
      )

  -- ---- of parameters and assertions

  abbrev at_first : List Fact → List PlaceFact
  at_first facts = map (λ fact. record { known = at_entry; fact = fact }) facts

  first_low :
      (facts : List Fact) → list_all fact_is_low facts ≡ true → Each IsLow (at_first facts)
  first_low [] h = tt
  first_low (e ∷ facts) h =
      let q = and_parts (fact_is_low e) (list_all fact_is_low facts) h in
      ((λ f. refl, q.0), first_low facts q.1)

  pub facts_low :
      (c : Context) (old : Block)
      → list_all low_id (map (λ q. q.binder.id) p.params) ≡ true
      → list_all fact_is_low (map Holds p.asserts) ≡ true
      → all_written may_be_written (fill c old) ≡ true
      → block_is_low (fill c old) ≡ true
      → Each IsLow (place_facts tell p c old)
  facts_low c old ids asserts w l =
      let first = params_facts p.params ++ map Holds p.asserts in
      each_join IsLow (at_first first) (facts_round tell [] Main zero c old at_entry)
      (first_low first (both_low (params_facts p.params) (map Holds p.asserts)
      (params_low p.params ids) asserts))
      (round_low [] Main zero c old at_entry w l (λ f. refl))
    where
      both_low :
          (xs ys : List Fact)
          → list_all fact_is_low xs ≡ true → list_all fact_is_low ys ≡ true
          → list_all fact_is_low (xs ++ ys) ≡ true
      both_low [] ys g h = h
      both_low (x ∷ xs) ys g h =
          let q = and_parts (fact_is_low x) (list_all fact_is_low xs) g in
          ap₂ ◌&&◌ q.0 (both_low xs ys q.1 h)

      kind_low :
          (x : ℕ) (kind : Kind) → low_id x ≡ true → list_all fact_is_low (kind_facts x kind) ≡ true
      kind_low x Size h = ap₂ ◌&&◌ h refl
      kind_low x Index h = refl
      kind_low x Truth h = ap₂ ◌&&◌ h (ap₂ ◌&&◌ (ap₂ ◌&&◌ h refl) refl)
      kind_low x Stride h = refl

      param_low :
          (x : ℕ) (kind : ParamKind)
          → low_id x ≡ true → list_all fact_is_low (param_facts x kind) ≡ true
      param_low x (ControlParam kind) h = kind_low x kind h
      param_low x (TensorParam cell dims memory) h = refl
      param_low x (WindowParam cell dims memory) h = refl

      params_low :
          (ps : List Param)
          → list_all low_id (map (λ q. q.binder.id) ps) ≡ true
          → list_all fact_is_low (params_facts ps) ≡ true
      params_low [] h = refl
      params_low (q ∷ ps) h =
          let r = and_parts (low_id q.binder.id) (list_all low_id (map (λ q. q.binder.id) ps)) h in
          both_low (param_facts q.binder.id q.kind) (params_facts ps)
          (param_low q.binder.id q.kind r.0) (params_low ps r.1)
