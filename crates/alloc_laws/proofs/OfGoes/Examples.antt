-- Of p(x: i32[8]), statements are staged on x[2:6] that leave names of their own; what follows uses
-- those that do not see x.
use Rattle.std.proofs.Common.{Some}
use Rattle.std.proofs.Common.{◌≡◌, ◌==◌, ◌||◌, ℕ, ℤ, pos, Bool, true, false, true≢false, List}
use Rattle.std.proofs.Common.{[], ◌∷◌, Option, None, IsSome, option_map, refl, sym, ap, ◌∙◌, subst, eqb-true}
use Rattle.exo_tree.specs.Tree.{Binder, I32, Control, Lit, Coord, Span, TensorParam, Param, Const}
use Rattle.exo_tree.specs.Tree.{Read, Assign, Reduce, Alloc, View, Statement, Block, end, next}
use Rattle.exo_tree.specs.Tree.{Procedure, joined}
use Rattle.exo_tree.specs.Context.{Context, Here, fill}
use Rattle.exo_meaning.specs.Scene.{Side, Seen, narrowed, window, then_do, Scene, whole}
use Rattle.exo_meaning.specs.State.{State}
use Rattle.exo_meaning.specs.Inputs.{IsAdmissible, Refines}
use Rattle.exo_meaning.specs.Run.{World, unit_world, kinds_of, run}
use Rattle.exo_meaning.specs.Units.{scope_of, field_kind}
use Rattle.meaning_laws.specs.Context.{ComesTo, MayReplace}
use Rattle.meaning_laws.specs.Sorted.{MayRun, scope_at}
use Rattle.meaning_laws.specs.Sound.{IsUnbound}
use Rattle.meaning_laws.proofs.Copies.{sound_law, unbound_law}
use Rattle.meaning_laws.proofs.Replace.{context_law}
use Rattle.place_laws.specs.Scope.Scopes.{top_binders, HasNone}
use Rattle.place_laws.specs.Scope.Roots.{own_roots_at}
use Rattle.buffer_laws.specs.Staging.Converted.{FitsAlong, FitsWithin}
use Rattle.buffer_laws.proofs.OfStaging.AtPlaces.{known_at_place}
use Rattle.buffer_laws.proofs.OfStaging.Converted.{fits_law}
use Rattle.buffer_laws.specs.Simplified.{IsSimplifier}
use Rattle.buffer_laws.specs.StageMem.{Staging, sizes, loads, stores, asked_of_statement, staged_block}
use Rattle.buffer_laws.specs.StageLaws.{staging_of, as_made, with_simpler, reader_as_made}
use Rattle.buffer_laws.specs.StageLaws.{reader_with_simpler}
use Rattle.buffer_laws.specs.StageAccum.{sums_of, sums_as_made, sums_with_simpler}
use Rattle.buffer_laws.specs.Sums.{zero_nest}
use Rattle.buffer_laws.proofs.OnlyAdds.{only_adds_at_place}
use Rattle.buffer_laws.specs.Stride.OnView.{AllHold, LiesWithin}
use Rattle.buffer_laws.specs.Stride.Passed.{ArePassed}
use Rattle.buffer_laws.specs.Stride.Strides.{stride_seen}
use Rattle.buffer_laws.proofs.OfStride.Along.{each_within, EachAlong}
use Rattle.buffer_laws.specs.Staging.Converted.{converted}
use Rattle.alloc_laws.specs.Goes.Goes.{goes, IsStaged}
use Rattle.alloc_laws.proofs.OfGoes.EndsAtPlace.{ends_well_at_place}
use Rattle.alloc_laws.proofs.OfGoes.GoesDrafts.{staged_draft_goes, reader_draft_goes, sums_draft_go}
use Rattle.alloc_laws.proofs.OfGoes.GoesDrafts.{untouched_draft_goes, unseen_draft_goes}
use Rattle.alloc_laws.proofs.OfGoes.GoesDrafts.{goes_unused}
use Rattle.alloc_laws.specs.Goes.Fits.{passes_whole}
use Rattle.alloc_laws.proofs.OfGoes.Matches.{matches_by_rules}
use Rattle.alloc_laws.proofs.OfGoes.Fits.{whole_law, fits_from_lies, window_comes, window_shown}
use Rattle.alloc_laws.proofs.OfGoes.Fits.{sums_shown}
use Rattle.buffer_laws.specs.Staging.Known.{IsKnown}
use Rattle.buffer_laws.specs.Staging.Stores.{store_nest}

abbrev named : ℕ → Binder
named n = record { id = n; name = 120 ∷ n ∷ [] }

abbrev world : World
world = unit_world (kinds_of []) []

abbrev at : ℤ → List Control
at n = Lit n ∷ []

abbrev span : ℤ → ℤ → List Coord
span m n = Span (Lit m) (Lit n) ∷ []

abbrev same : Control → Control
same e = e

is_same : IsSimplifier same
is_same e scene k = refl

-- t : i32[1], v = t[0:1] and w = x[3:4] are numbers 5, 6 and 7
abbrev with_names : Statement → Block
with_names a = next (Alloc (named 5) I32 (at (pos 1)) 0)
    (next (View (named 6) 5 (span (pos 0) (pos 1)))
    (next (View (named 7) 0 (span (pos 3) (pos 4))) (next a end)))

-- w[0] = 7, t[0] = w[0], w[0] += 7 and t[0] = 3
abbrev sets : Block
sets = with_names (Assign 7 (at (pos 0)) (Const (pos 7)))

abbrev reads : Block
reads = with_names (Assign 5 (at (pos 0)) (Read 7 (at (pos 0))))

abbrev adds : Block
adds = with_names (Reduce 7 (at (pos 0)) (Const (pos 7)))

abbrev looks_away : Block
looks_away = with_names (Assign 5 (at (pos 0)) (Const (pos 3)))

-- v[0] = 1 and t[0] = 2
abbrev rest : Block
rest = next (Assign 6 (at (pos 0)) (Const (pos 1))) (next (Assign 5 (at (pos 0)) (Const (pos 2))) end)

abbrev x_param : Param
x_param = record { binder = named 0; kind = TensorParam I32 (Lit (pos 8) ∷ []) 0 }

abbrev p_of : Block → Procedure
p_of b = record {
  name = 112 ∷ [];
  params = x_param ∷ [];
  asserts = [];
  body = b;
  template = None;
}

abbrev around : Context
around = Here rest

abbrev p_with : Block → Procedure
p_with b = p_of (fill around b)

-- x[2:6]
abbrev middle : List Coord
middle = span (pos 2) (pos 6)

abbrev sides : List Control
sides = Lit (pos 8) ∷ []

abbrev a_name : List ℕ
a_name = 116 ∷ []

abbrev a : Binder
a = record { id = 2; name = a_name }

abbrev there : Staging
there = staging_of 0 middle a_name

abbrev own : ℕ → ℕ
own = own_roots_at around

-- w and the buffer go, t and v do not
w_goes : goes own 2 0 sets 7 ≡ true
w_goes = refl

t_stays : goes own 2 0 sets 5 ≡ false
t_stays = refl

v_stays : goes own 2 0 sets 6 ≡ false
v_stays = refl

module _ (k : Statement) (may : MayRun [] 1 [] (p_with (with_names k))) where
  abbrev b : Block
  b = with_names k

  abbrev Fits : Type 0
  Fits = (u : State) → FitsAlong world 0 middle b u

  abbrev Lies : Type 0
  Lies = (u : State)
      → EachAlong world (λ d z. AllHold z (asked_of_statement 0 sides middle d)) b u

  it_is : (quiet : top_binders (next k end) ≡ (λ y. false)) → Fits → Lies → (new : Block)
      → (s u : State) → IsAdmissible world (p_with b) s → ComesTo world b around s u
      → IsStaged world own a I32 0 sides middle b new u
  it_is quiet fit lie new s u good come = record {
    none = record {
      sound = sound_law world (p_with b) b around s u good come;
      unbound = λ y h. free y (y == 2) (y == 5) (y == 6) (y == 7) refl refl refl refl
          (ap (λ (f : ℕ → Bool). (y == 2) || ((y == 5) || ((y == 6) || ((y == 7) || f y))))
          (sym quiet) ∙ h);
    };
    known = λ t v e f. record {
      known = known_at_place [] 1 [] (p_with b) around a I32 1 true 0 middle b s u may refl
          (refl, refl) refl good come (fits_law world 0 middle b u (fit u));
      lies = λ c d z is here. each_within world
          (λ d z. AllHold z (asked_of_statement 0 sides middle d)) b u (lie u) c d z is here;
      ends = ends_well_at_place [] 1 [] (p_with b) around b s u t may refl good come e;
    };
  }
    where
      free : (y : ℕ) (p q r t : Bool) → (y == 2) ≡ p → (y == 5) ≡ q → (y == 6) ≡ r → (y == 7) ≡ t
          → (p || (q || (r || (t || false)))) ≡ true → IsUnbound u y
      free y true q r t i j m n h = subst (IsUnbound u) (sym (eqb-true y 2 i))
          (unbound_law world (p_with b) b around s u good come 2 (refl, refl))
      free y false true r t i j m n h = subst (IsUnbound u) (sym (eqb-true y 5 j))
          (unbound_law world (p_with b) b around s u good come 5 (refl, refl))
      free y false false true t i j m n h = subst (IsUnbound u) (sym (eqb-true y 6 m))
          (unbound_law world (p_with b) b around s u good come 6 (refl, refl))
      free y false false false true i j m n h = subst (IsUnbound u) (sym (eqb-true y 7 n))
          (unbound_law world (p_with b) b around s u good come 7 (refl, refl))
      free y false false false false i j m n h = absurd (true≢false (sym h))

-- ---- a block that sets

sets_may_run : MayRun [] 1 [] (p_with sets)
sets_may_run = record {
  unit = tt;
  procedure = record {
    params = refl;
    asserts = refl;
    body = refl;
    filled = refl;
    ids = refl;
    distinct = refl;
    paths = refl;
    template = refl;
  };
}

sets_passes : ArePassed world.callees (stride_seen (kinds_of []) []) own a
    (sizes same there I32 0 2) 0 middle (loads same there I32 0 2) (stores same there I32 0 2) sets
sets_passes = record {
  new = record { block = refl; spots = refl };
  other = refl;
  plain = refl;
  sizes = λ z. refl;
  loads = record {
    distinct = (refl, tt);
    apart = λ y e. absurd (true≢false (sym e));
    equal = λ z. refl;
  };
  stores = record {
    distinct = (refl, tt);
    apart = λ y e. absurd (true≢false (sym e));
    equal = λ z. refl;
  };
  names = refl;
  strides = refl;
  own = refl;
  name = refl;
  root_name = refl;
  variables = λ y e. absurd (true≢false (sym e));
}

names_may_stay : Refines world (p_with sets)
    (p_with (with_simpler same I32 0 2 0 middle a_name sets)) []
names_may_stay = context_law (kinds_of []) [] (goes own 2 0 sets) around sets
    (with_simpler same I32 0 2 0 middle a_name sets) (p_with sets)
    (p_with (with_simpler same I32 0 2 0 middle a_name sets)) refl refl
    (goes_unused own 2 0 sets rest refl refl)
    (λ s u good come. staged_draft_goes (kinds_of []) [] own same I32 sides 0 2 0 middle a_name sets
    u is_same sets_passes
    (it_is (Assign 7 (at (pos 0)) (Const (pos 7))) sets_may_run refl
    (λ u. (
      tt,
      tt,
      λ v e. (
        (λ k. absurd (true≢false (sym k))),
        tt,
        λ v e. (
          (λ k. tt),
          tt,
          λ v e.
              (((λ k. absurd (true≢false (sym k))), tt), tt, λ v e. tt),
        ),
      ),
    ))
    (λ u. (tt, tt, λ v e. (tt, tt, λ v e. ((refl, (refl, tt)), tt, λ v e. (tt, tt, λ v e. tt)))))
    (as_made same I32 0 2 0 middle a_name sets) s u good come))

-- ---- a block that reads

reads_may_run : MayRun [] 1 [] (p_with reads)
reads_may_run = record {
  unit = tt;
  procedure = record {
    params = refl;
    asserts = refl;
    body = refl;
    filled = refl;
    ids = refl;
    distinct = refl;
    paths = refl;
    template = refl;
  };
}

reads_passes : ArePassed world.callees (stride_seen (kinds_of []) []) own a
    (sizes same there I32 0 2) 0 middle (loads same there I32 0 2) (loads same there I32 0 2) reads
reads_passes = record {
  new = record { block = refl; spots = refl };
  other = refl;
  plain = refl;
  sizes = λ z. refl;
  loads = sets_passes.loads;
  stores = sets_passes.loads;
  names = refl;
  strides = refl;
  own = refl;
  name = refl;
  root_name = refl;
  variables = λ y e. absurd (true≢false (sym e));
}

readers_names_may_stay : Refines world (p_with reads)
    (p_with (reader_with_simpler same I32 0 2 0 middle a_name reads)) []
readers_names_may_stay = context_law (kinds_of []) [] (goes own 2 0 reads) around reads
    (reader_with_simpler same I32 0 2 0 middle a_name reads) (p_with reads)
    (p_with (reader_with_simpler same I32 0 2 0 middle a_name reads)) refl refl
    (goes_unused own 2 0 reads rest refl refl)
    (λ s u good come. reader_draft_goes (kinds_of []) [] own same I32 sides 0 2 0 middle a_name
    reads u is_same refl reads_passes
    (it_is (Assign 5 (at (pos 0)) (Read 7 (at (pos 0)))) reads_may_run refl
    (λ u. (
      tt,
      tt,
      λ v e. (
        (λ k. absurd (true≢false (sym k))),
        tt,
        λ v e. (
          (λ k. tt),
          tt,
          λ v e.
              (((λ k. absurd (true≢false (sym k))), (λ k. absurd (true≢false (sym k)))), tt, λ v e. tt),
        ),
      ),
    ))
    (λ u. (tt, tt, λ v e. (tt, tt, λ v e. ((refl, (refl, tt)), tt, λ v e. (tt, tt, λ v e. tt)))))
    (reader_as_made same I32 0 2 0 middle a_name reads) s u good come))

-- ---- a block that adds

adds_may_run : MayRun [] 1 [] (p_with adds)
adds_may_run = record {
  unit = tt;
  procedure = record {
    params = refl;
    asserts = refl;
    body = refl;
    filled = refl;
    ids = refl;
    distinct = refl;
    paths = refl;
    template = refl;
  };
}

abbrev summing : Staging
summing = sums_of 0 middle a_name

adds_passes : ArePassed world.callees (stride_seen (kinds_of []) []) own a
    (sizes same summing I32 0 2) 0 middle (loads same summing I32 0 2)
    (stores same summing I32 0 2) adds
adds_passes = record {
  new = record { block = refl; spots = refl };
  other = refl;
  plain = refl;
  sizes = λ z. refl;
  loads = sets_passes.loads;
  stores = sets_passes.stores;
  names = refl;
  strides = refl;
  own = refl;
  name = refl;
  root_name = refl;
  variables = λ y e. absurd (true≢false (sym e));
}

sums_names_may_stay : Refines world (p_with adds)
    (p_with (sums_with_simpler same I32 0 2 0 middle a_name adds)) []
sums_names_may_stay = context_law (kinds_of []) [] (goes own 2 0 adds) around adds
    (sums_with_simpler same I32 0 2 0 middle a_name adds) (p_with adds)
    (p_with (sums_with_simpler same I32 0 2 0 middle a_name adds)) refl refl
    (goes_unused own 2 0 adds rest refl refl)
    (λ s u good come. sums_draft_go [] 1 [] (scope_at around (scope_of [] (p_with adds).params)) own
    same I32 sides 0 2 0 middle a_name adds u is_same adds_passes
    (it_is (Reduce 7 (at (pos 0)) (Const (pos 7))) adds_may_run refl
    (λ u. (
      tt,
      tt,
      λ v e. (
        (λ k. absurd (true≢false (sym k))),
        tt,
        λ v e. (
          (λ k. tt),
          tt,
          λ v e.
              (((λ k. absurd (true≢false (sym k))), tt), tt, λ v e. tt),
        ),
      ),
    ))
    (λ u. (tt, tt, λ v e. (tt, tt, λ v e. ((refl, (refl, tt)), tt, λ v e. (tt, tt, λ v e. tt)))))
    (sums_as_made same I32 0 2 0 middle a_name adds) s u good come)
    (only_adds_at_place [] 1 [] (p_with adds) around 0 adds s u adds_may_run refl refl good come))

-- ---- a block that views x and touches it nowhere: kept sums without a second nest

looks_away_may_run : MayRun [] 1 [] (p_with looks_away)
looks_away_may_run = record {
  unit = tt;
  procedure = record {
    params = refl;
    asserts = refl;
    body = refl;
    filled = refl;
    ids = refl;
    distinct = refl;
    paths = refl;
    template = refl;
  };
}

looks_away_passes : ArePassed world.callees (stride_seen (kinds_of []) []) own a
    (sizes same summing I32 0 2) 0 middle (loads same summing I32 0 2)
    (loads same summing I32 0 2) looks_away
looks_away_passes = record {
  new = record { block = refl; spots = refl };
  other = refl;
  plain = refl;
  sizes = λ z. refl;
  loads = sets_passes.loads;
  stores = sets_passes.loads;
  names = refl;
  strides = refl;
  own = refl;
  name = refl;
  root_name = refl;
  variables = λ y e. absurd (true≢false (sym e));
}

abbrev emptied : Block
emptied = joined (next (Alloc a I32 (sizes same summing I32 0 2) 0)
    (zero_nest 2 (loads same summing I32 0 2))) (converted 2 0 middle looks_away)

abbrev with_sides : Seen → List Side → Seen
with_sides z sides = record { buffer = z.buffer; sides = sides }

abbrev part : State → Option Seen → Option Seen
part s o = then_do o (λ z. option_map (with_sides z) (narrowed s.scene z.sides middle))

window_is : (s u : State) → IsAdmissible world (p_with looks_away) s
    → ComesTo world looks_away around s u → IsSome (window u.scene 0 middle)
window_is s u good come = subst (λ (z : State). IsSome (window z.scene 0 middle)) (sym come)
    (subst (λ o. IsSome (part s o)) (sym good.arguments.0.1) refl)

abbrev unseen : Block
unseen = staged_block same summing I32 0 2 false looks_away

unseen_names_may_stay : Refines world (p_with looks_away) (p_with unseen) []
unseen_names_may_stay = context_law (kinds_of []) [] (goes own 2 0 looks_away) around looks_away
    unseen (p_with looks_away) (p_with unseen) refl refl
    (goes_unused own 2 0 looks_away rest refl refl)
    (λ s u good come. unseen_draft_goes [] 1 []
    (scope_at around (scope_of [] (p_with looks_away).params)) own same I32 sides 0 2 0 middle a_name
    looks_away u is_same looks_away_passes
    (it_is (Assign 5 (at (pos 0)) (Const (pos 3))) looks_away_may_run refl
    (λ u. (
      tt,
      tt,
      λ v e. (
        (λ k. absurd (true≢false (sym k))),
        tt,
        λ v e. (
          (λ k. tt),
          tt,
          λ v e.
              (((λ k. absurd (true≢false (sym k))), tt), tt, λ v e. tt),
        ),
      ),
    ))
    (λ u. (tt, tt, λ v e. (tt, tt, λ v e. ((refl, (refl, tt)), tt, λ v e. (tt, tt, λ v e. tt)))))
    emptied s u good come)
    (only_adds_at_place [] 1 [] (p_with looks_away) around 0 looks_away s u looks_away_may_run refl
    refl good come) refl (λ t v e f. window_is s u good come))

-- ---- a block that does not mention x

abbrev plain : Block
plain = next (Alloc (named 5) I32 (at (pos 1)) 0) (next (Assign 5 (at (pos 0)) (Const (pos 3))) end)

plain_stays : (s : State) → HasNone (λ y. y == 2) s
    → MayReplace world (λ y. y == 2) plain
    (staged_block same (sums_of 0 middle a_name) I32 0 2 false plain) s
plain_stays s none = untouched_draft_goes world same I32 0 2 0 middle a_name plain s none refl refl

-- ---- what is asked, and what is known

-- from the needs and the trees; no access is whole
sets_fit : (u : State) → LiesWithin world 0 sides middle sets u → FitsWithin world 0 middle sets u
sets_fit u lies = fits_from_lies world 0 sides middle sets u lies
    (matches_by_rules (field_kind []) 1 world.callees (scope_of [] (p_with sets).params) (λ y. y) 0
    I32 true sides middle sets refl refl refl refl)
    (λ c d v is come e. absurd (true≢false (sym e ∙ each_within world (λ d z. passes_whole 0 d ≡ false)
    sets u (refl, tt, λ v e. (refl, tt, λ v e. (refl, tt, λ v e. (refl, tt, λ v e. tt)))) c d v is
    come)))

-- x[2:6] is the same within the block
window_stays : (u v : State) (c : Context) (d : Statement) → sets ≡ fill c (next d end)
    → ComesTo world (next d end) c u v → window v.scene 0 middle ≡ window u.scene 0 middle
window_stays u v c d is come =
    (window_comes world 0 middle sets u v c d refl refl (λ y e. absurd (true≢false (sym e))) is
    come).0

-- where the load nest runs, x[2:6] is there
window_shows : (u v : State) → IsKnown world own a I32 0 middle end u
    → run world (as_made same I32 0 2 0 middle a_name sets) u ≡ Some v
    → IsSome (window u.scene 0 middle)
window_shows u v known e = window_shown world own a I32 (sizes same there I32 0 2) 0 0 middle
    (loads same there I32 0 2)
    (joined (converted 2 0 middle sets) (store_nest 2 0 middle (stores same there I32 0 2))) u v
    (record {
      spots = refl;
      other = refl;
      plain = refl;
      sizes = λ z. refl;
      over = sets_passes.loads;
    }) known e

-- nor with kept sums
sums_show : (s u v : State) → IsAdmissible world (p_with adds) s → ComesTo world adds around s u
    → IsKnown world own a I32 0 middle end u
    → run world (sums_as_made same I32 0 2 0 middle a_name adds) u ≡ Some v
    → IsSome (window u.scene 0 middle)
sums_show s u v good come known e = sums_shown [] 1 []
    (scope_at around (scope_of [] (p_with adds).params)) own a I32 (sizes same summing I32 0 2) 0 0
    middle (loads same summing I32 0 2) (stores same summing I32 0 2) adds (converted 2 0 middle adds)
    u v (record {
      spots = refl;
      other = refl;
      plain = refl;
      sizes = λ z. refl;
      over = sets_passes.loads;
    }) sets_passes.stores known
    (only_adds_at_place [] 1 [] (p_with adds) around 0 adds s u adds_may_run refl refl good come) refl
    e

-- x[0:8] is all of x
all_of_x : (scene : Scene)
    → scene.views 0 ≡ Some (record { buffer = 0; sides = whole (pos 8 ∷ []) })
    → window scene 0 (span (pos 0) (pos 8)) ≡ scene.views 0
all_of_x scene e = whole_law 0 sides (span (pos 0) (pos 8)) scene (record {
  seen = record { buffer = 0; sides = whole (pos 8 ∷ []) };
  there = e;
  sizes = refl;
  long = refl;
  spans = refl;
  window = subst (λ o. IsSome (then_do o (λ z. option_map (with_sides z)
      (narrowed scene z.sides (span (pos 0) (pos 8)))))) (sym e) refl;
}) (refl, (refl, tt))
