-- The fields that are live beside statements, by the gaps there.
use Rattle.std.proofs.Common.{◌≡◌, ◌≤◌, ℕ, zero, suc, Bool, false, ◌||◌, List, [], ◌∷◌, Option, Some}
use Rattle.std.proofs.Common.{None, refl, sym, ap, ap₂, ◌∙◌, subst, option_map, true≢false, arith}
use Rattle.exo_tree.specs.Tree.{Statement, Block, end, next, joined, Procedure}
use Rattle.exo_tree.specs.Context.{Context, Here, After, InLoop, InThen, InElse, fill, rest_of}
use Rattle.exo_tree.specs.Places.{Main, Step, Path, Opened, parted, opened, opened_in}
use Rattle.meaning_laws.specs.Live.{live, live_step, live_behind}
use Rattle.meaning_laws.specs.UnitFields.{unit_live}
use Rattle.meaning_laws.proofs.Parts.{some_injective, none_some, map_gives}
use Rattle.place_laws.specs.Scope.Holes.{with_rest, within, behind}
use Rattle.place_laws.specs.Scope.PlacesCompose.{IsOnward}
use Rattle.place_laws.specs.Scope.SamePlace.{start_of, IsStart}
use Rattle.place_laws.proofs.OfScope.PlacesCompose.{places_compose}
use Rattle.place_laws.proofs.OfScope.SameHole.{same_hole}
use Rattle.place_laws.proofs.OfScope.SamePlace.{same_place, with_first}
use Rattle.place_laws.proofs.OfScope.Within.{holes_compose}
use Rattle.config_laws.specs.FieldRule.{further, is_live}
use Rattle.config_laws.specs.Beside.{IsLiveAt, LiveBeside}
use Rattle.exo_meaning.specs.Units.{is_empty}

module _ (calls : ℕ → ℕ → Bool → Bool) (f : ℕ) where
  joined_live : (b rest : Block) (out : Bool)
      → live calls f (joined b rest) out ≡ live calls f b (live calls f rest out)
  joined_live end rest out = refl
  joined_live (next a b) rest out = ap (live_step calls f a) (joined_live b rest out)

  filled_behind : (b : Block) → fill (behind b (Here end)) end ≡ b
  filled_behind end = refl
  filled_behind (next a b) = ap (next a) (filled_behind b)

  behind_all : (b rest : Block) (out : Bool)
      → live_behind calls f end (within (Here rest) (behind b (Here end))) out ≡ live calls f rest out
  behind_all end rest out = refl
  behind_all (next a b) rest out = behind_all b rest out

  -- behind a block
  behind_block : (b : Block) (c : Context) (out : Bool)
      → live_behind calls f end (within c (behind b (Here end))) out
      ≡ live_behind calls f b c out
  behind_block b (Here rest) out = behind_all b rest out
  behind_block b (After x c) out = behind_block b c out
  behind_block b (InLoop i lo hi c rest) out =
      behind_block b c (live calls f rest out
      || live calls f (fill (within c (behind b (Here end))) end) false)
      ∙ ap (λ d. live_behind calls f b c (live calls f rest out || live calls f d false))
      ((holes_compose end c (behind b (Here end))).body ∙ ap (fill c) (filled_behind b))
  behind_block b (InThen t c other rest) out = behind_block b c (live calls f rest out)
  behind_block b (InElse t other c rest) out = behind_block b c (live calls f rest out)

  -- before a block
  before_block : (b : Block) (c : Context) (out : Bool)
      → live_behind calls f end (with_rest c (joined b (rest_of c))) out
      ≡ live calls f b (live_behind calls f b c out)
  before_block b (Here rest) out = joined_live b rest out
  before_block b (After x c) out = before_block b c out
  before_block b (InLoop i lo hi c rest) out =
      ap (λ d. live_behind calls f end (with_rest c (joined b (rest_of c)))
      (live calls f rest out || live calls f d false))
      (same_hole c b end (joined b (rest_of c)) refl).body
      ∙ before_block b c (live calls f rest out || live calls f (fill c b) false)
  before_block b (InThen t c other rest) out = before_block b c (live calls f rest out)
  before_block b (InElse t other c rest) out = before_block b c (live calls f rest out)

-- ---- all statements of what is opened

parted_same : (n : ℕ) (b : Block) (q : Block × Block) → parted n b ≡ Some q
    → parted n q.0 ≡ Some (q.0, end)
parted_same zero b q e =
    subst (λ (p : Block × Block). parted zero p.0 ≡ Some (p.0, end)) (some_injective (end, b) q e) refl
parted_same (suc n) end q e = absurd (none_some e)
parted_same (suc n) (next a b) q e =
    let m = map_gives (parted n b) (with_first a) q e in
    subst (λ (p : Block × Block). parted (suc n) p.0 ≡ Some (p.0, end)) m.2
    (ap (option_map (with_first a)) (parted_same n b m.0 m.1))

all_parted : (count : ℕ) (path : Path) (body : Block) (o : Opened) → opened count path body ≡ Some o
    → parted count o.piece ≡ Some (o.piece, end)
all_parted count path body o e =
    let s = same_place count count path body o least e in
    let same : o.piece ≡ s.0.0 =
    ap (λ (z : Opened). z.piece) (some_injective o (start_of o s.0) (sym e ∙ s.1.there)) in
    subst (λ b. parted count b ≡ Some (b, end)) (sym same) (parted_same count o.piece s.0 s.1.parts)
  where
    least : count ≤ count
    least = omega arith

abbrev none_first : Option (Block × Block) → Bool
none_first None = false
none_first (Some p) = is_empty p.0

past_all : (n : ℕ) (b : Block) → parted n b ≡ Some (b, end)
    → opened_in 0 (record { branch = Main; index = n } ∷ []) b
    ≡ Some (record { around = behind b (Here end); piece = end })
past_all zero end e = refl
past_all zero (next a b) e = absurd (true≢false (ap none_first e))
past_all (suc n) end e = absurd (none_some e)
past_all (suc n) (next a b) e =
    let m = map_gives (parted n b) (with_first a) (next a b, end) e in
    ap (option_map (λ (o : Opened). record { around = After a o.around; piece = o.piece }))
    (past_all n b (m.1 ∙ ap Some (of_rest m.0 m.2)))
  where
    of_rest : (q : Block × Block) → with_first a q ≡ (next a b, end) → q ≡ (b, end)
    of_rest q e =
        let longer : next a q.0 ≡ next a b = ap (λ (p : Block × Block). p.0) e in
        let first : q.0 ≡ b = cc in
        ap₂ (λ x y. (x, y)) first (ap (λ (p : Block × Block). p.1) e)

-- ---- beside it

module _ (ps : List Procedure) (f count : ℕ) (body : Block) (o : Opened) where
  gap_behind : (path : Path) → opened count path body ≡ Some o
      → IsLiveAt ps f body (further count path) (is_live ps f o)
  gap_behind [] e = absurd (none_some e)
  gap_behind (s ∷ path) e =
      let inner : Opened = record { around = behind o.piece (Here end); piece = end } in
      let step : Step = record { branch = Main; index = count } in
      let on = places_compose 0 count (s ∷ path) step [] body o inner e
      (past_all count o.piece (all_parted count (s ∷ path) body o e)) in
      record {
        opening = record { around = within o.around inner.around; piece = end };
        there = on.there;
        live = behind_block (unit_live ps) f o.piece o.around false;
      }

  gap_before : (path : Path) → opened count path body ≡ Some o
      → IsLiveAt ps f body path (live (unit_live ps) f o.piece (is_live ps f o))
  gap_before path e =
      let place = same_place 0 count path body o least e in
      record {
        opening = start_of o (end, o.piece);
        there = place.1.there ∙ ap (λ q. Some (start_of o q))
            (sym (some_injective (end, o.piece) place.0 place.1.parts));
        live = before_block (unit_live ps) f o.piece o.around false;
      }
    where
      least : 0 ≤ count
      least = omega arith

pub live_beside : LiveBeside
live_beside ps f count path body o e =
    (gap_behind ps f count body o path e, gap_before ps f count body o path e)
