-- What is known of fields while a procedure is gone through.
use Rattle.std.specs.Prelude.{◌≡◌, ◌<◌, ◌++◌, ◌==◌, ℕ, zero, suc, true, if◌then◌else◌, List, []}
use Rattle.std.specs.Prelude.{◌∷◌, map, Option, Some, None, Result, Ok, Err}
use Rattle.exo_tree.specs.Tree.{Var, Le, Lt, Statement, Assign, Reduce, Config, Pass, If, For}
use Rattle.exo_tree.specs.Tree.{Alloc, View, Call, Block, end, next, Procedure}
use Rattle.exo_tree.specs.Places.{Branch, Main, Else, Path, Opened, opened}
use Rattle.exo_tree.specs.PlainProcedure.{procedure}
use Rattle.exo_tree.specs.PlainUnit.{program}
use Rattle.meaning_laws.specs.Facts.{Fact, Holds, Fails}
use Rattle.meaning_laws.specs.Known.{params_facts}
use Rattle.meaning_laws.specs.Fields.{writes_field}
use Rattle.meaning_laws.specs.KnownFields.{FieldValue, Known, UnknownAt, KnownFields, at_entry}
use Rattle.meaning_laws.specs.KnownFields.{Telling, same_value, path_in, after}
use Rattle.meaning_laws.specs.PlaceFacts.{PlaceFact, facts_round}
use Rattle.affine_forms.specs.declared.error.FormError.{FormError}
use Rattle.affine_forms.specs.Formulas.{Formula}
use Rattle.affine_forms.specs.Outcomes.{IsWide}
use Rattle.check_facts.specs.Contexts.{telling, formulas, all_fit}
use Rattle.check_facts.specs.declared.basis.Basis.{Basis}

abbrev pub telling_of : Basis → Telling
telling_of g = telling (program g.unit.now) (procedure g.proc.now)

-- ---- one field

-- a value on which both ends of a branching statement agree, else one that the statement makes
-- unknown
abbrev pub kept_value : Telling → Path → FieldValue → FieldValue → FieldValue
kept_value tell path v w = if same_value tell.agree v w then v else UnknownAt path

module _ (tell : Telling) (f : ℕ) where
  abbrev mutual
    -- after the statement at a path
    pub value_after : Path → Statement → FieldValue → FieldValue
    value_after path (Assign x is e) v = v
    value_after path (Reduce x is e) v = v
    value_after path (Config g a) v = if f == g then Known (tell.told a) else v
    value_after path Pass v = v
    value_after path (If c a b) v =
        kept_value tell path (value_at_end path Main zero a v) (value_at_end path Else zero b v)
    value_after path (For i lo hi b) v = if writes_field tell.writes f b then UnknownAt path else v
    value_after path (Alloc x cell dims memory) v = v
    value_after path (View w x coords) v = v
    value_after path (Call k args) v = if tell.writes k f then UnknownAt path else v

    -- at the end of a block, whose first statement has that number
    pub value_at_end : Path → Branch → ℕ → Block → FieldValue → FieldValue
    value_at_end outer branch n end v = v
    value_at_end outer branch n (next a b) v =
        value_at_end outer branch (suc n) b (value_after (path_in outer branch n) a v)

-- ---- all fields

-- the same of all fields below a number
abbrev pub SameBelow : ℕ → KnownFields → KnownFields → Type 0
SameBelow count known other = (f : ℕ) → f < count → known f ≡ other f

-- after so many statements of a block, whose first has that number
abbrev pub passed : Telling → Path → Branch → ℕ → ℕ → Block → KnownFields → KnownFields
passed tell outer branch n zero b known = known
passed tell outer branch n (suc count) end known = known
passed tell outer branch n (suc count) (next a b) known =
    passed tell outer branch (suc n) count b (after tell (path_in outer branch n) a known)

-- ---- the way to a place

-- the facts of a loop or branch into which the way goes
abbrev pub entered : Branch → Statement → KnownFields → List PlaceFact
entered branch (For i lo hi b) known =
    record { known = known; fact = Holds (Le lo (Var i.id)) }
    ∷ record { known = known; fact = Holds (Lt (Var i.id) hi) }
    ∷ []
entered Main (If c a b) known = record { known = known; fact = Holds c } ∷ []
entered Else (If c a b) known = record { known = known; fact = Fails c } ∷ []
entered branch a known = []

-- what is known at the head of it
abbrev pub known_inside : Telling → Path → Statement → KnownFields → KnownFields
known_inside tell path (For i lo hi b) known = after tell path (For i lo hi b) known
known_inside tell path a known = known

-- the formulas of these facts come behind the others, exactly where all their normal forms can be
-- written down
abbrev pub Added :
    {A : Type 0} → Result A FormError → Basis → List PlaceFact → List Formula → List Formula
    → Type 0
Added (Ok t) g es old new =
    (all_fit (program g.unit.now) (procedure g.proc.now) es ≡ true)
    × (new ≡ old ++ formulas (program g.unit.now) (procedure g.proc.now) es)
Added (Err e) g es old new = IsWide e (all_fit (program g.unit.now) (procedure g.proc.now) es)

-- facts of the place before the body
abbrev pub known_first : List Fact → List PlaceFact
known_first facts = map (λ fact. record { known = at_entry; fact = fact }) facts

-- of a procedure's parameters and assertions
abbrev pub head_facts : Procedure → List PlaceFact
head_facts p = known_first (params_facts p.params ++ map Holds p.asserts)

-- of the loops and branches round a place; none where that is before the body
abbrev pub round_facts : Telling → Option Opened → List PlaceFact
round_facts tell None = []
round_facts tell (Some o) = facts_round tell [] Main zero o.around o.piece at_entry

abbrev pub place_of : Path → Basis → Option Opened
place_of path g = opened 1 path (procedure g.proc.now).body
