-- What a rule owes: what it drafts may stand where the old statements stood.
use Rattle.std.specs.Prelude.{◌≡◌, ◌+◌, ◌^◌, ℕ, nat_le, nat_lt, Bool, true, false, List, [], length}
use Rattle.std.specs.Prelude.{Option, Some, None, slice_get}
use Rattle.std.specs.List.{list_all}
use Rattle.exo_tree.specs.Tree.{Index, Block, joined, Procedure}
use Rattle.exo_tree.specs.Context.{Context, Here, After, InLoop, InThen, InElse, fill, rest_of}
use Rattle.exo_tree.specs.Places.{Path, opened}
use Rattle.exo_meaning.specs.State.{State}
use Rattle.exo_meaning.specs.Calls.{Callee}
use Rattle.exo_meaning.specs.Run.{World, run, callees, kinds_of, program_world}
use Rattle.exo_meaning.specs.Inputs.{IsAdmissible, Refines}
use Rattle.exo_meaning.specs.Laws.{HasRoots}
use Rattle.exo_meaning.specs.Orders.{Each}
use Rattle.exo_meaning.specs.Units.{Scope, ControlName, with_name, scope_of, field_kind}
use Rattle.exo_meaning.specs.Units.{bound_ids, IsUnit}
use Rattle.exo_meaning.specs.Unseen.{in_block}
use Rattle.meaning_laws.specs.Context.{ComesTo, MayReplace}
use Rattle.meaning_laws.specs.Copies.{IsFree}
use Rattle.meaning_laws.specs.Facts.{IsTrueAt}
use Rattle.meaning_laws.specs.Live.{live, live_behind, CallsForget}
use Rattle.meaning_laws.specs.Made.{AreMade}
use Rattle.meaning_laws.specs.Sorted.{IsSorted, MayRun, scope_at}
use Rattle.meaning_laws.specs.Sound.{IsSound, IsUnbound}
use Rattle.place_laws.specs.Scope.Bare.{bare}
use Rattle.place_laws.specs.Scope.Roots.{own_roots_at}
use Rattle.place_laws.specs.Scope.WellAtPlace.{IsWellAt}
use Rattle.config_laws.specs.Live.LiveFits.{MayReplaceLive, LiveAtEnd}
use Rattle.tree_findings.specs.Classes.{all_kept}
use Rattle.tree_findings.specs.Findings.{scope_behind, findings_of_block}
use Rattle.tree_edits.specs.Made.Ids.{next_id}
use Rattle.tree_edits.specs.Made.Names.{named_copies}
use Rattle.tree_edits.specs.Made.Passes.{or_pass}
use Rattle.config_laws.specs.Differing.{VersionsStand}
use Rattle.config_laws.specs.FieldRule as config
use Rattle.config_laws.specs.FieldRule.{fields_at_end}
use Rattle.effect_laws.specs.Apart.{IsApartAt}
use Rattle.effect_laws.specs.Words.{ComesToPlace}
use Rattle.cursor_forward.specs.Cursors.{Side, Before, After}
use Rattle.cursor_forward.specs.Forwards.{Carries, are_apart}
use Rattle.step_rules.specs.Owing.{shape_alone}
use Rattle.step_rules.specs.Rule.{Target, Spot, Got, Need, Says, Apart, AsMade, Simplified}
use Rattle.step_rules.specs.Rule.{Rule}

-- ---- the old procedure

-- wherever a run comes to the place, the fact is true; what it then touches in the pieces, at turns
-- in their order, does not clash
abbrev pub IsMet : Target → Need → Type 0
IsMet t (Says path fact) =
    (s u : State)
    → IsAdmissible (program_world t.unit) t.proc s
    → ComesToPlace (program_world t.unit) (opened 1 path t.proc.body) s u
    → IsTrueAt u.scene fact
IsMet t (Apart path k) = IsApartAt t.unit t.proc path k

-- the target is a procedure of a well-formed unit, with ids left for one step
pub record IsTarget (t : Target) : Type 0 where
  pub unit : IsUnit t.unit
  pub there : slice_get t.unit.procedures t.number ≡ Some t.proc
  pub ids : nat_le (next_id t.proc + 65536) (2 ^ 31) ≡ true

-- what a procedure behind those of the unit may call
abbrev pub callees_for : Target → ℕ → Option Callee
callees_for t = slice_get (callees (kinds_of t.unit.fields) [] t.unit.procedures)

-- so it is a procedure that may call all of the unit
abbrev pub MayRunIn : Target → Procedure → Type 0
MayRunIn t = MayRun t.unit.fields (length t.unit.memories) t.unit.procedures

module _ (s : Spot) where
  abbrev pub around : Context
  around = s.opened.around

  abbrev pub old : Block
  old = s.opened.piece

  abbrev pub world_of : World
  world_of = program_world s.target.unit

  -- the procedure with another body
  abbrev pub with_body : Block → Procedure
  with_body b = record s.target.proc { body = b }

  -- with this block in the place of the piece
  abbrev pub with_block : Block → Procedure
  with_block b = with_body (fill around b)

  -- the names in scope there
  abbrev pub scope_here : Scope
  scope_here = scope_at around (scope_of [] s.target.proc.params)

  -- the block keeps the rules there, alone and with what follows
  abbrev pub IsWellHere : Block → Type 0
  IsWellHere =
      IsWellAt (field_kind s.target.unit.fields) (length s.target.unit.memories)
      (callees_for s.target) (scope_of [] s.target.proc.params) (λ x. x) around

  -- the piece stands in the target
  pub record IsSpot : Type 0 where
    pub target : IsTarget s.target
    pub runs : MayRunIn s.target s.target.proc
    pub opens : opened s.piece.count s.piece.path s.target.proc.body ≡ Some s.opened
    pub body : s.target.proc.body ≡ fill around old
    pub well : IsWellHere old

  -- what is known in each state in which a run comes to the piece
  pub record Stands (u : State) : Type 0 where
    pub sound : IsSound u
    pub sorted : IsSorted world_of.kinds scope_here u
    pub roots : HasRoots (own_roots_at around) u.scene
    -- names that neither a parameter nor a statement on the way binds stand for nothing
    pub free : (x : ℕ) → IsFree s.target.proc around x → IsUnbound u x
    pub made : AreMade u.scene around

  abbrev pub AtHole : (State → Type 0) → Type 0
  AtHole P =
      (first u : State)
      → IsAdmissible world_of s.target.proc first
      → ComesTo world_of old around first u
      → Stands u
      → P u

-- ---- what is put in the place of the piece

-- the names in scope at a hole, where a use of a name that is not in scope binds none
abbrev pub found_scope_at : Context → Scope → Scope
found_scope_at (Here rest) scope = scope
found_scope_at (After a c) scope = found_scope_at c (scope_behind a scope)
found_scope_at (InLoop i lo hi c rest) scope =
    found_scope_at c (with_name scope i (ControlName Index))
found_scope_at (InThen t c other rest) scope = found_scope_at c scope
found_scope_at (InElse t other c rest) scope = found_scope_at c scope

-- with what follows it, the block breaks no rule there, and each name that it uses is in scope;
-- of names of binders and of limits nothing is said
abbrev pub IsFormedHere : Spot → Block → Type 0
IsFormedHere s b =
    let unit = s.target.unit in
    all_kept (shape_alone (findings_of_block (field_kind unit.fields) (length unit.memories)
    (program_world unit).callees (found_scope_at (around s) (scope_of [] s.target.proc.params))
    (own_roots_at (around s)) (joined b (rest_of (around s))))) ≡ true

-- the new block refines the old one but for fields that are not live behind it, by those that are
-- live at the end
abbrev pub MayReplaceDead :
    Spot → (ℕ → ℕ → Bool → Bool) → (ℕ → Bool) → Block → State → Type 0
MayReplaceDead s calls out new =
    let behind = λ (f : ℕ). live_behind calls f (old s) (around s) (out f) in
    MayReplaceLive (world_of s) (λ f. live calls f (old s) (behind f)) behind (old s) new

-- why a block may stand for the old one, but for fields at the end
pub data Replaces (s : Spot) (new : Block) (but : List ℕ) : Type 0 where
  -- it does the same, faults included
  same : AtHole s (λ u. run (world_of s) (old s) u ≡ run (world_of s) new u) → Replaces s new but
  -- it refines the old one but for names that are hidden: of no use behind it
  hiding :
      (hidden : ℕ → Bool)
      → in_block hidden (rest_of (around s)) ≡ false
      → AtHole s (MayReplace (world_of s) hidden (old s) new)
      → Replaces s new but
  -- it keeps the rules, and refines the old one but for fields that are not live behind it
  dead :
      (calls : ℕ → ℕ → Bool → Bool) (out : ℕ → Bool)
      → MayRunIn s.target (with_block s new)
      → CallsForget (world_of s) calls
      → LiveAtEnd but out
      → AtHole s (MayReplaceDead s calls out new)
      → Replaces s new but
  -- the procedure with it refines the old one
  whole : Refines (world_of s) s.target.proc (with_block s new) but → Replaces s new but

-- a replacement before any run: the first new id, what the rule drafts in both ways of writing,
-- and the body that comes of it
pub record Site : Type 0 where
  pub spot : Spot
  pub base : ℕ
  pub plain : Block
  pub draft : Block
  pub body : Block

-- all that is known of it
pub record IsSite (r : Rule) (a : Site) : Type 0 where
  pub spot : IsSpot a.spot
  pub below : list_all (λ x. nat_lt x a.base) (bound_ids a.spot.target.proc) ≡ true
  -- what the rule says
  pub at : Path
  pub chosen : r.piece a.spot.target at ≡ Got a.spot.piece
  pub made : r.draft a.spot AsMade a.base ≡ Got a.plain
  pub drafted : r.draft a.spot Simplified a.base ≡ Got a.draft
  pub allowed : r.refusal a.spot ≡ None
  -- as it is made it breaks no rule, and each name that it uses is in scope
  pub formed : IsFormedHere a.spot a.plain
  -- the body is the old one with the draft in it, but for the names of copies and for a `pass` in
  -- a block that would be empty; it keeps the rules
  pub named : bare a.body ≡ bare (fill (around a.spot) (or_pass (around a.spot) a.draft))
  pub exact :
      a.body
      ≡ named_copies a.spot.target.proc (a.base + r.named)
      (fill (around a.spot) (or_pass (around a.spot) a.draft))
  pub runs : MayRunIn a.spot.target (with_body a.spot a.body)

abbrev pub config_side : Side → config.Side
config_side Before = config.Before
config_side After = config.Behind

-- of fields that may differ from a point of a body on, those that may differ at its end
abbrev pub differ_at_end : Target → Block → Path → Side → List ℕ → List ℕ
differ_at_end t body place side fields =
    fields_at_end t.unit.procedures body place (config_side side) fields

abbrev pub fields_at_exit : Rule → Site → List ℕ
fields_at_exit r a =
    differ_at_end a.spot.target a.body (r.point a.spot).0 (r.point a.spot).1 (r.fields a.spot)

-- where the unit's procedures refine those that they were made from and its needs are met, its
-- draft may stand for the piece
pub record IsLawful (r : Rule) : Type 0 where
  pub replaces :
      (a : Site)
      → IsSite r a
      → VersionsStand a.spot.target.unit a.spot.target.origins
      → Each (IsMet a.spot.target) (r.needs a.spot)
      → Replaces a.spot a.draft (fields_at_exit r a)

-- its shifts take statements to statements of their kinds, and no two to one place
pub record IsCarrying (r : Rule) : Type 0 where
  pub carries :
      (a : Site)
      → IsSite r a
      → Carries (r.shifts a.spot) (old a.spot) (or_pass (around a.spot) a.draft)
  pub apart : (a : Site) → IsSite r a → are_apart (r.shifts a.spot) ≡ true
