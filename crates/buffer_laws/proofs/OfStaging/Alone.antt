-- Blocks that use no other name of a staged window's root.
use Rattle.std.proofs.Common.{◌≡◌, ℕ, ◌==◌, ◌&&◌, ◌||◌, Bool, true, false, not, cond, List, [], ◌∷◌}
use Rattle.std.proofs.Common.{Option, Some, None, IsSome, refl, sym, ap, ap₂, ◌∙◌, subst}
use Rattle.std.proofs.Common.{true≢false, eqb-true, eq-eqb}
use Rattle.exo_tree.specs.Tree.{Argument, ControlArg, ConditionArg, Whole, Window, Param, Statement}
use Rattle.exo_tree.specs.Tree.{Assign, Reduce, Config, Pass, If, For, Alloc, View, Call, Block}
use Rattle.exo_tree.specs.Tree.{end, next}
use Rattle.exo_meaning.specs.Scene.{Shape, Seen, updated, whole, extents}
use Rattle.exo_meaning.specs.State.{State}
use Rattle.exo_meaning.specs.Calls.{Callee}
use Rattle.exo_meaning.specs.Run.{World, writes, step_writes, roots_after, is_root, call_writes}
use Rattle.exo_meaning.specs.Run.{call_to_writes}
use Rattle.exo_meaning.specs.Laws.{HasRoots}
use Rattle.exo_meaning.proofs.Frame.{or_parts, updated_other}
use Rattle.exo_meaning.proofs.Windows.{none_is_some, one_value}
use Rattle.inplace_laws.specs.Uses.{in_block, in_statement, in_argument, in_arguments, in_controls}
use Rattle.inplace_laws.specs.Uses.{in_control, in_datum, in_condition, in_coords}
use Rattle.inplace_laws.specs.Staged.{staged}
use Rattle.buffer_laws.specs.Staging.Alone.{UnwrittenLaw, has_root, IsAlone, AloneLaw}

module _ (hidden blind : ℕ → Bool) (world : World) (y : ℕ) (is_hidden : hidden y ≡ true) where
  abbrev NoRoot : (ℕ → ℕ) → Type 0
  NoRoot root = (x : ℕ) → hidden x ≡ false → (y == root x) ≡ false

  differs : (x : ℕ) → hidden x ≡ false → (y == x) ≡ false
  differs x k = go (y == x) refl
    where
      go : (t : Bool) → (y == x) ≡ t → t ≡ false
      go false e = refl
      go true e = absurd (true≢false (sym is_hidden ∙ ap hidden (eqb-true y x e) ∙ k))

  -- the roots after a statement
  no_root_after : (a : Statement) (root : ℕ → ℕ) → NoRoot root → in_statement hidden blind a ≡ false
      → NoRoot (roots_after a root)
  no_root_after (Assign x is e) root h k = h
  no_root_after (Reduce x is e) root h k = h
  no_root_after (Config f a) root h k = h
  no_root_after Pass root h k = h
  no_root_after (If c a b) root h k = h
  no_root_after (For i lo hi b) root h k = h
  no_root_after (Alloc x cell dims memory) root h k = λ z n. go z n (z == x.id)
    where
      go : (z : ℕ) → hidden z ≡ false → (t : Bool) → (y == cond t x.id (root z)) ≡ false
      go z n true = differs x.id (or_parts (hidden x.id) (in_controls hidden blind dims) k).0
      go z n false = h z n
  no_root_after (View w x coords) root h k = λ z n. go z n (z == w.id)
    where
      go : (z : ℕ) → hidden z ≡ false → (t : Bool) → (y == cond t (root x) (root z)) ≡ false
      go z n true = h x (or_parts (hidden x) (in_coords hidden blind coords) (or_parts (hidden w.id)
          (hidden x || in_coords hidden blind coords) (or_parts (not (blind w.id) && blind x)
          (hidden w.id || (hidden x || in_coords hidden blind coords)) k).1).1).0
      go z n false = h z n
  no_root_after (Call k args) root h e = h

  no_argument : (root : ℕ → ℕ) → NoRoot root → (a : Argument) → in_argument hidden blind a ≡ false
      → is_root root y a ≡ false
  no_argument root h (ControlArg a) k = refl
  no_argument root h (ConditionArg c) k = refl
  no_argument root h (Whole x) k = h x (or_parts (hidden x) (blind x) k).0
  no_argument root h (Window x coords) k =
      h x (or_parts (hidden x) (blind x) (or_parts (hidden x || blind x) (in_coords hidden blind
      coords) k).0).0

  neither : (t w r : Bool) → t ≡ false → r ≡ false → ((w && t) || r) ≡ false
  neither t true r e k = ap₂ ◌||◌ e k
  neither t false r e k = k

  no_call : (root : ℕ → ℕ) → NoRoot root → (w : ℕ → Bool) (ps : List Param) (args : List Argument)
      → in_arguments hidden blind args ≡ false → call_writes w root y ps args ≡ false
  no_call root h w [] args k = refl
  no_call root h w (p ∷ ps) [] k = refl
  no_call root h w (p ∷ ps) (a ∷ rest) k =
      let q = or_parts (in_argument hidden blind a) (in_arguments hidden blind rest) k in
      neither (is_root root y a) (w p.binder.id) (call_writes w root y ps rest)
      (no_argument root h a q.0) (no_call root h w ps rest q.1)

  no_call_to : (root : ℕ → ℕ) → NoRoot root → (o : Option Callee) (args : List Argument)
      → in_arguments hidden blind args ≡ false → call_to_writes o root y args ≡ false
  no_call_to root h None args k = refl
  no_call_to root h (Some callee) args k = no_call root h callee.writes callee.procedure.params args
      k

  mutual
    unwritten : (b : Block) (root : ℕ → ℕ) → NoRoot root → in_block hidden blind b ≡ false
        → writes world root b y ≡ false
    unwritten end root h k = refl
    unwritten (next a b) root h k =
        let q = or_parts (in_statement hidden blind a) (in_block hidden blind b) k in
        ap₂ ◌||◌ (unwritten_by a root h q.0) (unwritten b (roots_after a root)
        (no_root_after a root h q.0) q.1)

    unwritten_by : (a : Statement) (root : ℕ → ℕ) → NoRoot root
        → in_statement hidden blind a ≡ false → step_writes world root a y ≡ false
    unwritten_by (Assign x is e) root h k =
        h x (or_parts (hidden x) (in_controls hidden blind is || in_datum hidden blind e) k).0
    unwritten_by (Reduce x is e) root h k =
        h x (or_parts (hidden x) (in_controls hidden blind is || in_datum hidden blind e) k).0
    unwritten_by (Config f a) root h k = refl
    unwritten_by Pass root h k = refl
    unwritten_by (If c a b) root h k =
        let q = or_parts (in_block hidden blind a) (in_block hidden blind b)
        (or_parts (in_condition hidden blind c) (in_block hidden blind a || in_block hidden
        blind b) k).1 in
        ap₂ ◌||◌ (unwritten a root h q.0) (unwritten b root h q.1)
    unwritten_by (For i lo hi b) root h k =
        unwritten b root h (or_parts (in_control hidden blind hi) (in_block hidden blind b)
        (or_parts (in_control hidden blind lo) (in_control hidden blind hi || in_block hidden blind
        b) (or_parts (hidden i.id) (in_control hidden blind lo || (in_control hidden blind hi
        || in_block hidden blind b)) k).1).1).1
    unwritten_by (Alloc x cell dims memory) root h k =
        differs x.id (or_parts (hidden x.id) (in_controls hidden blind dims) k).0
    unwritten_by (View w x coords) root h k = refl
    unwritten_by (Call j args) root h k = no_call_to root h (world.callees j) args k

pub unwritten_law : UnwrittenLaw
unwritten_law hidden blind world root b y is_hidden h k =
    unwritten hidden blind world y is_hidden b root h k

-- ---- a block on a staged buffer

module _ (blind : ℕ → Bool) (root : ℕ → ℕ) (a : ℕ) (seen : Seen) (to : Shape) (b : Block)
    (s : State) (h : IsAlone blind root a seen to b s) where
  abbrev with_a : ℕ → ℕ
  with_a = updated root a a

  -- what is there is not a
  not_buffer : (y : ℕ) → IsSome (s.scene.buffers y) → (y == a) ≡ false
  not_buffer y i = go (y == a) refl
    where
      go : (t : Bool) → (y == a) ≡ t → t ≡ false
      go false e = refl
      go true e =
          absurd (true≢false (sym (subst IsSome (ap s.scene.buffers (eqb-true y a e)
          ∙ h.new.buffers) i)))

  not_view : (y : ℕ) (z : Seen) → s.scene.views y ≡ Some z → (y == a) ≡ false
  not_view y z i = go (y == a) refl
    where
      go : (t : Bool) → (y == a) ≡ t → t ≡ false
      go false e = refl
      go true e = absurd (none_is_some (sym h.new.views ∙ ap s.scene.views (sym (eqb-true y a e))
          ∙ i))

  root_there : IsSome (s.scene.buffers seen.buffer)
  root_there = subst IsSome (sym h.there) refl

  own_root : (y : ℕ) → IsSome (s.scene.buffers y) → with_a y ≡ y
  own_root y i = updated_other root a a y (not_buffer y i) ∙ h.own y i

  a_root : with_a a ≡ a
  a_root = ap (λ t. cond t a (root a)) (eq-eqb a a refl)

  shown : has_root with_a seen.buffer a ≡ false
  shown = ap (λ n. seen.buffer == n) a_root ∙ not_buffer seen.buffer root_there

  hides : has_root with_a seen.buffer seen.buffer ≡ true
  hides = eq-eqb seen.buffer (with_a seen.buffer) (sym (own_root seen.buffer root_there))

  only : (y : ℕ) → has_root with_a seen.buffer y ≡ true → IsSome (s.scene.buffers y)
      → y ≡ seen.buffer
  only y k i = sym (eqb-true seen.buffer (with_a y) k ∙ own_root y i)

  views : (y : ℕ) (z : Seen) → has_root with_a seen.buffer y ≡ false → s.scene.views y ≡ Some z
      → has_root with_a seen.buffer z.buffer ≡ false
  views y z k e = ap (λ n. seen.buffer == n) (own_root z.buffer (h.sound.seen y z e) ∙ h.roots y z e
      ∙ sym (updated_other root a a y (not_view y z e))) ∙ k

  more_roots : HasRoots with_a (staged a seen to s).scene
  more_roots x z e = go (x == a) e
    where
      go : (t : Bool) → cond {A = Option Seen} t
          (Some (record { buffer = a; sides = whole (extents seen.sides) })) (s.scene.views x)
          ≡ Some z → z.buffer ≡ cond t a (root x)
      go true k = ap (λ (r : Seen). r.buffer)
          (sym (one_value (record { buffer = a; sides = whole (extents seen.sides) }) z k))
      go false k = h.roots x z k

pub alone_law : AloneLaw
alone_law blind world root a seen to b s h = record {
  sound = h.sound;
  there = h.there;
  new = h.new;
  shown = shown blind root a seen to b s h;
  blinds = h.blinds;
  hides = hides blind root a seen to b s h;
  only = only blind root a seen to b s h;
  views = views blind root a seen to b s h;
  names = h.names;
  not_made = h.not_made;
  roots = more_roots blind root a seen to b s h;
  not_written = unwritten_law (has_root (updated root a a) seen.buffer) blind world
      (updated root a a) b seen.buffer (hides blind root a seen to b s h) (λ x k. k) h.names;
}
