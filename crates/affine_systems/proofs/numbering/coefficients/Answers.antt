use Rattle.std.proofs.Common.{◌≡◌, ◌∙◌, ◌^◌, ◌+◌, sym, ap, subst, arith, map, drop, pos}
use Rattle.std.proofs.lemmas.Int.{to_z-of_z}
use Rattle.std.proofs.lemmas.List.{length-map}
use Rattle.std.specs.Int.{w128}
use Rattle.std.specs.List.{position_or_len}
use Rattle.affine_forms.specs.Atoms.{same_atom}
use Rattle.affine_forms.specs.Forms.{are_within}
use Rattle.affine_forms.specs.TermBounds.{are_distinct}
use Rattle.affine_forms.specs.PlainAtoms.{plain_atom, plain_terms}
use Rattle.affine_forms.proofs.TermLists.{plain_drop, plain_end}
use Rattle.affine_forms.proofs.TermWidths.{within_at, within_le, within_from_le, fits_within}
use Rattle.affine_systems.specs.Systems.{numbered_onto, added_at}
use Rattle.affine_systems.proofs.Numbers.{zeros_are, HasRoom, room_first, room_added, room_narrow, room_length, room_at, added_past, apart_at}
use Rattle.affine_systems.proofs.numbering.coefficients.Goals as goal

pub loop-w-init : goal.loop-w-init
loop-w-init c =
    let atoms = map plain_atom c.args.atoms.now in
    let ws = c.as_slice-w-items.result.now in
    let zeros = c.in_ok-all.ensures.items_if_clones_equal (λ y h. h) ∙ zeros_are c.args.atoms.now in
    record {
      sum = ap (λ cs. numbered_onto atoms cs (plain_terms ws)) zeros ∙ ap (numbered_onto atoms (map (λ a. pos 0) atoms)) c.as_slice-w-items.ensures.terms;
      room = subst (HasRoom (plain_terms ws) atoms) (sym zeros) (room_first (plain_terms ws) atoms);
    }

pub loop-w-preserved-then-k-len : goal.loop-w-preserved-then-k-len
loop-w-preserved-then-k-len c =
    let atoms = map plain_atom c.args.atoms.now in
    let ws = c.as_slice-w-items.result.now in
    let i = c.loop-w.w-index in
    let item = c.w-item.result in
    let all = c.loop-w.all.items in
    let rest = plain_terms (drop (i + 1) ws) in
    let whole = plain_drop ws i item c.loop-w-test.true c.w-item.is in
    let narrow = within_at (2 ^ 64) ws i item c.loop-w-test.true c.w-item.is (ap (are_within (2 ^ 64)) c.as_slice-w-items.ensures.terms ∙ c.requires.narrow) in
    let apart = apart_at ws i item c.loop-w-test.true c.w-item.is (ap are_distinct c.as_slice-w-items.ensures.terms ∙ c.requires.distinct) in
    let room = room_added item.coefficient (plain_atom item.atom) rest atoms all narrow apart (subst (λ ts. HasRoom ts atoms all) whole c.loop-w.invariant.room) in
    let k = position_or_len (same_atom (plain_atom item.atom)) atoms in
    let past : added_at k item.coefficient all ≡ all = added_past all k item.coefficient (omega (arith, c.if-k-len.true, c.in_ok-k.ensures, c.len.ensures)) in
    record {
      sum = ap (λ cs. numbered_onto atoms cs rest) (sym past) ∙ sym (ap (numbered_onto atoms all) whole) ∙ c.loop-w.invariant.sum;
      room = subst (HasRoom rest atoms) past room;
    }

pub add_at-requires-clause-narrow : goal.add_at-requires-clause-narrow
add_at-requires-clause-narrow c =
    let atoms = map plain_atom c.args.atoms.now in
    let ws = c.as_slice-w-items.result.now in
    room_at (plain_terms (drop c.loop-w.w-index ws)) atoms c.loop-w.all.items c.in_ok-k.k (pos 0) c.loop-w.invariant.room (omega (arith, c.if-k-len.false, c.len.ensures))

pub add_at-requires-clause-small : goal.add_at-requires-clause-small
add_at-requires-clause-small c =
    let ws = c.as_slice-w-items.result.now in
    let item = c.w-item.result in
    let narrow = within_at (2 ^ 64) ws c.loop-w.w-index item c.loop-w-test.true c.w-item.is (ap (are_within (2 ^ 64)) c.as_slice-w-items.ensures.terms ∙ c.requires.narrow) in
    rw (to_z-of_z w128 item.coefficient (fits_within item.coefficient (within_from_le (2 ^ 126) item.coefficient (omega (arith, within_le (2 ^ 64) item.coefficient narrow))))) narrow

pub loop-w-preserved : goal.loop-w-preserved
loop-w-preserved c =
    let atoms = map plain_atom c.args.atoms.now in
    let ws = c.as_slice-w-items.result.now in
    let i = c.loop-w.w-index in
    let item = c.w-item.result in
    let all = c.loop-w.all.items in
    let rest = plain_terms (drop (i + 1) ws) in
    let whole = plain_drop ws i item c.loop-w-test.true c.w-item.is in
    let narrow = within_at (2 ^ 64) ws i item c.loop-w-test.true c.w-item.is (ap (are_within (2 ^ 64)) c.as_slice-w-items.ensures.terms ∙ c.requires.narrow) in
    let fits = fits_within item.coefficient (within_from_le (2 ^ 126) item.coefficient (omega (arith, within_le (2 ^ 64) item.coefficient narrow))) in
    let apart = apart_at ws i item c.loop-w-test.true c.w-item.is (ap are_distinct c.as_slice-w-items.ensures.terms ∙ c.requires.distinct) in
    let room = room_added item.coefficient (plain_atom item.atom) rest atoms all narrow apart (subst (λ ts. HasRoom ts atoms all) whole c.loop-w.invariant.room) in
    let added = simp to_z-of_z at c.add_at.ensures in
    let new = added ∙ ap (λ k. added_at k item.coefficient all) c.in_ok-k.ensures in
    record {
      sum = ap (λ cs. numbered_onto atoms cs rest) new ∙ sym (ap (numbered_onto atoms all) whole) ∙ c.loop-w.invariant.sum;
      room = subst (HasRoom rest atoms) (sym new) room;
    }

pub returns-clause-narrow : goal.returns-clause-narrow
returns-clause-narrow c = room_narrow (plain_terms (drop c.loop-w.w-index c.as_slice-w-items.result.now)) (map plain_atom c.args.atoms.now) c.loop-w.all.items c.loop-w.invariant.room

pub returns-clause-len : goal.returns-clause-len
returns-clause-len c = room_length (plain_terms (drop c.loop-w.w-index c.as_slice-w-items.result.now)) (map plain_atom c.args.atoms.now) c.loop-w.all.items c.loop-w.invariant.room ∙ length-map c.args.atoms.now plain_atom

pub returns-clause-value : goal.returns-clause-value
returns-clause-value c =
    ap (numbered_onto (map plain_atom c.args.atoms.now) c.loop-w.all.items)
    (sym (plain_end c.as_slice-w-items.result.now c.loop-w.w-index c.loop-w-test.false))
    ∙ c.loop-w.invariant.sum
