-- Another thread may take a listing.
-- Each part is a lemma of its own: one `search` that goes down through them all runs out of steps.
use base.Fml.{Lft}
use denote.Builtin.{u32}
use denote.Param.{param}
use denote.Param.Send.{IsSend, IsSync, mut_send, shr_send, param_sync, sendable}
use denote.Param.SendFields.{as_row_send}
use denote.RattleType.{RattleType}
use denote.Ref.{NamedLft, MutRef, ShrRef}
use denote.Struct.Tuple.{TupleAt}
use mir.Syntax.{Lifetime, Sym}
use Rattle.std.proofs.Common.{[], ◌∷◌}
use Rattle.std.proofs.Crossing.{Vec-send}
use Rattle.std.proofs.MapsCrossing.{BTreeMap-send}
use Rattle.std.proofs.Crossing as std
use Rattle.std.specs.contracts.alloc.Global as Global
use Rattle.exo_tree.proofs.number.Id.TheSendSync as id
use Rattle.exo_tree.proofs.number.ProcId.TheSendSync as proc_id
use Rattle.exo_modes.proofs.table.ModeTable.TheSendSync as modes
use Rattle.config_state.proofs.set.FieldTable.TheSendSync as fields
use Rattle.bounds_check.below.affine_places.specs.contracts.layout.Extents as Extents
use Rattle.bounds_check.below.affine_places.specs.contracts.layout.Layout as Layout
use Rattle.bounds_check.below.affine_places.specs.contracts.rooted.Rooted as Rooted
use Rattle.bounds_check.below.affine_places.specs.contracts.roots.Roots as Roots
use Rattle.bounds_check.below.text_show.specs.contracts.names.ShownNames as Names
use Rattle.bounds_check.below.text_show.specs.contracts.words.Words as Words
use Rattle.check_claims.specs.contracts.extents.Extents as Claimed
use Rattle.check_claims.specs.contracts.sources.Sources as Sources
use Rattle.affine_systems.proofs.amount.Amount.TheSendSync as amount
use Rattle.bounds_check.proofs.Crosses.{Indices-send, Indices-sync, Proc-sync, Unit-sync}
use Rattle.bounds_check.specs.contracts.listing.Listing as Listing

-- ---- the roots of a procedure's names
module _ (a : NamedLft) where
  Extents-send : IsSend (Extents.the_field a).row
  Extents-send = let i = Indices-sync in search sendable depth 20

  Layout-send : IsSend (Layout.the_field a).row
  Layout-send = let e = Extents-send in search sendable depth 20

  Rooted-field_send : IsSend (Rooted.the_field a).row
  Rooted-field_send =
      let i = id.the_field_send in let l = Layout-send in
      let d = Vec-send u32 (search sendable) in search sendable depth 20

  Rooted-send : IsSend (Rooted.the_row a)
  Rooted-send = as_row_send (Rooted.the_field a) Rooted-field_send

  Roots-send : IsSend (Roots.the_field a).row
  Roots-send = let r = Rooted-send in search (BTreeMap-send, sendable) depth 20

  -- ---- the words and the extents of a procedure
  Claimed-send : IsSend Claimed.the_field.row
  Claimed-send = let i = Indices-send in search (BTreeMap-send, sendable) depth 20

  Names-send : IsSend (Names.the_field a).row
  Names-send = search (BTreeMap-send, sendable) depth 20

  Words-send : IsSend (Words.the_field a).row
  Words-send = let u = Unit-sync in let n = Names-send in search sendable depth 20

  Sources-send : IsSend (Sources.the_field a).row
  Sources-send = let w = Words-send in let e = Claimed-send in search sendable depth 20

  -- ---- a listing
  Listing-field_send : IsSend (Listing.the_field a).row
  Listing-field_send =
      let u = Unit-sync in let p = Proc-sync in let n = proc_id.the_field_send in
      let f = fields.the_sync in let m = modes.the_sync in let r = Roots-send in
      let s = Sources-send in
      let o = amount.the_field_send in search sendable depth 20

  Listing-send : IsSend (Listing.the_row a)
  Listing-send = as_row_send (Listing.the_field a) Listing-field_send

-- ---- a closure that lists with threads
pub closure_send : (ν : Sym) (ℓ m n : Lifetime) (κ μ η : Lft) (a : NamedLft) (R : RattleType)
    → IsSync R
    → IsSend (TupleAt ν
    (MutRef ℓ κ (Listing.the_row a) ∷ ShrRef m μ (param 0 R) ∷ ShrRef n η Global.the_row ∷ []))
closure_send ν ℓ m n κ μ η a R y =
    let l = mut_send ℓ κ (Listing.the_row a) (Listing-send a) in
    let r = shr_send m μ (param 0 R) (param_sync 0 R y) in
    let g = shr_send n η Global.the_row std.sync in
    search sendable depth 20
