-- Threads may share what a procedure's claims are told by.
use denote.Ref.{NamedLft}
use denote.Struct.Declared.{shape}
use denote.Param.Send.{IsSync, struct_sync, sendable}
use denote.Param.SendFields.{as_row_sync}
use Rattle.std.proofs.Crossing.{Vec-sync}
use Rattle.std.proofs.MapsCrossing.{BTreeMap-sync}
use Rattle.exo_tree.proofs.number.Id.TheSendSync as id
use Rattle.config_state.proofs.set.FieldTable.TheSendSync as table
use Rattle.affine_places.specs.contracts.layout.Extents as Extents
use Rattle.affine_places.specs.contracts.layout.Layout as Layout
use Rattle.affine_places.specs.contracts.rooted.Rooted as Rooted
use Rattle.affine_places.specs.contracts.roots.Roots as Roots
use Rattle.affine_systems.proofs.amount.Amount.TheSendSync as amount
use Rattle.exo_modes.proofs.table.ModeTable.TheSendSync as modes
use Rattle.exo_tree.proofs.number.ProcId.TheSendSync as proc_id
use Rattle.text_show.specs.contracts.names.ShownNames as Names
use Rattle.text_show.specs.contracts.words.Words as Words
use Rattle.check_claims.specs.contracts.extents.Extents as Claimed
use Rattle.check_claims.specs.contracts.sources.Sources as Sources
use Rattle.bounds_check.specs.contracts.claims.ProcedureSite as ProcedureSite
use Rattle.bounds_check.specs.contracts.listing.Listing as Listing
use Rattle.bounds_check.proofs.Crosses.{Indices-sync, Proc-sync, Unit-sync}

module _ (a : NamedLft) where
  Extents-sync : IsSync (Extents.the_field a).row
  Extents-sync = let i = Indices-sync in search sendable depth 20

  Layout-sync : IsSync (Layout.the_field a).row
  Layout-sync = let x = Extents-sync in search sendable depth 20

  Rooted-field_sync : IsSync (Rooted.the_field a).row
  Rooted-field_sync =
      let x = Layout-sync in let y = id.the_field_sync in search (Vec-sync, sendable) depth 20

  Rooted-sync : IsSync (Rooted.the_row a)
  Rooted-sync = as_row_sync (Rooted.the_field a) Rooted-field_sync

  Roots-field_sync : IsSync (Roots.the_field a).row
  Roots-field_sync =
      let x = Rooted-sync in
      struct_sync (shape (Roots.the_type a)) (search (BTreeMap-sync, sendable) depth 20, tt)

  Roots-sync : IsSync (Roots.the_row a)
  Roots-sync = as_row_sync (Roots.the_field a) Roots-field_sync

  -- ---- the words and the extents of a procedure
  Names-field_sync : IsSync (Names.the_field a).row
  Names-field_sync =
      struct_sync (shape (Names.the_type a)) (search (BTreeMap-sync, sendable) depth 20, tt)

  Names-sync : IsSync (Names.the_row a)
  Names-sync = as_row_sync (Names.the_field a) Names-field_sync

  Words-field_sync : IsSync (Words.the_field a).row
  Words-field_sync =
      let u = Unit-sync in let n = Names-field_sync in
      struct_sync (shape (Words.the_type a))
      (search sendable depth 20, (search sendable depth 20, tt))

  Words-sync : IsSync (Words.the_row a)
  Words-sync = as_row_sync (Words.the_field a) Words-field_sync

  Claimed-field_sync : IsSync Claimed.the_field.row
  Claimed-field_sync =
      let i = Indices-sync in
      struct_sync (shape Claimed.the_type) (search (BTreeMap-sync, sendable) depth 20, tt)

  Claimed-sync : IsSync Claimed.the_row
  Claimed-sync = as_row_sync Claimed.the_field Claimed-field_sync

  Sources-field_sync : IsSync (Sources.the_field a).row
  Sources-field_sync =
      let w = Words-field_sync in let e = Claimed-field_sync in
      struct_sync (shape (Sources.the_type a))
      (search sendable depth 20, (search sendable depth 20, tt))

  Sources-sync : IsSync (Sources.the_row a)
  Sources-sync = as_row_sync (Sources.the_field a) Sources-field_sync

  -- ---- a listing
  Listing-field_sync : IsSync (Listing.the_field a).row
  Listing-field_sync =
      let u = Unit-sync in let p = Proc-sync in let n = proc_id.the_field_sync in
      let t = table.the_sync in let m = modes.the_sync in let r = Roots-field_sync in
      let s = Sources-field_sync in let o = amount.the_field_sync in
      struct_sync (shape (Listing.the_type a)) (
        search sendable depth 20,
        (
          search sendable depth 20,
          (
            search sendable depth 20,
            (
              search sendable depth 20,
              (
                search sendable depth 20,
                (
                  search sendable depth 20,
                  (
                    search sendable depth 20,
                    (
                      search sendable depth 20,
                      (
                        search sendable depth 20,
                        (search sendable depth 20, tt),
                      ),
                    ),
                  ),
                ),
              ),
            ),
          ),
        ),
      )

  pub Listing-sync : IsSync (Listing.the_row a)
  Listing-sync = as_row_sync (Listing.the_field a) Listing-field_sync

module _ (s a : NamedLft) where
  ProcedureSite-field_sync : IsSync (ProcedureSite.the_field s a).row
  ProcedureSite-field_sync =
      let u = Unit-sync in let p = Proc-sync in let r = Roots-sync a in let t = table.the_sync in
      search sendable depth 20

  pub ProcedureSite-sync : IsSync (ProcedureSite.the_row s a)
  ProcedureSite-sync = as_row_sync (ProcedureSite.the_field s a) ProcedureSite-field_sync
