-- The first items of a listing between counts of faults that are farther apart.
use Rattle.std.proofs.Common.{List, [], ◌∷◌, Result, Ok, Err}
use Rattle.gix_ref_files.proofs.Meeting.{no_fewer_starts, no_fewer_joins, met_wider}
use Rattle.gix_ref_files.specs.Files.{Meaning, FaultCounts, NoFewer}
use Rattle.gix_ref_theory.specs.Views.{View}
use Rattle.gix_ref_packed_text.specs.declared.raw.Reference.{Reference}
use Rattle.gix_ref_lookup.specs.declared.settings.Settings.{Settings}
use Rattle.gix_ref_lookup.specs.declared.find.error.ReadError.TheVariants.{File as file_error, DeviceName}
use Rattle.gix_ref_listing.specs.Items.{IsItem}
use Rattle.gix_ref_listing.specs.Listings.{Listed}
use Rattle.gix_ref_listing.specs.Listings.Listed.{Walked, InPacked}
use Rattle.gix_ref_listing.specs.declared.found.Found.TheVariants.{File, Unlisted}
use Rattle.gix_ref_listing.specs.declared.error.Error.{Error}
use Rattle.gix_ref_listing.specs.declared.error.Error.TheVariants.{Traversal, ReadFileContents, ReferenceCreation, PackedReference, Memory}
use Rattle.gix_ref_store.specs.Listings.{AreFirst}

module _ (honest : Type 0) (settings : Settings) (view : View) where
  item_from : (before mid now : FaultCounts) (one : Listed) (item : Result Reference Error) → NoFewer before mid → IsItem honest settings view mid now one item → IsItem honest settings view before now one item
  item_from before mid now (InPacked own) item le is = is
  item_from before mid now (Walked (key, File name path)) (Ok r) le is = is
  item_from before mid now (Walked (key, File name path)) (Err (ReadFileContents (file_error source) at)) le is = (met_wider le (no_fewer_starts now) is.0, is.1, is.2)
  item_from before mid now (Walked (key, File name path)) (Err (ReadFileContents DeviceName at)) le is = is
  item_from before mid now (Walked (key, File name path)) (Err (ReferenceCreation source at)) le is = is
  item_from before mid now (Walked (key, File name path)) (Err Memory) le is = is
  item_from before mid now (Walked (key, File name path)) (Err (Traversal source at)) le is = is
  item_from before mid now (Walked (key, File name path)) (Err (PackedReference line number)) le is = is
  item_from before mid now (Walked (key, Unlisted path source)) (Ok r) le is = is
  item_from before mid now (Walked (key, Unlisted path source)) (Err error) le is = is

module _ {F : Type 0} (honest : Type 0) (means : F → Meaning) (faults : F → FaultCounts) where
  -- the same items between counts that are farther apart
  pub first_to : (settings : Settings) (view : View) (before mid now : FaultCounts) (listed rest : List Listed) (items : List (Result Reference Error)) → NoFewer mid now →
      AreFirst honest means faults settings view before mid listed rest items → AreFirst honest means faults settings view before now listed rest items
  first_to settings view before mid now listed rest [] le are = (no_fewer_joins are.0 le, are.1)
  first_to settings view before mid now listed rest (item ∷ items) le (m, one, more, same, up, is, later) = (m, one, more, same, up, is, first_to settings view m mid now more rest items le later)

  pub first_from : (settings : Settings) (view : View) (before mid now : FaultCounts) (listed rest : List Listed) (items : List (Result Reference Error)) → NoFewer before mid →
      AreFirst honest means faults settings view mid now listed rest items → AreFirst honest means faults settings view before now listed rest items
  first_from settings view before mid now listed rest [] le are = (no_fewer_joins le are.0, are.1)
  first_from settings view before mid now listed rest (item ∷ items) le (m, one, more, same, up, is, later) = (m, one, more, same, no_fewer_joins le up, item_from honest settings view before mid m one item le is, later)
