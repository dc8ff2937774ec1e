-- A name that is asked for once more, since its file is gone.
use Rattle.std.proofs.Common.{◌≡◌, ℕ, List, inl, inr, refl, sym, subst, Option, Some, None, Result, Ok, Err}
use Rattle.gix_ref_files.specs.Files.{FaultCounts}
use Rattle.std.specs.Prelude.{IfOk, IfNone, IfSome}
use Rattle.gix_ref_hash.specs.declared.hash.Kind.{Kind}
use Rattle.gix_ref_name.specs.Names.{full_bytes}
use Rattle.gix_ref_name.specs.declared.name.FullName.{FullName}
use Rattle.gix_ref_target.specs.PackedRecords.{Record, record_named}
use Rattle.gix_ref_packed_text.specs.Windows.{AreFound}
use Rattle.gix_ref_packed_text.specs.declared.packed.window.Found.{Found as FoundIds}
use Rattle.gix_ref_packed_text.specs.declared.raw.Reference.{Reference}
use Rattle.gix_ref_theory.specs.Readings.{Store, reading_by}
use Rattle.gix_ref_theory.specs.Readings.Reading.{Absent}
use Rattle.gix_ref_theory.specs.Views.{View}
use Rattle.gix_ref_lookup.specs.LooseFiles.{IsUndecodable}
use Rattle.gix_ref_lookup.specs.Lookups.{meaning_in, ArePackedRecords, HasKey, IsLooseTarget, IsNotReadAt, OfKey}
use Rattle.gix_ref_lookup.proofs.NamedRecords.{of_key}
use Rattle.gix_ref_lookup.specs.declared.settings.Settings.{Settings}
use Rattle.gix_ref_lookup.specs.declared.find.error.ReadError.TheVariants.{File as file_error, DeviceName}
use Rattle.gix_ref_lookup.specs.declared.find.error.Error.{Error as LookupError}
use Rattle.gix_ref_lookup.specs.declared.find.error.Error.TheVariants as looking
use Rattle.gix_ref_listing.specs.GoneFiles.{HasNoRecord, HitsNow, IsAskedAgain, IsFoundNow, IsPackedAgain, IsRecordNow}
use Rattle.gix_ref_listing.specs.Items.{IsFileItem, IsUnread, of_reading}
use Rattle.gix_ref_listing.specs.declared.error.Error.{Error}
use Rattle.gix_ref_listing.specs.declared.error.Error.TheVariants.{Traversal, ReadFileContents, ReferenceCreation, PackedReference, Memory}

-- ---- the record of a key

none_named : (r : Option Record) → AreFound r None → r ≡ None
none_named None h = refl
none_named (Some x) h = absurd h

-- a name whose key has no record reads nothing among records
pub no_record : (settings : Settings) (rs : List Record) (name key : List ℕ) (found : Option FoundIds) → HasKey (meaning_in settings) name key → AreFound (record_named key rs) found →
    IfNone found (reading_by (meaning_in settings) ((meaning_in settings).key name) None rs ≡ Absent)
no_record settings rs name key None keyed are = of_key settings rs name key None keyed (none_named (record_named key rs) are)
no_record settings rs name key (Some found) keyed are = tt

-- what is found of its key is found of a name
pub found_now : {E : Type 0} (settings : Settings) (view : View) (name key : List ℕ) (r : Result (Option FoundIds) E) → HasKey (meaning_in settings) name key →
    ((records : List Record) → ArePackedRecords settings.kind (view (meaning_in settings).packed_path) records → IfOk r (AreFound (record_named key records))) →
    IfOk r (λ found. IfSome found (HitsNow settings.kind (view (meaning_in settings).packed_path) key)) → IfOk r (IsFoundNow settings view name)
found_now settings view name key (Ok None) keyed are hit = λ records of. no_record settings records name key None keyed (are records of)
found_now settings view name key (Ok (Some found)) keyed are hit = (key, keyed, hit)
found_now settings view name key (Err e) keyed are hit = tt

-- ---- why a file gives no target

-- the fault of the reason
pub unread_of : (honest : Type 0) (kind : Kind) (s : Store) (view : View) (before now : FaultCounts) (name at : List ℕ) (e : LookupError) (error : Error) → error ≡ of_reading e →
    IsNotReadAt honest kind s view before now name at e → IsUnread honest kind s view before now name at error
unread_of honest kind s view before now name at (looking.ReadFileContents (file_error source) path) error is why = subst (IsUnread honest kind s view before now name at) (sym is) why
unread_of honest kind s view before now name at (looking.ReadFileContents DeviceName path) error is why = subst (IsUnread honest kind s view before now name at) (sym is) why
unread_of honest kind s view before now name at (looking.ReferenceCreation source path) error is why = subst (IsUnread honest kind s view before now name at) (sym is) why
unread_of honest kind s view before now name at looking.Memory error is why = subst (IsUnread honest kind s view before now name at) (sym is) why
unread_of honest kind s view before now name at (looking.RefnameValidation e) error is why = absurd why
unread_of honest kind s view before now name at (looking.PackedRef e) error is why = absurd why
unread_of honest kind s view before now name at (looking.PackedOpen e) error is why = absurd why

-- ---- the same of files that were only looked at since

module _ (honest : Type 0) (settings : Settings) (view view' : View) (same : honest → view' ≡ view) where
  unread_from : (before now : FaultCounts) (name at : List ℕ) (error : Error) → IsUnread honest settings.kind (meaning_in settings) view' before now name at error → IsUnread honest settings.kind (meaning_in settings) view before now name at error
  unread_from before now name at (ReadFileContents (file_error source) path) is = is
  unread_from before now name at (ReadFileContents DeviceName path) is = is
  unread_from before now name at (ReferenceCreation source path) is = (is.0, λ h. subst (λ (v : View). IsUndecodable settings.kind (v at) source) (same h) (is.1 h))
  unread_from before now name at Memory is = tt
  unread_from before now name at (Traversal source path) is = absurd is
  unread_from before now name at (PackedReference line number) is = absurd is

  file_from : (before now : FaultCounts) (name : FullName) (at : List ℕ) (item : Result Reference Error) → IsFileItem honest settings view' before now name at item → IsFileItem honest settings view before now name at item
  file_from before now name at (Ok r) is = (is.0, λ h. subst (λ (v : View). IsLooseTarget (meaning_in settings) (v at) (Some r.target)) (same h) (is.1 h), is.2, is.3)
  file_from before now name at (Err e) is = unread_from before now (full_bytes name) at e is

  pub packed_from : (name : FullName) (item : Result Reference Error) → IsPackedAgain honest settings view' name item → IsPackedAgain honest settings view name item
  packed_from name (Ok r) is =
      (is.0, λ h. subst (λ (v : View). OfKey (meaning_in settings) (full_bytes name) (λ key. IsRecordNow settings.kind (v (meaning_in settings).packed_path) key r)) (same h) (is.1 h))
  packed_from name (Err e) (inl unread) = inl unread
  packed_from name (Err e) (inr (none, gone)) = inr (λ h. subst (λ (v : View). HasNoRecord settings v (full_bytes name)) (same h) (none h), gone)

  pub asked_from : (before before' now : FaultCounts) (name : FullName) (item : Result Reference Error) → before' ≡ before → IsAskedAgain honest settings view' before' now name item → IsAskedAgain honest settings view before now name item
  asked_from before before' now name item count (inl file) =
      inl (subst (λ (n : FaultCounts). IsFileItem honest settings view n now name ((meaning_in settings).place (full_bytes name)) item) count (file_from before' now name ((meaning_in settings).place (full_bytes name)) item file))
  asked_from before before' now name item count (inr (none, allowed, packed)) =
      inr (λ h. subst (λ (v : View). v ((meaning_in settings).place (full_bytes name)) ≡ None) (same h) (none h), allowed, packed_from name item packed)
