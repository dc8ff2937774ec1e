-- What becomes of `packed-refs` by the edits of a transaction.
use Rattle.std.specs.Prelude.{◌≡◌, ◌&&◌, ◌||◌, ℕ, Bool, true, false, List, [], ◌∷◌, Option, Some, is_some}
use Rattle.std.specs.Option.{option_map}
use Rattle.gix_ref_hash.specs.declared.hash.Kind.{Kind}
use Rattle.gix_ref_target.specs.PackedRecords.{Record}
use Rattle.gix_ref_name.specs.NameGrammar.{IsFullName}
use Rattle.gix_ref_packed_text.specs.OpenedText.{IsWellFormed}
use Rattle.gix_ref_packed_text.specs.WrittenText.{written_header}
use Rattle.gix_ref_edits.specs.RefEdits.{name_of}
use Rattle.gix_ref_packed_text.specs.Laws.{IsIdOf, IsIdIfAny}
use Rattle.gix_ref_packed_text.specs.declared.edit.NewRecord.{NewRecord}
use Rattle.gix_ref_packed_text.specs.declared.outcome.Rewrite.{Rewrite}
use Rattle.gix_ref_packed_text.specs.declared.outcome.Rewrite.TheVariants.{Unchanged, Removed, Text}
use Rattle.gix_ref_theory.specs.Between.{AreEdits, MergesRecords}
use Rattle.gix_ref_theory.specs.Edits as plan
use Rattle.gix_ref_theory.specs.Edits.{Mode, alters_packed, file_of_records}
use Rattle.gix_ref_theory.specs.Readings.{Store, records_of_file}
use Rattle.gix_ref_files.specs.Files.{Meaning}
use Rattle.gix_ref_lookup.specs.Lookups.{ArePackedRecordsWith}
use Rattle.gix_ref_lookup.specs.declared.settings.Settings.{Settings}
use Rattle.gix_ref_transaction.specs.Causes.{deletes_reference}
use Rattle.gix_ref_transaction.specs.PackedCauses.{ids_among}
use Rattle.gix_ref_transaction.specs.Packing.{HaveTheirPuts, plan_edits}
use Rattle.gix_ref_transaction.specs.PrepareSteps.{ids_in, setting_of, updates}
use Rattle.gix_ref_transaction.specs.declared.edit.Edit.{Edit}
use Rattle.gix_ref_transaction.specs.declared.edit.PackedObject.{PackedObject}

-- the edit puts a record, or deletes a reference of which one was found
abbrev pub alters_record : Edit → Bool
alters_record edit = is_some edit.put
    || (deletes_reference edit.update.change && is_some edit.packed)

-- the ids of the record that is put
abbrev pub new_put : Option PackedObject → Option NewRecord
new_put put = option_map
    (λ (object : PackedObject). record { target = object.target; peeled = object.peeled }) put

-- What an edit puts can be read as a record: its key is a full name, and its ids are of the kind.
pub record CanBePut (s : Store) (kind : Kind) (edit : Edit) (object : PackedObject) : Type 0 where
  pub key : (k : List ℕ) → s.key (name_of edit.update) ≡ Some k → IsFullName k
  pub target : IsIdOf kind object.target
  pub peeled : IsIdIfAny kind object.peeled

-- and so for each of these edits that puts something
abbrev pub AllCanBePut : Store → Kind → List Edit → Type 0
AllCanBePut s kind [] = Unit {0}
AllCanBePut s kind (e ∷ edits) = ((object : PackedObject) → e.put ≡ Some object →
    CanBePut s kind e object) × AllCanBePut s kind edits

-- The new text of `packed-refs`: that of the merged records, which is well formed and read as these records.
pub record IsNewPacked (s : Store) (mode : Mode) (kind : Kind) (rs : List Record)
    (edits : List plan.Edit) (text : List ℕ) : Type 0 where
  pub merged : List Record
  pub is_merged : MergesRecords s mode edits rs merged
  pub is_file : file_of_records s merged ≡ Some text
  pub reads_back : records_of_file s (Some text) ≡ merged
  pub well : IsWellFormed kind text (Some written_header) merged

-- What becomes of `packed-refs` with these records by the edits: it stays where nothing alters it, is removed where no record is
-- left, and else has a new text.
abbrev pub IsRepack : Store → Mode → Kind → List Record → List plan.Edit → Rewrite → Type 0
IsRepack s mode kind rs edits Unchanged = alters_packed s mode rs edits ≡ false
IsRepack s mode kind rs edits Removed = (alters_packed s mode rs edits ≡ true)
    × MergesRecords s mode edits rs []
IsRepack s mode kind rs edits (Text text) = (alters_packed s mode rs edits ≡ true)
    × IsNewPacked s mode kind rs edits text.items

-- This holds for each mode, and these records of a `packed-refs` that is well formed, where no two edits have one place, each has its id
-- among the records, and puts what it is to, which can be put.
abbrev pub OfGoodEdits : Settings → Meaning → List Edit → (Mode → List Record → Type 0) → Type 0
OfGoodEdits settings meaning edits P =
    (mode : Mode) → AreEdits (setting_of settings) (plan_edits edits) →
    (rs : List Record) → ArePackedRecordsWith settings meaning rs →
    ids_in edits ≡ ids_among (setting_of settings) rs (updates edits) →
    HaveTheirPuts (setting_of settings) mode edits →
    AllCanBePut (setting_of settings) settings.kind edits → P mode rs
