-- What every stop inside a commit has to leave, and what a commit leaves that succeeds.
use Rattle.std.specs.Prelude.{◌≡◌, ◌≢◌, ℕ, List, [], ◌∷◌, ◌++◌, Option, Some, None, true, false, if◌then◌else◌, ◌⊎◌, MatchBool, AllPairs}
use Rattle.std.specs.Cmp.Lexicographic.{slice_cmp}
use Rattle.std.specs.Ordering.{nat_cmp}
use Rattle.std.specs.declared.cmp.Ordering.TheVariants.{Less}
use Rattle.gix_ref_target.specs.Targets.{TargetValue}
use Rattle.gix_ref_files.specs.Tree.{Path}
use Rattle.gix_ref_theory.specs.Views.{Ending, IsPartOf, View, file_bytes, IsOwnLock}
use Rattle.gix_ref_hash.specs.declared.hash.ObjectId.{ObjectId}
use Rattle.gix_ref_target.specs.Targets.TargetValue.{object_id}
use Rattle.gix_ref_target.specs.PackedRecords.{Record, record_named, id_read, written_id}
use Rattle.gix_ref_theory.specs.Readings.{Store, reading, records_of_file}
use Rattle.gix_ref_theory.specs.Edits.{Edit, Change, Effect, Mode, effect, removes_packed, packs, merged_record, alters_packed, file_of_records, is_deletion, due, is_due, removes_log, edited_reading}
use Rattle.gix_ref_theory.specs.Edits.Change.{Update, Delete}
use Rattle.gix_ref_theory.specs.Edits.Effect.{Writes, Removes, Keeps}

-- the edit is one of these
abbrev pub IsEdit : Edit → List Edit → Type 0
IsEdit e [] = ⊥
IsEdit e (f ∷ edits) = (f ≡ e) ⊎ IsEdit e edits

-- each edit names a reference, and no two have one place: each holds the lock of its place
abbrev pub AreEdits : Store → List Edit → Type 0
AreEdits s [] = Unit {0}
AreEdits s (e ∷ edits) =
    (s.is_reference e.name ≡ true) × ((f : Edit) → IsEdit f edits → s.place e.name ≢ s.place f.name)
    × AreEdits s edits

-- The merged records: the old ones without the keys of deletions and with the packed updates, ascending by name. A
-- record that no edit alters is the old one, with its ids as they were written.
pub record MergesRecords (s : Store) (mode : Mode) (edits : List Edit)
    (old new : List Record) : Type 0 where
  pub each : (key : List ℕ) → record_named key new
      ≡ merged_record s mode edits key (record_named key old)
  pub ascending : AllPairs (λ (r later : Record). slice_cmp nat_cmp r.name later.name ≡ Less) new

-- What `prepare` has seen to, before the writes of its commit.
pub record IsPrepared (s : Store) (mode : Mode) (view : View) (edits : List Edit)
    (merged : List Record) : Type 0 where
  pub apart : AreEdits s edits
  -- no edit is of a reference that the store prohibits
  pub allowed : (e : Edit) → IsEdit e edits → s.is_prohibited (s.place e.name) ≡ false
  -- a loose text that is written decodes to its target
  pub targets_read_back : (e : Edit) (target : TargetValue) → IsEdit e edits →
      e.change ≡ Update target → s.target_of (s.text_of target) ≡ Some target
  -- the digits of a new id are read as it
  pub ids_read_back : (e : Edit) (id : ObjectId) → IsEdit e edits →
      e.change ≡ Update (object_id id) → id_read (written_id id) ≡ Some id
  -- where `packed-refs` changes, there are merged records
  pub records_are_merged : alters_packed s mode (records_of_file s (view s.packed_path)) edits
      ≡ true → MergesRecords s mode edits (records_of_file s (view s.packed_path)) merged
  -- and they decode to themselves when they are written
  pub records_read_back : alters_packed s mode (records_of_file s (view s.packed_path)) edits
      ≡ true → records_of_file s (file_of_records s merged) ≡ merged

-- the reference reads as edited
abbrev pub ReadsAsEdited : Store → List Edit → View → View → List ℕ → Type 0
ReadsAsEdited s edits view left name = reading s left name
    ≡ edited_reading s edits name (reading s view name)

-- the reference reads as before
abbrev pub ReadsAsBefore : Store → View → View → List ℕ → Type 0
ReadsAsBefore s view left name = reading s left name ≡ reading s view name

-- the new file at an edited place: the whole text of its target, or none where it is deleted or packed in the removing mode
abbrev pub IsNewFile : Store → Mode → Edit → Change → Option (List ℕ) → Type 0
IsNewFile s mode e Delete file = file ≡ None
IsNewFile s mode e (Update target) file =
    (file ≡ Some (s.text_of target))
    ⊎ ((removes_packed mode ≡ true) × (packs mode (s.key e.name) target ≡ true) × (file ≡ None))

-- a log is as before, or has its old text, a beginning of the lines that are due, and of the bytes that come next what an end
-- among them leaves; or it is gone with a deletion
abbrev pub IsLogLeft : Ending → Store → List Edit → Path → Option (List ℕ) →
    Option (List ℕ) → Type 0
IsLogLeft ending s edits log old new =
    (new ≡ old)
    ⊎ (((is_due s edits log ≡ true)
    × ((front bytes rest part : List ℕ) × (front ++ (bytes ++ rest) ≡ due s edits log)
    × IsPartOf ending part bytes × (new ≡ Some (file_bytes old ++ (front ++ part)))))
    ⊎ ((removes_log s edits log ≡ true) × (new ≡ None)))

-- a log is as before, or its old text and a beginning of the lines that are due, or gone with a deletion
abbrev pub IsLogBetween : Store → List Edit → Path → Option (List ℕ) → Option (List ℕ) → Type 0
IsLogBetween s edits log old new =
    (new ≡ old)
    ⊎ (((is_due s edits log ≡ true) × ((front rest : List ℕ) × (front ++ rest ≡ due s edits log)
    × (new ≡ Some (file_bytes old ++ front))))
    ⊎ ((removes_log s edits log ≡ true) × (new ≡ None)))

-- the new `packed-refs`: the text of the merged records, or none where none is left; the old one where nothing alters it
abbrev pub IsPackedFile : Store → Mode → List Edit → Option (List ℕ) → Option (List ℕ) → Type 0
IsPackedFile s mode edits old new =
    MatchBool (alters_packed s mode (records_of_file s old) edits)
    ((merged : List Record) × MergesRecords s mode edits (records_of_file s old) merged
    × (new ≡ file_of_records s merged))
    (new ≡ old)

-- A path that is no edited place, no log of an edit, not `packed-refs` and no lock of the transaction.
pub record IsOther (s : Store) (locked : List Path) (edits : List Edit) (path : Path) : Type 0 where
  pub no_place : (e : Edit) → IsEdit e edits → e.and_reference ≡ true → s.place e.name ≢ path
  pub no_log : (e : Edit) → IsEdit e edits → s.log e.name ≢ path
  pub not_packed : s.packed_path ≢ path
  pub no_lock : IsOwnLock locked path → ⊥

-- Between: each reference reads as before or as edited, and each file is as before or as the commit makes it.
pub record IsBetween (s : Store) (mode : Mode) (locked : List Path) (edits : List Edit)
    (view left : View) : Type 0 where
  pub readings : (name : List ℕ) → s.is_reference name ≡ true → ReadsAsBefore s view left name
      ⊎ ReadsAsEdited s edits view left name
  pub places : (e : Edit) → IsEdit e edits → e.and_reference ≡ true →
      (left (s.place e.name) ≡ view (s.place e.name))
      ⊎ IsNewFile s mode e e.change (left (s.place e.name))
  pub logs : (e : Edit) → IsEdit e edits → IsLogBetween s edits (s.log e.name) (view (s.log e.name))
      (left (s.log e.name))
  pub packed : (left s.packed_path ≡ view s.packed_path)
      ⊎ IsPackedFile s mode edits (view s.packed_path) (left s.packed_path)
  pub others : (path : Path) → IsOther s locked edits path → left path ≡ view path

-- a deletion that shows finds every update showing
abbrev pub NoDeletionFirst : Store → List Edit → View → View → Type 0
NoDeletionFirst s edits view left =
    (d : Edit) → IsEdit d edits → d.and_reference ≡ true → is_deletion d.change ≡ true →
    (ReadsAsBefore s view left d.name → ⊥) →
    (u : Edit) → IsEdit u edits → is_deletion u.change ≡ false →
    ReadsAsEdited s edits view left u.name

-- an update that shows finds every earlier one showing
abbrev pub InOrder : Store → List Edit → View → View → Type 0
InOrder s edits view left =
    (before : List Edit) (u : Edit) (later : List Edit) → before ++ u ∷ later ≡ edits →
    is_deletion u.change ≡ false → u.and_reference ≡ true → (ReadsAsBefore s view left u.name → ⊥) →
    (e : Edit) → IsEdit e before → is_deletion e.change ≡ false →
    ReadsAsEdited s edits view left e.name

-- the file at the place of an edit: what becomes of it, by what the reference read before
abbrev pub IsCommittedFile : Effect → (old new : Option (List ℕ)) → Type 0
IsCommittedFile (Writes text) old new = new ≡ Some text
IsCommittedFile Removes old new = new ≡ None
IsCommittedFile Keeps old new = new ≡ old

-- the log: gone where a deletion has it, else its old text and all lines that are due
abbrev pub committed_log : Store → List Edit → Path → Option (List ℕ) → Option (List ℕ)
committed_log s edits log old =
    if removes_log s edits log then None else if is_due s edits log
    then Some (file_bytes old ++ due s edits log) else old

-- Committed: each reference reads as edited, and all other files are as before except for locks that stay.
pub record IsCommitted (s : Store) (mode : Mode) (staying : List Path) (edits : List Edit)
    (view left : View) : Type 0 where
  pub readings : (name : List ℕ) → s.is_reference name ≡ true → ReadsAsEdited s edits view left name
  pub places : (e : Edit) → IsEdit e edits → IsCommittedFile (effect s mode view e)
      (view (s.place e.name)) (left (s.place e.name))
  pub logs : (e : Edit) → IsEdit e edits → left (s.log e.name)
      ≡ committed_log s edits (s.log e.name) (view (s.log e.name))
  pub packed : IsPackedFile s mode edits (view s.packed_path) (left s.packed_path)
  pub others : (path : Path) → IsOther s staying edits path → left path ≡ view path
