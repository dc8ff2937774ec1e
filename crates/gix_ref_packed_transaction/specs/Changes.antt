-- Changes of records by their keys: what becomes of the records of `packed-refs` by them.
use Rattle.std.specs.Prelude.{◌≡◌, ◌≢◌, ◌||◌, ℕ, Bool, true, false, List, [], ◌∷◌, Option, Some, is_some, map, if◌then◌else◌, bytes_eq, MatchResult, Result}
use Rattle.std.specs.List.{All, list_any}
use Rattle.std.specs.Cmp.Lexicographic.{slice_cmp}
use Rattle.std.specs.List.Sorted.{IsStrictlySortedBy}
use Rattle.std.specs.Option.{option_map}
use Rattle.std.specs.Ordering.{nat_cmp}
use Rattle.gix_ref_hash.specs.declared.hash.Kind.{Kind}
use Rattle.gix_ref_target.specs.PackedRecords.{Record, record_named, written_text}
use Rattle.gix_ref_packed_text.specs.OpenedText.{IsWellFormed}
use Rattle.gix_ref_packed_text.specs.RecordGrammar.{Ascending}
use Rattle.gix_ref_packed_text.specs.WrittenText.{written_header}
use Rattle.gix_ref_packed_text.specs.declared.edit.NewRecord.{NewRecord}
use Rattle.gix_ref_packed_text.specs.declared.edit.RecordEdit.{RecordEdit}
use Rattle.gix_ref_packed_text.specs.declared.outcome.Rewrite.{Rewrite}
use Rattle.gix_ref_packed_text.specs.declared.outcome.Rewrite.TheVariants.{Unchanged, Removed, Text}
use Rattle.gix_ref_packed_text.specs.RecordEdits.{new_record}
use Rattle.gix_ref_packed_text.specs.Rewrites.{IsReadableIfAny}
use Rattle.gix_ref_packed_transaction.specs.declared.changes.KeyChange.{KeyChange}

-- a change of the record of a key: what is put, or that it is removed
abbrev pub ChangeValue : Type 0
ChangeValue = List ℕ × Option NewRecord

abbrev pub change_value : KeyChange → ChangeValue
change_value c = (c.key.items, c.put)

abbrev pub change_values : List KeyChange → List ChangeValue
change_values changes = map change_value changes

-- an edit of a record as such a change
abbrev pub edit_value : RecordEdit → ChangeValue
edit_value e = (e.key.now, e.put)

abbrev pub edit_values : List RecordEdit → List ChangeValue
edit_values edits = map edit_value edits

-- the keys
abbrev pub keys_in : List ChangeValue → List (List ℕ)
keys_in changes = map (λ (c : ChangeValue). c.0) changes

-- changes in the order of their keys, each of which has one
abbrev pub AreDistinct : List ChangeValue → Type 0
AreDistinct changes = IsStrictlySortedBy (slice_cmp nat_cmp) (keys_in changes)

-- the record that a change leaves under its key
abbrev pub record_left : ChangeValue → Option Record
record_left c = option_map (new_record c.0) c.1

-- the record of a key after the changes, of which at most one is of the key, where `old` was there
abbrev pub record_by : List ChangeValue → List ℕ → Option Record → Option Record
record_by [] key old = old
record_by (c ∷ changes) key old = if bytes_eq c.0 key then record_left c
    else record_by changes key old

-- the change puts a record, or finds one to remove
abbrev pub changes_one : List Record → ChangeValue → Bool
changes_one rs c = is_some c.1 || is_some (record_named c.0 rs)

-- some change does
abbrev pub change_some : List ChangeValue → List Record → Bool
change_some changes rs = list_any (changes_one rs) changes

-- the records after the changes, in the order of their names
pub record AreChanged (changes : List ChangeValue) (old new : List Record) : Type 0 where
  pub each : (key : List ℕ) → record_named key new ≡ record_by changes key (record_named key old)
  pub ascending : Ascending new

-- what is put can be read
abbrev pub AreReadable : Kind → List ChangeValue → Type 0
AreReadable kind changes = All (λ (c : ChangeValue). IsReadableIfAny kind (record_left c)) changes

-- the text of such records, which is read as they are
pub record IsChangedText (kind : Kind) (changes : List ChangeValue) (old : List Record)
    (text : List ℕ) : Type 0 where
  pub new : List Record
  pub changed : AreChanged changes old new
  pub some : new ≢ []
  pub is_text : text ≡ written_text new
  pub well : AreReadable kind changes → IsWellFormed kind text (Some written_header) new

-- what becomes of these records by the changes
abbrev pub IsChanged : Kind → List ChangeValue → List Record → Rewrite → Type 0
IsChanged kind changes old Unchanged = change_some changes old ≡ false
IsChanged kind changes old Removed = (change_some changes old ≡ true) × AreChanged changes old []
IsChanged kind changes old (Text text) = (change_some changes old ≡ true)
    × IsChangedText kind changes old text.items

-- the records become this by changes, where these are distinct; or why not
abbrev pub BecomesBy : {E : Type 0} → Kind → List KeyChange → List Record → (E → Type 0) →
    Result Rewrite E → Type 0
BecomesBy kind changes rs Fails result = AreDistinct (change_values changes) →
    MatchResult result (IsChanged kind (change_values changes) rs) Fails
