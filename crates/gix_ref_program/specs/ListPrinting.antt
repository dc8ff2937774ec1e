-- How a listing is printed (`git for-each-ref`).
use Rattle.std.specs.Prelude.{◌≡◌, ℕ, Bool, List, [], ◌++◌, codes, Some, None, Option, Result, Ok, Err}
use Rattle.std.specs.Option.{option_map}
use Rattle.std.specs.Result.{is_err}
use Rattle.std.specs.List.{flat_map}
use Rattle.std.specs.Io.KnownBytes.{Appends, Keeps, append_known}
use Rattle.std.specs.Iterator.{Yields}
use Rattle.gix_ref_files.specs.Files.{Meaning, FaultCounts}
use Rattle.gix_ref_packed_text.specs.declared.raw.Reference.{Reference}
use Rattle.gix_ref_listing.specs.Items.{IsOfRecord}
use Rattle.gix_ref_listing.specs.OwnRecords.{own_of}
use Rattle.gix_ref_listing.specs.declared.own_records.OwnRecord.{OwnRecord}
use Rattle.gix_ref_listing.specs.declared.error.Error.{Error}
use Rattle.gix_ref_listing.specs.declared.error.Error.TheVariants.{Traversal, ReadFileContents, ReferenceCreation, PackedReference, Memory}
use Rattle.gix_ref_store.specs.Listings.{NextItem}
use Rattle.gix_ref_store.specs.declared.file.iter.LooseThenPacked.{LooseThenPacked}
use Rattle.gix_ref_store.specs.declared.file.iter.Remaining.{Remaining}
use Rattle.gix_ref_program.specs.Outcomes.{reference_line}
use Rattle.gix_ref_program.specs.Printed.{fault_line, items_status}

abbrev pub fault_word : Error → List ℕ
fault_word (Traversal source path) = codes "Traversal"
fault_word (ReadFileContents source path) = codes "ReadFileContents"
fault_word (ReferenceCreation source path) = codes "ReferenceCreation"
fault_word (PackedReference line number) = codes "PackedReference"
fault_word Memory = codes "Memory"

-- the line of a reference; or a fault
abbrev pub item_text : Result Reference Error → List ℕ
item_text (Ok reference) = reference_line reference
item_text (Err error) = fault_line (fault_word error)

abbrev pub list_text : List (Result Reference Error) → List ℕ
list_text items = flat_map item_text items

-- All that an iterator gives is printed, and gives the status.
pub record PrintsAll {F : Type 0} (honest : Type 0) (means : F → Meaning) (faults : F → FaultCounts)
    (old new : LooseThenPacked F Remaining) (out now : Option (List ℕ)) (status : ℕ) : Type 0 where
  pub items : List (Result Reference Error)
  pub last : LooseThenPacked F Remaining
  pub gives : Yields (NextItem honest means faults) old items last
  pub ends : NextItem honest means faults last None new
  pub status_is : status ≡ items_status items
  pub prints : Appends out now (list_text items)

-- The line of a record is added: that of the reference with its name, its id and the id at which its tag ends.
pub record PushesRecord (own : OwnRecord) (old new : List ℕ) : Type 0 where
  pub reference : Reference
  pub is : IsOfRecord (own_of own) reference
  pub added : new ≡ old ++ reference_line reference

-- the text of an item, if there is one
abbrev pub next_text : Option (Result Reference Error) → List ℕ
next_text None = []
next_text (Some item) = item_text item

-- The next that an iterator gives is printed after a text, and `fault` is whether it is a fault.
pub record PrintsNext {F : Type 0} (honest : Type 0) (means : F → Meaning)
    (faults : F → FaultCounts)
    (old new : LooseThenPacked F Remaining) (out now : Option (List ℕ)) (text : List ℕ)
    (fault : Option Bool) : Type 0 where
  pub item : Option (Result Reference Error)
  pub gives : NextItem honest means faults old item new
  pub fault_is : fault ≡ option_map is_err item
  pub prints : Keeps (append_known out (text ++ next_text item)) now
