-- What `prepare` finds in `packed-refs`, and how its faults are reported.
use Rattle.std.specs.Prelude.{List, Option, map}
use Rattle.gix_ref_hash.specs.declared.hash.ObjectId.{ObjectId}
use Rattle.gix_ref_target.specs.PackedRecords.{Record}
use Rattle.gix_ref_theory.specs.Readings.{Store}
use Rattle.gix_ref_edits.specs.RefEdits.{name_of}
use Rattle.gix_ref_edits.specs.declared.transaction.RefEdit.{RefEdit}
use Rattle.gix_ref_lookup.specs.declared.find.error.Error.{Error as LookupError}
use Rattle.gix_ref_lookup.specs.declared.find.error.Error.TheVariants.{PackedOpen, PackedRef}
use Rattle.gix_ref_transaction.specs.Causes.{packed_id}
use Rattle.gix_ref_transaction.specs.declared.prepare.error.Error.{Error}
use Rattle.gix_ref_transaction.specs.declared.prepare.error.Error.TheVariants.{Packed, PackedFind, Memory}

-- how a fault of `packed-refs` in a lookup is reported
abbrev pub as_cause : LookupError → Error
as_cause (PackedOpen error) = Packed error
as_cause (PackedRef error) = PackedFind error
as_cause other = Memory

-- the ids of the records of edits among these records
abbrev pub ids_among : Store → List Record → List RefEdit → List (Option ObjectId)
ids_among s records edits = map (λ (edit : RefEdit). packed_id (s.key (name_of edit)) records) edits
