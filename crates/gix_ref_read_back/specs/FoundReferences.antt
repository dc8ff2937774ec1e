-- What a lookup in a store finds: what `Store::find` says of it.
use Rattle.std.specs.Prelude.{ℕ, List, true, Result}
use Rattle.gix_ref_target.specs.PackedRecords.{Record}
use Rattle.gix_ref_files.specs.Files.{Meaning, FaultCounts}
use Rattle.gix_ref_files.specs.declared.files.ReadAt.{Ghosts}
use Rattle.gix_ref_packed_text.specs.declared.raw.Reference.{Reference}
use Rattle.gix_ref_lookup.specs.declared.find.existing.Error.{Error as Missing}
use Rattle.gix_ref_lookup.specs.declared.find.records.Records.TheVariants.{Unopened}
use Rattle.gix_ref_store.specs.Lookup.{AreRecordsIn, FailsBy, FindsExisting, SeesExisting, LooksUp, MissesIn}
use Rattle.gix_ref_store.specs.declared.file.store.Store.{Store}

module _ {F : Type 0} (honest : Type 0) (means : F → Meaning) (faults : F → FaultCounts) where
  -- A lookup of a name in the store `start`, which leaves `new`. Where `packed-refs` is well formed or missing, it finds the first
  -- of the names that the name may be short for that reads something, and `NotFound` says that none does; on any text it finds a
  -- loose file of one of these names, or a record that begins a line, and by `NotFound` neither. It fails at the first of them that
  -- is not passed, for a reason that applies to that one. It changes nothing but the count of faults and the clock, and where it
  -- finds something not that count.
  pub record FindsIn {R : Type 0} (G : Ghosts R) (start new : Store F) (name : List ℕ)
      (found : Result Reference Missing) : Type 0 where
    pub finds : honest → (records : List Record) → AreRecordsIn means start records →
        FindsExisting means true start records name found
    pub sees : honest → SeesExisting {G = G} means true start Unopened name found
    pub fails : FailsBy faults start new
        (MissesIn {G = G} honest means faults true start new Unopened name) found
    pub changes : LooksUp honest means start new
