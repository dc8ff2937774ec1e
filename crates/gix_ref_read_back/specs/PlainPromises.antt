-- The first promise in plain words: what a stop, and a loss of power, leaves of a transaction, whatever becomes of it.
use Rattle.std.specs.Prelude.{◌≡◌, ◌⊎◌, ℕ, List, true}
use Rattle.gix_ref_files.specs.Files.{Meaning, FaultCounts}
use Rattle.gix_ref_files.specs.Tree.{Tree}
use Rattle.gix_ref_theory.specs.OnRealTrees.{view_of}
use Rattle.gix_ref_theory.specs.Readings.{reading}
use Rattle.gix_ref_edits.specs.declared.transaction.RefEdit.{RefEdit}
use Rattle.gix_ref_store.specs.Lookup.{view_in}
use Rattle.gix_ref_store.specs.Prepared.{SplitsGiven}
use Rattle.gix_ref_store.specs.Store.{meaning_of}
use Rattle.gix_ref_store.specs.declared.file.store.Store.{Store}
use Rattle.gix_ref_read_back.specs.WholeRuns.{reads_after}

module _ {F : Type 0} (honest : Type 0) (means : F → Meaning) (faults : F → FaultCounts) where
  -- in the tree T a reference of the store `old` reads as it did
  abbrev pub ReadsAsItDid : Store F → Tree → (name : List ℕ) → Type 0
  ReadsAsItDid old T name = reading (meaning_of old) (view_of T) name
      ≡ reading (meaning_of old) (view_in means old) name

  -- or as these edits say
  abbrev pub ReadsAsTheySay : Store F → List RefEdit → Tree → (name : List ℕ) → Type 0
  ReadsAsTheySay old edits T name = reading (meaning_of old) (view_of T) name
      ≡ reads_after honest means faults old edits name

  -- Each reference reads as before; or each reads as before or as edited by the split list of the edits that are given, which are
  -- these where none of them follows a symbolic reference.
  abbrev pub EachReadsOldOrNew : Store F → (given : List RefEdit) → Tree → Type 0
  EachReadsOldOrNew old given T =
      ((name : List ℕ) → (meaning_of old).is_reference name ≡ true → ReadsAsItDid old T name)
      ⊎ ((split : List RefEdit) × SplitsGiven honest means faults old given split
      × ((name : List ℕ) → (meaning_of old).is_reference name ≡ true →
      ReadsAsItDid old T name ⊎ ReadsAsTheySay old split T name))
