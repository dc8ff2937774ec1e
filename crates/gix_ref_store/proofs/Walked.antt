-- A listing of what a walk found, of a store that was only looked at since.
use Rattle.std.proofs.Common.{◌≡◌, ℕ, List, Option, Some, None, sym, subst}
use Rattle.gix_ref_files.proofs.Meeting.{no_fewer_joins}
use denote.Ref.{Bor}
use Rattle.std.specs.Option.{option_copied}
use Rattle.gix_ref_hash.specs.declared.hash.Kind.{Kind}
use Rattle.gix_ref_target.specs.Layout.{packed_refs}
use Rattle.gix_ref_target.specs.PackedRecords.{Record}
use Rattle.gix_ref_name.specs.declared.namespace.Namespace.{Namespace}
use Rattle.gix_ref_files.specs.Files.{Meaning, FaultCounts, NoFewer}
use Rattle.gix_ref_files.specs.Tree.{Tree}
use Rattle.gix_ref_packed.specs.Buffers.{IsRefusedFile, buffer_kind, buffer_text}
use Rattle.gix_ref_packed.specs.declared.packed.buffer.Buffer.{Buffer}
use Rattle.gix_ref_packed.specs.declared.packed.buffer.open.Error.{Error as OpenError}
use Rattle.gix_ref_theory.specs.OnRealTrees.{view_of}
use Rattle.gix_ref_lookup.specs.Lookups.{ArePackedRecords}
use Rattle.gix_ref_lookup.specs.StoreLayout.{folders_of}
use Rattle.gix_ref_lookup.specs.declared.folders.Dirs.{Dirs}
use Rattle.gix_ref_lookup.specs.declared.settings.Settings.{Settings}
use Rattle.gix_ref_listing.specs.WholeListings.{HoldsFor, key_in}
use Rattle.gix_ref_listing.specs.declared.list.LooseNames.{LooseNames}
use Rattle.gix_ref_listing.proofs.FolderWalks.{met_on, unchanged_on, untouched_on}
use Rattle.gix_ref_store.specs.Store.{files_of, folders, kind_of}
use Rattle.gix_ref_store.specs.Listings.{AreHeldFor, IsReadFor, IsWalkedIn}
use Rattle.gix_ref_store.specs.Lookup.{AreRecordsIn, LooksUp, RefusesBuffer, view_in}
use Rattle.gix_ref_store.specs.declared.file.store.Store.{Store}
use Rattle.gix_ref_store.proofs.ListingRuns.{same_settings}
use Rattle.gix_ref_store.proofs.SameStores.{same_on}

module _ {F : Type 0} (honest : Type 0) (means : F → Meaning) where
  -- one look after another
  pub looks_on : (old mid new : Store F) → LooksUp honest means old mid → LooksUp honest means mid new → LooksUp honest means old new
  looks_on old mid new first second = record {
    leaves = λ h. unchanged_on (means (files_of old)) (means (files_of mid)) (means (files_of new)) (first.leaves h) (second.leaves h);
    passes = λ h. untouched_on (means (files_of old)) (means (files_of mid)) (means (files_of new)) (first.passes h) (second.passes h);
    same = same_on old mid new first.same second.same;
  }

  -- the records of `packed-refs` are still the same
  pub records_on : (old mid : Store F) (records : List Record) → honest → LooksUp honest means old mid → AreRecordsIn means old records → AreRecordsIn means mid records
  records_on old mid records h looks are =
      let same = looks.same in
      subst (λ (d : Dirs). ArePackedRecords (kind_of mid) (view_in means mid (packed_refs (folders_of d mid.namespace))) records) (sym same.dirs)
      (subst (λ (n : Option Namespace). ArePackedRecords (kind_of mid) (view_in means mid (packed_refs (folders_of old.dirs n))) records) (sym same.namespace)
      (subst (λ (k : Kind). ArePackedRecords k (view_in means mid (packed_refs (folders old))) records) (sym same.of_kind)
      (subst (λ (T : Tree). ArePackedRecords (kind_of old) (view_of T (packed_refs (folders old))) records) (sym (looks.leaves h).tree) are)))

  -- and it is refused for the same reason
  pub refused_before : (old mid : Store F) (error : OpenError) → honest → LooksUp honest means old mid → RefusesBuffer means mid error → RefusesBuffer means old error
  refused_before old mid error h looks refused =
      let same = looks.same in
      let tree = (means (files_of old)).tree in
      subst (λ (d : Dirs). IsRefusedFile (kind_of old) (tree (packed_refs (folders_of d old.namespace))) error) same.dirs
      (subst (λ (n : Option Namespace). IsRefusedFile (kind_of old) (tree (packed_refs (folders_of mid.dirs n))) error) same.namespace
      (subst (λ (k : Kind). IsRefusedFile k (tree (packed_refs (folders mid))) error) same.of_kind
      (subst (λ (T : Tree). IsRefusedFile (kind_of mid) (T (packed_refs (folders mid))) error) (looks.leaves h).tree refused)))

  -- what was read for a prefix is held for it, as it is lent
  pub read_for : (old mid : Store F) (prefix : List ℕ) (found : Option Buffer) (lent : Option (Bor Buffer)) (records : List Record) → LooksUp honest means old mid →
      option_copied lent ≡ found → IsReadFor old prefix found records → AreHeldFor mid prefix lent records
  read_for old mid prefix found None records looks value is = subst (λ (f : Option Buffer). IsReadFor old prefix f records) (sym value) is
  read_for old mid prefix found (Some r) records looks value is =
      subst (λ (x : Settings). HoldsFor (buffer_kind r.now) (key_in x prefix) records (buffer_text r.now)) (same_settings old mid looks.same)
      (subst (λ (f : Option Buffer). IsReadFor old prefix f records) (sym value) is)

module _ {F : Type 0} (honest : Type 0) (means : F → Meaning) (faults : F → FaultCounts) where
  -- the names that a walk found, once the store was looked at again
  pub walked_on : (start mid new : Store F) (names : LooseNames) → IsWalkedIn honest means faults start mid names → LooksUp honest means mid new → NoFewer (faults (files_of mid)) (faults (files_of new)) →
      IsWalkedIn honest means faults start new names
  walked_on start mid new names walked looks more = record {
    walk = record {
      finds = walked.walk.finds;
      files = met_on (faults (files_of start)) (faults (files_of mid)) (faults (files_of new)) names.found.entries more walked.walk.files;
      there = walked.walk.there;
    };
    counts = no_fewer_joins walked.counts more;
    looks_up = looks_on honest means start mid new walked.looks_up looks;
  }
