-- Why a listing of a platform is not made.
use Rattle.std.proofs.Common.{◌≡◌, Option, Some, None, true, false}
use Rattle.gix_ref_files.specs.Files.{Meaning, FaultCounts, NoFewer}
use Rattle.gix_ref_files.specs.declared.files.ReadAt.{Ghosts}
use Rattle.gix_ref_hash.specs.Bytes.{without_front}
use Rattle.gix_ref_name.specs.declared.namespace.Namespace.{Namespace}
use Rattle.gix_ref_listing.specs.CleanPrefixes.{IsRefusedPrefix}
use Rattle.gix_ref_listing.specs.declared.prefix.Error.{Error}
use Rattle.gix_ref_listing.specs.declared.prefix.Error.TheVariants.{EmptyPrefix, PrefixNotClean, PackedOpen, Memory}
use Rattle.gix_ref_packed.specs.OpenFiles.{CountsRefusal}
use Rattle.gix_ref_packed.specs.declared.packed.buffer.open.Error.{Error as OpenError}
use Rattle.gix_ref_packed.specs.declared.packed.buffer.open.Error.TheVariants as opening
use Rattle.gix_ref_store.specs.Listings.{LeavesRefused, IsNoPlatformListing, of_open, prefix_of_all}
use Rattle.gix_ref_store.specs.Lookup.{LooksUp, RefusesBuffer}
use Rattle.gix_ref_store.specs.Store.{files_of}
use Rattle.gix_ref_store.specs.declared.file.store.Store.{Store}
use Rattle.gix_ref_store.proofs.Walked.{looks_on, refused_before}

-- the prefix of a whole listing has a listing
all_refused : (namespace : Option Namespace) (error : Error) → IsRefusedPrefix namespace (prefix_of_all namespace) error → ⊥
unfolding without_front
all_refused None EmptyPrefix refused = let bad : false ≡ true = refused in absurd (cc)
all_refused None PrefixNotClean refused = let bad : true ≡ false = refused.1 in absurd (cc)
all_refused None (PackedOpen why) refused = refused
all_refused None Memory refused = refused
all_refused (Some namespace) EmptyPrefix refused = let bad : false ≡ true = refused in absurd (cc)
all_refused (Some namespace) PrefixNotClean refused = let bad : true ≡ false = refused.1 in absurd (cc)
all_refused (Some namespace) (PackedOpen why) refused = refused
all_refused (Some namespace) Memory refused = refused

module _ {F R : Type 0} (G : Ghosts R) (honest : Type 0) (means : F → Meaning) (faults : F → FaultCounts) (store : Store F) where
  pub all_not_made : (namespace : Option Namespace) (error : Error) → IsNoPlatformListing G honest means faults store (IsRefusedPrefix namespace (prefix_of_all namespace)) error
      → IsNoPlatformListing G honest means faults store (λ _. ⊥) error
  all_not_made namespace Memory why = tt
  all_not_made namespace EmptyPrefix why = all_refused namespace EmptyPrefix why
  all_not_made namespace PrefixNotClean why = all_refused namespace PrefixNotClean why
  all_not_made namespace (PackedOpen error) why = why

  -- after a walk `packed-refs` was not opened
  pub not_opened : (mid left : Store F) (Prefix : Error → Type 0) (error : OpenError) → LooksUp honest means store mid → (honest → NoFewer (faults (files_of store)) (faults (files_of mid)))
      → LooksUp honest means mid left → (honest → RefusesBuffer means mid error) → (honest → CountsRefusal G.faults (faults (files_of mid)) (faults (files_of left)) error)
      → IsNoPlatformListing G honest means faults store Prefix (of_open error)
  not_opened mid left Prefix error first more second refuses counts = go error refuses counts
    where
      refused : (error : OpenError) → (honest → RefusesBuffer means mid error) → (honest → CountsRefusal G.faults (faults (files_of mid)) (faults (files_of left)) error) → honest → LeavesRefused G honest means faults store error
      refused error refuses counts h = record {
        refuses = refused_before honest means store mid error h first (refuses h);
        walked = faults (files_of mid);
        more = more h;
        left = left;
        looks_up = looks_on honest means store mid left first second;
        counts = counts h;
      }

      go : (error : OpenError) → (honest → RefusesBuffer means mid error) → (honest → CountsRefusal G.faults (faults (files_of mid)) (faults (files_of left)) error) → IsNoPlatformListing G honest means faults store Prefix (of_open error)
      go opening.Memory refuses counts = tt
      go opening.HeaderParsing refuses counts = refused opening.HeaderParsing refuses counts
      go (opening.Io error) refuses counts = refused (opening.Io error) refuses counts
      go (opening.Iter line) refuses counts = refused (opening.Iter line) refuses counts
