-- What is printed of a listing, put together.
use Rattle.std.proofs.Common.{◌≡◌, ◌⊎◌, inl, inr, ℕ, List, [], true, false, Option, Result, Ok, Err, refl, sym, ◌∙◌, subst}
use denote.Ref.{Bor}
use Rattle.std.specs.Option.{option_copied}
use Rattle.gix_ref_files.proofs.Meeting.{no_fewer_joins}
use Rattle.std.specs.Prelude.{IfOk}
use Rattle.gix_ref_target.specs.PackedRecords.{Record}
use Rattle.gix_ref_files.specs.Files.{Meaning, FaultCounts, NoFewer}
use Rattle.gix_ref_files.specs.declared.files.ReadAt.{Ghosts}
use Rattle.gix_ref_listing.specs.CleanPrefixes.{IsAcceptedPrefix, IsRefusedPrefix}
use Rattle.gix_ref_lookup.specs.Lookups.{packed_refs_in}
use Rattle.gix_ref_packed.specs.declared.packed.buffer.Buffer.{Buffer}
use Rattle.gix_ref_listing.specs.PackedTexts.{IsTextOf}
use Rattle.gix_ref_listing.specs.PrefixedRecords.{HoldsAskedOf}
use Rattle.gix_ref_listing.specs.WholeListings.{key_in}
use Rattle.gix_ref_listing.specs.declared.list.LooseNames.{LooseNames}
use Rattle.gix_ref_listing.specs.declared.prefix.Error.{Error as PrefixError}
use Rattle.gix_ref_listing.specs.declared.prefix.Error.TheVariants as no_list
use Rattle.gix_ref_listing.proofs.FolderWalks.{unchanged_on, untouched_on}
use Rattle.gix_ref_listing.proofs.Listing.{names_on}
use Rattle.gix_ref_store.specs.Store.{files_of, kind_of}
use Rattle.gix_ref_store.specs.Lookup.{LooksUp, AreRecordsIn, settings_of, view_in}
use Rattle.gix_ref_store.specs.Listings.{AreHeldFor, FollowsFile, FollowsText, FollowsWalked, IsNoListing, IsWalkedIn, LacksNoLoose, ListsWalked, count_in, store_listed, walked_prefix}
use Rattle.gix_ref_store.proofs.CompleteListings.{follows_file}
use Rattle.gix_ref_store.proofs.FirstItems.{first_from, first_to}
use Rattle.gix_ref_store.specs.declared.file.store.Store.{Store}
use Rattle.gix_ref_store.specs.declared.file.iter.LooseThenPacked.{LooseThenPacked}
use Rattle.gix_ref_store.specs.declared.file.iter.Remaining.{Remaining}
use Rattle.gix_ref_program.specs.ListPrinting.{PrintsAll}
use Rattle.gix_ref_program.specs.Runs.{Ran, Prints, AreListed, ListRan, ListRanAmong}
use Rattle.gix_ref_program.specs.Runs.Ran.{Said, Listed, Logged, Scripted}
use Rattle.gix_ref_program.specs.declared.outcome.Outcome.TheVariants as outcomes
use Rattle.gix_ref_program.specs.declared.refusal.Refusal.TheVariants as refusals
use Rattle.gix_ref_program.proofs.ListedNames.{follow_files}

module _ {F : Type 0} (honest : Type 0) (means : F → Meaning) (faults : F → FaultCounts) where
  -- the items of a listing are printed
  pub printed_all : {E : Type 0} (old new : Store F) (names : LooseNames) (packed : Option (Bor Buffer)) (it t : LooseThenPacked F Remaining) (out now : Option (List ℕ)) (status : Result ℕ E) →
      (honest → ListsWalked honest means faults old names packed (Ok it)) → (honest → FollowsWalked honest means faults old names packed (Ok it)) →
      NoFewer (count_in honest means faults it) (count_in honest means faults t) → store_listed t ≡ new →
      IfOk status (PrintsAll honest means faults it t out now) → Prints (ListRanAmong honest means faults old new names packed) out now status
  printed_all old new names packed it t out now (Ok s) lists follows rises is all = record {
    ran = Listed true all.items;
    does = λ h. (
      (it, follows h, (all.last, all.gives, λ whole. (t, all.ends)), subst (λ (x : Store F). NoFewer (count_in honest means faults all.last) (faults (files_of x))) is all.ends.gives.rises),
      λ start records walked are.
          let l = lists h start records walked are in
          let first = l.runs all.items all.last all.gives in
          let last : NoFewer (count_in honest means faults all.last) (faults (files_of new)) = subst (λ (x : Store F). NoFewer (count_in honest means faults all.last) (faults (files_of x))) is all.ends.gives.rises in
          let after : NoFewer (count_in honest means faults it) (faults (files_of new)) = subst (λ (x : Store F). NoFewer (count_in honest means faults it) (faults (files_of x))) is rises in
          record {
            listed = l.listed;
            is = l.is;
            names = names_on (faults (files_of start)) (count_in honest means faults it) (faults (files_of new)) l.listed after l.names;
            rest = first.rest;
            first = first_from honest means faults (settings_of start) (view_in means start) (faults (files_of start)) (count_in honest means faults it) (faults (files_of new)) l.listed first.rest all.items l.counts
                (first_to honest means faults (settings_of start) (view_in means start) (count_in honest means faults it) (count_in honest means faults all.last) (faults (files_of new)) l.listed first.rest all.items last first.first);
            ends = λ whole. first.ends t all.ends;
          },
    );
    prints = (refl, all.status_is, all.prints);
  }
  printed_all old new names packed it t out now (Err e) lists follows rises is all = record {
    ran = Listed false [];
    does = λ h. (
      (it, follows h, (it, refl, λ whole. absurd (cc)), subst (λ (x : Store F). NoFewer (count_in honest means faults it) (faults (files_of x))) is rises),
      λ start records walked are.
          let l = lists h start records walked are in
          let after : NoFewer (count_in honest means faults it) (faults (files_of new)) = subst (λ (x : Store F). NoFewer (count_in honest means faults it) (faults (files_of x))) is rises in
          record {
            listed = l.listed;
            is = l.is;
            names = names_on (faults (files_of start)) (count_in honest means faults it) (faults (files_of new)) l.listed after l.names;
            rest = l.listed;
            first = (no_fewer_joins l.counts after, refl);
            ends = λ whole. absurd (cc);
          },
    );
    prints = _;
  }

  -- an iterator over the names of a walk and a buffer that was read after it follows the file
  pub follows_walked : honest → (start mid now : Store F) (prefix : List ℕ) (names : LooseNames) (found : Option Buffer) (packed : Option (Bor Buffer)) → LooksUp honest means start mid → walked_prefix names ≡ prefix →
      option_copied packed ≡ found → HoldsAskedOf (kind_of mid) (packed_refs_in (settings_of mid) (means (files_of mid))) (key_in (settings_of mid) prefix) found → IsWalkedIn honest means faults start now names → (it : LooseThenPacked F Remaining) →
      FollowsWalked honest means faults now names packed (Ok it) → FollowsFile honest means faults start prefix it
  follows_walked h start mid now prefix names found packed first asked same holds walked it follows =
      let of_walk = follows start walked in
      follows_file honest means faults h start mid prefix found packed first same holds (Ok it) (subst (λ (p : List ℕ). LacksNoLoose honest means faults start p it) asked of_walk.0)
      (λ text of. subst (λ (p : List ℕ). FollowsText honest means faults start p text it) asked (of_walk.1 text (subst (λ (p : List ℕ). IsTextOf (key_in (settings_of start) p) packed text) (sym asked) of)))

  -- a prefix without a listing
  pub no_listing : {R : Type 0} (G : Ghosts R) (old new : Store F) (prefix : List ℕ) (error : PrefixError) → (error ≡ no_list.Memory) ⊎ IsRefusedPrefix old.namespace prefix error →
      IsNoListing honest means faults G old new prefix error
  no_listing G old new prefix no_list.Memory why = _
  no_listing G old new prefix no_list.EmptyPrefix (inl none) = cc
  no_listing G old new prefix no_list.EmptyPrefix (inr refused) = refused
  no_listing G old new prefix no_list.PrefixNotClean (inl none) = cc
  no_listing G old new prefix no_list.PrefixNotClean (inr refused) = refused
  no_listing G old new prefix (no_list.PackedOpen error) (inl none) = cc
  no_listing G old new prefix (no_list.PackedOpen error) (inr refused) = absurd refused

  -- a listing of the names that a walk found, among the records that were read after it
  pub listed_from : {R : Type 0} (G : Ghosts R) (start old new : Store F) (prefix : List ℕ) (names : LooseNames) (packed : Option (Bor Buffer)) → IsAcceptedPrefix start.namespace prefix → walked_prefix names ≡ prefix →
      (honest → IsWalkedIn honest means faults start old names) → (honest → (records : List Record) → AreRecordsIn means start records → AreHeldFor old (walked_prefix names) packed records) →
      (honest → (it : LooseThenPacked F Remaining) → FollowsWalked honest means faults old names packed (Ok it) → FollowsFile honest means faults start prefix it) → (ran : Ran) →
      ListRanAmong honest means faults old new names packed ran → ListRan honest means faults G start new prefix ran
  listed_from G start old new prefix names packed taken asked walked read file (Said (outcomes.Refused (refusals.List error) locks)) (why, none) = (no_listing G start new prefix error (inl why), none)
  listed_from G start old new prefix names packed taken asked walked read file (Listed whole items) among = (
    taken,
    λ h. (
      follow_files honest means faults start prefix (faults (files_of new)) whole (among h).0.0 items (file h (among h).0.0 (among h).0.1) (among h).0.2 (among h).0.3,
      λ records are. subst (λ (p : List ℕ). AreListed honest means faults (settings_of start) (view_in means start) (faults (files_of start)) (faults (files_of new)) records p whole items) asked ((among h).1 start records (walked h) (read h records are)),
    ),
  )
  listed_from G start old new prefix names packed taken asked walked read file (Said outcomes.WrongWords) ran = absurd ran
  listed_from G start old new prefix names packed taken asked walked read file (Said (outcomes.Updated locks)) ran = absurd ran
  listed_from G start old new prefix names packed taken asked walked read file (Said (outcomes.Shown reference)) ran = absurd ran
  listed_from G start old new prefix names packed taken asked walked read file (Said (outcomes.Refused refusals.PathNotClean locks)) ran = absurd ran
  listed_from G start old new prefix names packed taken asked walked read file (Said (outcomes.Refused (refusals.Name error) locks)) ran = absurd ran
  listed_from G start old new prefix names packed taken asked walked read file (Said (outcomes.Refused (refusals.Update error) locks)) ran = absurd ran
  listed_from G start old new prefix names packed taken asked walked read file (Said (outcomes.Refused (refusals.Find error) locks)) ran = absurd ran
  listed_from G start old new prefix names packed taken asked walked read file (Said (outcomes.Refused (refusals.Log error) locks)) ran = absurd ran
  listed_from G start old new prefix names packed taken asked walked read file (Said (outcomes.Refused refusals.NotFound locks)) ran = absurd ran
  listed_from G start old new prefix names packed taken asked walked read file (Said (outcomes.Refused refusals.ReadFileContents locks)) ran = absurd ran
  listed_from G start old new prefix names packed taken asked walked read file (Said (outcomes.Refused refusals.WrongLine locks)) ran = absurd ran
  listed_from G start old new prefix names packed taken asked walked read file (Said (outcomes.Refused refusals.Memory locks)) ran = absurd ran
  listed_from G start old new prefix names packed taken asked walked read file (Logged whole items) ran = absurd ran
  listed_from G start old new prefix names packed taken asked walked read file (Scripted end said) ran = absurd ran

  -- one look after another
  pub looks_on : (old mid new : Store F) → LooksUp honest means old mid → LooksUp honest means mid new → LooksUp honest means old new
  looks_on old mid new first second = record {
    leaves = λ h. unchanged_on (means (files_of old)) (means (files_of mid)) (means (files_of new)) (first.leaves h) (second.leaves h);
    passes = λ h. untouched_on (means (files_of old)) (means (files_of mid)) (means (files_of new)) (first.passes h) (second.passes h);
    same = record {
      dirs = second.same.dirs ∙ first.same.dirs;
      namespace = second.same.namespace ∙ first.same.namespace;
      of_kind = second.same.of_kind ∙ first.same.of_kind;
      reflogs = second.same.reflogs ∙ first.same.reflogs;
      composes = second.same.composes ∙ first.same.composes;
      prohibits = second.same.prohibits ∙ first.same.prohibits;
      threshold = second.same.threshold ∙ first.same.threshold;
    };
  }
