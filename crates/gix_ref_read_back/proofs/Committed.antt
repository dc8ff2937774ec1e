-- What a store reads after a commit, and what a lookup finds then.
use Rattle.std.proofs.Common.{◌≡◌, ◌≢◌, inl, inr, ⊎_elim, ℕ, Bool, true, false, List, [], ◌∷◌, refl, sym, ◌∙◌, ap, subst, Option, Some, None, Result, MatchResult, ◌&&◌, bytes_eq, if◌then◌else◌}
use Rattle.gix_ref_hash.specs.declared.hash.Kind.{Kind}
use Rattle.gix_ref_hash.specs.declared.hash.ObjectId.{ObjectId}
use Rattle.gix_ref_target.specs.PackedRecords.{Record}
use Rattle.gix_ref_files.specs.Disk.{Disk, Lost}
use Rattle.gix_ref_files.specs.Files.{Meaning, FaultCounts}
use Rattle.gix_ref_files.specs.Lock.{lock_of}
use Rattle.gix_ref_files.specs.Settled.{IsAllSettled}
use Rattle.gix_ref_files.specs.Tree.{Path, Tree, file_of}
use Rattle.gix_ref_files.specs.declared.files.ReadAt.{Ghosts}
use Rattle.gix_ref_files.proofs.Moments.{joins, loses_joins, loses_weaken, weaken}
use Rattle.gix_ref_files.proofs.Settling.{lost_holds}
use Rattle.gix_ref_theory.specs.Between.{IsCommitted}
use Rattle.gix_ref_theory.specs.Edits.{Mode, edited_reading, new_reading}
use Rattle.gix_ref_theory.specs.OnRealTrees.{view_of}
use Rattle.gix_ref_theory.specs.Readings.{Store as Places, HasLaws, Reading, reading, reading_among, reading_by, records_of_file}
use Rattle.gix_ref_theory.specs.Readings.Reading.{Fault}
use Rattle.gix_ref_theory.specs.Views.{View, IsOwnLock}
use Rattle.gix_ref_theory.proofs.OnDisks.{own_is_lock}
use Rattle.gix_ref_theory.proofs.PlaceLaws.{laws_hold}
use Rattle.gix_ref_packed_text.specs.declared.raw.Reference.{Reference}
use Rattle.gix_ref_log.specs.declared.actor.SignatureRef.{SignatureRef}
use Rattle.gix_ref_edits.specs.declared.transaction.RefEdit.{RefEdit}
use Rattle.gix_ref_object.specs.Objects.{Stored}
use Rattle.gix_ref_lookup.specs.Lookups.{ReturnsHit, ArePackedRecords, IsSound, lookup_of, name_asked}
use Rattle.gix_ref_lookup.specs.StoreLayout.{git_options, namespace_text}
use Rattle.gix_ref_lookup.specs.declared.find.error.Error.{Error as FindError}
use Rattle.gix_ref_lookup.specs.declared.find.records.Records.TheVariants.{Unopened}
use Rattle.gix_ref_lookup.specs.declared.find.existing.Error.{Error as Missing}
use Rattle.gix_ref_lookup.specs.declared.find.existing.Error.TheVariants.{Find}
use Rattle.gix_ref_lookup.proofs.Laying.{folders_laid}
use Rattle.std.specs.Option.{option_map}
use Rattle.gix_ref_target.specs.Targets.{TargetValue}
use Rattle.gix_ref_name.specs.declared.namespace.Namespace.{Namespace}
use Rattle.gix_ref_log.specs.Signatures.{signature_ref_who}
use Rattle.gix_ref_reflog.specs.AskedEdits.{asked}
use Rattle.gix_ref_reflog.specs.DueLines.{LogRules, due_lines}
use Rattle.gix_ref_reflog.specs.declared.write_reflog.WriteReflog.{WriteReflog}
use Rattle.gix_ref_transaction.specs.CarriedEdits.{AreCarried, edit_of}
use Rattle.gix_ref_transaction.specs.Causes.{locks_of}
use Rattle.gix_ref_transaction.specs.CommittedEdits.{planned}
use Rattle.gix_ref_transaction.specs.OwnLocks.{is_in}
use Rattle.gix_ref_transaction.specs.PrepareSteps.{old_targets, places_of, possible_locks, updates}
use Rattle.gix_ref_transaction.specs.declared.edit.Edit.{Edit}
use Rattle.gix_ref_transaction.proofs.LockRounds.{own_all, own_lock}
use Rattle.gix_ref_transaction.proofs.Adds.{any_cases, in_one, is_false, same_view}
use Rattle.gix_ref_transaction.proofs.Apart.{references}
use Rattle.gix_ref_commit.specs.CommittedTrees.{AreCommitted}
use Rattle.gix_ref_commit.specs.LogEffects.{Extra, with_ends, with_extras}
use Rattle.gix_ref_commit.proofs.Alike.{are_same}
use Rattle.gix_ref_store.specs.CommitLines.{extras_due, line_rules, lines_due}
use Rattle.gix_ref_store.specs.CommitResult.{CommitsFrom, EveryLossFrom, EveryStopFrom, SettlesFrom, StaysGoodFrom}
use Rattle.gix_ref_store.specs.Lookup.{LooksUp, AreRecordsIn, FindsAmong, MissesAmong, MissesIn, composes_in, settings_of, view_in}
use Rattle.gix_ref_store.specs.Prepared.{HasGoodRecords, IsAtRest, PreparesGiven, disk_in, locks_in, places_in, tree_of}
use Rattle.gix_ref_store.specs.Store.{files_of, folders, kind_of, meaning_of, IsSameStore}
use Rattle.gix_ref_store.specs.declared.file.store.Store.{Store}
use Rattle.gix_ref_store.proofs.Commits.{same_meaning, started}
use Rattle.gix_ref_read_back.specs.EditedReadings.{FailsAs, IsAskedFirst}
use Rattle.gix_ref_read_back.specs.FoundReferences.{FindsIn}
use Rattle.gix_ref_read_back.specs.Outside.{AllPutReadable, IsLock, IsOneOf}
use Rattle.gix_ref_read_back.specs.WholeRuns.{FindsEdited, HasFault, IsSameOutside, KeepsEdited, LossesOutside, ReadsEdited, StopsOutside, reads_after}
use Rattle.gix_ref_read_back.proofs.DueLemmas.{all_count, lines_same}
use Rattle.gix_ref_read_back.proofs.FoundNames.{fails_as, found_as}
use Rattle.gix_ref_read_back.proofs.OutsideLemmas.{committed_outside, locking_outside, losses_outside, stops_outside, unlocked, unlost_outside}
use Rattle.gix_ref_read_back.proofs.PackedAgain.{computed}
use Rattle.gix_ref_read_back.proofs.ReadablePuts.{all_readable}
use Rattle.gix_ref_store.proofs.SameStores.{same_on}

-- log lines change no reading
pub without_lines : (s : Places) (edits : List RefEdit) (lines : List Extra) (name : List ℕ) (old : Reading) →
    edited_reading s (with_extras edits lines) name old ≡ edited_reading s (planned edits) name old
without_lines s [] lines name old = refl
without_lines s (e ∷ edits) [] name old =
    ap (λ r. if (edit_of e).and_reference && bytes_eq (s.place (edit_of e).name) (s.place name) then new_reading s (edit_of e).change else r) (without_lines s edits [] name old)
without_lines s (e ∷ edits) (line ∷ lines) name old =
    ap (λ r. if (edit_of e).and_reference && bytes_eq (s.place (edit_of e).name) (s.place name) then new_reading s (edit_of e).change else r) (without_lines s edits lines name old)

-- a lock that a transaction can have is that of one of these paths
own_possible : (s : Places) (edits : List RefEdit) (q : Path) → is_in (possible_locks s edits) q ≡ true → IsOwnLock (s.packed_path ∷ places_of s edits) q
own_possible s edits q within =
    ⊎_elim
    (λ here. inl (sym (in_one (lock_of s.packed_path) q here)))
    (λ later. inr (own_lock s edits q later))
    (any_cases (λ p. bytes_eq p q) (lock_of s.packed_path ∷ []) (locks_of s edits) within)

-- lines depend on the same
rules_same : {F : Type 0} (old new : Store F) (committer : Option SignatureRef) → IsSameStore old new → line_rules new committer ≡ line_rules old committer
rules_same old new committer same =
    ap (λ (s : Places). record { store = s; namespace = namespace_text new.namespace; mode = new.write_reflog; committer = option_map signature_ref_who committer }) (same_meaning old new same)
    ∙ (ap (λ (n : Option Namespace). record { store = meaning_of old; namespace = namespace_text n; mode = new.write_reflog; committer = option_map signature_ref_who committer }) same.namespace
    ∙ ap (λ (m : WriteReflog). record { store = meaning_of old; namespace = namespace_text old.namespace; mode = m; committer = option_map signature_ref_who committer }) same.reflogs)

-- after a loss of power on a settled disk each reference reads as on the disk
pub lost_reading : (s : Places) → HasLaws s → (D : Disk) (T : Tree) → IsAllSettled D → Lost D T → (name : List ℕ) → s.is_reference name ≡ true → reading s (view_of T) name ≡ reading s (view_of D.tree) name
lost_reading s laws D T settled lost name is =
    ap (λ (file : Option (List ℕ)). if s.is_prohibited (s.place name) then Fault else reading_by s (s.key name) file (records_of_file s (view_of T s.packed_path))) (kept (s.place name) (λ p. laws.place_is_no_lock name p is))
    ∙ ap (λ (file : Option (List ℕ)). if s.is_prohibited (s.place name) then Fault else reading_by s (s.key name) (view_of D.tree (s.place name)) (records_of_file s file)) (kept s.packed_path (λ p. laws.packed_is_no_lock p))
  where
    kept : (q : Path) → ((p : Path) → q ≢ lock_of p) → view_of T q ≡ view_of D.tree q
    kept q no_lock = lost_holds D T (view_of D.tree q) (λ (file : Option (List ℕ)). file ≡ view_of D.tree q) q (settled q no_lock) refl lost

module _ {F : Type 0} (honest : Type 0) (means : F → Meaning) (faults : F → FaultCounts) where
  -- the same view in a store that means the same
  packed_same : (old new : Store F) → IsSameStore old new → (rs : List Record) → ArePackedRecords (kind_of old) (view_in means new (meaning_of old).packed_path) rs → AreRecordsIn means new rs
  packed_same old new same rs are =
      subst (λ (k : Kind). ArePackedRecords k (view_in means new (meaning_of new).packed_path) rs) (sym same.of_kind)
      (subst (λ (s : Places). ArePackedRecords (kind_of old) (view_in means new s.packed_path) rs) (sym (same_meaning old new same)) are)

  module _ (claims : Type 0) (meaning : ObjectId → Stored) (mode : Mode) (old mid new : Store F) (given : List RefEdit) (committer : Option SignatureRef) (packed : Option Path) (held : List Edit) (left : List Path)
      (from : PreparesGiven honest means faults claims meaning mode old mid given packed held) (stops : EveryStopFrom honest means faults mid new committer packed held left) where
    abbrev s : Places
    s = meaning_of old

    laws : HasLaws s
    laws = laws_hold (folders old) (git_options (kind_of old) old.prohibit_windows_device_names) (folders_laid old.dirs old.namespace)

    -- a lock of the edits is none that is at `packed-refs`
    packed_apart : is_in (locks_in means mode old from.split) s.packed_path ≡ false
    packed_apart = is_false (is_in (locks_in means mode old from.split) s.packed_path)
        (λ within. let l = own_is_lock (places_in means mode old from.split) s.packed_path (own_all s mode (tree_of means old) from.split s.packed_path within) in laws.packed_is_no_lock l.0 l.1)

    -- the edits that are returned carry what was found in the files before
    pub carried_before : honest → HasGoodRecords means old → (after : List RefEdit) → after ≡ updates held → AreCarried from.split (old_targets s (tree_of means old) from.split) after
    carried_before h good after is =
        subst (AreCarried from.split (old_targets s (tree_of means old) from.split)) (sym is)
        (subst (λ (was : List (Option TargetValue)). AreCarried from.split was (updates held)) (from.prepared.held.found h good) from.prepared.carried)

    -- a log of theirs is no lock
    log_apart : (n : List ℕ) → s.is_reference n ≡ true → is_in (locks_in means mode old from.split) (s.log n) ≡ false
    log_apart n is = is_false (is_in (locks_in means mode old from.split) (s.log n))
        (λ within. let l = own_is_lock (places_in means mode old from.split) (s.log n) (own_all s mode (tree_of means old) from.split (s.log n) within) in laws.log_is_no_lock n l.0 is l.1)

    -- so the lines that are due are so by the files before
    lines_before : honest → lines_due means mid committer held ≡ lines_due means old committer held
    lines_before h =
        lines_same (λ (q : Path). is_in (locks_in means mode old from.split) q ≡ false) (line_rules mid committer) (asked held) (view_in means mid) (view_in means old)
        (λ q apart. same_view file_of refl (locks_in means mode old from.split) (locks_in means mode old from.split) (tree_of means old) (tree_of means mid) q (from.prepared.held.adds h) apart)
        (all_count (λ (q : Path). is_in (locks_in means mode old from.split) q ≡ false) (line_rules mid committer) s (same_meaning old mid from.prepared.held.same) log_apart from.split held 0
        (are_same from.split from.prepared.was (updates held) from.prepared.carried)
        (references (folders old) (git_options (kind_of old) old.prohibit_windows_device_names) (folders_laid old.dirs old.namespace) (kind_of old) [] from.split from.prepared.held.valid))
        ∙ ap (λ (r : LogRules). due_lines r (view_in means old) (asked held)) (rules_same old mid committer from.prepared.held.same)

    pub committed_before : CommitsFrom honest means faults mid new committer packed held left → honest → HasGoodRecords means old → AreCommitted s mode from.split (extras_due means old committer held) (tree_of means old) left (tree_of means new)
    committed_before commits h good =
        subst (λ (extras : List Extra). AreCommitted s mode from.split extras (tree_of means old) left (tree_of means new)) (ap (λ (lines : List (Option (List ℕ))). with_ends lines held) (lines_before h)) (commits old mode from.split from.prepared h good)

    -- what they put can be read again
    puts : AllPutReadable s mode (kind_of old) (with_extras from.split (extras_due means mid committer held))
    puts = all_readable s mode (kind_of old) from.split held (are_same from.split from.prepared.was (updates held) from.prepared.carried) from.prepared.puts from.prepared.can_be_put (lines_due means mid committer held)

    -- at every stop inside the `prepare` and the commit
    pub stops_same : honest → HasGoodRecords means old → StopsOutside honest means faults mode old new from.split
    stops_same h good = joins
        (weaken (from.prepared.held.leaves h) (λ T adds. locking_outside (folders old) (kind_of old) old.prohibit_windows_device_names (locks_in means mode old from.split) (tree_of means old) T packed_apart adds))
        (weaken ((stops old mode from.split from.prepared).leaves h)
        (λ T well. stops_outside (folders old) (kind_of old) old.prohibit_windows_device_names mode from.split (extras_due means mid committer held) (tree_of means old) T good puts (well good)))

    -- and after every loss of power inside them
    pub losses_same : EveryLossFrom honest means faults mid new committer packed held → honest → HasGoodRecords means old → IsAtRest means old → LossesOutside honest means faults old new
    losses_same lost h good at_rest = loses_joins
        (loses_weaken (from.prepared.lost h).loses
        (λ T spoken. unlost_outside (folders old) (kind_of old) old.prohibit_windows_device_names (places_in means mode old from.split) (disk_in means old) T laws.packed_is_no_lock at_rest.0 spoken))
        (loses_weaken (lost old mode from.split from.prepared h good at_rest).loses
        (λ T well. losses_outside (folders old) (kind_of old) old.prohibit_windows_device_names mode from.split (extras_due means mid committer held) (disk_in means mid) (tree_of means old) T good puts
        (started honest means faults mode old mid committer from.split packed held from.prepared h at_rest).0 well))

    module _ (same : IsSameStore old new) (commits : CommitsFrom honest means faults mid new committer packed held left) (stays : StaysGoodFrom honest means faults mid new packed held) where
      committed : honest → HasGoodRecords means old → IsCommitted s mode (s.packed_path ∷ places_of s from.split) (with_extras from.split (extras_due means mid committer held)) (view_in means old) (view_in means new)
      committed h good =
          commits old mode from.split from.prepared h good (s.packed_path ∷ places_of s from.split)
          (λ q within. own_possible s from.split q ((stops old mode from.split from.prepared).ours q within))

      -- the locks that stay are locks
      are_locks : (q : Path) → is_in left q ≡ true → IsLock q
      are_locks q within = own_is_lock (s.packed_path ∷ places_of s from.split) q (own_possible s from.split q ((stops old mode from.split from.prepared).ours q within))

      -- of these places
      named : (places : List Path) × ((q : Path) → is_in left q ≡ true → IsOwnLock places q) × ((q : Path) → IsOwnLock places q → is_in left q ≡ true)
      named = unlocked left are_locks

      pub made : ReadsEdited honest means faults mode old new given left
      made = record {
        split = from.split;
        splits = from.splits;
        good = λ h good. stays old mode from.split from.prepared h good;
        reads = λ h good name is.
            (committed h good).readings name is ∙ without_lines s from.split (extras_due means mid committer held) name (reading s (view_in means old) name);
        named = are_locks;
        outside = λ h good.
            committed_outside (folders old) (kind_of old) old.prohibit_windows_device_names mode (with_extras from.split (extras_due means mid committer held)) named.0 (IsOneOf left) named.2 (tree_of means old) good.0 good.1 puts (tree_of means new)
            (commits old mode from.split from.prepared h good named.0 named.1);
        stops = stops_same;
      }

      -- and it is kept, where the commit leaves all at rest
      pub keeps : SettlesFrom honest means faults mid new packed held → EveryLossFrom honest means faults mid new committer packed held → KeepsEdited honest means faults mode old new given left
      keeps settles losses = record {
        made = made;
        rests = λ h at_rest. settles old mode from.split from.prepared h at_rest;
        kept = λ h good at_rest T lost name is.
            lost_reading s laws (disk_in means new) T (settles old mode from.split from.prepared h at_rest).0 lost name is ∙ made.reads h good name is;
        losses = losses_same losses;
      }

      -- of the split list that was prepared
      pub keeps_split : (settles : SettlesFrom honest means faults mid new packed held) (losses : EveryLossFrom honest means faults mid new committer packed held) → (keeps settles losses).made.split ≡ from.split
      unfolding keeps made
      keeps_split settles losses = refl

  -- the other way round
  pub packed_back : (old new : Store F) → IsSameStore old new → (rs : List Record) → AreRecordsIn means new rs → ArePackedRecords (kind_of old) (view_in means new (meaning_of old).packed_path) rs
  packed_back old new same rs are =
      subst (λ (s : Places). ArePackedRecords (kind_of old) (view_in means new s.packed_path) rs) (same_meaning old new same)
      (subst (λ (k : Kind). ArePackedRecords k (view_in means new (meaning_of new).packed_path) rs) same.of_kind are)

  module _ (mode : Mode) (old mid new : Store F) (given : List RefEdit) (left : List Path) (made : ReadsEdited honest means faults mode old mid given left) (same : IsSameStore old mid) (looks : LooksUp honest means mid new) where
    view_is : honest → view_in means new ≡ view_in means mid
    view_is h = ap view_of (looks.leaves h).tree

    still_same : IsSameStore old new
    still_same = same_on old mid new same looks.same

    -- the records after the commit, in the files that are left
    records_left : honest → HasGoodRecords means old → (rs : List Record) × ArePackedRecords (kind_of old) (view_in means new (meaning_of old).packed_path) rs
    records_left h good =
        let again = made.good h good in
        (again.0, subst (λ (v : View). ArePackedRecords (kind_of old) (v (meaning_of old).packed_path) again.0) (sym (view_is h)) (packed_back old mid same again.0 again.1))

    -- a call that only looks up leaves what the commit made
    pub still_made : ReadsEdited honest means faults mode old new given left
    still_made = record {
      split = made.split;
      splits = made.splits;
      good = λ h good. let rs = records_left h good in (rs.0, packed_same old new still_same rs.0 rs.1);
      reads = λ h good name is.
          subst (λ (v : View). reading (meaning_of old) v name ≡ reads_after honest means faults old made.split name) (sym (view_is h)) (made.reads h good name is);
      named = made.named;
      outside = λ h good. subst (IsSameOutside honest means faults old (IsOneOf left)) (sym (looks.leaves h).tree) (made.outside h good);
      stops = λ h good.
          joins (made.stops h good) (weaken (looks.leaves h) (λ T is. subst (IsSameOutside honest means faults old (IsOneOf (locks_in means mode old made.split))) (sym is) (made.stops h good).tree));
    }

    pub still_split : still_made.split ≡ made.split
    unfolding still_made
    still_split = refl

    module _ {R : Type 0} (G : Ghosts R) (name : List ℕ) (found : Result Reference Missing) (lookup : FindsIn honest means faults G mid new name found) where
      as_old : honest → (rs : List Record) (r : Option Reference) → FindsAmong means mid rs name r → ReturnsHit (lookup_of (composes_in true old) (meaning_of old) (view_in means new) rs name) r
      as_old h rs r is =
          subst (λ (v : View). ReturnsHit (lookup_of (composes_in true old) (meaning_of old) v rs name) r) (sym (view_is h))
          (subst (λ (s : Places). ReturnsHit (lookup_of (composes_in true old) s (view_in means mid) rs name) r) (same_meaning old mid same)
          (subst (λ (b : Bool). ReturnsHit (lookup_of (b && true) (meaning_of mid) (view_in means mid) rs name) r) same.composes is))

      -- what the name reads among the records that the commit left
      reads_left : honest → (rs : List Record) (reads : Reading) → reading_among (meaning_of old) (view_in means new) rs name ≡ reads → reading_among (meaning_of mid) (view_in means mid) rs name ≡ reads
      reads_left h rs reads is =
          ap (λ (s : Places). reading_among s (view_in means mid) rs name) (same_meaning old mid same)
          ∙ (sym (ap (λ (v : View). reading_among (meaning_of old) v rs name) (view_is h)) ∙ is)

      -- why the lookup fails
      failed_as : honest → (rs : List Record) → AreRecordsIn means mid rs → IsAskedFirst (meaning_of old) (composes_in true old) name → (reads : Reading) → reading_among (meaning_of old) (view_in means new) rs name ≡ reads →
          (e : FindError) → IsSound e → MissesIn {G = G} honest means faults true mid new Unopened name (Find e) → FailsAs (HasFault honest means faults G mid new) reads e
      failed_as h rs are asked reads is e sound fails =
          fails_as G honest h (settings_of mid) (tree_of means mid) rs are (faults (files_of mid)) (faults (files_of new)) name (composes_in true mid) asked.first
          (ap (λ (b : Bool). name_asked (b && true) name) same.composes ∙ asked.composed) reads (reads_left h rs reads is) e sound fails

      pub found_edited : FindsEdited honest means faults G mode old mid new given left name found
      unfolding still_made records_left
      found_edited = record {
        made = still_made;
        lookup = lookup;
        finds = λ h good asked.
            let again = made.good h good in
            let there : (rs : List Record) × ArePackedRecords (kind_of old) (view_in means new (meaning_of old).packed_path) rs = records_left h good in
            let same_records = computed (folders old) (kind_of old) old.prohibit_windows_device_names (view_in means new (meaning_of old).packed_path) there.0 there.1 in
            let reads_is = sym (ap (λ rs. reading_among (meaning_of old) (view_in means new) rs name) same_records) ∙ still_made.reads h good name asked.reference in
            found_as (meaning_of old) (view_in means new) there.0 same_records name (composes_in true old) asked (HasFault honest means faults G mid new) (reads_after honest means faults old made.split name) found reads_is
            (λ r is. as_old h there.0 (Some r) (subst (λ x. MatchResult x (λ r. FindsAmong means mid there.0 name (Some r)) (MissesAmong means mid there.0 name)) is (lookup.finds h again.0 again.1)))
            (λ n is. as_old h there.0 None (subst (λ x. MatchResult x (λ r. FindsAmong means mid there.0 name (Some r)) (MissesAmong means mid there.0 name)) is (lookup.finds h again.0 again.1)))
            (λ e is.
            let sound : IsSound e = subst (λ x. MatchResult x (λ r. FindsAmong means mid there.0 name (Some r)) (MissesAmong means mid there.0 name)) is (lookup.finds h again.0 again.1) in (
              sound,
              failed_as h again.0 again.1 asked (reads_after honest means faults old made.split name) reads_is e sound
                  (subst (λ x. MatchResult x (λ r. faults (files_of new) ≡ faults (files_of mid)) (MissesIn {G = G} honest means faults true mid new Unopened name)) is lookup.fails),
            ));
      }
