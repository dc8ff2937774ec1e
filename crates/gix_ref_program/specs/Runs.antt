-- The outcome of a run of the program.
use Rattle.std.specs.Prelude.{◌≡◌, ◌⊎◌, ℕ, List, [], ◌∷◌, Bool, true, false, codes, Option, Some, None, Result, Ok, IfOk}
use denote.Ref.{Bor}
use Rattle.std.specs.Iterator.{DrainsIf}
use Rattle.gix_ref_files.specs.declared.files.FileError.{FileError}
use Rattle.std.specs.Io.KnownBytes.{Appends}
use Rattle.std.specs.List.{AllByRecursion, flat_map}
use Rattle.gix_ref_name.specs.NameGrammar.{full_error, partial_error}
use Rattle.gix_ref_name.specs.Namespaces.{expanded}
use Rattle.gix_ref_hash.specs.declared.hash.Kind.{Kind}
use Rattle.gix_ref_files.specs.Tree.{Tree, is_file}
use Rattle.gix_ref_files.specs.Tree.Content.{File}
use Rattle.gix_ref_files.specs.Files.{Meaning, Leaves, Loses, HasRisen, NoFewer, disk_of, FaultCounts}
use Rattle.gix_ref_lookup.specs.CleanPaths.{is_clean}
use Rattle.gix_ref_log.specs.Signatures.{Who}
use Rattle.gix_ref_log.specs.declared.actor.SignatureRef.{SignatureRef}
use Rattle.gix_ref_target.specs.PackedRecords.{Record}
use Rattle.gix_ref_files.specs.declared.files.ReadAt.{Ghosts}
use Rattle.gix_ref_lookup.specs.Lookups.{IsSound}
use Rattle.gix_ref_lookup.specs.Reflogs.{count_by}
use Rattle.gix_ref_lookup.specs.declared.settings.Settings.{Settings}
use Rattle.gix_ref_theory.specs.Views.{View}
use Rattle.gix_ref_lookup.specs.declared.find.records.Records.TheVariants.{Unopened}
use Rattle.gix_ref_store.specs.Lookup.{AreRecordsIn, FindsAmong, SeesIn, FailsIn, settings_of, view_in}
use Rattle.gix_ref_store.specs.Prepared.{tree_of, HasGoodRecords, IsAtRest}
use Rattle.gix_ref_store.specs.Store.{files_of, folders, kind_of}
use Rattle.gix_ref_store.specs.Reflogs.{reflog_at, IsNoReflog}
use Rattle.gix_ref_store.specs.Listings.{count_in, prefix_of_all, walked_prefix, AreFirst, AreHeldFor, FollowsWalked, IsNoListing, IsWalkedIn, NextItem}
use Rattle.gix_ref_store.specs.declared.file.iter.LooseThenPacked.{LooseThenPacked}
use Rattle.gix_ref_store.specs.declared.file.iter.Remaining.{Remaining}
use Rattle.gix_ref_packed.specs.OpenFiles.{HasReadFault}
use Rattle.gix_ref_packed.specs.declared.packed.buffer.Buffer.{Buffer}
use Rattle.gix_ref_packed_text.specs.declared.raw.Reference.{Reference}
use Rattle.gix_ref_listing.specs.CleanPrefixes.{IsAcceptedPrefix}
use Rattle.gix_ref_listing.specs.Listings.{Listed as ListedName}
use Rattle.gix_ref_listing.specs.WholeListings.{IsListing, IsNameOrMet}
use Rattle.gix_ref_listing.specs.declared.error.Error.{Error as ListError}
use Rattle.gix_ref_listing.specs.declared.list.LooseNames.{LooseNames}
use Rattle.gix_ref_listing.specs.declared.prefix.Error.TheVariants as no_list
use Rattle.gix_ref_log.specs.LogItems.{EndsAtError}
use Rattle.gix_ref_log.specs.declared.log.line.LineRef.{LineRef}
use Rattle.gix_ref_log.specs.declared.log.iter.error.ReverseError.{ReverseError}
use Rattle.gix_ref_store.specs.declared.file.store.Store.{Store}
use Rattle.gix_ref_reflog.specs.declared.write_reflog.WriteReflog.TheVariants.{Normal, Disable}
use Rattle.gix_ref_reflog.specs.declared.write_reflog.WriteReflog.{WriteReflog}
pub use Rattle.gix_ref_program.specs.AskedEdits.{IsExpected, IsLogChange, IsEditOf, IsUpdateOf, IsDeletionEdit, IsDeletionOf, IsAskedFor, BreaksRule, IsNoName, NoEdit, message_text}
use Rattle.gix_ref_program.specs.Outcomes.{printed, status_of}
use Rattle.gix_ref_object.specs.declared.object.Never.{Never}
use Rattle.gix_ref_transaction.specs.declared.packing.PackedRefs.{PackedRefs}
use Rattle.gix_ref_program.specs.ScriptLines.{script_lines}
use Rattle.gix_ref_program.specs.Scripts.{IsSaid, IsScriptLoss, IsScriptStop, ScriptEnd, ScriptEnds, script_status}
use Rattle.gix_ref_program.specs.Writes.{IsKept, IsWriteLoss, IsWriteStop, Terms, WriteComes, terms_of}
use Rattle.gix_ref_program.specs.ListPrinting.{list_text}
use Rattle.gix_ref_program.specs.ListedItems.{FollowFiles}
use Rattle.gix_ref_program.specs.LogPrinting.{log_text, AreLogItems, IsCountedFault}
use Rattle.gix_ref_program.specs.Printed.{items_status}
use Rattle.gix_ref_program.specs.Words.{Asked, Update, Symbolic, Delete, Show, Listing as AskedListing, Log, Script, LineAsked, AreWordsOf, MayWrite, who_given}
use Rattle.gix_ref_program.specs.declared.outcome.Outcome.{Outcome}
use Rattle.gix_ref_program.specs.declared.outcome.Outcome.TheVariants as outcomes
use Rattle.gix_ref_program.specs.declared.refusal.Refusal.{Refusal}
use Rattle.gix_ref_program.specs.declared.refusal.Refusal.TheVariants as refusals

-- the namespace that a NAME expands to
abbrev pub namespace_of : Option (List ℕ) → List ℕ
namespace_of None = []
namespace_of (Some name) = expanded name

-- why there is no namespace
abbrev pub NoNamespace : Option (List ℕ) → Refusal → Type 0
NoNamespace (Some name) (refusals.Name error) = partial_error name ≡ Some error
NoNamespace name refusals.Memory = Unit {0}
NoNamespace name refusal = ⊥

-- log lines are written where there is a committer
abbrev pub write_reflog_of : Option Who → WriteReflog
write_reflog_of None = Disable
write_reflog_of (Some who) = Normal

-- this is the committer of a line
abbrev pub IsCommitterOf : LineAsked → Option SignatureRef → Type 0
IsCommitterOf line committer = who_given committer ≡ line.committer

-- What becomes of a line: an outcome, which is printed as a whole; or the items of a listing or of a reflog, each printed as it
-- comes, all where `whole` says so; or the outcomes of the lines of a script that were begun, each printed as it comes.
pub data Ran : Type 0 where
  Said : Outcome → Ran
  Listed : (whole : Bool) (items : List (Result Reference ListError)) → Ran
  Logged : (whole : Bool) (items : List (Result LineRef ReverseError)) → Ran
  Scripted : (end : ScriptEnd) (said : List Outcome) → Ran

-- what is printed of it, and the status
abbrev pub ran_text : Ran → List ℕ
ran_text (Said outcome) = printed outcome
ran_text (Listed whole items) = list_text items
ran_text (Logged whole items) = log_text items
ran_text (Scripted end said) = flat_map printed said

abbrev pub status_after : Ran → ℕ
status_after (Said outcome) = status_of outcome
status_after (Listed whole items) = items_status items
status_after (Logged whole items) = items_status items
status_after (Scripted end said) = script_status end

-- it went on to the end
abbrev pub IsShownWhole : Ran → Type 0
IsShownWhole (Said outcome) = Unit {0}
IsShownWhole (Listed whole items) = whole ≡ true
IsShownWhole (Logged whole items) = whole ≡ true
IsShownWhole (Scripted end said) = IsSaid end

-- What was done, and what is printed of it unless the writer fails: all of it, and its status.
pub record Prints {E : Type 0} (Does : Ran → Type 0) (out now : Option (List ℕ))
    (status : Result ℕ E) : Type 0 where
  pub ran : Ran
  pub does : Does ran
  pub prints : IfOk status
      (λ s. IsShownWhole ran × (s ≡ status_after ran) × Appends out now (ran_text ran))

-- it is refused for such a reason, and no lock stays
abbrev pub SaysOne : (For : Refusal → Type 0) → Ran → Type 0
SaysOne For (Said (outcomes.Refused refusal locks)) = For refusal × (locks.items ≡ [])
SaysOne For ran = ⊥

-- why there is no store in a folder
abbrev pub IsBadFolder : List ℕ → Refusal → Type 0
IsBadFolder dir refusals.PathNotClean = is_clean dir ≡ false
IsBadFolder dir refusals.Memory = Unit {0}
IsBadFolder dir refusal = ⊥

-- why there is no store: the folder; or the namespace, in a folder that is clean
abbrev pub NoStore : (dir : List ℕ) → (namespace : Option (List ℕ)) → Refusal → Type 0
NoStore dir namespace refusal = IsBadFolder dir refusal
    ⊎ ((is_clean dir ≡ true) × NoNamespace namespace refusal)

-- why a line is not begun
abbrev pub IsUnopened : LineAsked → Refusal → Type 0
IsUnopened line refusal = NoStore line.dir line.namespace refusal

module _ {F : Type 0} where
  -- names are used as they are written, and no component is prohibited
  pub record IsPlainStore (store : Store F) : Type 0 where
    pub composes : store.precompose_unicode ≡ false
    pub prohibits : store.prohibit_windows_device_names ≡ false

  -- a store in a folder, without a namespace, which writes log lines as this has it
  pub record IsAt (files : F) (dir : List ℕ) (kind : Kind) (write_reflog : WriteReflog)
      (store : Store F) : Type 0 where
    pub files_are : files_of store ≡ files
    pub clean : is_clean dir ≡ true
    pub git : (folders store).git ≡ dir
    pub common : (folders store).common ≡ dir
    pub of_kind : kind_of store ≡ kind
    pub logs : store.write_reflog ≡ write_reflog
    pub plain : IsPlainStore store

  -- the store of a folder, in the namespace of a NAME, which writes log lines where there is a committer
  pub record IsStoreOf (files : F) (dir : List ℕ) (kind : Kind) (name : Option (List ℕ))
      (committer : Option Who) (store : Store F) : Type 0 where
    pub files_are : files_of store ≡ files
    pub clean : is_clean dir ≡ true
    pub git : (folders store).git ≡ dir
    pub common : (folders store).common ≡ dir
    pub namespace : (folders store).namespace ≡ namespace_of name
    pub of_kind : kind_of store ≡ kind
    pub logs : store.write_reflog ≡ write_reflog_of committer
    pub plain : IsPlainStore store

  -- the store of a line
  abbrev pub IsOpened : F → LineAsked → Store F → Type 0
  IsOpened files line store =
      IsStoreOf files line.dir line.kind line.namespace line.committer store

  -- a line can be begun over these files
  abbrev pub HasStore : F → LineAsked → Type 0
  HasStore files line = (store : Store F) × IsOpened files line store

  -- what the names of a listing begin with
  abbrev pub prefix_asked : Store F → Option (List ℕ) → List ℕ
  prefix_asked store None = prefix_of_all store.namespace
  prefix_asked store (Some prefix) = prefix

  -- A reflog is refused: it is not read, and a fault of files is counted; or its name breaks a rule.
  abbrev pub RefusesReflog : (faults : F → FaultCounts) → (old new : Store F) → (name : List ℕ) →
      Outcome → Type 0
  RefusesReflog faults old new name (outcomes.Refused (refusals.Log error) locks) =
      IsNoReflog old name error
      × (faults (files_of new) ≡ count_by error (faults (files_of old)))
      × (locks.items ≡ [])
  RefusesReflog faults old new name (outcomes.Refused (refusals.Name error) locks) =
      (full_error name ≡ Some error) × (new ≡ old) × (locks.items ≡ [])
  RefusesReflog faults old new name outcome = ⊥

  module _ (honest : Type 0) (means : F → Meaning) (faults : F → FaultCounts) where
    -- A reflog: it is refused; or its items are printed, newest first. A fault of reading among them is one that a reader counted.
    abbrev pub LogRan : {R : Type 0} (G : Ghosts R) → (old new : Store F) → (name : List ℕ) →
        Ran → Type 0
    LogRan G old new name (Said outcome) = RefusesReflog faults old new name outcome
    LogRan G old new name (Listed whole items) = ⊥
    LogRan G old new name (Scripted end said) = ⊥
    LogRan G old new name (Logged whole items) =
        (full_error name ≡ None) × (honest → AreLogItems (reflog_at means old name) whole items)
        × EndsAtError items × AllByRecursion (IsCountedFault G.faults) items

    -- A lookup: what it finds is shown; or there is nothing; or it fails; or its name breaks a rule.
    abbrev pub ShowOutcome : {R : Type 0} (G : Ghosts R) → (old new : Store F) → (name : List ℕ) →
        Outcome → Type 0
    ShowOutcome G old new name (outcomes.Shown reference) =
        honest → SeesIn {G = G} means true old Unopened name (Some reference)
        × ((records : List Record) → AreRecordsIn means old records →
        FindsAmong means old records name (Some reference))
    ShowOutcome G old new name (outcomes.Refused refusals.NotFound locks) =
        (honest → SeesIn {G = G} means true old Unopened name None
        × ((records : List Record) → AreRecordsIn means old records →
        FindsAmong means old records name None)) × (locks.items ≡ [])
    ShowOutcome G old new name (outcomes.Refused (refusals.Find error) locks) =
        FailsIn {G = G} honest means faults true old new Unopened name error
        × (honest → (records : List Record) → AreRecordsIn means old records → IsSound error)
        × (locks.items ≡ [])
    ShowOutcome G old new name (outcomes.Refused (refusals.Name error) locks) =
        (partial_error name ≡ Some error) × (new ≡ old) × (locks.items ≡ [])
    ShowOutcome G old new name outcome = ⊥

    -- Items of the listing of a prefix, between two counts of faults: the first ones, all where `whole` says so. A folder that
    -- could not be listed is among them only with a fault that was counted.
    pub record AreListed (settings : Settings) (view : View) (before now : FaultCounts)
        (records : List Record) (prefix : List ℕ) (whole : Bool)
        (items : List (Result Reference ListError)) : Type 0 where
      pub listed : List ListedName
      pub is : IsListing settings view records prefix listed
      pub names : AllByRecursion (IsNameOrMet before now) listed
      pub rest : List ListedName
      pub first : AreFirst honest means faults settings view before now listed rest items
      pub ends : whole ≡ true → rest ≡ []

    -- A listing of the names that a walk found, with the records of a buffer if one is given: there was no memory; or its items are
    -- printed, by ascending names.
    abbrev pub ListRanAmong : (old new : Store F) → LooseNames → (packed : Option (Bor Buffer)) →
        Ran → Type 0
    ListRanAmong old new names packed (Said (outcomes.Refused (refusals.List error) locks)) =
        (error ≡ no_list.Memory) × (locks.items ≡ [])
    ListRanAmong old new names packed (Listed whole items) =
        honest → ((it : LooseThenPacked F Remaining)
        × FollowsWalked honest means faults old names packed (Ok it)
        × (drains : DrainsIf (NextItem honest means faults) (whole ≡ true) it items)
        × NoFewer (count_in honest means faults drains.0) (faults (files_of new)))
        × ((start : Store F) (records : List Record) →
        IsWalkedIn honest means faults start old names →
        AreHeldFor old (walked_prefix names) packed records →
        AreListed (settings_of start) (view_in means start) (faults (files_of start))
        (faults (files_of new)) records (walked_prefix names) whole items)
    ListRanAmong old new names packed ran = ⊥

    -- A listing: it is refused; or its items are printed. None is lacking or wrong, whatever the lines of `packed-refs` are.
    abbrev pub ListRan : {R : Type 0} (G : Ghosts R) → (old new : Store F) → (prefix : List ℕ) →
        Ran → Type 0
    ListRan G old new prefix (Said (outcomes.Refused (refusals.List error) locks)) =
        IsNoListing honest means faults G old new prefix error × (locks.items ≡ [])
    ListRan G old new prefix (Listed whole items) =
        IsAcceptedPrefix old.namespace prefix
        × (honest → FollowFiles honest means faults old prefix (faults (files_of new)) whole items
        × ((records : List Record) → AreRecordsIn means old records →
        AreListed (settings_of old) (view_in means old) (faults (files_of old))
        (faults (files_of new)) records prefix whole items))
    ListRan G old new prefix ran = ⊥

    -- what is printed of commands that write
    abbrev pub WriteRan : (read : FileError → Type 0) → (old new : Store F) → Terms → List Asked →
        Ran → Type 0
    WriteRan read old new terms asked (Said outcome) =
        WriteComes honest read means faults terms asked old new outcome
    WriteRan read old new terms asked ran = ⊥

    -- What becomes of a command that is no script. One that writes is a transaction of itself alone.
    abbrev pub CommandRan : {R : Type 0} (G : Ghosts R) → (old new : Store F) → Terms → Asked →
        Ran → Type 0
    CommandRan G old new terms (Update deref name id before) ran = WriteRan
        (HasReadFault G.faults) old new terms (Update deref name id before ∷ []) ran
    CommandRan G old new terms (Symbolic name target) ran = WriteRan
        (HasReadFault G.faults) old new terms (Symbolic name target ∷ []) ran
    CommandRan G old new terms (Delete deref name before) ran = WriteRan
        (HasReadFault G.faults) old new terms (Delete deref name before ∷ []) ran
    CommandRan G old new terms (Show name) (Said outcome) = ShowOutcome G old new name outcome
    CommandRan G old new terms (AskedListing prefix) ran =
        ListRan G old new (prefix_asked old prefix) ran
    CommandRan G old new terms (Log name) ran = LogRan G old new name ran
    CommandRan G old new terms asked ran = ⊥

    -- a stop in it leaves this tree: as before; or, where it writes, what a stop in its transaction leaves
    abbrev pub IsStop : Store F → Terms → Asked → Tree → Type 0
    IsStop old terms (Update deref name id before) T =
        IsWriteStop honest means faults terms (Update deref name id before ∷ []) old T
    IsStop old terms (Symbolic name target) T =
        IsWriteStop honest means faults terms (Symbolic name target ∷ []) old T
    IsStop old terms (Delete deref name before) T =
        IsWriteStop honest means faults terms (Delete deref name before ∷ []) old T
    IsStop old terms (Show name) T = T ≡ tree_of means old
    IsStop old terms (AskedListing prefix) T = T ≡ tree_of means old
    IsStop old terms (Log name) T = T ≡ tree_of means old
    IsStop old terms (Script path) T = ⊥

    -- a line that is not begun
    abbrev pub NotBegun : LineAsked → Ran → Type 0
    NotBegun line (Said (outcomes.Refused refusal locks)) = IsUnopened line refusal
        × (locks.items ≡ [])
    NotBegun line ran = ⊥

    -- why the file of a script gives no text: there is none, or a call of files failed, or there was no memory
    abbrev pub IsUnread : (files start : F) → (path : List ℕ) → Refusal → Type 0
    IsUnread files start path refusals.ReadFileContents =
        (honest → is_file ((means files).tree path) ≡ false)
        ⊎ HasRisen (faults files) (faults start)
    IsUnread files start path refusals.Memory = Unit {0}
    IsUnread files start path refusal = ⊥

    -- the disk is the same, as after a read
    abbrev pub HasSameDisk : (files start : F) → Type 0
    HasSameDisk files start = honest → disk_of (means start) ≡ disk_of (means files)

    -- the file of a script has this text
    abbrev pub HasText : F → (path text : List ℕ) → Type 0
    HasText files path text = honest → (means files).tree path ≡ Some (File text)

    -- a script whose text was not read: there is no store, or there is one and this is why
    abbrev pub NoText : (files start : F) → LineAsked → (path : List ℕ) → Ran → Type 0
    NoText files start line path (Said (outcomes.Refused refusal locks)) =
        (IsUnopened line refusal ⊎ (HasStore start line × IsUnread files start path refusal))
        × (locks.items ≡ [])
    NoText files start line path ran = ⊥

    -- The store of a line over these files has well-formed records, and all is at rest.
    abbrev pub IsReadyFor : F → LineAsked → Type 0
    IsReadyFor files line = (start : F) (store : Store F) →
        disk_of (means start) ≡ disk_of (means files) → IsOpened start line store →
        HasGoodRecords means store × IsAtRest means store

    -- where that is so, each loss of power from these files to `after` leaves a tree that has P
    abbrev pub LosesIfReady : (files after : F) → LineAsked → (Tree → Type 0) → Type 0
    LosesIfReady files after line P = IsReadyFor files line → Loses (means files) (means after) P

    -- in a run whose transactions do with `packed-refs` as `uses` says
    module _ (uses : PackedRefs Never) where
      -- What becomes of the text of a script: its lines are run in the store, one transaction each; or there is no store.
      abbrev pub TextRan : {R : Type 0} (G : Ghosts R) → (start after : F) → LineAsked →
          (text : List ℕ) → Ran → Type 0
      TextRan G start after line text (Scripted end said) =
          (old : Store F) × (new : Store F) × (committer : Option SignatureRef)
          × IsCommitterOf line committer × IsOpened start line old × (files_of new ≡ after)
          × ScriptEnds honest (HasReadFault G.faults) means faults (terms_of line committer uses)
          end (script_lines text) (record { store = old; said = [] })
          (record { store = new; said = said })
      TextRan G start after line text ran = (after ≡ start) × NotBegun line ran

      -- What becomes of a script: its file is read, and then its text is run.
      pub record ScriptRan {R : Type 0} (G : Ghosts R) (files after : F) (line : LineAsked)
          (path : List ℕ) (ran : Ran) : Type 0 where
        pub start : F
        pub same : HasSameDisk files start
        pub runs : ((text : List ℕ) × HasText files path text × TextRan G start after line text ran)
            ⊎ ((after ≡ start) × NoText files start line path ran)

      -- A stop in the text of a script leaves this tree: the one before, or what a stop in its lines leaves.
      abbrev pub IsTextStop : (start : F) → LineAsked → (text : List ℕ) → Tree → Type 0
      IsTextStop start line text T =
          (T ≡ (means start).tree)
          ⊎ ((old : Store F) × (committer : Option SignatureRef) × IsCommitterOf line committer
          × IsOpened start line old × IsScriptStop honest means faults
          (terms_of line committer uses) (script_lines text) old T)

      -- and one in a script
      abbrev pub IsStopInScript : F → LineAsked → (path : List ℕ) → Tree → Type 0
      IsStopInScript files line path T =
          (T ≡ (means files).tree)
          ⊎ ((start : F) × (text : List ℕ) × HasSameDisk files start × HasText files path text
          × IsTextStop start line text T)

      -- A loss of power in the text of a script leaves this tree: each file that was settled is as before, or it is what a loss in
      -- its lines leaves.
      abbrev pub IsTextLoss : (start : F) → LineAsked → (text : List ℕ) → Tree → Type 0
      IsTextLoss start line text T =
          IsKept means start T
          ⊎ ((old : Store F) × (committer : Option SignatureRef) × IsCommitterOf line committer
          × IsOpened start line old × IsScriptLoss honest means faults
          (terms_of line committer uses) (script_lines text) old T)

      -- and one in a script
      abbrev pub IsLossInScript : F → LineAsked → (path : List ℕ) → Tree → Type 0
      IsLossInScript files line path T =
          IsKept means files T
          ⊎ ((start : F) × (text : List ℕ) × HasSameDisk files start × HasText files path text
          × IsTextLoss start line text T)

      -- what becomes of a line: it is begun in its store; or it is not, and the files are as before; or it is a script
      abbrev pub LineRan : {R : Type 0}
          (G : Ghosts R) → (files after : F) → LineAsked → Ran → Type 0
      LineRan G files after line ran =
          ((old : Store F) × (new : Store F) × (committer : Option SignatureRef)
          × IsCommitterOf line committer × IsOpened files line old × (files_of new ≡ after)
          × CommandRan G old new (terms_of line committer uses) line.asked ran)
          ⊎ (((after ≡ files) × NotBegun line ran)
          ⊎ ((path : List ℕ) × (line.asked ≡ Script path) × ScriptRan G files after line path ran))

      -- a stop in a line leaves this tree: as before, or what a stop in its command leaves
      abbrev pub IsStopIn : F → LineAsked → Tree → Type 0
      IsStopIn files line T =
          (T ≡ (means files).tree)
          ⊎ (((old : Store F) × (committer : Option SignatureRef) × IsCommitterOf line committer
          × IsOpened files line old × IsStop old (terms_of line committer uses) line.asked T)
          ⊎ ((path : List ℕ) × (line.asked ≡ Script path) × IsStopInScript files line path T))

      -- A loss of power in a line that writes leaves this tree: each file that was settled is as before, or it is what a loss in
      -- its transaction, or in its script, leaves.
      abbrev pub IsLossIn : F → LineAsked → Tree → Type 0
      IsLossIn files line T =
          IsKept means files T
          ⊎ (((old : Store F) × (committer : Option SignatureRef) × IsCommitterOf line committer
          × IsOpened files line old
          × IsWriteLoss honest means faults (terms_of line committer uses) (line.asked ∷ []) old T)
          ⊎ ((path : List ℕ) × (line.asked ≡ Script path) × IsLossInScript files line path T))

      -- A run of a line: what becomes of it is printed, and gives the status; and each stop leaves what a stop in the line leaves.
      pub record RunsLine {R : Type 0} (G : Ghosts R) {E : Type 0} (files after : F)
          (words : List (List ℕ)) (out now : Option (List ℕ)) (status : Result ℕ E) : Type 0 where
        pub line : LineAsked
        pub is_line : AreWordsOf words line
        pub prints : Prints (LineRan G files after line) out now status
        pub leaves : honest → Leaves (means files) (means after) (IsStopIn files line)
        -- and each loss of power in one that writes leaves what a loss in it leaves
        pub loses : honest → MayWrite line.asked →
            LosesIfReady files after line (IsLossIn files line)

-- A run for whose words there was no memory: nothing changes, and it says so.
pub record RunsOut {F E : Type 0} (files after : F) (out now : Option (List ℕ))
    (status : Result ℕ E) : Type 0 where
  pub same : after ≡ files
  pub printed : IfOk status (λ s. (s ≡ 1) × Appends out now (codes "refused: Memory\n"))

-- A run of words that are no line: nothing changes, and it says so.
pub record RunsWrong {F E : Type 0} (files after : F) (words : List (List ℕ))
    (out now : Option (List ℕ)) (status : Result ℕ E) : Type 0 where
  pub no_line : (line : LineAsked) → AreWordsOf words line → ⊥
  pub same : after ≡ files
  pub printed : IfOk status (λ s. (s ≡ 2) × Appends out now (codes "wrong words\n"))

module _ {F : Type 0} (honest : Type 0) (means : F → Meaning) (faults : F → FaultCounts)
    (uses : PackedRefs Never) where
  -- A run of words: there was no memory for them; or they are no line; or it is a run of the line that they are.
  abbrev pub RunsWords : {R E : Type 0} (G : Ghosts R) → (files after : F) →
      (words : List (List ℕ)) → (out now : Option (List ℕ)) → (status : Result ℕ E) → Type 0
  RunsWords G files after words out now status = RunsOut files after out now status
      ⊎ (RunsWrong files after words out now status
      ⊎ RunsLine honest means faults uses G files after words out now status)
