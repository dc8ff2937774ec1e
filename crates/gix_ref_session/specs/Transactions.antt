-- One transaction of a session: tried, and tried again where another holds a lock, up to its end.
use Rattle.std.specs.Prelude.{◌≡◌, ◌⊎◌, List, Bool, Option, is_some, Result, Ok, Err}
use Rattle.gix_ref_files.specs.declared.files.FileError.{FileError}
use Rattle.gix_ref_files.specs.Files.{Meaning, FaultCounts, Leaves, Loses}
use Rattle.gix_ref_files.specs.Tree.{Path, Tree}
use Rattle.gix_ref_edits.specs.declared.transaction.RefEdit.{RefEdit}
use Rattle.gix_ref_log.specs.declared.actor.SignatureRef.{SignatureRef}
use Rattle.gix_ref_object.specs.contracts.object.NeverFind.TheImpl.{claims-value, meaning-value}
use Rattle.gix_ref_object.specs.declared.object.Find.{Ghosts}
use Rattle.gix_ref_object.specs.declared.object.Never.{Never}
use Rattle.gix_ref_theory.specs.Sequences.{AreDone}
use Rattle.gix_ref_transaction.specs.OwnLocks.{RemovesLocks}
use Rattle.gix_ref_transaction.specs.Packing.{OfFinder, ends_of, mode_in}
use Rattle.gix_ref_transaction.specs.PrepareSteps.{held_locks, updates as prepared_of}
use Rattle.gix_ref_transaction.specs.declared.edit.Edit.{Edit}
use Rattle.gix_ref_transaction.specs.declared.packing.PackedRefs.{PackedRefs}
use Rattle.gix_ref_transaction.specs.declared.packing.PackedRefs.TheVariants.{DeletionsOnly}
use Rattle.gix_ref_transaction.specs.declared.prepare.error.Error.{Error as Cause}
use Rattle.gix_ref_transaction.specs.declared.prepare.error.Error.TheVariants as causes
use Rattle.gix_ref_store.specs.Lookup.{LooksUp}
use Rattle.gix_ref_store.specs.Prepared.{HasGoodRecords, IsAtRest, PreparesGiven, RollsBackFrom, tree_of}
use Rattle.gix_ref_store.specs.PreparedFields.{held_edits, held_packed}
use Rattle.gix_ref_store.specs.Store.{files_of, IsSameStore}
use Rattle.gix_ref_store.specs.declared.file.store.Store.{Store}
use Rattle.gix_ref_store.specs.declared.file.transaction.Plan.{Plan}
use Rattle.gix_ref_store.specs.declared.file.transaction.Prepared.{Prepared}
use Rattle.gix_ref_store.specs.declared.file.transaction.outcome.Done.{Done}
use Rattle.gix_ref_store.specs.declared.file.transaction.outcome.Failed.{Failed}
use Rattle.gix_ref_program.specs.Updates.{IsBegun, IsLossOf, IsStopOf, IsUpdateError, LosesFromRest, UpdateMade}
use Rattle.gix_ref_program.specs.Writes.{IsKept}
use Rattle.gix_ref_program.specs.declared.update.UpdateError.{UpdateError}
use Rattle.gix_ref_program.specs.declared.update.UpdateError.TheVariants.{Prepare, Commit}
use Rattle.gix_ref_session.specs.Clashes.{AreClear}
use Rattle.gix_ref_session.specs.Leading.{AreLed, LeadsIn}
use Rattle.gix_ref_session.specs.Named.{AreNamed, IsSwitchedFor}
use Rattle.gix_ref_session.specs.declared.fatal.Fatal.{Fatal}
use Rattle.gix_ref_session.specs.declared.fatal.Fatal.TheVariants as fatals

-- `packed-refs` changes for deletions alone
abbrev pub uses : PackedRefs Never
uses = DeletionsOnly

-- another holds a lock
abbrev pub IsLocked : Cause → Type 0
IsLocked (causes.LockAcquire name) = Unit {0}
IsLocked causes.PackedTransactionAcquire = Unit {0}
IsLocked cause = ⊥

-- after this error edits are tried again: another holds a lock, or has switched `HEAD` meanwhile
abbrev pub IsTriedAgain : Fatal → Type 0
IsTriedAgain (fatals.Update (Prepare cause)) = IsLocked cause
IsTriedAgain (fatals.Switched name) = Unit {0}
IsTriedAgain fatal = ⊥

-- what a commit returns, as a result of the session
abbrev pub IsCommitResult : {T : Type 0} → Result (Done T) (Failed T) →
    Result (Unit {0}) Fatal → Type 0
IsCommitResult (Ok done) result = result ≡ Ok tt
IsCommitResult (Err failed) result = result ≡ Err (fatals.Update (Commit failed.error))

module _ {F : Type 0} (honest : Type 0) (means : F → Meaning) where
  -- what a stop leaves, from one store to another; that is said where the files are honest
  abbrev pub StopLeaves : (old new : Store F) → (Tree → Type 0) → Type 0
  StopLeaves old new P = honest → Leaves (means (files_of old)) (means (files_of new)) P

  -- and what a loss of power leaves, where also `packed-refs` was well formed or missing and the store at rest
  abbrev pub LossLeaves : (old new : Store F) → (Tree → Type 0) → Type 0
  LossLeaves old new P = honest → LosesFromRest means old new P

module _ {F : Type 0} (honest : Type 0) (means : F → Meaning) (faults : F → FaultCounts) where
  -- these edits were prepared, from the store `old` to `mid`
  abbrev pub Prepares : (old mid : Store F) → List RefEdit → Option Path → List Edit → Type 0
  Prepares old mid edits packed held = PreparesGiven honest means faults
      (OfFinder claims-value.it uses) (ends_of meaning-value.it uses) (mode_in uses)
      old mid edits packed held

  -- this holds of each store and the edits that were prepared from it, where their locks are those that are held
  abbrev pub WhenPrepared : {R T : Type 0} {G : Ghosts T} → Prepared F (Plan T G) R →
      (Store F → List RefEdit → Type 0) → Type 0
  WhenPrepared prepared P = (old : Store F) (edits : List RefEdit) →
      Prepares old prepared.store.now edits (held_packed prepared.plan) (held_edits prepared.plan) →
      P old edits

  -- They were prepared and committed. Where `packed-refs` was well formed it is so again, and where all was at rest all is.
  pub record IsCommitted (committer : Option SignatureRef) (old new : Store F)
      (edits : List RefEdit) : Type 0 where
    pub left : List Path
    pub made : UpdateMade honest means faults uses old new committer edits left
    pub good : honest → HasGoodRecords means old → HasGoodRecords means new
    pub rests : honest → IsAtRest means old → IsAtRest means new
    pub same : IsSameStore old new

  -- They were prepared, and given up: of their locks only those stay that are named.
  pub record IsRolledBack (old new : Store F) (edits : List RefEdit) : Type 0 where
    pub begun : IsBegun honest means faults uses old edits
    pub left : List Path
    pub rolled : RollsBackFrom honest means faults begun.mid new
        (held_locks begun.packed begun.held) left

  -- They were prepared, and given up with this error, since not each update that was given is of the reference that it names.
  pub record IsNotNamed (given : List RefEdit) (fatal : Fatal) (old new : Store F)
      (edits : List RefEdit) : Type 0 where
    pub begun : IsBegun honest means faults uses old edits
    pub why : IsSwitchedFor (prepared_of begun.held) given fatal
    pub back : IsRolledBack old new edits

  -- They were prepared, and each update that was given is of the reference that it names.
  pub record IsNamedAll (given : List RefEdit) (old : Store F) (edits : List RefEdit) : Type 0 where
    pub begun : IsBegun honest means faults uses old edits
    pub named : AreNamed (prepared_of begun.held) given

  -- They were not prepared, or their commit failed, and these locks stay.
  pub record IsRefused (committer : Option SignatureRef) (read : FileError → Type 0)
      (error : UpdateError) (old new : Store F) (edits : List RefEdit) : Type 0 where
    pub left : List Path
    pub fails : IsUpdateError honest means faults uses read old new committer edits error left

  -- their commit failed for this reason
  abbrev pub CommitFailed : Option SignatureRef → (read : FileError → Type 0) → Fatal →
      (old new : Store F) → List RefEdit → Type 0
  CommitFailed committer read (fatals.Update (Commit error)) old new edits =
      IsRefused committer read (Commit error) old new edits
  CommitFailed committer read fatal old new edits = ⊥

  -- how the commit of edits that were prepared ends
  abbrev pub CommitEnds : Option SignatureRef → (read : FileError → Type 0) → (old new : Store F) →
      List RefEdit → Result (Unit {0}) Fatal → Type 0
  CommitEnds committer read old new edits (Ok done) = IsCommitted committer old new edits
  CommitEnds committer read old new edits (Err fatal) =
      CommitFailed committer read fatal old new edits

  -- A stop once these edits were begun to be prepared leaves this tree: what a stop in an update of them leaves; or that of prepared
  -- edits, of whose locks some are removed.
  abbrev pub IsEditStop : Option SignatureRef → Store F → List RefEdit → Tree → Type 0
  IsEditStop committer old edits T = IsStopOf honest means faults uses old committer edits T
      ⊎ ((begun : IsBegun honest means faults uses old edits)
      × RemovesLocks (held_locks begun.packed begun.held) (tree_of means begun.mid) T)

  -- What a stop and what a loss of power leave, from the store in which edits were prepared up to the one in which they are closed, for
  -- all edits of which these locks are held.
  pub record ClosesSafely (committer : Option SignatureRef) (mid new : Store F)
      (packed : Option Path) (held : List Edit) : Type 0 where
    pub leaves : (old : Store F) (edits : List RefEdit) → Prepares old mid edits packed held →
        honest → Leaves (means (files_of old)) (means (files_of new))
        (IsEditStop committer old edits)
    pub lost : (old : Store F) (edits : List RefEdit) → Prepares old mid edits packed held →
        honest → HasGoodRecords means old → IsAtRest means old →
        Loses (means (files_of old)) (means (files_of new))
        (IsLossOf honest means faults uses old committer edits)

  -- References were looked up, which changes nothing: no name is in the way of another, and symbolic references lead these edits to
  -- others, which end so.
  pub record Led (writes_lines : Bool) (Ends : (old new : Store F) → List RefEdit → Type 0)
      (edits : List RefEdit) (old new : Store F) : Type 0 where
    pub at : Store F
    pub led : List RefEdit
    pub looked : LooksUp honest means old at
    pub clear : AreClear honest means faults old edits
    pub are_led : AreLed (LeadsIn honest means old writes_lines) edits led
    pub ends : Ends at new led

  module _ (committer : Option SignatureRef) (read : FileError → Type 0)
      (edits : List RefEdit) where
    -- the edits were refused
    abbrev pub IsNotMade : UpdateError → (old new : Store F) → Type 0
    IsNotMade error = Led (is_some committer) (IsRefused committer read error) edits

    -- A stop in a try leaves this tree: the one before, or what one leaves once its edits were begun.
    abbrev pub IsTryStop : Store F → Tree → Type 0
    IsTryStop old T = (T ≡ tree_of means old)
        ⊎ ((at : Store F) × (led : List RefEdit) × LooksUp honest means old at
        × AreClear honest means faults old edits
        × AreLed (LeadsIn honest means old (is_some committer)) edits led
        × IsEditStop committer at led T)

    -- A loss of power in a try leaves this tree: each file that was settled is as before, or it is what one leaves once its edits
    -- were begun.
    abbrev pub IsTryLoss : Store F → Tree → Type 0
    IsTryLoss old T = IsKept means (files_of old) T
        ⊎ ((at : Store F) × (led : List RefEdit) × LooksUp honest means old at
        × AreClear honest means faults old edits
        × AreLed (LeadsIn honest means old (is_some committer)) edits led
        × IsLossOf honest means faults uses at committer led T)

    -- a try that was refused since another holds a lock; or given up, since another has switched `HEAD`
    abbrev pub IsTried : Fatal → (old new : Store F) → Type 0
    IsTried (fatals.Update (Prepare cause)) old new =
        IsLocked cause × IsNotMade (Prepare cause) old new
    IsTried (fatals.Switched name) old new =
        Led (is_some committer) (IsNotNamed edits (fatals.Switched name)) edits old new
    IsTried fatal old new = ⊥

    -- A stop in a transaction leaves this tree: what a stop in a try leaves, after some that were refused.
    abbrev pub IsTransactionStop : Store F → Tree → Type 0
    IsTransactionStop old T = (tries : List Fatal) × (mid : Store F)
        × AreDone IsTried tries old mid × IsTryStop mid T

    -- and a loss of power in it leaves what one in a try leaves, after some that were refused
    abbrev pub IsTransactionLoss : Store F → Tree → Type 0
    IsTransactionLoss old T = (tries : List Fatal) × (mid : Store F)
        × AreDone IsTried tries old mid × IsTryLoss mid T

    -- A stop as a transaction is closed leaves this tree: the one before, or what a stop in the transaction leaves.
    abbrev pub IsClosingStop : Store F → Tree → Type 0
    IsClosingStop old T = (T ≡ tree_of means old) ⊎ IsTransactionStop old T

    -- and so a loss of power: each file that was settled is as before, or it is what one in the transaction leaves
    abbrev pub IsClosingLoss : Store F → Tree → Type 0
    IsClosingLoss old T = IsKept means (files_of old) T ⊎ IsTransactionLoss old T
