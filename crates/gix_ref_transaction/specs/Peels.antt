-- The objects that updates put into `packed-refs`: the ends of their tags, and why there is none.
use Rattle.std.specs.Prelude.{◌≡◌, ◌≢◌, ◌⊎◌, List, [], ◌∷◌, true, false, Option, Some, None, if◌then◌else◌}
use Rattle.gix_ref_hash.specs.Ids.{id_kind, IsWhole}
use Rattle.gix_ref_hash.specs.declared.hash.Kind.{Kind}
use Rattle.gix_ref_hash.specs.declared.hash.ObjectId.{ObjectId}
use Rattle.gix_ref_object.specs.Objects.{Stored}
use Rattle.gix_ref_object.specs.Peeling.{Peeled, peel}
use Rattle.gix_ref_object.specs.Peeling.Peeled.{End, Missing, BadTag, TooLong, Failed}
use Rattle.gix_ref_object.specs.declared.object.FindError.TheVariants as finding
use Rattle.gix_ref_object.specs.declared.peel.PeelError.{PeelError}
use Rattle.gix_ref_object.specs.declared.peel.PeelError.TheVariants as peeling
use Rattle.gix_ref_theory.specs.Edits.{Mode, is_same_id}
use Rattle.gix_ref_theory.specs.Readings.{Store}
use Rattle.gix_ref_edits.specs.RefEdits.{name_of, new_of}
use Rattle.gix_ref_edits.specs.declared.transaction.RefEdit.{RefEdit}
use Rattle.gix_ref_files.specs.Tree.{Tree}
use Rattle.gix_ref_transaction.specs.Causes.{packs_edit, IsFirstCause, IsPackedCause, IsPackedLocked}
use Rattle.gix_ref_transaction.specs.First.{AllPass, FirstFault}
use Rattle.gix_ref_transaction.specs.Packing.{ends_of, mode_in, new_object, peeled_in, put_by, OfFinder}
use Rattle.gix_ref_transaction.specs.PrepareSteps.{setting_of}
use Rattle.gix_ref_lookup.specs.declared.settings.Settings.{Settings}
use Rattle.gix_ref_transaction.specs.declared.edit.Edit.{Edit}
use Rattle.gix_ref_transaction.specs.declared.edit.PackedObject.{PackedObject}
use Rattle.gix_ref_transaction.specs.declared.packing.PackedRefs.{PackedRefs}
use Rattle.gix_ref_transaction.specs.declared.prepare.error.Error.{Error}
use Rattle.gix_ref_transaction.specs.declared.prepare.error.Error.TheVariants.{PackedTransactionPrepare, OtherHashKind, Memory}
use Rattle.gix_ref_transaction.specs.declared.prepare.packed.Error.{Error as PackedError}
use Rattle.gix_ref_transaction.specs.declared.prepare.packed.Error.TheVariants as packed

-- how a fault of peeling is reported
abbrev pub cause_of_peeling : PeelError → PackedError
cause_of_peeling (peeling.NotFound oid) = packed.Resolve
cause_of_peeling peeling.TagChainTooLong = packed.TagChainTooLong
cause_of_peeling peeling.Find = packed.Find finding.Failed
cause_of_peeling peeling.Memory = packed.Memory

-- and how `prepare` reports it that an object cannot be put: as that of `packed-refs`, except for an end of another kind and no memory
abbrev pub reported_by_prepare : PackedError → Error
reported_by_prepare packed.OtherHashKind = OtherHashKind
reported_by_prepare packed.Memory = Memory
reported_by_prepare (packed.CloseLock error) = PackedTransactionPrepare (packed.CloseLock error)
reported_by_prepare packed.Resolve = PackedTransactionPrepare packed.Resolve
reported_by_prepare packed.TagChainTooLong = PackedTransactionPrepare packed.TagChainTooLong
reported_by_prepare (packed.Find error) = PackedTransactionPrepare (packed.Find error)

-- a fault of peeling, an end of another kind, or no memory
abbrev pub IsPeelError : Error → Type 0
IsPeelError (PackedTransactionPrepare error) = Unit {0}
IsPeelError OtherHashKind = Unit {0}
IsPeelError Memory = Unit {0}
IsPeelError other = ⊥

-- the object at the end of the tags of an id, where that is another one
abbrev pub HasEnd : (ObjectId → Stored) → ObjectId → (peeled : Option ObjectId) → Type 0
HasEnd meaning id peeled = (end : ObjectId) × (peel meaning 1000 id ≡ End end)
    × (peeled ≡ (if is_same_id end id then None else Some end))

-- and so of what is put
abbrev pub EndsAt : (ObjectId → Stored) → Option PackedObject → Type 0
EndsAt meaning None = Unit {0}
EndsAt meaning (Some object) = HasEnd meaning object.target object.peeled

-- a peeled id is of the kind
abbrev pub IsPeeledOfKind : Kind → Option ObjectId → Type 0
IsPeeledOfKind kind None = Unit {0}
IsPeeledOfKind kind (Some id) = (id_kind id ≡ kind) × IsWhole id

-- why the tags of an id have no end that can be put: a missing object or a tag that names none, too many tags, a fault of the finder, or an
-- end of another kind; memory can fail anywhere
abbrev pub IsUnpeeled : Kind → ObjectId → Peeled → PackedError → Type 0
IsUnpeeled kind id (Missing missing) packed.Resolve = Unit {0}
IsUnpeeled kind id (BadTag tag) packed.Resolve = Unit {0}
IsUnpeeled kind id TooLong packed.TagChainTooLong = Unit {0}
IsUnpeeled kind id Failed (packed.Find finding.Failed) = Unit {0}
IsUnpeeled kind id (End end) packed.OtherHashKind =
    (is_same_id end id ≡ false) × (id_kind end ≢ kind)
IsUnpeeled kind id peeled packed.Memory = Unit {0}
IsUnpeeled kind id peeled error = ⊥

-- and `prepare` reports just that
abbrev pub IsReportedUnpeeled : Kind → ObjectId → Peeled → Error → Type 0
IsReportedUnpeeled kind id peeled error = (of : PackedError) × (error ≡ reported_by_prepare of)
    × IsUnpeeled kind id peeled of

-- this holds of the object, where there is one
abbrev pub IfObject : Option ObjectId → (ObjectId → Type 0) → Type 0
IfObject None P = Unit {0}
IfObject (Some id) P = P id

-- there is an object, and this holds of it
abbrev pub IsObjectAnd : Option ObjectId → (ObjectId → Type 0) → Type 0
IsObjectAnd None P = ⊥
IsObjectAnd (Some id) P = P id

-- the tags of an id have an end, of the kind or the id itself
abbrev pub CanPeel : Kind → (ObjectId → Stored) → ObjectId → Type 0
CanPeel kind meaning id = (end : ObjectId) × (peel meaning 1000 id ≡ End end)
    × ((is_same_id end id ≡ true) ⊎ (id_kind end ≡ kind))

module _ (s : Store) (mode : Mode) (kind : Kind) (meaning : ObjectId → Stored) where
  -- an edit passes: where it puts an object, that can be peeled
  abbrev pub CanPeelEdit : RefEdit → Type 0
  CanPeelEdit edit = packs_edit s mode edit ≡ true → IfObject (new_object (new_of edit.change))
      (CanPeel kind meaning)

  -- an edit is at fault: it puts an object, and that cannot be peeled
  abbrev pub IsUnpeeledEdit : RefEdit → Error → Type 0
  IsUnpeeledEdit edit error = (packs_edit s mode edit ≡ true)
      × IsObjectAnd (new_object (new_of edit.change))
      (λ id. IsReportedUnpeeled kind id (peel meaning 1000 id) error)

  -- the fault of the first edit that is
  abbrev pub IsFirstUnpeeled : List RefEdit → List RefEdit → Error → Type 0
  IsFirstUnpeeled seen edits error = FirstFault (λ _ edit. CanPeelEdit edit)
      (λ _ edit error. IsUnpeeledEdit edit error) seen edits error

  -- all edits pass
  abbrev pub CanPeelAll : List RefEdit → List RefEdit → Type 0
  CanPeelAll seen edits = AllPass {E = Error} (λ _ edit. CanPeelEdit edit)
      (λ _ edit error. IsUnpeeledEdit edit error) seen edits

-- the cause of the objects that are put: the fault of the first edit, if the finder claims what it has
abbrev pub IsPeelCause : (claims : Type 0) → (ObjectId → Stored) → Store → Mode → Kind →
    List RefEdit → Error → Type 0
IsPeelCause claims meaning s mode kind edits error = IsPeelError error
    × (claims → IsFirstUnpeeled s mode kind meaning [] edits error)

-- The cause of edits whose records are found: that of the objects that are put comes first.
abbrev pub IsHoldCause : (claims : Type 0) → (ObjectId → Stored) → Store → Mode → Kind → Tree →
    List RefEdit → Error → Type 0
IsHoldCause claims meaning s mode kind T edits error =
    IsPeelCause claims meaning s mode kind edits error
    ⊎ ((claims → CanPeelAll s mode kind meaning [] edits) × IsFirstCause s kind T [] edits error)

-- The cause of the locks: that of `packed-refs` comes first.
abbrev pub IsLockCause : (claims : Type 0) → (ObjectId → Stored) → Store → Mode → Kind → Tree →
    List RefEdit → Error → Type 0
IsLockCause claims meaning s mode kind T edits error = IsPackedCause s mode T edits error
    ⊎ ((IsPackedLocked s mode T edits → ⊥)
    × IsHoldCause claims meaning s mode kind T edits error)

-- What is put into `packed-refs` for an edit is decided: by the mode, with a peeled id of the kind, and if the finder claims what it has, that
-- of the object at the end of its tags.
pub record IsPut (claims : Type 0) (meaning : ObjectId → Stored) (s : Store) (mode : Mode)
    (kind : Kind) (edit : RefEdit) (put : Option PackedObject) : Type 0 where
  pub put_is : put ≡ put_by mode (s.key (name_of edit)) edit.change (peeled_in put)
  pub kind_is : IsPeeledOfKind kind (peeled_in put)
  pub ends : claims → EndsAt meaning put

-- and so for each of these edits
abbrev pub ArePut : (claims : Type 0) → (ObjectId → Stored) → Store → Mode → Kind →
    List Edit → Type 0
ArePut claims meaning s mode kind [] = Unit {0}
ArePut claims meaning s mode kind (e ∷ edits) =
    IsPut claims meaning s mode kind e.update e.put × ArePut claims meaning s mode kind edits

-- the cause, or no memory
abbrev pub OrMemory : (Error → Type 0) → Error → Type 0
OrMemory Cause error = (error ≡ Memory) ⊎ Cause error

-- By the finder of objects that a use of `packed-refs` has, in a store of these settings:
module _ {T : Type 0} (claims : T → Type 0) (meaning : T → ObjectId → Stored) (settings : Settings)
    (packed_refs : PackedRefs T) where
  -- why an edit puts no object
  abbrev pub PutsNone : RefEdit → Error → Type 0
  PutsNone edit error = IsUnpeeledEdit (setting_of settings) (mode_in packed_refs) settings.kind
      (ends_of meaning packed_refs) edit error

  -- why the first of these edits that puts no object does not
  abbrev pub FirstPutsNone : List RefEdit → Error → Type 0
  FirstPutsNone edits error = IsFirstUnpeeled (setting_of settings) (mode_in packed_refs)
      settings.kind (ends_of meaning packed_refs) [] edits error

  -- what is put for each of these edits is decided
  abbrev pub ArePutBy : List Edit → Type 0
  ArePutBy edits = ArePut (OfFinder claims packed_refs) (ends_of meaning packed_refs)
      (setting_of settings) (mode_in packed_refs) settings.kind edits

  -- the cause of the objects that are put, of edits whose records are found, and of the locks
  abbrev pub CausesNoPut : Tree → List RefEdit → Error → Type 0
  CausesNoPut tree edits error = IsPeelCause (OfFinder claims packed_refs)
      (ends_of meaning packed_refs) (setting_of settings) (mode_in packed_refs) settings.kind edits
      error

  abbrev pub CausesNoHold : Tree → List RefEdit → Error → Type 0
  CausesNoHold tree edits error = IsHoldCause (OfFinder claims packed_refs)
      (ends_of meaning packed_refs) (setting_of settings) (mode_in packed_refs) settings.kind tree
      edits error

  abbrev pub CausesNoLock : Tree → List RefEdit → Error → Type 0
  CausesNoLock tree edits error = IsLockCause (OfFinder claims packed_refs)
      (ends_of meaning packed_refs) (setting_of settings) (mode_in packed_refs) settings.kind tree
      edits error
