-- The changes of records that the edits of a transaction of `packed-refs` make.
use Rattle.std.specs.Prelude.{◌≡◌, ◌≢◌, ◌⊎◌, ℕ, List, [], ◌∷◌, ◌++◌, Option, Some, None, if◌then◌else◌, option_to_list}
use Rattle.std.specs.Cmp.Lexicographic.{slice_cmp}
use Rattle.std.specs.List.Sorted.{IsPermutation, IsSorted}
use Rattle.std.specs.Ordering.{nat_cmp}
use Rattle.gix_ref_hash.specs.Ids.{id_kind}
use Rattle.gix_ref_hash.specs.declared.hash.Kind.{Kind}
use Rattle.gix_ref_hash.specs.declared.hash.ObjectId.{ObjectId}
use Rattle.gix_ref_target.specs.Targets.{target_value}
use Rattle.gix_ref_object.specs.Objects.{Stored}
use Rattle.gix_ref_object.specs.Peeling.{peel}
use Rattle.gix_ref_edits.specs.RefEdits.{name_of, is_of_reference}
use Rattle.gix_ref_edits.specs.declared.transaction.Change.{Change}
use Rattle.gix_ref_edits.specs.declared.transaction.Change.TheVariants.{Update, Delete}
use Rattle.gix_ref_edits.specs.declared.transaction.RefEdit.{RefEdit}
use Rattle.gix_ref_packed_text.specs.Laws.{IsIdOf}
use Rattle.gix_ref_packed_transaction.specs.Changes.{ChangeValue, keys_in}
use Rattle.gix_ref_transaction.specs.Causes.{deletes_reference}
use Rattle.gix_ref_transaction.specs.First.{FirstFault}
use Rattle.gix_ref_transaction.specs.Packing.{new_object}
use Rattle.gix_ref_transaction.specs.Peels.{CanPeel, HasEnd, IfObject, IsObjectAnd, IsPeeledOfKind, IsUnpeeled}
use Rattle.gix_ref_transaction.specs.declared.prepare.packed.Error.{Error}
use Rattle.gix_ref_transaction.specs.declared.prepare.packed.Error.TheVariants.{OtherHashKind}

-- the object that a change puts: that of an update of the reference, and not of its log alone
abbrev pub object_put : Change → Option ObjectId
object_put (Delete expected log) = None
object_put (Update log expected new) =
    if is_of_reference log.mode then new_object (Some (target_value new)) else None

-- what becomes of the record of a name, by the object that is put and the one at the end of its tags, or by whether it is deleted
abbrev pub change_of_name :
    List ℕ → Option ObjectId → (peeled : Option ObjectId) → Change → Option ChangeValue
change_of_name name (Some id) peeled change =
    Some (name, Some (record { target = id; peeled = peeled }))
change_of_name name None peeled change =
    if deletes_reference change then Some (name, None) else None

-- The change of the record of an edit's name, if it changes that: an update puts its object, which has the one at the end of its
-- tags, and a deletion removes the record.
pub record IsChangeOf (claims : Type 0) (meaning : ObjectId → Stored) (kind : Kind)
    (edit : RefEdit) (change : Option ChangeValue) : Type 0 where
  pub peeled : Option ObjectId
  pub is : change ≡ change_of_name (name_of edit) (object_put edit.change) peeled edit.change
  pub kind_is : IfObject (object_put edit.change) (IsIdOf kind)
  pub peeled_kind : IsPeeledOfKind kind peeled
  pub end : claims → IfObject (object_put edit.change) (λ id. HasEnd meaning id peeled)

module _ (claims : Type 0) (meaning : ObjectId → Stored) (kind : Kind) where
  -- the changes of records that edits make, in the order of the edits
  abbrev pub AreChangesOf : List RefEdit → List ChangeValue → Type 0
  AreChangesOf [] changes = changes ≡ []
  AreChangesOf (edit ∷ edits) changes = (change : Option ChangeValue) × (rest : List ChangeValue)
      × IsChangeOf claims meaning kind edit change
      × (changes ≡ option_to_list change ++ rest) × AreChangesOf edits rest

  -- the same changes in the order of their names
  abbrev pub AreSortedChangesOf : List RefEdit → List ChangeValue → Type 0
  AreSortedChangesOf edits changes = ((made : List ChangeValue) × AreChangesOf edits made
      × IsPermutation made changes) × IsSorted (slice_cmp nat_cmp) (keys_in changes)

-- an edit passes: the object that it puts is of the kind and can be peeled
abbrev pub CanBeTaken : Kind → (ObjectId → Stored) → RefEdit → Type 0
CanBeTaken kind meaning edit = IfObject (object_put edit.change)
    (λ id. (id_kind id ≡ kind) × CanPeel kind meaning id)

-- why an object cannot be put: it is of another kind, or cannot be peeled
abbrev pub IsNoPut : Kind → (ObjectId → Stored) → ObjectId → Error → Type 0
IsNoPut kind meaning id error = ((id_kind id ≢ kind) × (error ≡ OtherHashKind))
    ⊎ ((id_kind id ≡ kind) × IsUnpeeled kind id (peel meaning 1000 id) error)

-- an edit is at fault: it puts such an object
abbrev pub IsNotTaken : Kind → (ObjectId → Stored) → RefEdit → Error → Type 0
IsNotTaken kind meaning edit error = IsObjectAnd (object_put edit.change)
    (λ id. IsNoPut kind meaning id error)

-- the fault of the first edit that is
abbrev pub IsFirstNotTaken :
    Kind → (ObjectId → Stored) → List RefEdit → List RefEdit → Error → Type 0
IsFirstNotTaken kind meaning seen edits error = FirstFault (λ _ edit. CanBeTaken kind meaning edit)
    (λ _ edit error. IsNotTaken kind meaning edit error) seen edits error
