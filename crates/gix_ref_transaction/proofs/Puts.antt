-- What edits put into `packed-refs`.
use Rattle.std.specs.Prelude.{IfSome}
use Rattle.gix_ref_files.specs.declared.files.FileError.{FileError}
use Rattle.std.proofs.Common.{◌≡◌, ◌⊎◌, inl, inr, ⊎_elim, Result, Ok, Err, IfErr, ◌<◌, ℕ, List, [], ◌∷◌, ◌++◌, Bool, true, false, ◌&&◌, Option, Some, None, if◌then◌else◌, length, get_or, refl, sym, ap, ◌∙◌, subst, is_some}
use Rattle.std.proofs.lemmas.Bool.{false≢true, cond-true, cond-false}
use Rattle.std.proofs.lemmas.List.{get_or-map}
use Rattle.gix_ref_hash.specs.Ids.{id_kind}
use Rattle.gix_ref_hash.specs.declared.hash.Kind.{Kind}
use Rattle.gix_ref_hash.specs.declared.hash.ObjectId.{ObjectId}
use Rattle.gix_ref_target.specs.Targets.{TargetValue, target_value}
use Rattle.gix_ref_target.specs.Targets.TargetValue.{object_id, symbolic_name}
use Rattle.gix_ref_object.specs.Objects.{Stored}
use Rattle.gix_ref_object.specs.Peeling.{peel}
use Rattle.gix_ref_theory.specs.Edits.{Mode, is_object, is_same_id, packs, packs_updates}
use Rattle.gix_ref_theory.specs.Edits.Mode.{DeletionsOnly, Packing, PackingAndRemoving}
use Rattle.gix_ref_theory.specs.Readings.{Store}
use Rattle.gix_ref_edits.specs.RefEdits.{name_of, new_of, mode_of, is_of_reference}
use Rattle.gix_ref_edits.specs.declared.transaction.Change.{Change}
use Rattle.gix_ref_edits.specs.declared.transaction.Change.TheVariants.{Update, Delete}
use Rattle.gix_ref_edits.specs.declared.transaction.RefEdit.{RefEdit}
use Rattle.gix_ref_transaction.specs.Causes.{is_new_object, packs_edit, updates_object}
use Rattle.gix_ref_transaction.specs.Packing.{HaveTheirPuts, OfFinder, ends_of, finder_in, mode_in, new_object, packed_object, peeled_in, put_by, stored_by}
use Rattle.gix_ref_transaction.specs.Peels.{ArePut, CanPeel, CanPeelAll, CanPeelEdit, EndsAt, HasEnd, IfObject, IsFirstUnpeeled, IsObjectAnd, IsPeelCause, IsPeelError, IsPeeledOfKind, IsPut, IsReportedUnpeeled, IsUnpeeledEdit}
use Rattle.gix_ref_transaction.specs.PrepareSteps.{Given, all_asked, all_given, updates}
use Rattle.gix_ref_transaction.specs.declared.edit.Edit.{Edit}
use Rattle.gix_ref_transaction.specs.declared.edit.PackedObject.{PackedObject}
use Rattle.gix_ref_transaction.specs.declared.packing.PackedRefs.{PackedRefs}
use Rattle.gix_ref_transaction.specs.declared.prepare.error.Error.{Error}
use Rattle.gix_ref_transaction.specs.declared.prepare.error.Error.TheVariants.{UnsafeName, DeviceName, DeleteMustNotExist, TargetNotFull, OtherHashKind, PreprocessingFailed, PackedTransactionAcquire, Packed, PackedFind, PackedTransactionPrepare, PathCollision, LockAcquire, DeleteReferenceMustExist, MustExist, MustNotExist, ReferenceOutOfDate, ReferenceDecode, Io, Memory}
use Rattle.gix_ref_transaction.specs.HeldLocks.{IsHeldBack}
use Rattle.gix_ref_files.specs.Files.{Meaning, FaultCounts}
use Rattle.gix_ref_transaction.specs.declared.packing.PackedRefs.TheVariants as modes
use Rattle.gix_ref_transaction.proofs.PackedLemmas.{updates_alike}

-- the test of an edit says what the plan of a commit does
put_cases : (mode : Mode) (refers : Bool) (key : Option (List ℕ)) (t : TargetValue) (peeled : Option ObjectId) →
    (if refers && packs mode key t then packed_object t peeled else None) ≡ (if (packs_updates mode && is_object t) && (refers && is_some key) then packed_object t peeled else None)
put_cases DeletionsOnly true key t peeled = refl
put_cases DeletionsOnly false key t peeled = refl
put_cases Packing false key (object_id id) peeled = refl
put_cases Packing false key (symbolic_name name) peeled = refl
put_cases Packing true None (object_id id) peeled = refl
put_cases Packing true None (symbolic_name name) peeled = refl
put_cases Packing true (Some k) (object_id id) peeled = refl
put_cases Packing true (Some k) (symbolic_name name) peeled = refl
put_cases PackingAndRemoving false key (object_id id) peeled = refl
put_cases PackingAndRemoving false key (symbolic_name name) peeled = refl
put_cases PackingAndRemoving true None (object_id id) peeled = refl
put_cases PackingAndRemoving true None (symbolic_name name) peeled = refl
put_cases PackingAndRemoving true (Some k) (object_id id) peeled = refl
put_cases PackingAndRemoving true (Some k) (symbolic_name name) peeled = refl

deletes_none : (mode : Mode) (b : Bool) → ((packs_updates mode && false) && b) ≡ false
deletes_none DeletionsOnly b = refl
deletes_none Packing b = refl
deletes_none PackingAndRemoving b = refl

module _ (s : Store) (mode : Mode) (edit : RefEdit) where
  abbrev key : Option (List ℕ)
  key = s.key (name_of edit)

  pub put_none : packs_edit s mode edit ≡ false → None ≡ put_by mode key edit.change None
  put_none none = by edit.change none
    where
      by : (c : Change) → ((packs_updates mode && updates_object c) && (is_of_reference (mode_of c) && is_some key)) ≡ false → None ≡ put_by mode key c None
      by (Delete expected log) none' = refl
      by (Update log expected new) none' =
          sym (put_cases mode (is_of_reference log.mode) key (target_value new) None ∙ cond-false ((packs_updates mode && is_object (target_value new)) && (is_of_reference log.mode && is_some key)) (packed_object (target_value new) None) None none')

  pub put_some : (id : ObjectId) (peeled : Option ObjectId) → packs_edit s mode edit ≡ true → new_object (new_of edit.change) ≡ Some id → Some (record { target = id; peeled = peeled }) ≡ put_by mode key edit.change peeled
  put_some id peeled packed object = by edit.change packed object
    where
      by_target : (t : TargetValue) → new_object (Some t) ≡ Some id → Some (record { target = id; peeled = peeled }) ≡ packed_object t peeled
      by_target (object_id other) is = let same : other ≡ id = cc in ap (λ (x : ObjectId). Some (record { target = x; peeled = peeled })) (sym same)
      by_target (symbolic_name name) is = cc

      by : (c : Change) → ((packs_updates mode && updates_object c) && (is_of_reference (mode_of c) && is_some key)) ≡ true → new_object (new_of c) ≡ Some id → Some (record { target = id; peeled = peeled }) ≡ put_by mode key c peeled
      by (Delete expected log) packed' object' = cc
      by (Update log expected new) packed' object' =
          by_target (target_value new) object'
          ∙ sym (put_cases mode (is_of_reference log.mode) key (target_value new) peeled ∙ cond-true ((packs_updates mode && is_object (target_value new)) && (is_of_reference log.mode && is_some key)) (packed_object (target_value new) peeled) None packed')

  pub no_object : packs_edit s mode edit ≡ true → new_object (new_of edit.change) ≡ None → ⊥
  no_object packed none = by (new_of edit.change) packed none
    where
      by : (o : Option TargetValue) → ((packs_updates mode && is_new_object o) && (is_of_reference (mode_of edit.change) && is_some key)) ≡ true → new_object o ≡ None → ⊥
      by None packed' none' = false≢true (sym (deletes_none mode (is_of_reference (mode_of edit.change) && is_some key)) ∙ packed')
      by (Some (object_id id)) packed' none' = cc
      by (Some (symbolic_name name)) packed' none' = false≢true (sym (deletes_none mode (is_of_reference (mode_of edit.change) && is_some key)) ∙ packed')

-- a mode that puts updates has a finder
pub no_finder : {T : Type 0} (s : Store) (packed_refs : PackedRefs T) (edit : RefEdit) → packs_edit s (mode_in packed_refs) edit ≡ true → finder_in packed_refs ≡ None → ⊥
no_finder s modes.DeletionsOnly edit packed none = false≢true packed
no_finder s (modes.DeletionsAndNonSymbolicUpdates finder) edit packed none = cc
no_finder s (modes.DeletionsAndNonSymbolicUpdatesRemoveLooseSourceReference finder) edit packed none = cc

-- ---- one edit more

pub puts_more : (claims : Type 0) (meaning : ObjectId → Stored) (s : Store) (mode : Mode) (kind : Kind) (edits : List Edit) (e : Edit) → ArePut claims meaning s mode kind edits → IsPut claims meaning s mode kind e.update e.put → ArePut claims meaning s mode kind (edits ++ e ∷ [])
puts_more claims meaning s mode kind [] e are is = (is, tt)
puts_more claims meaning s mode kind (x ∷ edits) e are is = (are.0, puts_more claims meaning s mode kind edits e are.1 is)

-- the update of an edit, in the list that was given
pub update_at : (old edits : List Edit) → all_asked edits ≡ all_asked old → (i : ℕ) (e : Edit) → i < length edits → e ≡ get_or edits i e → e.update ≡ get_or (updates old) i e.update
update_at old edits same i e lt is =
    ap (λ (x : Edit). x.update) is
    ∙ (sym (get_or-map (λ (x : Edit). x.update) edits i e e.update lt)
    ∙ ap (λ (l : List RefEdit). get_or l i e.update) (updates_alike old edits same))

-- why an object cannot be peeled, by what its finder has
pub unpeeled_edit : {T : Type 0} (meaning : T → ObjectId → Stored) (claims : T → Type 0) (p : PackedRefs T) (s : Store) (kind : Kind) (edit : RefEdit) (finder : T) (target : ObjectId) (error : Error) →
    finder_in p ≡ Some finder → packs_edit s (mode_in p) edit ≡ true → new_object (new_of edit.change) ≡ Some target →
    (claims finder → IsReportedUnpeeled kind target (peel (meaning finder) 1000 target) error) → OfFinder claims p → IsUnpeeledEdit s (mode_in p) kind (ends_of meaning p) edit error
unpeeled_edit meaning claims p s kind edit finder target error found packed object why of = (
  packed,
  subst (λ (o : Option ObjectId). IsObjectAnd o (λ id. IsReportedUnpeeled kind id (peel (ends_of meaning p) 1000 id) error)) (sym object)
      (subst (λ o. IsReportedUnpeeled kind target (peel (stored_by meaning o) 1000 target) error) (sym found) (why (subst (λ o. IfSome o claims) found of))),
)

-- an edit whose object is put can be peeled
pub can_peel : (s : Store) (mode : Mode) (kind : Kind) (meaning : ObjectId → Stored) (edit : RefEdit) (put : Option PackedObject) → put ≡ put_by mode (s.key (name_of edit)) edit.change (peeled_in put) →
    IsPeeledOfKind kind (peeled_in put) → EndsAt meaning put → CanPeelEdit s mode kind meaning edit
can_peel s mode kind meaning edit put is of_kind ends packed = by (new_object (new_of edit.change)) refl
  where
    same_id : (end id : ObjectId) (peeled : Option ObjectId) → IsPeeledOfKind kind peeled → (b : Bool) → is_same_id end id ≡ b → peeled ≡ (if b then None else Some end) → (is_same_id end id ≡ true) ⊎ (id_kind end ≡ kind)
    same_id end id peeled kind_is true same at = inl same
    same_id end id peeled kind_is false same at = inr (subst (IsPeeledOfKind kind) at kind_is).0

    by : (o : Option ObjectId) → new_object (new_of edit.change) ≡ o → IfObject o (CanPeel kind meaning)
    by None none = tt
    by (Some id) object =
        let whole : put ≡ Some (record { target = id; peeled = peeled_in put }) = is ∙ sym (put_some s mode edit id (peeled_in put) packed object) in
        let at : HasEnd meaning id (peeled_in put) = subst (EndsAt meaning) whole ends in
        (at.0, at.1, same_id at.0 id (peeled_in put) of_kind (is_same_id at.0 id) refl at.2)

-- all edits whose objects are put can be peeled
pub all_peel : (claims : Type 0) (meaning : ObjectId → Stored) (s : Store) (mode : Mode) (kind : Kind) (seen : List RefEdit) (edits : List Edit) → ArePut claims meaning s mode kind edits → claims → CanPeelAll s mode kind meaning seen (updates edits)
all_peel claims meaning s mode kind seen [] are hold = tt
all_peel claims meaning s mode kind seen (e ∷ edits) are hold =
    (can_peel s mode kind meaning e.update e.put are.0.put_is are.0.kind_is (are.0.ends hold), all_peel claims meaning s mode kind (seen ++ e.update ∷ []) edits are.1 hold)

-- edits that were given the same put the same
abbrev GivenPut : (claims : Type 0) (meaning : ObjectId → Stored) (s : Store) (mode : Mode) (kind : Kind) → List Given → Type 0
GivenPut claims meaning s mode kind [] = Unit {0}
GivenPut claims meaning s mode kind (g ∷ given) = IsPut claims meaning s mode kind g.0 g.4 × GivenPut claims meaning s mode kind given

to_given : (claims : Type 0) (meaning : ObjectId → Stored) (s : Store) (mode : Mode) (kind : Kind) (edits : List Edit) → ArePut claims meaning s mode kind edits → GivenPut claims meaning s mode kind (all_given edits)
to_given claims meaning s mode kind [] are = tt
to_given claims meaning s mode kind (e ∷ edits) are = (are.0, to_given claims meaning s mode kind edits are.1)

of_given : (claims : Type 0) (meaning : ObjectId → Stored) (s : Store) (mode : Mode) (kind : Kind) (edits : List Edit) → GivenPut claims meaning s mode kind (all_given edits) → ArePut claims meaning s mode kind edits
of_given claims meaning s mode kind [] are = tt
of_given claims meaning s mode kind (e ∷ edits) are = (are.0, of_given claims meaning s mode kind edits are.1)

pub puts_alike : (claims : Type 0) (meaning : ObjectId → Stored) (s : Store) (mode : Mode) (kind : Kind) (a b : List Edit) → all_given a ≡ all_given b → ArePut claims meaning s mode kind b → ArePut claims meaning s mode kind a
puts_alike claims meaning s mode kind a b same are = of_given claims meaning s mode kind a (subst (GivenPut claims meaning s mode kind) (sym same) (to_given claims meaning s mode kind b are))

-- edits that put what is decided have their puts
pub have_puts : (claims : Type 0) (meaning : ObjectId → Stored) (s : Store) (mode : Mode) (kind : Kind) (edits : List Edit) → ArePut claims meaning s mode kind edits → HaveTheirPuts s mode edits
have_puts claims meaning s mode kind [] are = tt
have_puts claims meaning s mode kind (e ∷ edits) are = (are.0.put_is, have_puts claims meaning s mode kind edits are.1)

-- why edits are held back, where an object cannot be peeled
module _ {F : Type 0} (honest : Type 0) (read : FileError → Type 0) (claims : Type 0) (means : F → Meaning) (faults : F → FaultCounts) (meaning : ObjectId → Stored) (s : Store) (mode : Mode) (kind : Kind) (edits : List RefEdit) (before now : F) where
  abbrev Held : Error → Type 0
  Held = IsHeldBack honest means faults read s kind edits (IsPeelCause claims meaning s mode kind edits) before now

  pub held_back : {X : Type 0} (r : Result X Error) → IfErr r IsPeelError → (claims → IfErr r (λ error. (error ≡ Memory) ⊎ IsFirstUnpeeled s mode kind meaning [] edits error)) → IfErr r Held
  held_back (Ok x) is first = tt
  held_back (Err (PackedTransactionPrepare error)) is first = record {
    cause = λ h good. inr (tt, λ hold. ⊎_elim (λ memory. not_memory memory) (λ why. why) (first hold));
    opened = λ h. tt;
    unread = λ h. tt;
    counted = tt;
  }
    where
      not_memory : {Q : Type 0} → PackedTransactionPrepare error ≡ Memory → Q
      not_memory e = cc
  held_back (Err Memory) is first = record { cause = λ h good. inl tt; opened = λ h. tt; unread = λ h. tt; counted = tt }
  held_back (Err UnsafeName) is first = absurd is
  held_back (Err DeviceName) is first = absurd is
  held_back (Err DeleteMustNotExist) is first = absurd is
  held_back (Err TargetNotFull) is first = absurd is
  held_back (Err OtherHashKind) is first = record {
    cause = λ h good. inr (tt, λ hold. ⊎_elim (λ memory. not_memory memory) (λ why. why) (first hold));
    opened = λ h. tt;
    unread = λ h. tt;
    counted = tt;
  }
    where
      not_memory : {Q : Type 0} → OtherHashKind ≡ Memory → Q
      not_memory e = cc
  held_back (Err (PreprocessingFailed source)) is first = absurd is
  held_back (Err PackedTransactionAcquire) is first = absurd is
  held_back (Err (Packed error)) is first = absurd is
  held_back (Err (PackedFind error)) is first = absurd is
  held_back (Err (PathCollision name)) is first = absurd is
  held_back (Err (LockAcquire name)) is first = absurd is
  held_back (Err (DeleteReferenceMustExist name)) is first = absurd is
  held_back (Err (MustExist name expected)) is first = absurd is
  held_back (Err (MustNotExist name actual new)) is first = absurd is
  held_back (Err (ReferenceOutOfDate name expected actual)) is first = absurd is
  held_back (Err (ReferenceDecode source)) is first = absurd is
  held_back (Err (Io error)) is first = absurd is
