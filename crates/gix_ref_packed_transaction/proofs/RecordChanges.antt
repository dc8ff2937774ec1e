-- The changes of records that edits make, one edit more at a time.
use Rattle.std.proofs.Common.{◌≡◌, ◌⊎◌, inl, inr, ◌<◌, ◌+◌, ℕ, List, [], ◌∷◌, ◌++◌, Bool, true, false, Option, Some, None, if◌then◌else◌, length, take, get_or, refl, sym, ap, ◌∙◌, subst, option_to_list}
use Rattle.std.specs.List.{All}
use Rattle.std.proofs.lemmas.List.{append-nil, append_assoc}
use Rattle.std.proofs.lemmas.List.Elements.{All-append, All-cons, All-head, All-nil, All-tail}
use Rattle.gix_ref_hash.specs.Ids.{id_kind}
use Rattle.gix_ref_hash.specs.declared.hash.Kind.{Kind}
use Rattle.gix_ref_hash.specs.declared.hash.ObjectId.{ObjectId}
use Rattle.gix_ref_name.specs.NameGrammar.{IsFullName}
use Rattle.gix_ref_object.specs.Objects.{Stored}
use Rattle.gix_ref_theory.specs.Edits.{is_same_id}
use Rattle.gix_ref_edits.specs.RefEdits.{name_of}
use Rattle.gix_ref_edits.specs.declared.transaction.RefEdit.{RefEdit}
use Rattle.gix_ref_packed_text.specs.Laws.{IsIdOf}
use Rattle.gix_ref_packed_text.specs.Rewrites.{IsReadableIfAny}
use Rattle.gix_ref_packed_text.proofs.OutcomeLemmas.{new_readable}
use Rattle.gix_ref_packed_transaction.specs.Changes.{AreReadable, ChangeValue, record_left}
use Rattle.gix_ref_transaction.specs.Causes.{deletes_reference}
use Rattle.gix_ref_transaction.specs.Peels.{CanPeel, HasEnd, IfObject, IsPeeledOfKind}
use Rattle.gix_ref_transaction.proofs.Firsts.{seen_of}
use Rattle.gix_ref_packed_transaction.specs.RecordChanges.{AreChangesOf, CanBeTaken, IsChangeOf, change_of_name, object_put}

module _ (claims : Type 0) (meaning : ObjectId → Stored) (kind : Kind) where
  -- the change of one edit after those of others
  changes_and : (edits : List RefEdit) (e : RefEdit) (changes : List ChangeValue) (change : Option ChangeValue) → AreChangesOf claims meaning kind edits changes → IsChangeOf claims meaning kind e change →
      AreChangesOf claims meaning kind (edits ++ e ∷ []) (changes ++ option_to_list change)
  changes_and [] e changes change are is =
      (change, [], is, ap (λ l. l ++ option_to_list change) are ∙ sym (append-nil (option_to_list change)), refl)
  changes_and (x ∷ edits) e changes change (first, rest, is_first, whole, are) is = (
    first,
    rest ++ option_to_list change,
    is_first,
    ap (λ l. l ++ option_to_list change) whole ∙ append_assoc (option_to_list first) rest (option_to_list change),
    changes_and edits e rest change are is,
  )

  pub changes_more : (edits : List RefEdit) (i : ℕ) (e : RefEdit) → i < length edits → e ≡ get_or edits i e → (changes more : List ChangeValue) (change : Option ChangeValue) →
      AreChangesOf claims meaning kind (take i edits) changes → IsChangeOf claims meaning kind e change → more ≡ changes ++ option_to_list change → AreChangesOf claims meaning kind (take (i + 1) edits) more
  changes_more edits i e lt is changes more change before here after =
      subst (λ l. AreChangesOf claims meaning kind l more) (sym (seen_of edits i e lt is))
      (subst (λ l. AreChangesOf claims meaning kind (take i edits ++ e ∷ []) l) (sym after) (changes_and (take i edits) e changes change before here))

  -- what is put can be read, where each name is a full one
  change_readable : (e : RefEdit) (change : Option ChangeValue) → IsFullName (name_of e) → IsChangeOf claims meaning kind e change → All (λ (c : ChangeValue). IsReadableIfAny kind (record_left c)) (option_to_list change)
  change_readable e change full is =
      subst (λ o. All (λ (c : ChangeValue). IsReadableIfAny kind (record_left c)) (option_to_list o)) (sym is.is) (by (object_put e.change) is.kind_is)
    where
      Readable : ChangeValue → Type 0
      Readable c = IsReadableIfAny kind (record_left c)

      one : (c : ChangeValue) → IsReadableIfAny kind (record_left c) → All (λ (c : ChangeValue). IsReadableIfAny kind (record_left c)) (c ∷ [])
      one c holds = All-cons Readable c [] holds (All-nil Readable)

      deleted : (b : Bool) → All (λ (c : ChangeValue). IsReadableIfAny kind (record_left c)) (option_to_list (if b then Some (name_of e, None) else None))
      deleted true = one (name_of e, None) tt
      deleted false = All-nil Readable

      by : (o : Option ObjectId) → IfObject o (IsIdOf kind) → All (λ (c : ChangeValue). IsReadableIfAny kind (record_left c)) (option_to_list (change_of_name (name_of e) o is.peeled e.change))
      by None none = deleted (deletes_reference e.change)
      by (Some id) of_kind = one (name_of e, Some (record { target = id; peeled = is.peeled })) (new_readable kind (name_of e) (record { target = id; peeled = is.peeled }) full of_kind is.peeled_kind)

-- an edit whose change is made can be taken
module _ (meaning : ObjectId → Stored) (kind : Kind) where
  pub can_be_taken : (claims : Type 0) (e : RefEdit) (change : Option ChangeValue) → IsChangeOf claims meaning kind e change → claims → CanBeTaken kind meaning e
  can_be_taken claims e change is hold = by (object_put e.change) is.kind_is (is.end hold)
    where
      same_id : (end id : ObjectId) (peeled : Option ObjectId) → IsPeeledOfKind kind peeled → (b : Bool) → is_same_id end id ≡ b → peeled ≡ (if b then None else Some end) → (is_same_id end id ≡ true) ⊎ (id_kind end ≡ kind)
      same_id end id peeled kind_is true same at = inl same
      same_id end id peeled kind_is false same at = inr (subst (IsPeeledOfKind kind) at kind_is).0

      by : (o : Option ObjectId) → IfObject o (IsIdOf kind) → IfObject o (λ id. HasEnd meaning id is.peeled) → IfObject o (λ id. (id_kind id ≡ kind) × CanPeel kind meaning id)
      by None of_kind end = tt
      by (Some id) of_kind at = (of_kind.0, (at.0, at.1, same_id at.0 id is.peeled is.peeled_kind (is_same_id at.0 id) refl at.2))

-- what edits put can be read, where each name is a full one
module _ (claims : Type 0) (meaning : ObjectId → Stored) (kind : Kind) where
  pub changes_readable : (edits : List RefEdit) (changes : List ChangeValue) → All (λ (e : RefEdit). IsFullName (name_of e)) edits → AreChangesOf claims meaning kind edits changes → AreReadable kind changes
  changes_readable [] changes full are = subst (AreReadable kind) (sym are) (All-nil (λ (c : ChangeValue). IsReadableIfAny kind (record_left c)))
  changes_readable (e ∷ edits) changes full (change, rest, is, whole, are) =
      subst (AreReadable kind) (sym whole)
      (All-append (λ (c : ChangeValue). IsReadableIfAny kind (record_left c)) (option_to_list change) rest (change_readable claims meaning kind e change (All-head (λ (x : RefEdit). IsFullName (name_of x)) e edits full) is) (changes_readable edits rest (All-tail (λ (x : RefEdit). IsFullName (name_of x)) e edits full) are))
