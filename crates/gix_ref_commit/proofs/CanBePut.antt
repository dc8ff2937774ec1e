-- What edits put into `packed-refs` can be read as records: each key is a full name, and the ids are of the kind of the store.
use Rattle.std.proofs.Common.{◌≡◌, ◌≢◌, inl, inr, ℕ, suc, List, [], ◌∷◌, ◌++◌, Bool, true, false, ◌&&◌, Option, Some, None, All, refl, sym, ◌∙◌, ap, subst, codes, nat_eq, arith, if◌then◌else◌}
use Rattle.std.specs.List.{list_any}
use Rattle.std.specs.Cmp.Lexicographic.{pointwise}
use Rattle.gix_ref_hash.specs.Bytes.{BeginsWith, is_slash}
use Rattle.gix_ref_hash.specs.declared.hash.Kind.{Kind}
use Rattle.gix_ref_hash.specs.declared.hash.ObjectId.{ObjectId}
use Rattle.gix_ref_hash.proofs.ByteLemmas.{no_byte}
use Rattle.gix_ref_name.specs.NameGrammar.{IsFullName, IsPartialName}
use Rattle.gix_ref_name.proofs.PartialNames.{IsPath, first_component, name_of_rules, rules_of}
use Rattle.gix_ref_name.specs.Names.{full_bytes}
use Rattle.gix_ref_name.specs.Namespaces.{namespace_bytes}
use Rattle.gix_ref_name.specs.declared.name.FullName.{FullName}
use Rattle.gix_ref_name.specs.declared.namespace.Namespace.{Namespace}
use Rattle.gix_ref_name.proofs.CandidateNames.{full_with_slash}
use Rattle.gix_ref_target.specs.Layout.{RefPaths}
use Rattle.gix_ref_target.specs.Locations.{Location, row_of}
use Rattle.gix_ref_target.specs.Locations.Location.{Common, ThisWorktree, MainWorktree, LinkedWorktree}
use Rattle.gix_ref_target.specs.Targets.{TargetValue, target_value}
use Rattle.gix_ref_target.specs.Targets.TargetValue.{object_id, symbolic_name}
use Rattle.gix_ref_target.proofs.LocationLemmas.{HasSpot, IsBy, has_spot, test_no_slash}
use Rattle.gix_ref_object.specs.Objects.{Stored}
use Rattle.gix_ref_theory.specs.ConcreteStore.{store_of}
use Rattle.gix_ref_theory.specs.Edits as plan
use Rattle.gix_ref_theory.specs.Edits.{Mode, packs}
use Rattle.gix_ref_theory.specs.Readings.{Store}
use Rattle.gix_ref_theory.proofs.PlaceLaws.{known, row_by}
use Rattle.gix_ref_lookup.specs.StoreLayout.{folders_of, git_options, namespace_text}
use Rattle.gix_ref_lookup.specs.declared.folders.Dirs.{Dirs}
use Rattle.gix_ref_packed_text.specs.Laws.{IsIdIfAny}
use Rattle.gix_ref_edits.specs.RefEdits.{name_of, mode_of, new_of, is_of_reference}
use Rattle.gix_ref_edits.specs.declared.transaction.Change.{Change}
use Rattle.gix_ref_edits.specs.declared.transaction.Change.TheVariants as changes
use Rattle.gix_ref_edits.specs.declared.transaction.RefEdit.{RefEdit}
use Rattle.gix_ref_edits.specs.declared.transaction.RefLog.{RefLog}
use Rattle.gix_ref_transaction.specs.CarriedEdits.{change_of}
use Rattle.gix_ref_transaction.specs.Causes.{AllValid, IsOfKind, IsValidEdit, IsWholeTarget}
use Rattle.gix_ref_transaction.specs.Packing.{HaveTheirPuts, packed_object, peeled_in, put_by}
use Rattle.gix_ref_transaction.specs.Peels.{ArePut, EndsAt, IsPeeledOfKind, IsPut}
use Rattle.gix_ref_transaction.specs.PrepareSteps.{puts_in, updates}
use Rattle.gix_ref_transaction.specs.declared.edit.Edit.{Edit}
use Rattle.gix_ref_transaction.specs.declared.edit.PackedObject.{PackedObject}
use Rattle.gix_ref_transaction.proofs.Adds.{any_right}
use Rattle.gix_ref_transaction.proofs.EditsApart.{heads}
use Rattle.gix_ref_packed_transaction.specs.Repacks.{AllCanBePut, CanBePut}
use Rattle.gix_ref_commit.proofs.Alike.{AreSame}

this_differs : (k n : List ℕ) → ThisWorktree k ≢ Common n
this_differs k n e = cc

main_differs : (k n : List ℕ) → MainWorktree k ≢ Common n
main_differs k n e = cc

linked_differs : (w k n : List ℕ) → LinkedWorktree w k ≢ Common n
linked_differs w k n e = cc

common_name : {x y : List ℕ} → Common x ≡ Common y → x ≡ y
common_name e = cc

-- The name of a reference of all worktrees begins with `refs/`, and is what follows the front of another worktree.
common_by : (private : List ℕ → Location) → ((k n : List ℕ) → private k ≢ Common n) → (s n : List ℕ) → IsBy private s (Common n) → (s ≡ n) × BeginsWith s (codes "refs/")
common_by private differ s n (inl h) = absurd (differ s n h.1)
common_by private differ s n (inr (inl h)) = absurd (differ s n h.2)
common_by private differ s n (inr (inr h)) = (common_name h.2, h.0)

named : (s n : List ℕ) → (s ≡ n) × BeginsWith s (codes "refs/") → IsPath s → IsPath n × BeginsWith n (codes "refs/")
named s n (same, begins) path = (subst IsPath same path, subst (λ (z : List ℕ). BeginsWith z (codes "refs/")) same begins)

path_of : (name n : List ℕ) → IsPath name → HasSpot name (Common n) → IsPath n × BeginsWith n (codes "refs/")
path_of name n path (inl h) = named name n (common_by ThisWorktree this_differs name n h) path
path_of name n path (inr (inl (s, e, h))) =
    named s n (common_by MainWorktree main_differs s n h)
    (first_component (codes "main-worktree") s (no_byte 47 (codes "main-worktree") refl) (subst IsPath e path)).1
path_of name n path (inr (inr (w, s, e, none, h))) =
    let inner = first_component (codes "worktrees") (w ++ 47 ∷ s) (no_byte 47 (codes "worktrees") refl) (subst IsPath e path) in
    named s n (common_by (LinkedWorktree w) (linked_differs w) s n h) (first_component w s (test_no_slash w none) inner.1).1

single : (n : List ℕ) → BeginsWith n (codes "refs/") → pointwise nat_eq n (codes "@") ≡ false
single n (rest, e) = ap (λ (z : List ℕ). pointwise nat_eq z (codes "@")) e

slash : (n : List ℕ) → BeginsWith n (codes "refs/") → list_any is_slash n ≡ true
slash n (rest, e) = ap (list_any is_slash) e

-- in a namespace too
keyed : (namespace : Option Namespace) (n : List ℕ) → IsPartialName n → list_any is_slash n ≡ true → IsFullName (namespace_text namespace ++ n)
keyed None n valid has = full_with_slash n valid has
keyed (Some namespace) n valid has =
    full_with_slash (namespace_bytes namespace ++ n) (namespace.keeps n valid) (any_right is_slash (namespace_bytes namespace) n has)

module _ (dirs : Dirs) (namespace : Option Namespace) (kind : Kind) (prohibits : Bool) where
  abbrev pub s : Store
  s = store_of (folders_of dirs namespace) (git_options kind prohibits)

  -- the key of a reference is a full name
  pub key_full : (name k : List ℕ) → s.is_reference name ≡ true → s.key name ≡ Some k → IsFullName k
  key_full name k is key =
      let x = known (folders_of dirs namespace) (git_options kind prohibits) name is in
      by x.spotted.0 (rules_of name x.valid).0 (has_spot name x.spotted.0 x.spotted.1)
      (sym (ap (λ (r : RefPaths). r.key) (row_by (folders_of dirs namespace) (git_options kind prohibits) name x)) ∙ key)
    where
      inner : {x y : List ℕ} → Some x ≡ Some y → x ≡ y
      inner h = cc

      none : {y : List ℕ} → None ≡ Some y → ⊥
      none h = cc

      by : (x : Location) → IsPath name → HasSpot name x → (row_of (folders_of dirs namespace) x).key ≡ Some k → IsFullName k
      by (Common n) path spot at =
          let c = path_of name n path spot in
          subst IsFullName (inner at) (keyed namespace n (name_of_rules n c.0 (single n c.1)) (slash n c.1))
      by (ThisWorktree n) path spot at = absurd (none at)
      by (MainWorktree n) path spot at = absurd (none at)
      by (LinkedWorktree w n) path spot at = absurd (none at)

  -- what is put is the new object
  object_is : (t : TargetValue) (peeled : Option ObjectId) (object : PackedObject) → packed_object t peeled ≡ Some object → t ≡ object_id object.target
  object_is (object_id id) peeled object h = ap (λ (o : PackedObject). object_id o.target) (inner h)
    where
      inner : {x y : PackedObject} → Some x ≡ Some y → x ≡ y
      inner e = cc
  object_is (symbolic_name name) peeled object h = cc

  put_is_new : (mode : Mode) (key : Option (List ℕ)) (change : Change) (peeled : Option ObjectId) (object : PackedObject) → put_by mode key change peeled ≡ Some object → new_of change ≡ Some (object_id object.target)
  put_is_new mode key (changes.Delete expected log) peeled object h = cc
  put_is_new mode key (changes.Update log expected new) peeled object h = ap Some (by (is_of_reference log.mode && packs mode key (target_value new)) h)
    where
      by : (b : Bool) → (if b then packed_object (target_value new) peeled else None) ≡ Some object → target_value new ≡ object_id object.target
      by true is = object_is (target_value new) peeled object is
      by false is = cc

  of_kind : (peeled : Option ObjectId) → IsPeeledOfKind kind peeled → IsIdIfAny kind peeled
  of_kind None is = tt
  of_kind (Some id) is = is

  module _ (mode : Mode) (claims : Type 0) (meaning : ObjectId → Stored) where
    can_put : (e : Edit) → s.is_reference (name_of e.update) ≡ true → IsValidEdit s kind e.update → IsPut claims meaning s mode kind e.update e.put → (object : PackedObject) → e.put ≡ Some object → CanBePut s kind e object
    can_put e is valid put object some =
        let new = put_is_new mode (s.key (name_of e.update)) e.update.change (peeled_in e.put) object (sym put.put_is ∙ some) in record {
          key = λ k key. key_full (name_of e.update) k is key;
          target = (subst (IsOfKind kind) new valid.kinds.0, subst IsWholeTarget new valid.whole);
          peeled = of_kind object.peeled (subst (λ (o : Option PackedObject). IsPeeledOfKind kind (peeled_in o)) some put.kind_is);
        }

    pub all_can_be_put : (seen : List RefEdit) (edits : List Edit) → All (λ (e : RefEdit). s.is_reference (name_of e) ≡ true) (updates edits) → AllValid s kind seen (updates edits) → ArePut claims meaning s mode kind edits → AllCanBePut s kind edits
    all_can_be_put seen [] are valid puts = tt
    all_can_be_put seen (e ∷ edits) are valid puts = (
      can_put e (are 0 e.update (omega arith)) valid.0 puts.0,
      all_can_be_put (seen ++ e.update ∷ []) edits (λ k d lt. are (suc k) d (omega (arith, lt))) valid.1 puts.1,
    )

    pub have_their_puts : (edits : List Edit) → ArePut claims meaning s mode kind edits → HaveTheirPuts s mode edits
    have_their_puts [] puts = tt
    have_their_puts (e ∷ edits) puts = (puts.0.put_is, have_their_puts edits puts.1)

-- Edits that carry what was found of them put the same.
put_same : (mode : Mode) (key : Option (List ℕ)) (c d : Change) (peeled : Option ObjectId) → change_of c ≡ change_of d → mode_of c ≡ mode_of d → put_by mode key c peeled ≡ put_by mode key d peeled
put_same mode key (changes.Delete e l) (changes.Delete e' l') peeled same logs = refl
put_same mode key (changes.Delete e l) (changes.Update l' e' new) peeled same logs = cc
put_same mode key (changes.Update l e new) (changes.Delete e' l') peeled same logs = cc
put_same mode key (changes.Update l e new) (changes.Update l' e' new') peeled same logs =
    ap (λ (t : TargetValue). if is_of_reference l.mode && packs mode key t then packed_object t peeled else None) (inner same)
    ∙ ap (λ (m : RefLog). if is_of_reference m && packs mode key (target_value new') then packed_object (target_value new') peeled else None) logs
  where
    inner : {x y : TargetValue} → plan.Change.Update x ≡ plan.Change.Update y → x ≡ y
    inner is = cc

module _ (s : Store) (mode : Mode) (kind : Kind) where
  pub carried_puts : (claims : Type 0) (meaning : ObjectId → Stored) (before after : List Edit) → AreSame (updates before) (updates after) → puts_in after ≡ puts_in before → ArePut claims meaning s mode kind before → ArePut claims meaning s mode kind after
  carried_puts claims meaning [] [] same puts put = tt
  carried_puts claims meaning [] (f ∷ after) same puts put = absurd same
  carried_puts claims meaning (e ∷ before) [] same puts put = absurd same
  carried_puts claims meaning (e ∷ before) (f ∷ after) ((found, is), rest) puts put =
      let h = heads puts in (
        record {
          put_is =
              h.0
              ∙ (put.0.put_is
              ∙ (ap (λ (o : Option PackedObject). put_by mode (s.key (name_of e.update)) e.update.change (peeled_in o)) (sym h.0)
              ∙ (sym (put_same mode (s.key (name_of e.update)) f.update.change e.update.change (peeled_in f.put) is.change is.mode)
              ∙ ap (λ (n : FullName). put_by mode (s.key (full_bytes n)) f.update.change (peeled_in f.put)) (sym is.name))));
          kind_is = subst (λ (o : Option PackedObject). IsPeeledOfKind kind (peeled_in o)) (sym h.0) put.0.kind_is;
          ends = λ claimed. subst (EndsAt meaning) (sym h.0) (put.0.ends claimed);
        },
        carried_puts claims meaning before after rest h.1 put.1,
      )

  pub carried_can : (before after : List Edit) → AreSame (updates before) (updates after) → puts_in after ≡ puts_in before → AllCanBePut s kind before → AllCanBePut s kind after
  carried_can [] [] same puts can = tt
  carried_can [] (f ∷ after) same puts can = absurd same
  carried_can (e ∷ before) [] same puts can = absurd same
  carried_can (e ∷ before) (f ∷ after) ((found, is), rest) puts can =
      let h = heads puts in (
        λ object some.
            let c = can.0 object (sym h.0 ∙ some) in record {
              key = subst (λ (n : FullName). (k : List ℕ) → s.key (full_bytes n) ≡ Some k → IsFullName k) (sym is.name) c.key;
              target = c.target;
              peeled = c.peeled;
            },
        carried_can before after rest h.1 can.1,
      )
