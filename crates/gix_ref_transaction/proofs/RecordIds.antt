-- The ids that searches find of the records of edits.
use Rattle.std.proofs.Common.{◌≡◌, inl, inr, Bool, ℕ, ◌+◌, ◌<◌, List, [], ◌∷◌, ◌++◌, Option, Some, None, Result, Ok, Err, IfOk, OnOk, is_some, map, length, take, get_or, arith, sym, ◌∙◌, ap, subst}
use Rattle.std.proofs.lemmas.Simd.{map-map}
use Rattle.std.proofs.lemmas.List.{get_or-map, length-map, map-append, take_more, take_more_set}
use Rattle.std.proofs.Math.ListN.{set}
use Rattle.gix_ref_hash.specs.declared.hash.Kind.{Kind}
use Rattle.gix_ref_hash.specs.declared.hash.ObjectId.{ObjectId}
use Rattle.gix_ref_target.specs.Layout.{Layout}
use Rattle.gix_ref_target.specs.Targets.{target_value}
use Rattle.gix_ref_files.specs.declared.files.ReadAt.{Ghosts}
use Rattle.gix_ref_lookup.specs.Lookups.{AreStillAsked, IsOpenedText, IsSearched, SearchesNone}
use Rattle.gix_ref_lookup.specs.LooseFiles.{IsDecoded}
use Rattle.gix_ref_lookup.specs.StoreLayout.{git_options}
use Rattle.gix_ref_lookup.specs.declared.find.loose.Loose.{Loose}
use Rattle.gix_ref_lookup.specs.declared.find.loose.Loose.TheVariants as loose_files
use Rattle.gix_ref_lookup.specs.declared.find.records.Records.{Records}
use Rattle.gix_ref_lookup.proofs.LooseLemmas.{held_is, refused_none}
use Rattle.gix_ref_theory.specs.ConcreteStore.{store_of}
use Rattle.gix_ref_theory.specs.Readings.{Store}
use Rattle.gix_ref_theory.specs.Views.{View}
use Rattle.gix_ref_edits.specs.RefEdits.{name_of}
use Rattle.gix_ref_edits.specs.declared.transaction.RefEdit.{RefEdit}
use Rattle.gix_ref_transaction.specs.Causes.{decoded, AllWithIds, IsIdOfKey, IsRecordId}
use Rattle.gix_ref_transaction.specs.PrepareSteps.{Given, all_asked, all_given, given, ids_in, place_paths, places_of, updates}
use Rattle.gix_ref_transaction.specs.declared.edit.Edit.{Edit}
use Rattle.gix_ref_transaction.specs.internal.StuckRecords.{is_held, IsAskedId, IsSearchedId}
use Rattle.gix_ref_transaction.proofs.PackedLemmas.{places_alike, updates_alike}

-- What a loose file is decoded to says whether it holds a target.
module _ (f : Layout) (kind : Kind) (prohibits : Bool) (file : Option (List ℕ)) where
  abbrev git : Store
  git = store_of f (git_options kind prohibits)

  pub held : (loose : Loose) → IsDecoded kind file loose → is_held loose ≡ is_some (decoded git file)
  held (loose_files.Holds target) told = sym (ap is_some (ap (decoded git) told.1 ∙ held_is kind told.0 (target_value target) told.2))
  held loose_files.Nothing told = sym (ap (λ f. is_some (decoded git f)) told)
  held loose_files.Folder told = sym (ap (λ f. is_some (decoded git f)) told)
  held (loose_files.Undecodable error) told = sym (ap is_some (ap (decoded git) told.1 ∙ refused_none kind told.0 error told.2 told.3))

-- the place of an edit of a list
pub placed : (s : Store) (old now : List Edit) → all_asked now ≡ all_asked old → place_paths old ≡ places_of s (updates old) → (i : ℕ) (e : Edit) → i < length now → e ≡ get_or now i e → e.lock ≡ s.place (name_of e.update)
placed s old now same places i e lt is =
    ap (λ (a : Edit). a.lock) is
    ∙ (sym (get_or-map (λ (a : Edit). a.lock) now i e e.lock lt)
    ∙ (ap (λ l. get_or l i e.lock) all
    ∙ (get_or-map (λ (u : RefEdit). s.place (name_of u)) (updates now) i e.update e.lock (omega (arith, lt, length-map now (λ (a : Edit). a.update)))
    ∙ ap (λ (u : RefEdit). s.place (name_of u)) (get_or-map (λ (a : Edit). a.update) now i e e.update lt ∙ ap (λ (a : Edit). a.update) (sym is)))))
  where
    all : place_paths now ≡ places_of s (updates now)
    all = places_alike old now same ∙ (places ∙ ap (places_of s) (sym (updates_alike old now same)))

-- one more edit, with its id
with_more : (P : RefEdit → Option ObjectId → Type 0) (xs : List RefEdit) (ids : List (Option ObjectId)) (x : RefEdit) (id : Option ObjectId) → AllWithIds P xs ids → P x id → AllWithIds P (xs ++ x ∷ []) (ids ++ id ∷ [])
with_more P [] [] x id all here = (here, tt)
with_more P (y ∷ xs) (j ∷ ids) x id all here = (all.0, with_more P xs ids x id all.1 here)
with_more P [] (j ∷ ids) x id all here = absurd all
with_more P (y ∷ xs) [] x id all here = absurd all

pub read_more : (P : RefEdit → Option ObjectId → Type 0) (old now : List Edit) → all_asked now ≡ all_asked old → (i : ℕ) (e : Edit) → i < length now → e ≡ get_or now i e → (new : Edit) →
    AllWithIds P (take i (updates old)) (ids_in (take i now)) → P e.update new.packed → AllWithIds P (take (i + 1) (updates old)) (ids_in (take (i + 1) (set now i new)))
read_more P old now same i e lt is new before here =
    subst (AllWithIds P (take (i + 1) (updates old))) (sym ids)
    (subst (λ (us : List RefEdit). AllWithIds P us (ids_in (take i now) ++ new.packed ∷ [])) (sym more) (with_more P (take i (updates old)) (ids_in (take i now)) e.update new.packed before here))
  where
    ids : ids_in (take (i + 1) (set now i new)) ≡ ids_in (take i now) ++ new.packed ∷ []
    ids = ap ids_in (take_more_set now i new lt) ∙ map-append (λ (a : Edit). a.packed) (take i now) (new ∷ [])

    all_same : updates now ≡ updates old
    all_same = updates_alike old now same

    lt_all : i < length (updates old)
    lt_all = omega (arith, lt, length-map now (λ (a : Edit). a.update), ap length all_same)

    at : get_or (updates old) i e.update ≡ e.update
    at = ap (λ l. get_or l i e.update) (sym all_same) ∙ (get_or-map (λ (a : Edit). a.update) now i e e.update lt ∙ ap (λ (a : Edit). a.update) (sym is))

    more : take (i + 1) (updates old) ≡ take i (updates old) ++ e.update ∷ []
    more = take_more (updates old) i e.update lt_all ∙ ap (λ u. take i (updates old) ++ u ∷ []) at

pub with_wider : (P Q : RefEdit → Option ObjectId → Type 0) (xs : List RefEdit) (ids : List (Option ObjectId)) → ((x : RefEdit) (id : Option ObjectId) → P x id → Q x id) → AllWithIds P xs ids → AllWithIds Q xs ids
with_wider P Q [] [] wider all = tt
with_wider P Q (x ∷ xs) (id ∷ ids) wider all = (wider x id all.0, with_wider P Q xs ids wider all.1)
with_wider P Q [] (id ∷ ids) wider all = absurd all
with_wider P Q (x ∷ xs) [] wider all = absurd all

module _ {R : Type 0} {G : Ghosts R} (s : Store) (kind : Kind) (view : View) where
  -- among records that search the same texts
  searched_back : (old new : Records R G) → AreStillAsked kind None old new → (key : List ℕ) (id : Option ObjectId) → IsSearchedId kind new key id → IsSearchedId kind old key id
  searched_back old new still key None (inl nowhere) = inl (still.none nowhere)
  searched_back old new still key None (inr o) = inr (record { of_kind = o.of_kind; text = o.text; searched = still.searched o.of_kind o.text o.searched; has = o.has })
  searched_back old new still key (Some id) o = record { of_kind = o.of_kind; text = o.text; searched = still.searched o.of_kind o.text o.searched; has = o.has }

  pub asked_back : (old new : Records R G) → AreStillAsked kind None old new → (edit : RefEdit) (id : Option ObjectId) → IsAskedId s kind view new edit id → IsAskedId s kind view old edit id
  asked_back old new still edit id (inl hidden) = inl hidden
  asked_back old new still edit id (inr (inl no_key)) = inr (inl no_key)
  asked_back old new still edit id (inr (inr at)) = inr (inr (at.0, at.1, searched_back old new still at.0 id at.2))

  -- and in the text of `packed-refs`
  module _ (r : Records R G) (none : SearchesNone None r → view s.packed_path ≡ None) (opened : (k : Kind) (text : List ℕ) → IsSearched kind None r k text → IsOpenedText kind (view s.packed_path) k text) where
    id_of_key : (key : List ℕ) (id : Option ObjectId) → IsSearchedId kind r key id → IsIdOfKey kind (view s.packed_path) key id
    id_of_key key None (inl nowhere) = inl (none nowhere)
    id_of_key key None (inr o) = inr (record { of_kind = o.of_kind; text = o.text; opened = opened o.of_kind o.text o.searched; has = o.has })
    id_of_key key (Some id) o = record { of_kind = o.of_kind; text = o.text; opened = opened o.of_kind o.text o.searched; has = o.has }

    pub record_id : (edit : RefEdit) (id : Option ObjectId) → IsAskedId s kind view r edit id → IsRecordId s kind view edit id
    record_id edit id (inl hidden) = inl hidden
    record_id edit id (inr (inl no_key)) = inr (inl no_key)
    record_id edit id (inr (inr at)) = inr (inr (at.0, at.1, id_of_key at.0 id at.2))

-- the ids of edits are those that they have
pub ids_alike : (old now : List Edit) → all_given now ≡ all_given old → ids_in now ≡ ids_in old
ids_alike old now same =
    sym (map-map (λ (p : Given). p.2) given now)
    ∙ (ap (map (λ (p : Given). p.2)) same
    ∙ map-map (λ (p : Given). p.2) given old)

-- carried through a result
pub on_ok : {A E P : Type 0} (r : Result A E) → P → OnOk r P
on_ok (Ok x) holds = holds
on_ok (Err e) holds = tt

pub if_on_ok : {A E P Q : Type 0} (r : Result A E) → (P → Q) → OnOk r P → OnOk r Q
if_on_ok (Ok x) wider holds = wider holds
if_on_ok (Err e) wider holds = tt

pub always : {A E : Type 0} (r : Result A E) → IfOk r (λ x. Unit {0})
always (Ok x) = tt
always (Err e) = tt
