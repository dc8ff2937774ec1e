-- The planned steps of a commit carry out the plan of the theory, where `packed-refs` was well formed.
use Rattle.std.specs.Prelude.{MatchBool, is_some}
use Rattle.std.proofs.Common.{◌≡◌, ◌≢◌, ◌⊎◌, inl, inr, ⊎_elim, ℕ, suc, List, [], ◌∷◌, Bool, true, false, ◌||◌, ◌&&◌, Option, Some, None, IsSome, All, refl, sym, ◌∙◌, ap, subst, arith, if◌then◌else◌, map}
use Rattle.std.specs.List.{list_any}
use Rattle.gix_ref_hash.specs.declared.hash.Kind.{Kind}
use Rattle.gix_ref_hash.specs.declared.hash.ObjectId.{ObjectId}
use Rattle.gix_ref_name.specs.declared.namespace.Namespace.{Namespace}
use Rattle.gix_ref_target.specs.PackedRecords.{Record, record_named, id_read, written_id}
use Rattle.gix_ref_target.specs.Targets.{TargetValue, target_value}
use Rattle.gix_ref_target.specs.Targets.TargetValue.{object_id}
use Rattle.gix_ref_files.specs.Tree.{Tree, Path, Content, file_of, is_file}
use Rattle.gix_ref_files.specs.Tree.Content.{File, Folder}
use Rattle.gix_ref_files.specs.Disk.{Disk}
use Rattle.gix_ref_files.specs.Lock.{lock_of}
use Rattle.gix_ref_packed_text.specs.WrittenText.{written_header}
use Rattle.gix_ref_theory.proofs.MergedRecords.{merged_once}
use Rattle.gix_ref_theory.specs.Between.{AreEdits, IsEdit, IsPackedFile, IsPrepared, MergesRecords}
use Rattle.gix_ref_theory.specs.Edits.{Change, Edit, Effect, Mode, effect, alters_change, alters_packed, file_of_records, is_object, packs_updates}
use Rattle.gix_ref_theory.specs.Edits.Change.{Update, Delete}
use Rattle.gix_ref_theory.specs.Edits.Effect.{Writes}
use Rattle.gix_ref_theory.specs.OnRealTrees as tree
use Rattle.gix_ref_theory.specs.OnRealTrees.{view_of, IsCommitRun}
use Rattle.gix_ref_theory.specs.OnDisks as disk
use Rattle.gix_ref_theory.specs.OnDisks.{IsSpokenOf}
use Rattle.gix_ref_theory.specs.Plan.{plan, line_writes, place_writes, log_removal, place_removal, packed_writes, file_writes}
use Rattle.gix_ref_theory.specs.Readings.{Store, records_of_file}
use Rattle.gix_ref_theory.specs.Views.{View, Write, file_bytes, IsSameButLocks}
use Rattle.gix_ref_theory.proofs.OnDisks.{own_is_lock}
use Rattle.gix_ref_lookup.specs.StoreLayout.{folders_of}
use Rattle.gix_ref_lookup.specs.Lookups.{ArePackedRecords}
use Rattle.gix_ref_lookup.specs.declared.folders.Dirs.{Dirs}
use Rattle.gix_ref_packed_text.specs.declared.outcome.Rewrite.{Rewrite}
use Rattle.gix_ref_packed_text.specs.declared.outcome.Rewrite.TheVariants.{Unchanged, Removed, Text}
use Rattle.gix_ref_edits.specs.RefEdits.{name_of, new_of, mode_of, is_of_reference}
use Rattle.gix_ref_edits.specs.declared.transaction.RefEdit.{RefEdit}
use Rattle.gix_ref_edits.specs.declared.transaction.Change.{Change as GivenChange}
use Rattle.gix_ref_edits.specs.declared.transaction.Change.TheVariants as given_changes
use Rattle.gix_ref_transaction.specs.Causes.{ask_packed, is_packable, may_change, packed_taken, packs_edit, packs_some, updates_object, IsFullTarget, IsOfKind, IsPackedWell, IsWholeTarget}
use Rattle.gix_ref_transaction.specs.CarriedEdits.{change_of, edit_of}
use Rattle.gix_ref_transaction.specs.CommittedEdits.{planned}
use Rattle.gix_ref_transaction.specs.OwnLocks.{is_in}
use Rattle.gix_ref_transaction.specs.PrepareSteps.{effect_on, effect_value, lock_text, own_locks, own_places, packed_places, text_of_new, IsPackedPlace}
use Rattle.gix_ref_transaction.specs.declared.edit.Edit.{Edit as Own}
use Rattle.gix_ref_transaction.specs.declared.edit.Effect.{Effect as Decision}
use Rattle.gix_ref_transaction.specs.declared.edit.Effect.TheVariants as decisions
use Rattle.gix_ref_transaction.specs.declared.edit.LogEffect.{LogEffect}
use Rattle.gix_ref_transaction.specs.declared.edit.LogEffect.TheVariants as log_effects
use Rattle.gix_ref_transaction.proofs.Adds.{clash, is_false, same_view, any_right}
use Rattle.gix_ref_transaction.proofs.Committing.{update_is, reads_back, id_reads_as_written}
use Rattle.gix_ref_transaction.proofs.LockRounds.{own_all}
use Rattle.gix_ref_transaction.proofs.LookupLemmas.{effect_alike}
use Rattle.gix_ref_transaction.proofs.PackedLemmas.{records_are}
use Rattle.gix_ref_files.specs.Steps.{Step}
use Rattle.gix_ref_commit.specs.Entries.{Entry, planned_entries, bare_steps, steps_in, bare}
use Rattle.gix_ref_commit.specs.LogEffects.{IsLogOf, but_lines, edit_with, extra_in, extras_in, line_in, with_extras}
use Rattle.gix_ref_packed_transaction.specs.Repacks.{IsRepack}
use Rattle.gix_ref_commit.specs.Cleared.{commit_entries, folder_lists}
use Rattle.gix_ref_commit.specs.declared.folders.EmptyDirs.{EmptyDirs}
use Rattle.gix_ref_commit.proofs.Carries as carries
use Rattle.gix_ref_commit.proofs.Carries.{Carries}
use Rattle.gix_ref_commit.proofs.Cleared as cleared
use Rattle.gix_ref_commit.proofs.Cleared.{EachOutside}
use Rattle.gix_ref_commit.proofs.Held.{IsReady, IsHeld, AreHeld, held, held_at}
use Rattle.gix_ref_transaction.proofs.EditsApart.{edits_apart}
use Rattle.gix_ref_commit.proofs.Lined.{alters_given, apart_lined, repack_lined}
use Rattle.gix_ref_commit.proofs.OwnPlan.{line_written, log_removed, file_put, file_removed, packed_written, own_plan, IsAsPlanned, AreAsPlanned, plan_is}
use Rattle.gix_ref_commit.proofs.Placing as placing
use Rattle.gix_ref_commit.proofs.Placing.{IsLaid}

-- the new text of `packed-refs` is this
abbrev pub IsText : Rewrite → List ℕ → Type 0
IsText (Text text) bytes = text.items ≡ bytes
IsText other bytes = ⊥

-- the steps of entries without their syncs
bares : (es : List Entry) → map bare (steps_in es) ≡ bare_steps es
bares [] = refl
bares (e ∷ es) = ap (λ (l : List Step). bare e.0 ∷ l) (bares es)

-- an update or a deletion
either_change : (c : GivenChange) → IsSome (new_of c) ⊎ (change_of c ≡ Delete)
either_change (given_changes.Update log expected new) = inl refl
either_change (given_changes.Delete expected log) = inr refl

-- an update that is packed updates an object
packs_object : (a c : Bool) → (a && true && c) ≡ true → (a && c) ≡ true
packs_object true c h = h
packs_object false c h = h

or_true : (b : Bool) → (b || true) ≡ true
or_true true = refl
or_true false = refl

-- Where an edit alters `packed-refs`, there is one or an object is put into it, and its lock was taken.
module _ (s : Store) (mode : Mode) (T : Tree) where
  abbrev May : List Record → (packs : Bool) → Type 0
  May records packs = ((records ≡ []) → ⊥) ⊎ (packs ≡ true)

  alters_by : (key : Option (List ℕ)) (c : GivenChange) (records : List Record) → alters_change mode key (change_of c) records ≡ true →
      (is_some key ≡ true) × May records (packs_updates mode && updates_object c)
  alters_by None (given_changes.Update log expected new) records h = clash h refl
  alters_by None (given_changes.Delete expected log) records h = clash h refl
  alters_by (Some key) (given_changes.Update log expected new) records h = (refl, inr (packs_object (packs_updates mode) (is_object (target_value new)) h))
  alters_by (Some key) (given_changes.Delete expected log) records h =
      (refl, inl (λ none. clash h (ap (λ (rs : List Record). is_some (record_named key rs)) none)))

  alters_asks : (records : List Record) (given : List RefEdit) → alters_packed s mode records (planned given) ≡ true → (ask_packed s given ≡ true) × May records (packs_some s mode given)
  alters_asks records [] h = clash h refl
  alters_asks records (e ∷ given) h = by (is_of_reference (mode_of e.change)) refl (alters_change mode (s.key (name_of e)) (change_of e.change) records) refl h (alters_asks records given)
    where
      asked : is_packable s e ≡ true → (is_packable s e || list_any (is_packable s) given) ≡ true
      asked is = ap (λ x. x || list_any (is_packable s) given) is

      later : ask_packed s given ≡ true → (is_packable s e || list_any (is_packable s) given) ≡ true
      later is = any_right (is_packable s) (e ∷ []) given is

      packed : is_packable s e ≡ true → May records (packs_updates mode && updates_object e.change) → May records (packs_some s mode (e ∷ given))
      packed key (inl some) = inl some
      packed key (inr packs) = inr (ap (λ x. x || packs_some s mode given) (ap (λ x. x && is_packable s e) packs ∙ key))

      packed_later : May records (packs_some s mode given) → May records (packs_some s mode (e ∷ given))
      packed_later (inl some) = inl some
      packed_later (inr packs) = inr (any_right (packs_edit s mode) (e ∷ []) given packs)

      by : (r : Bool) → is_of_reference (mode_of e.change) ≡ r → (a : Bool) → alters_change mode (s.key (name_of e)) (change_of e.change) records ≡ a →
          ((r && a) || alters_packed s mode records (planned given)) ≡ true →
          (alters_packed s mode records (planned given) ≡ true → (ask_packed s given ≡ true) × May records (packs_some s mode given)) → (ask_packed s (e ∷ given) ≡ true) × May records (packs_some s mode (e ∷ given))
      by true r true a is rest =
          let here = alters_by (s.key (name_of e)) e.change records a in
          let key : is_packable s e ≡ true = ap (λ x. x && is_some (s.key (name_of e))) r ∙ here.0 in
          (asked key, packed key here.1)
      by true r false a is rest = let others = rest is in (later others.0, packed_later others.1)
      by false r a' a is rest = let others = rest is in (later others.0, packed_later others.1)

  no_file : is_file (T s.packed_path) ≡ false → records_of_file s (view_of T s.packed_path) ≡ []
  no_file none = ap (records_of_file s) (by (T s.packed_path) none)
    where
      by : (node : Option Content) → is_file node ≡ false → file_of node ≡ None
      by None h = refl
      by (Some Folder) h = refl
      by (Some (File bytes)) h = clash refl h

  pub alters_takes : (given : List RefEdit) → alters_packed s mode (records_of_file s (view_of T s.packed_path)) (planned given) ≡ true → packed_taken s mode T given ≡ s.packed_path ∷ []
  alters_takes given h =
      let asks = alters_asks (records_of_file s (view_of T s.packed_path)) given h in
      ap (λ b. if b && may_change s mode T given then s.packed_path ∷ [] else []) asks.0 ∙ ap (λ b. if b then s.packed_path ∷ [] else []) (may asks.1)
    where
      there : (b : Bool) → is_file (T s.packed_path) ≡ b → ((records_of_file s (view_of T s.packed_path) ≡ []) → ⊥) → is_file (T s.packed_path) ≡ true
      there true is some = is
      there false is some = absurd (some (no_file is))

      may : May (records_of_file s (view_of T s.packed_path)) (packs_some s mode given) → may_change s mode T given ≡ true
      may (inl some) = ap (λ b. b || packs_some s mode given) (there (is_file (T s.packed_path)) refl some)
      may (inr packs) = ap (λ b. is_file (T s.packed_path) || b) packs ∙ or_true (is_file (T s.packed_path))

module _ (dirs : Dirs) (namespace : Option Namespace) (kind : Kind) (prohibits : Bool) (mode : Mode) (before : Tree) (D : Disk) (given : List RefEdit) (ran : List Own) (packed : Option Path) (rewrite : Rewrite)
    (ways : List EmptyDirs) (out : EachOutside (placing.staying dirs namespace kind prohibits) (folder_lists ways)) (laid : IsLaid (placing.s dirs namespace kind prohibits) mode kind before D given ran packed) (ready : IsReady (placing.s dirs namespace kind prohibits) mode kind before D.tree given ran) where
  abbrev pub s : Store
  s = placing.s dirs namespace kind prohibits

  abbrev pub locked : List Path
  locked = own_places s mode before given

  abbrev mine : List Path
  mine = own_locks s mode before given

  abbrev pub view : View
  view = view_of D.tree

  -- its edits, with the lines that logs gain, and the objects at the end of tags
  abbrev pub edits : List Edit
  edits = with_extras given (extras_in ran)

  abbrev hold : AreHeld s mode kind before D.tree given ran
  hold = held s mode kind before D.tree given ran ready

  pub edits_are : AreEdits s edits
  edits_are = apart_lined s given (extras_in ran) (edits_apart s kind before [] given ready.accepted.no_cause laid.references)

  no_lock_there : (q p : Path) → ((r : Path) → p ≢ lock_of r) → is_in mine p ≡ false
  no_lock_there q p plain = is_false (is_in mine p) (λ within. let l = own_is_lock locked p (own_all s mode before given p within) in plain l.0 l.1)

  -- no file but these locks has changed so far
  pub same_file : (q : Path) → is_in mine q ≡ false → view q ≡ view_of before q
  same_file q none = same_view file_of refl mine mine before D.tree q ready.adds none

  same_place : (n : List ℕ) → s.is_reference n ≡ true → view (s.place n) ≡ view_of before (s.place n)
  same_place n is = same_file (s.place n) (no_lock_there (s.place n) (s.place n) (λ r. (placing.laws dirs namespace kind prohibits).place_is_no_lock n r is))

  pub same_packed : view s.packed_path ≡ view_of before s.packed_path
  same_packed = same_file s.packed_path (no_lock_there s.packed_path s.packed_path (λ r. (placing.laws dirs namespace kind prohibits).packed_is_no_lock r))

  pub alike : IsSameButLocks locked (view_of before) view
  alike path n = sym (same_file path (is_false (is_in mine path) (λ within. n (own_all s mode before given path within))))

  -- One edit: its writes are those of the plan.
  module _ (e : RefEdit) (p : Own) (h : IsHeld s mode kind before D.tree e p) (is : s.is_reference (name_of e) ≡ true) where
    abbrev what : Effect
    what = effect_on s mode (view_of before) e

    -- what becomes of its file is as it was decided
    does_is : effect s mode view (edit_of e) ≡ what
    does_is = effect_alike mode s view (view_of before) e (same_place (name_of e) is) same_packed

    text_is : (text : List ℕ) → what ≡ Writes text → text ≡ file_bytes (view (lock_of p.lock))
    text_is text writes =
        sym (ap (λ (l : Path). file_bytes (view (lock_of l))) h.place ∙ (ap (λ (c : Option Content). file_bytes (file_of c)) h.text ∙ ap lock_text writes))

    put_is : place_writes (s.place (name_of e)) (effect s mode view (edit_of e)) ≡ file_put view p.lock p.effect
    put_is =
        ap (place_writes (s.place (name_of e))) (does_is ∙ sym h.effect)
        ∙ (ap (λ (l : Path). place_writes l (effect_value p.update.change p.effect)) (sym h.place) ∙ by p.effect h.effect)
      where
        by : (f : Decision) → effect_value p.update.change f ≡ what → place_writes p.lock (effect_value p.update.change f) ≡ file_put view p.lock f
        by decisions.Write same = ap (λ (text : List ℕ). place_writes p.lock (Writes text)) (text_is (text_of_new (new_of p.update.change)) (sym same))
        by decisions.Remove same = refl
        by decisions.Keep same = refl

    removal_is : place_removal (s.place (name_of e)) (effect s mode view (edit_of e)) ≡ file_removed p.lock p.effect
    removal_is =
        ap (place_removal (s.place (name_of e))) (does_is ∙ sym h.effect)
        ∙ (ap (λ (l : Path). place_removal l (effect_value p.update.change p.effect)) (sym h.place) ∙ by p.effect)
      where
        by : (f : Decision) → place_removal p.lock (effect_value p.update.change f) ≡ file_removed p.lock f
        by decisions.Write = refl
        by decisions.Remove = refl
        by decisions.Keep = refl

    line_is : line_writes (s.log (name_of e)) (change_of e.change) (line_in p.log) ≡ line_written p.log
    line_is = by (change_of e.change) p.log h.log
      where
        by : (c : Change) (l : LogEffect) → IsLogOf (s.log (name_of e)) c l → line_writes (s.log (name_of e)) c (line_in l) ≡ line_written l
        by Delete (log_effects.Remove log) same = refl
        by Delete log_effects.Keep same = refl
        by Delete (log_effects.Append log line) same = absurd same
        by (Update target) log_effects.Keep same = refl
        by (Update target) (log_effects.Remove log) same = refl
        by (Update target) (log_effects.Append log line) same = ap (λ (q : Path). Write.Append q line.items ∷ []) (sym same)

    log_is : log_removal (s.log (name_of e)) (change_of e.change) ≡ log_removed p.log
    log_is = by (change_of e.change) p.log h.log
      where
        by : (c : Change) (l : LogEffect) → IsLogOf (s.log (name_of e)) c l → log_removal (s.log (name_of e)) c ≡ log_removed l
        by Delete (log_effects.Remove log) same = ap (λ (q : Path). Write.Remove q ∷ []) (sym same)
        by Delete log_effects.Keep same = absurd same
        by Delete (log_effects.Append log line) same = absurd same
        by (Update target) log_effects.Keep same = refl
        by (Update target) (log_effects.Remove log) same = absurd same
        by (Update target) (log_effects.Append log line) same = refl

    as_planned : IsAsPlanned s mode view view (edit_with e (extra_in p)) p
    as_planned = record { line = line_is; put = put_is; log = log_is; removal = removal_is }

  all_planned : (some : List RefEdit) (ps : List Own) → All (λ (e : RefEdit). s.is_reference (name_of e) ≡ true) some → AreHeld s mode kind before D.tree some ps → AreAsPlanned s mode view view (with_extras some (extras_in ps)) ps
  all_planned [] [] are hold' = tt
  all_planned [] (p ∷ ps) are hold' = absurd hold'
  all_planned (e ∷ some) [] are hold' = absurd hold'
  all_planned (e ∷ some) (p ∷ ps) are hold' =
      (as_planned e p hold'.0 (are 0 e (omega arith)), all_planned some ps (λ k d lt. are (suc k) d (omega (arith, lt))) hold'.1)

  -- What `prepare` has seen to.
  abbrev At : Edit → Type 0
  At x = (e : RefEdit) × (p : Own) × IsHeld s mode kind before D.tree e p × (edit_with e (extra_in p) ≡ x)

  at : (x : Edit) → IsEdit x edits → At x
  at x within = held_at s mode kind before D.tree given ran hold x within

  allowed : (x : Edit) → IsEdit x edits → s.is_prohibited (s.place x.name) ≡ false
  allowed x within = let m = at x within in subst (λ (y : Edit). s.is_prohibited (s.place y.name) ≡ false) m.3 m.2.valid.allowed

  -- the target of an update
  module _ (e : RefEdit) (p : Own) (h : IsHeld s mode kind before D.tree e p) (t : TargetValue) (updates : change_of e.change ≡ Update t) where
    is_new : new_of e.change ≡ Some t
    is_new = ⊎_elim
        (λ some. let u = update_is e.change some in u.1 ∙ ap Some (inner (sym u.2 ∙ updates)))
        (λ deletes. absurd (apart (sym deletes ∙ updates)))
        (either_change e.change)
      where
        inner : {x y : TargetValue} → Update x ≡ Update y → x ≡ y
        inner same = cc

        apart : Delete ≡ Update t → ⊥
        apart same = cc

    target_reads : s.target_of (s.text_of t) ≡ Some t
    target_reads =
        reads_back (folders_of dirs namespace) kind prohibits t (subst IsFullTarget is_new h.valid.target) (subst (IsOfKind kind) is_new h.valid.kinds.0) (subst IsWholeTarget is_new h.valid.whole)

    id_reads : (id : ObjectId) → t ≡ object_id id → id_read (written_id id) ≡ Some id
    id_reads id same = id_reads_as_written (folders_of dirs namespace) kind prohibits t (subst IsWholeTarget is_new h.valid.whole) id same

  reads : (x : Edit) (t : TargetValue) → IsEdit x edits → x.change ≡ Update t → s.target_of (s.text_of t) ≡ Some t
  reads x t within is = let m = at x within in target_reads m.0 m.1 m.2 t (ap (λ (y : Edit). y.change) m.3 ∙ is)

  reads_id : (x : Edit) (id : ObjectId) → IsEdit x edits → x.change ≡ Update (object_id id) → id_read (written_id id) ≡ Some id
  reads_id x id within is = let m = at x within in id_reads m.0 m.1 m.2 (object_id id) (ap (λ (y : Edit). y.change) m.3 ∙ is) id refl

  -- The records of `packed-refs`, and its new text in its lock.
  module _ (rs : List Record) (are : ArePackedRecords kind (view_of before s.packed_path) rs) (repack_given : packed ≢ None → IsRepack s mode kind rs (but_lines edits) rewrite)
      (text_held : (path : Path) (bytes : List ℕ) → packed ≡ Some path → IsText rewrite bytes → view (lock_of path) ≡ Some bytes) where
    repack : packed ≢ None → IsRepack s mode kind rs edits rewrite
    repack some = repack_lined s mode kind rs edits rewrite (repack_given some)

    -- these are the records that are read
    records : records_of_file s (view s.packed_path) ≡ rs
    records = ap (records_of_file s) same_packed ∙ records_are (folders_of dirs namespace) kind prohibits (view_of before s.packed_path) rs are

    abbrev alters : Bool
    alters = alters_packed s mode (records_of_file s (view s.packed_path)) edits

    alters_is : alters_packed s mode rs edits ≡ alters
    alters_is = ap (λ (l : List Record). alters_packed s mode l edits) (sym records)

    -- the merged records, and the writes of `packed-refs`
    pub record IsPackedPlan (merged : List Record) : Type 0 where
      pub is_merged : alters ≡ true → MergesRecords s mode edits (records_of_file s (view s.packed_path)) merged
      pub reads_back : alters ≡ true → records_of_file s (file_of_records s merged) ≡ merged
      pub writes : packed_writes s mode view edits merged ≡ packed_written view packed rewrite
      pub well : alters ≡ true → ArePackedRecords kind (file_of_records s merged) merged

    abbrev written_as : Bool → List Record → List Write
    written_as b merged = if b then file_writes s.packed_path (file_of_records s merged) else []

    unaltered : alters ≡ false → [] ≡ packed_written view packed rewrite → (merged : List Record) × IsPackedPlan merged
    unaltered none nothing = (
      [],
      record {
        is_merged = λ some. clash some none;
        reads_back = λ some. clash some none;
        writes = ap (λ b. written_as b []) none ∙ nothing;
        well = λ some. clash some none;
      },
    )

    pub planned_packed : (merged : List Record) × IsPackedPlan merged
    planned_packed = by packed refl rewrite refl
      where
        inner : {x y : Path} → Some x ≡ Some y → x ≡ y
        inner h = cc

        no_record : packed ≡ None → alters ≡ false
        no_record none = is_false alters (λ some. no_lock none (alters_takes s mode before given (ap (λ (l : List Record). alters_packed s mode l (planned given)) (ap (records_of_file s) (sym same_packed)) ∙ (sym (alters_given s mode (records_of_file s (view s.packed_path)) given (extras_in ran)) ∙ some))))
          where
            no_lock : packed ≡ None → packed_taken s mode before given ≡ s.packed_path ∷ [] → ⊥
            no_lock h taken = nil_cons (ap packed_places (sym h) ∙ (laid.packed_due ∙ taken))
              where
                nil_cons : {x : Path} {xs : List Path} → [] ≡ x ∷ xs → ⊥
                nil_cons e = cc

        path_is : (path : Path) → packed ≡ Some path → path ≡ s.packed_path
        path_is path some = place laid.packed_place
          where
            place : IsPackedPlace s packed → path ≡ s.packed_path
            place (inl none) = absurd (differ (sym none ∙ some))
              where
                differ : None ≡ Some path → ⊥
                differ e = cc
            place (inr same) = inner (sym some ∙ same)

        held_one : (path : Path) → packed ≡ Some path → packed ≢ None
        held_one path some none = differ (sym some ∙ none)
          where
            differ : Some path ≡ None → ⊥
            differ e = cc

        by : (held' : Option Path) → packed ≡ held' → (r : Rewrite) → rewrite ≡ r → (merged : List Record) × IsPackedPlan merged
        by None none r is = unaltered (no_record none) (ap (λ (p : Option Path). packed_written view p rewrite) (sym none))
        by (Some path) some Unchanged is =
            unaltered (sym alters_is ∙ subst (IsRepack s mode kind rs edits) is (repack (held_one path some)))
            (ap (λ (p : Option Path). packed_written view p Unchanged) (sym some) ∙ ap (packed_written view packed) (sym is))
        by (Some path) some Removed is = let all = subst (IsRepack s mode kind rs edits) is (repack (held_one path some)) in (
          [],
          record {
            is_merged = λ _. subst (λ (l : List Record). MergesRecords s mode edits l []) (sym records) all.1;
            reads_back = λ _. refl;
            writes = ap (λ b. written_as b []) (sym alters_is ∙ all.0)
                ∙ (ap (λ (q : Path). Write.Remove q ∷ []) (sym (path_is path some))
                ∙ (ap (λ (p : Option Path). packed_written view p Removed) (sym some) ∙ ap (packed_written view packed) (sym is)));
            well = λ _. refl;
          },
        )
        by (Some path) some (Text text) is =
            let all = subst (IsRepack s mode kind rs edits) is (repack (held_one path some)) in
            let new = all.1 in (
              new.merged,
              record {
                is_merged = λ _. subst (λ (l : List Record). MergesRecords s mode edits l new.merged) (sym records) new.is_merged;
                reads_back = λ _. ap (records_of_file s) new.is_file ∙ new.reads_back;
                writes = ap (λ b. written_as b new.merged) (sym alters_is ∙ all.0)
                    ∙ (ap (file_writes s.packed_path) new.is_file
                    ∙ (ap (λ (q : Path). Write.Put q text.items ∷ []) (sym (path_is path some))
                    ∙ (ap (λ (f : Option (List ℕ)). Write.Put path (file_bytes f) ∷ []) (sym (text_held path text.items some (subst (λ (r : Rewrite). IsText r text.items) (sym is) refl)))
                    ∙ (ap (λ (p : Option Path). packed_written view p (Text text)) (sym some) ∙ ap (packed_written view packed) (sym is)))));
                well = λ _. subst (λ (f : Option (List ℕ)). ArePackedRecords kind f new.merged) (sym new.is_file) (Some written_header, new.well);
              },
            )

    abbrev pub merged : List Record
    merged = planned_packed.0

    -- `packed-refs` is well formed again, as the edits leave it
    pub good_again : (left : Option (List ℕ)) → IsPackedFile s mode edits (view s.packed_path) left → IsPackedWell kind left
    good_again left file = by alters refl file
      where
        by : (b : Bool) → alters ≡ b → MatchBool b ((new : List Record) × MergesRecords s mode edits (records_of_file s (view s.packed_path)) new × (left ≡ file_of_records s new)) (left ≡ view s.packed_path) → IsPackedWell kind left
        by false none same = (rs, subst (λ (f : Option (List ℕ)). ArePackedRecords kind f rs) (sym (same ∙ same_packed)) are)
        by true some (new, is, at) =
            let one : new ≡ merged = merged_once s mode edits _ new merged is (planned_packed.1.is_merged some) in
            (merged, subst (λ (f : Option (List ℕ)). ArePackedRecords kind f merged) (sym (at ∙ ap (file_of_records s) one)) (planned_packed.1.well some))

    pub prepared : IsPrepared s mode view edits merged
    prepared = record {
      apart = edits_are;
      allowed = allowed;
      targets_read_back = reads;
      ids_read_back = reads_id;
      records_are_merged = planned_packed.1.is_merged;
      records_read_back = planned_packed.1.reads_back;
    }

    -- the plan is what its edits say
    pub plan_are : plan s mode view edits merged ≡ own_plan view ran packed rewrite
    plan_are = plan_is s mode view view edits merged ran packed rewrite (all_planned given ran laid.references hold) planned_packed.1.writes

    abbrev all_entries : List Entry
    all_entries = commit_entries dirs ran packed rewrite ways

    abbrev staying : List Path
    staying = placing.staying dirs namespace kind prohibits

    abbrev texts : View
    texts = placing.texts dirs namespace kind prohibits mode before D given ran packed rewrite laid

    carried : Carries locked staying texts (steps_in all_entries) (own_plan view ran packed rewrite)
    carried = cleared.carries locked staying (folder_lists ways) (planned_entries dirs ran packed rewrite) out texts (own_plan view ran packed rewrite)
        (placing.carried dirs namespace kind prohibits mode before D given ran packed rewrite laid)

    -- its steps carry the plan out, on its tree
    pub on_tree : tree.CarryOut locked view (bare_steps all_entries) (plan s mode view edits merged)
    on_tree = subst (λ (steps : List Step). tree.CarryOut locked view steps (plan s mode view edits merged)) (bares all_entries)
        (subst (λ (ws : List Write). tree.CarryOut locked view (map bare (steps_in all_entries)) ws) (sym plan_are)
        (carries.on_trees locked staying texts view (steps_in all_entries) (own_plan view ran packed rewrite)
        (placing.texts_in dirs namespace kind prohibits mode before D given ran packed rewrite laid) carried))

    pub run : IsCommitRun s mode locked edits before D.tree (bare_steps all_entries)
    run = record { merged = merged; prepared = prepared; locks = alike; steps_are_planned = on_tree }

    -- and so on its disk
    pub on_disk : disk.CarryOutSynced (IsSpokenOf locked D) staying texts (steps_in all_entries) (plan s mode view edits merged)
    on_disk = subst (λ (ws : List Write). disk.CarryOutSynced (IsSpokenOf locked D) staying texts (steps_in all_entries) ws) (sym plan_are)
        (carries.on_disks locked staying (IsSpokenOf locked D) (λ p own spoken. spoken.0 own) texts (steps_in all_entries) (own_plan view ran packed rewrite) carried)
