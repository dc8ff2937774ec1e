-- Names that are followed.
use Rattle.std.proofs.Common.{◌≡◌, ◌⊎◌, ℕ, zero, suc, List, Option, Some, None, inl, inr, refl, sym, ◌∙◌, ap, subst}
use Rattle.gix_ref_target.specs.Targets.{TargetValue, target_value}
use Rattle.gix_ref_target.specs.Targets.TargetValue.{object_id, symbolic_name}
use Rattle.gix_ref_theory.specs.Readings.{reading_among}
use Rattle.gix_ref_files.specs.Tree.{Tree}
use Rattle.gix_ref_files.specs.Files.{Meaning, FaultCounts}
use Rattle.gix_ref_files.specs.declared.files.ReadAt.{Ghosts}
use Rattle.gix_ref_lookup.specs.declared.find.error.Error.{Error}
use Rattle.gix_ref_files.proofs.Moments.{joins, weaken, starts, passes_joins, passes_weaken, passes_starts}
use Rattle.gix_ref_target.specs.PackedRecords.{Record}
use Rattle.gix_ref_theory.specs.OnRealTrees.{view_of}
use Rattle.gix_ref_theory.specs.Views.{View}
use Rattle.gix_ref_packed_text.specs.Positions.{IsNotMalformed}
use Rattle.gix_ref_packed_text.specs.declared.raw.Reference.{Reference}
use Rattle.gix_ref_lookup.specs.Lookups.{meaning_in, ArePackedRecords, HasNoKey, HasNoRecord, IsHit, IsMissing}
use Rattle.gix_ref_lookup.specs.declared.find.records.Records.TheVariants.{Unopened}
use Rattle.gix_ref_lookup.specs.declared.settings.Settings.{Settings}
use Rattle.gix_ref_listing.specs.PlainSettings.{lent}
use Rattle.gix_ref_store.specs.Lookup.{LooksUp, settings_of, view_in, AreRecordsIn}
use Rattle.gix_ref_store.specs.Store as stores
use Rattle.gix_ref_store.specs.declared.file.store.Store.{Store}
use Rattle.gix_ref_store.proofs.SameStores.{same_on}
use Rattle.gix_ref_queries.specs.Resolving.{TargetsByName, EndsBy, EndFails, FollowsTo, IsOnWay, IsSeenAs, IsUnfollowedBy, IsUnreadBy, IsUnseen, OfKeptText, SeesEnd, SeesEnds, SeesOnWay, SeesTarget, targets_in}
use Rattle.gix_ref_queries.specs.declared.resolve.End.{End}
use Rattle.gix_ref_queries.specs.declared.resolve.End.TheVariants as ends
use Rattle.gix_ref_queries.specs.Resolving.NameEnd.{Reached, Missing, TooDeep}
use Rattle.gix_ref_queries.specs.Resolving.{NameEnd, target_read, next_end, resolved}

-- what a lookup saw
module _ {R : Type 0} {G : Ghosts R} (settings : Settings) (view : View) (name : List ℕ) where
  pub saw_none : IsMissing {G = G} settings view Unopened name → IsUnseen settings view name
  saw_none none = (none.loose, packed none.packed)
    where
      packed : HasNoRecord {G = G} settings view Unopened name → HasNoKey (meaning_in settings) name ⊎ (view (meaning_in settings).packed_path ≡ None) ⊎ OfKeptText settings view IsNotMalformed
      packed (inl no_key) = inl no_key
      packed (inr (inl no_file)) = inr (inl no_file)
      packed (inr (inr o)) = inr (inr (o.of_kind, o.text, o.searched, o.has))

  pub saw_some : (r : Reference) → IsHit {G = G} settings view Unopened name r → IsSeenAs settings view name (target_value r.target)
  saw_some r (inl (named, loose, unpeeled)) = inl loose
  saw_some r (inr (none, (key, is, hit))) = inr (none, (key, is, (hit.searched.of_kind, hit.searched.text, hit.searched.searched, (hit.searched.has.found, hit.searched.has.hits, hit.searched.has.target))))

-- one step of a following
pub steps_on : (find : TargetsByName) (most : ℕ) (name : List ℕ) (read : Option TargetValue) → find name ≡ read → resolved find (suc most) name ≡ next_end (resolved find most) name read
steps_on find most name read is = ap (next_end (resolved find most) name) is

pub same_settings : {F : Type 0} (old new : Store F) → stores.IsSameStore old new → settings_of new ≡ settings_of old
same_settings old new same =
    ap (λ d. let s : Settings = record { dirs = lent d; namespace = lent new.namespace; kind = stores.kind_of new; prohibit_windows_device_names = new.prohibit_windows_device_names; precompose_unicode = new.precompose_unicode } in s) same.dirs
    ∙ (ap (λ n. let s : Settings = record { dirs = lent old.dirs; namespace = lent n; kind = stores.kind_of new; prohibit_windows_device_names = new.prohibit_windows_device_names; precompose_unicode = new.precompose_unicode } in s) same.namespace
    ∙ (ap (λ k. let s : Settings = record { dirs = lent old.dirs; namespace = lent old.namespace; kind = k; prohibit_windows_device_names = new.prohibit_windows_device_names; precompose_unicode = new.precompose_unicode } in s) same.of_kind
    ∙ (ap (λ p. let s : Settings = record { dirs = lent old.dirs; namespace = lent old.namespace; kind = stores.kind_of old; prohibit_windows_device_names = p; precompose_unicode = new.precompose_unicode } in s) same.prohibits
    ∙ ap (λ p. let s : Settings = record { dirs = lent old.dirs; namespace = lent old.namespace; kind = stores.kind_of old; prohibit_windows_device_names = old.prohibit_windows_device_names; precompose_unicode = p } in s) same.composes)))

module _ {F : Type 0} (honest : Type 0) (means : F → Meaning) where
  -- lookups in a row
  pub looks_up : (first mid last : Store F) → LooksUp honest means first mid → LooksUp honest means mid last → LooksUp honest means first last
  looks_up first mid last a b = record {
    leaves = λ h. joins (a.leaves h) (weaken (b.leaves h) (λ T is. is ∙ (a.leaves h).tree));
    passes = λ h. passes_joins (a.passes h) (passes_weaken (b.passes h) (λ D is. is ∙ (a.passes h).disk));
    same = same_on first mid last a.same b.same;
  }

  -- before the first lookup
  pub looks_none : (store : Store F) → LooksUp honest means store store
  looks_none store = record {
    leaves = λ h. starts (means (stores.files_of store)) _ refl;
    passes = λ h. passes_starts (means (stores.files_of store)) _ refl;
    same = record { dirs = refl; namespace = refl; of_kind = refl; reflogs = refl; composes = refl; prohibits = refl; threshold = refl };
  }

  -- what lookups find stays
  pub same_finds : (old new : Store F) (rs : List Record) → LooksUp honest means old new → honest → targets_in means new rs ≡ targets_in means old rs
  same_finds old new rs looked h =
      ap (λ (s : Settings). λ (name : List ℕ). target_read (reading_among (meaning_in s) (view_in means new) rs name)) (same_settings old new looked.same)
      ∙ ap (λ (T : Tree). λ (name : List ℕ). target_read (reading_among (stores.meaning_of old) (view_of T) rs name)) (looked.leaves h).tree

  -- what a lookup saw is seen before it
  pub sees_before : (old new : Store F) (name : List ℕ) (target : Option TargetValue) → LooksUp honest means old new → honest → SeesTarget means new name target → SeesTarget means old name target
  sees_before old new name None looked h saw =
      subst (λ (T : Tree). IsUnseen (settings_of old) (view_of T) name) (looked.leaves h).tree (subst (λ (s : Settings). IsUnseen s (view_in means new) name) (same_settings old new looked.same) saw)
  sees_before old new name (Some target) looked h saw =
      subst (λ (T : Tree). IsSeenAs (settings_of old) (view_of T) name target) (looked.leaves h).tree (subst (λ (s : Settings). IsSeenAs s (view_in means new) name target) (same_settings old new looked.same) saw)

  -- and where a following ends
  pub end_before : (old new : Store F) → LooksUp honest means old new → honest → (most : ℕ) (name : List ℕ) (end : NameEnd) → SeesEnd means new most name end → SeesEnd means old most name end
  end_before old new looked h zero name end is = is
  end_before old new looked h (suc most) name end (None, saw, is) = (None, sees_before old new name None looked h saw, is)
  end_before old new looked h (suc most) name end (Some (object_id id), saw, is) = (Some (object_id id), sees_before old new name (Some (object_id id)) looked h saw, is)
  end_before old new looked h (suc most) name end (Some (symbolic_name next), saw, is) = (Some (symbolic_name next), sees_before old new name (Some (symbolic_name next)) looked h saw, end_before old new looked h most next end is)

  -- and so do the records
  pub same_records : (old new : Store F) (rs : List Record) → LooksUp honest means old new → honest → AreRecordsIn means old rs → AreRecordsIn means new rs
  same_records old new rs looked h are =
      subst (λ (s : Settings). ArePackedRecords s.kind (view_in means new ((meaning_in s).packed_path)) rs) (sym (same_settings old new looked.same))
      (subst (λ (T : Tree). ArePackedRecords (stores.kind_of old) (view_of T ((stores.meaning_of old).packed_path)) rs) (sym (looked.leaves h).tree) are)

-- the following goes on by what its last name reads
pub step_end : (find find' : TargetsByName) (most : ℕ) (last asked : List ℕ) (end : NameEnd) (read : Option TargetValue) → end ≡ resolved find (suc most) last → find' ≡ find → asked ≡ last → find' asked ≡ read → end ≡ next_end (resolved find most) last read
step_end find find' most last asked end read so_far same is reading =
    so_far ∙ steps_on find most last read (sym (ap (λ (f : TargetsByName). f asked) same ∙ ap (find) is) ∙ reading)

-- what is on the way from the next name is on the way from this one
pub way_on : (find find' : TargetsByName) (most : ℕ) (last asked next name : List ℕ) → find' ≡ find → asked ≡ last → find' asked ≡ Some (symbolic_name next) → IsOnWay find most next name → IsOnWay find (suc most) last name
way_on find find' most last asked next name same is reading way = inr (next, sym (ap (λ (f : TargetsByName). f asked) same ∙ ap find is) ∙ reading, way)

-- where the following of a name ends by its result; nowhere where it failed
abbrev pub name_end : (last : List ℕ) → End → Option NameEnd
name_end last (ends.Object id) = Some (Reached last id)
name_end last ends.Absent = Some (Missing last)
name_end last ends.TooDeep = Some TooDeep
name_end last (ends.Unread error) = None
name_end last ends.Memory = None

abbrev the_end : NameEnd → Option NameEnd → NameEnd
the_end other (Some end) = end
the_end other None = other

module _ {F : Type 0} (honest : Type 0) (means : F → Meaning) (old : Store F) where
  ends_there : (first last : List ℕ) (of : End) (end : NameEnd) → name_end last of ≡ Some end → (honest → (records : List Record) → AreRecordsIn means old records → EndsBy (targets_in means old records) first last of) → (honest → SeesEnds means old first last of) → FollowsTo honest means old first end
  ends_there first last (ends.Object id) end at by sees = subst (FollowsTo honest means old first) (ap (the_end TooDeep) at) (record { seen = sees; exact = λ h records are. sym (by h records are) })
  ends_there first last ends.Absent end at by sees = subst (FollowsTo honest means old first) (ap (the_end TooDeep) at) (record { seen = sees; exact = λ h records are. sym (by h records are) })
  ends_there first last ends.TooDeep end at by sees = subst (FollowsTo honest means old first) (ap (the_end TooDeep) at) (record { seen = sees; exact = λ h records are. sym (by h records are) })
  ends_there first last (ends.Unread error) end at by sees = absurd (none at)
    where
      none : {e : NameEnd} → None ≡ Some e → ⊥
      none is = cc
  ends_there first last ends.Memory end at by sees = absurd (none at)
    where
      none : {e : NameEnd} → None ≡ Some e → ⊥
      none is = cc

  -- the following of a name ends where its result says
  pub follows_to : (first last name : List ℕ) (done of : End) (end : NameEnd) → first ≡ name → done ≡ of → name_end last of ≡ Some end → (honest → (records : List Record) → AreRecordsIn means old records → EndsBy (targets_in means old records) first last done) → (honest → SeesEnds means old first last done) → FollowsTo honest means old name end
  follows_to first last name done of end same is at by sees =
      subst (λ (n : List ℕ). FollowsTo honest means old n end) same
      (ends_there first last of end at (λ h records are. subst (EndsBy (targets_in means old records) first last) is (by h records are)) (λ h. subst (SeesEnds means old first last) is (sees h)))

module _ {F R : Type 0} (G : Ghosts R) (honest : Type 0) (means : F → Meaning) (faults : F → FaultCounts) where
  -- a lookup that failed, once a store was looked at
  pub unread_before : (old mid : Store F) (name : List ℕ) (error : Error) → LooksUp honest means old mid → IsUnreadBy G honest means faults mid name error → IsUnreadBy G honest means faults old name error
  unread_before old mid name error looked u = record {
    mid = u.mid;
    new = u.new;
    looked = looks_up honest means old mid u.mid looked u.looked;
    fails = u.fails;
    told = u.told;
  }

  way_before : (old mid : Store F) → LooksUp honest means old mid → honest → (most : ℕ) (first name : List ℕ) → SeesOnWay means mid most first name → SeesOnWay means old most first name
  way_before old mid looked h zero first name way = way
  way_before old mid looked h (suc most) first name (inl here) = inl here
  way_before old mid looked h (suc most) first name (inr (next, saw, way)) = inr (next, sees_before honest means old mid first (Some (symbolic_name next)) looked h saw, way_before old mid looked h most next name way)

  -- and a following
  pub unfollowed_before : (old mid : Store F) (first : List ℕ) (error : Error) → LooksUp honest means old mid → IsUnfollowedBy G honest means faults mid first error → IsUnfollowedBy G honest means faults old first error
  unfollowed_before old mid first error looked u = record {
    name = u.name;
    unread = unread_before old mid u.name error looked u.unread;
    seen = λ h. way_before old mid looked h 5 first u.name (u.seen h);
    on_way = λ h records are.
        subst (λ (find : TargetsByName). IsOnWay find 5 first u.name) (same_finds honest means old mid records looked h) (u.on_way h records (same_records honest means old mid records looked h are));
  }

  -- a following that ended at a name that was not read
  pub unfollowed_by : (old : Store F) (first last name : List ℕ) (of : End) (error : Error) → of ≡ ends.Unread error → first ≡ name → (honest → (records : List Record) → AreRecordsIn means old records → EndsBy (targets_in means old records) first last of) →
      (honest → SeesEnds means old first last of) → EndFails G honest means faults old last of → IsUnfollowedBy G honest means faults old name error
  unfollowed_by old first last name of error is same by sees fails =
      subst (λ (n : List ℕ). IsUnfollowedBy G honest means faults old n error) same
      (record {
        name = last;
        unread = subst (λ (e : End). EndFails G honest means faults old last e) is fails;
        seen = λ h. subst (λ (e : End). SeesEnds means old first last e) is (sees h);
        on_way = λ h records are. subst (λ (e : End). EndsBy (targets_in means old records) first last e) is (by h records are);
      })
