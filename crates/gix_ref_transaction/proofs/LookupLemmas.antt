-- What there is of a reference, by its loose file and its record, and what becomes of its loose file.
use Rattle.std.proofs.Common.{◌≡◌, ℕ, List, [], ◌∷◌, Option, Some, None, Bool, true, false, not, ◌&&◌, ◌||◌, is_some, refl, sym, ap, ◌∙◌, if◌then◌else◌}
use Rattle.std.specs.Prelude.{is_none}
use Rattle.std.specs.List.{list_any}
use Rattle.std.specs.Option.{option_map}
use Rattle.gix_ref_name.specs.DeviceNames.{is_device}
use Rattle.gix_ref_hash.specs.declared.hash.Kind.{Kind}
use Rattle.gix_ref_hash.specs.declared.hash.ObjectId.{ObjectId}
use Rattle.gix_ref_target.specs.PackedRecords.{Record, record_named, id_read}
use Rattle.gix_ref_target.specs.Targets.{TargetValue, target_value, stripped_target}
use Rattle.gix_ref_target.specs.Targets.TargetValue.{object_id, symbolic_name}
use Rattle.gix_ref_target.specs.Layout.{Layout}
use Rattle.gix_ref_theory.specs.ConcreteStore.{store_of, loose_text}
use Rattle.gix_ref_theory.specs.Edits.{Effect, Mode, effect_of_change, has_already, is_object, packs, packs_updates, removes_packed}
use Rattle.gix_ref_theory.specs.Edits.Change.{Update}
use Rattle.gix_ref_theory.specs.Edits.Effect.{Writes, Removes, Keeps}
use Rattle.gix_ref_theory.specs.Readings.{Store, reading, reading_by, reading_of_loose, reading_of_record, reading_of_id, records_of_file, as_read}
use Rattle.gix_ref_theory.specs.Readings.Reading.{Is, Fault, Absent}
use Rattle.gix_ref_theory.specs.Views.{View}
use Rattle.gix_ref_lookup.specs.StoreLayout.{git_options}
use Rattle.gix_ref_lookup.specs.LooseFiles.{IsDecoded}
use Rattle.gix_ref_lookup.specs.declared.find.loose.Loose.{Loose}
use Rattle.gix_ref_lookup.specs.declared.find.loose.Loose.TheVariants as loose_files
use Rattle.gix_ref_lookup.proofs.LooseLemmas.{held_is, refused_none}
use Rattle.gix_ref_edits.specs.RefEdits.{name_of, new_of, mode_of, is_of_reference}
use Rattle.gix_ref_edits.specs.declared.transaction.Change.{Change as GivenChange}
use Rattle.gix_ref_edits.specs.declared.transaction.Change.TheVariants as given
use Rattle.gix_ref_edits.specs.declared.transaction.RefEdit.{RefEdit}
use Rattle.gix_ref_transaction.specs.CarriedEdits.{change_of}
use Rattle.gix_ref_transaction.specs.Causes.{found, found_by, decoded, goes_alone, id_of_record, is_new_object, packed_id}
use Rattle.gix_ref_files.specs.Tree.{Tree, Path, put}
use Rattle.gix_ref_files.specs.Tree.Content.{File}
use Rattle.gix_ref_transaction.specs.PrepareSteps.{decision, decision_of, effect_on, effect_value, is_damaged, is_found, is_loose_file, is_undecodable, lock_text, target_by, text_of_new}
use Rattle.gix_ref_transaction.specs.declared.edit.Effect.{Effect as Decision}
use Rattle.gix_ref_transaction.specs.declared.edit.Effect.TheVariants.{Write, Remove, Keep}

-- a store that prohibits no device names prohibits no place
pub none_prohibited : (prohibits : Bool) (parts : List (List ℕ)) → prohibits ≡ false → list_any (λ component. prohibits && is_device component) parts ≡ false
none_prohibited prohibits [] off = refl
none_prohibited prohibits (part ∷ parts) off = ap (λ b. (b && is_device part) || list_any (λ component. prohibits && is_device component) parts) off ∙ none_prohibited prohibits parts off

-- What a loose file is decoded to, with the id of a record, is what is found.
module _ (f : Layout) (kind : Kind) (prohibits : Bool) where
  abbrev git : Store
  git = store_of f (git_options kind prohibits)

  same_target : (target : TargetValue) → stripped_target f.namespace target ≡ as_read git target
  same_target (object_id id) = refl
  same_target (symbolic_name n) = refl

  pub target_is : (loose : Loose) (file : Option (List ℕ)) (packed : Option ObjectId) → IsDecoded kind file loose → target_by f.namespace loose packed ≡ found_by git (decoded git file) packed
  target_is loose_files.Nothing file packed told = sym (ap (λ t. found_by git t packed) (ap (decoded git) told))
  target_is loose_files.Folder file packed told = sym (ap (λ t. found_by git t packed) (ap (decoded git) told))
  target_is (loose_files.Holds target) file packed told =
      ap Some (same_target (target_value target)) ∙ ap (λ t. found_by git t packed) (sym (ap (decoded git) told.1 ∙ held_is kind told.0 (target_value target) told.2))
  target_is (loose_files.Undecodable error) file packed told =
      sym (ap (λ t. found_by git t packed) (ap (decoded git) told.1 ∙ refused_none kind told.0 error told.2 told.3))

  pub file_is : (loose : Loose) (file : Option (List ℕ)) → IsDecoded kind file loose → is_loose_file loose ≡ is_some file
  file_is loose_files.Nothing file told = sym (ap is_some told)
  file_is loose_files.Folder file told = sym (ap is_some told)
  file_is (loose_files.Holds target) file told = sym (ap is_some told.1)
  file_is (loose_files.Undecodable error) file told = sym (ap is_some told.1)

  pub damaged_is : (loose : Loose) (file : Option (List ℕ)) → IsDecoded kind file loose → is_undecodable loose ≡ is_damaged git file
  damaged_is loose_files.Nothing file told = sym (ap (is_damaged git) told)
  damaged_is loose_files.Folder file told = sym (ap (is_damaged git) told)
  damaged_is (loose_files.Holds target) file told = sym (ap (is_damaged git) told.1 ∙ ap is_none (held_is kind told.0 (target_value target) told.2))
  damaged_is (loose_files.Undecodable error) file told = sym (ap (is_damaged git) told.1 ∙ ap is_none (refused_none kind told.0 error told.2 told.3))

-- what was decided, with this text
abbrev pub by_decision : Decision → List ℕ → Effect
by_decision Write text = Writes text
by_decision Remove text = Removes
by_decision Keep text = Keeps

-- the effect of an edit is by its place and by `packed-refs` alone
pub effect_alike : (mode : Mode) (s : Store) (view other : View) (edit : RefEdit) → view (s.place (name_of edit)) ≡ other (s.place (name_of edit)) → view s.packed_path ≡ other s.packed_path → effect_on s mode view edit ≡ effect_on s mode other edit
effect_alike mode s view other edit same packed =
    ap (λ r. if is_of_reference (mode_of edit.change) then effect_of_change s mode (s.key (name_of edit)) r (change_of edit.change) else Keeps)
    (ap (λ (file : Option (List ℕ)). if s.is_prohibited (s.place (name_of edit)) then Fault else reading_by s (s.key (name_of edit)) file (records_of_file s (view s.packed_path))) same
    ∙ ap (λ (file : Option (List ℕ)). if s.is_prohibited (s.place (name_of edit)) then Fault else reading_by s (s.key (name_of edit)) (other (s.place (name_of edit))) (records_of_file s file)) packed)

module _ (s : Store) where
  already_by : (old new : TargetValue) → has_already (Is old) new ≡ is_found (Some old) new
  already_by (object_id a) (object_id b) = refl
  already_by (object_id a) (symbolic_name b) = refl
  already_by (symbolic_name a) (object_id b) = refl
  already_by (symbolic_name a) (symbolic_name b) = refl

  not_already : (t : TargetValue) → (has_already Absent t ≡ false) × (has_already Fault t ≡ false) × (is_found None t ≡ false)
  not_already (object_id b) = (refl, refl, refl)
  not_already (symbolic_name b) = (refl, refl, refl)

  by_id : (id : Option ObjectId) (t : TargetValue) → has_already (reading_of_id id) t ≡ is_found (option_map object_id id) t
  by_id None t = (not_already t).1 ∙ sym (not_already t).2
  by_id (Some id) t = already_by (object_id id) t

  by_record : (r : Option Record) (t : TargetValue) → has_already (reading_of_record r) t ≡ is_found (option_map object_id (id_of_record r)) t
  by_record None t = (not_already t).0 ∙ sym (not_already t).2
  by_record (Some r) t = by_id (id_read r.target) t

  by_target : (old : Option TargetValue) (packed : Option ObjectId) (t : TargetValue) → has_already (reading_of_loose s old) t ≡ (not (is_none old) && is_found (found_by s old packed) t)
  by_target None packed t = (not_already t).1
  by_target (Some old) packed t = already_by (as_read s old) t

  by_files : (key : Option (List ℕ)) (file : Option (List ℕ)) (rs : List Record) (t : TargetValue) →
      has_already (reading_by s key file rs) t ≡ (not (is_damaged s file) && is_found (found_by s (decoded s file) (packed_id key rs)) t)
  by_files key (Some bytes) rs t = by_target (s.target_of bytes) (packed_id key rs) t
  by_files None None rs t = (not_already t).0 ∙ sym (not_already t).2
  by_files (Some key) None rs t = by_record (record_named key rs) t

  -- a reference has an object already where that is found, and its loose file can be decoded
  pub already_is : (view : View) (name : List ℕ) (t : TargetValue) → s.is_prohibited (s.place name) ≡ false →
      has_already (reading s view name) t ≡ (not (is_damaged s (view (s.place name))) && is_found (found s view name) t)
  already_is view name t allowed =
      ap (λ b. has_already (if b then Fault else reading_by s (s.key name) (view (s.place name)) (records_of_file s (view s.packed_path))) t) allowed
      ∙ by_files (s.key name) (view (s.place name)) (records_of_file s (view s.packed_path)) t

  -- an edit of the reference goes into `packed-refs` alone where the plan of a commit says so
  alone_is : (mode : Mode) (edit : RefEdit) (new : TargetValue) → new_of edit.change ≡ Some new → is_of_reference (mode_of edit.change) ≡ true →
      goes_alone s mode edit ≡ (removes_packed mode && packs mode (s.key (name_of edit)) new)
  alone_is mode edit new is refers =
      ap (λ o. removes_packed mode && ((packs_updates mode && is_new_object o) && (is_of_reference (mode_of edit.change) && is_some (s.key (name_of edit))))) is
      ∙ (ap (λ b. removes_packed mode && ((packs_updates mode && is_object new) && (b && is_some (s.key (name_of edit))))) refers
      ∙ ap (λ b. removes_packed mode && b) (turned (packs_updates mode) (is_object new) (is_some (s.key (name_of edit)))))
    where
      turned : (u o k : Bool) → ((u && o) && (true && k)) ≡ (u && k && o)
      turned true true true = refl
      turned true true false = refl
      turned true false true = refl
      turned true false false = refl
      turned false true true = refl
      turned false true false = refl
      turned false false true = refl
      turned false false false = refl

  -- what is decided of an update, by what was found and its file, is what becomes of the file
  decided_update : (mode : Mode) (view : View) (name : List ℕ) (refers : Bool) (new : TargetValue) (alone : Bool) → s.is_prohibited (s.place name) ≡ false → s.text_of new ≡ loose_text new →
      (refers ≡ true → alone ≡ (removes_packed mode && packs mode (s.key name) new)) →
      (d : Decision) → d ≡ (if refers then decision_of (Some new) alone (found s view name) (is_damaged s (view (s.place name))) else Keep) →
      by_decision d (loose_text new) ≡ (if refers then effect_of_change s mode (s.key name) (reading s view name) (Update new) else Keeps)
  decided_update mode view name true new alone allowed written goes d is =
      ap (λ x. by_decision x (loose_text new)) is
      ∙ (outer alone ∙ ap (λ a. if a then Removes else if has_already (reading s view name) new then Keeps else Writes (s.text_of new)) (goes refl))
    where
      pick : (damaged x : Bool) → by_decision (if damaged || not x then Write else Keep) (loose_text new) ≡ (if not damaged && x then Keeps else Writes (loose_text new))
      pick true x = refl
      pick false true = refl
      pick false false = refl

      inner : by_decision (if is_damaged s (view (s.place name)) || not (is_found (found s view name) new) then Write else Keep) (loose_text new) ≡ (if has_already (reading s view name) new then Keeps else Writes (s.text_of new))
      inner =
          pick (is_damaged s (view (s.place name))) (is_found (found s view name) new)
          ∙ (ap (λ a. if a then Keeps else Writes (loose_text new)) (sym (already_is view name new allowed))
          ∙ ap (λ t. if has_already (reading s view name) new then Keeps else Writes t) (sym written))

      outer : (a : Bool) → by_decision (if a then Remove else if is_damaged s (view (s.place name)) || not (is_found (found s view name) new) then Write else Keep) (loose_text new)
          ≡ (if a then Removes else if has_already (reading s view name) new then Keeps else Writes (s.text_of new))
      outer true = refl
      outer false = inner
  decided_update mode view name false new alone allowed written goes d is = ap (λ x. by_decision x (loose_text new)) is

  -- and so it is of every change
  pub decided_is : (mode : Mode) (view : View) (edit : RefEdit) → s.is_prohibited (s.place (name_of edit)) ≡ false → ((t : TargetValue) → s.text_of t ≡ loose_text t) → (alone : Bool) → alone ≡ goes_alone s mode edit →
      (d : Decision) → d ≡ decision edit.change alone (found s view (name_of edit)) (is_damaged s (view (s.place (name_of edit)))) → effect_value edit.change d ≡ effect_on s mode view edit
  decided_is mode view edit allowed written alone goes d is = by edit.change refl d is
    where
      removed : (refers : Bool) → by_decision (if refers then Remove else Keep) [] ≡ (if refers then Removes else Keeps)
      removed true = refl
      removed false = refl

      value_is : (c : GivenChange) (x : Decision) → effect_value c x ≡ by_decision x (text_of_new (new_of c))
      value_is c Write = refl
      value_is c Remove = refl
      value_is c Keep = refl

      by : (c : GivenChange) → edit.change ≡ c → (x : Decision) → x ≡ decision c alone (found s view (name_of edit)) (is_damaged s (view (s.place (name_of edit)))) →
          effect_value c x ≡ (if is_of_reference (mode_of c) then effect_of_change s mode (s.key (name_of edit)) (reading s view (name_of edit)) (change_of c) else Keeps)
      by (given.Update log e new) at x told =
          value_is (given.Update log e new) x
          ∙ decided_update mode view (name_of edit) (is_of_reference log.mode) (target_value new) alone allowed (written (target_value new))
          (λ refers. goes ∙ alone_is mode edit (target_value new) (ap new_of at) (ap (λ c. is_of_reference (mode_of c)) at ∙ refers)) x told
      by (given.Delete e log) at x told = value_is (given.Delete e log) x ∙ (ap (λ y. by_decision y []) told ∙ removed (is_of_reference log))

-- What a lock holds once it got its text: the one of its effect.
pub filled_with : (T T' W : Tree) (lock lock' : Path) (what what' : Effect) → T' ≡ T → lock' ≡ lock → what' ≡ what → T lock ≡ Some (File []) →
    (T' lock' ≡ Some (File []) → W ≡ put T' lock' (Some (File (lock_text what')))) → W ≡ put T lock (Some (File (lock_text what)))
filled_with T T' W lock lock' what what' same at is empty fills =
    fills (ap (λ (R : Tree). R lock') same ∙ (ap T at ∙ empty))
    ∙ (ap (λ (R : Tree). put R lock' (Some (File (lock_text what')))) same
    ∙ (ap (λ (l : Path). put T l (Some (File (lock_text what')))) at
    ∙ ap (λ e. put T lock (Some (File (lock_text e)))) is))
