-- Edits that give references what they read: no reference reads otherwise once they are made.
use Rattle.std.proofs.Common.{◌≡◌, inl, ℕ, Bool, true, false, List, [], ◌∷◌, ◌++◌, refl, sym, ◌∙◌, ap, subst, Option, Some, None, IfSome, Result, Ok, Err, codes, drop, nat_eq, cond, if◌then◌else◌}
use Rattle.std.specs.Prelude.{◌&&◌, IsSome, bytes_eq, is_none, is_some, length}
use Rattle.std.specs.List.{AllByRecursion, cons_option, filter, starts_with}
use Rattle.std.specs.Cmp.Lexicographic.{bytes_decides}
use Rattle.std.proofs.lemmas.Bool.{cond-false}
use Rattle.std.proofs.lemmas.Bool.Decides.{Decides-eqb}
use Rattle.std.proofs.lemmas.List.Elements.{All-cons, All-nil}
use Rattle.std.proofs.lemmas.Slice.Eq.{starts_is}
use Rattle.gix_ref_hash.specs.declared.hash.ObjectId.{ObjectId}
use Rattle.gix_ref_name.specs.ComposedNames.{composed}
use Rattle.gix_ref_name.specs.NameGrammar.{IsPartialName, full_error}
use Rattle.gix_ref_name.specs.Names.{full_bytes}
use Rattle.gix_ref_name.specs.declared.name.FullName.{FullName}
use Rattle.gix_ref_target.specs.Locations.{is_safe, key_outside}
use Rattle.gix_ref_target.specs.Targets.{TargetValue, target_value}
use Rattle.gix_ref_target.specs.Targets.TargetValue.{object_id}
use Rattle.gix_ref_target.specs.PackedRecords.{Record}
use Rattle.gix_ref_target.specs.declared.target.Target.{Target}
use Rattle.gix_ref_target.specs.declared.target.Target.TheVariants.{Object, Symbolic}
use Rattle.gix_ref_target.proofs.LocationLemmas.{safe_is_tested}
use Rattle.gix_ref_files.specs.Files.{FaultCounts, Meaning}
use Rattle.gix_ref_packed_text.specs.declared.raw.Reference.{Reference}
use Rattle.gix_ref_theory.specs.Edits as plan
use Rattle.gix_ref_theory.specs.Edits.{edited_reading, new_reading}
use Rattle.gix_ref_theory.specs.Readings.{Store as Places, HasLaws, reading, reading_among, reading_by, records_of_file}
use Rattle.gix_ref_theory.specs.Readings.Reading.{Fault, Is}
use Rattle.gix_ref_theory.specs.Views.{View}
use Rattle.gix_ref_edits.specs.RefEdits.{is_of_reference, mode_of, name_of, new_of}
use Rattle.gix_ref_edits.specs.declared.transaction.Change.{Change}
use Rattle.gix_ref_edits.specs.declared.transaction.Change.TheVariants.{Update, Delete}
use Rattle.gix_ref_edits.specs.declared.transaction.RefEdit.{RefEdit}
use Rattle.gix_ref_lookup.specs.Lookups.{IsLooseTarget, meaning_in, name_asked}
use Rattle.gix_ref_lookup.specs.declared.settings.Settings.{Settings}
use Rattle.gix_ref_listing.specs.Items.{IsFileItem, IsItem}
use Rattle.gix_ref_listing.specs.Listings.{Listed}
use Rattle.gix_ref_listing.specs.Listings.Listed.{Walked, InPacked}
use Rattle.gix_ref_listing.specs.LooseListings.{IsFileListed}
use Rattle.gix_ref_listing.specs.WholeListings.{IsInStore}
use Rattle.gix_ref_listing.specs.declared.error.Error.{Error}
use Rattle.gix_ref_listing.specs.declared.found.Found.TheVariants.{File, Unlisted}
use Rattle.gix_ref_transaction.specs.CarriedEdits.{change_of}
use Rattle.gix_ref_transaction.specs.CommittedEdits.{planned}
use Rattle.gix_ref_transaction.specs.Splits.{AreDirect}
use Rattle.gix_ref_store.specs.ComposedEdits.{AreAskedAs, AreComposedEdits, IsComposedEdit, composed_full}
use Rattle.gix_ref_store.specs.Listings.{AreFirst}
use Rattle.gix_ref_read_back.specs.ListedReadings.{AreComposed}
use Rattle.gix_ref_pack.specs.LooseObjects.{is_shared, loose_among, loose_in, loose_to, packable, packable_to}
use Rattle.gix_ref_pack.specs.declared.pack.Loose.{Loose}

-- ---- truth values and lists

left_true : (a b : Bool) → (a && b) ≡ true → a ≡ true
left_true true b both = refl
left_true false b both = both

right_true : (a b : Bool) → (a && b) ≡ true → b ≡ true
right_true true b both = both
right_true false b both = cc

pub all_filter : {A : Type 0} (P : A → Type 0) (test : A → Bool) (xs : List A) → AllByRecursion P xs → AllByRecursion P (filter test xs)
all_filter P test [] all = tt
all_filter {A = A} P test (x ∷ xs) all = by (test x) (all_filter P test xs all.1)
  where
    by : (b : Bool) → AllByRecursion P (filter test xs) → AllByRecursion P (cond b (x ∷ filter test xs) (filter test xs))
    by true more = (all.0, more)
    by false more = more

all_cons : {A : Type 0} (P : A → Type 0) (o : Option A) (xs : List A) → IfSome o P → AllByRecursion P xs → AllByRecursion P (cons_option o xs)
all_cons P None xs one all = all
all_cons P (Some x) xs one all = (one, all)

-- ---- edits of what is read

new_change : (change : Change) (target : TargetValue) → new_of change ≡ Some target → change_of change ≡ plan.Change.Update target
new_change (Update log expected new) target is = ap plan.Change.Update (inner (target_value new) target is)
  where
    inner : (a b : TargetValue) → ◌≡◌ {A = Option TargetValue} (Some a) (Some b) → a ≡ b
    inner a b same = cc
new_change (Delete expected log) target is = cc

-- an edit of a reference that gives it the object that it reads in these files, and does not follow it; its name is composed, where
-- names are
pub record KeepsFor (s : Places) (view : View) (composes : Bool) (edit : RefEdit) : Type 0 where
  pub reference : s.is_reference (name_of edit) ≡ true
  pub composed_name : name_asked composes (name_of edit) ≡ name_of edit
  pub direct : edit.deref ≡ false
  pub id : ObjectId
  pub new : new_of edit.change ≡ Some (object_id id)
  pub reads : reading s view (name_of edit) ≡ Is (object_id id)

module _ (s : Places) (view : View) where
  -- names at one place read the same
  same_reading : (m n : List ℕ) → s.place m ≡ s.place n → s.key m ≡ s.key n → reading s view m ≡ reading s view n
  same_reading m n place key =
      ap (λ p. if s.is_prohibited p then Fault else reading_by s (s.key m) (view p) (records_of_file s (view s.packed_path))) place
      ∙ ap (λ k. if s.is_prohibited (s.place n) then Fault else reading_by s k (view (s.place n)) (records_of_file s (view s.packed_path))) key

  -- once such edits are made each reference reads as before
  pub edited_same : (composes : Bool) → HasLaws s → (edits : List RefEdit) → AllByRecursion (KeepsFor s view composes) edits → (name : List ℕ) → s.is_reference name ≡ true →
      edited_reading s (planned edits) name (reading s view name) ≡ reading s view name
  edited_same composes laws [] all name is = refl
  edited_same composes laws (edit ∷ edits) (keeps, all) name is = by (is_of_reference (mode_of edit.change) && bytes_eq (s.place (name_of edit)) (s.place name)) refl (edited_same composes laws edits all name is)
    where
      by : (b : Bool) → (is_of_reference (mode_of edit.change) && bytes_eq (s.place (name_of edit)) (s.place name)) ≡ b → edited_reading s (planned edits) name (reading s view name) ≡ reading s view name →
          (if b then new_reading s (change_of edit.change) else edited_reading s (planned edits) name (reading s view name)) ≡ reading s view name
      by true here more =
          let place : s.place (name_of edit) ≡ s.place name = (bytes_decides (s.place (name_of edit)) (s.place name)).0 (right_true (is_of_reference (mode_of edit.change)) (bytes_eq (s.place (name_of edit)) (s.place name)) here) in
          ap (new_reading s) (new_change edit.change (object_id keeps.id) keeps.new)
          ∙ (sym keeps.reads ∙ same_reading (name_of edit) name place (laws.one_key (name_of edit) name keeps.reference is place))
      by false there more = more

  same_full : (name : List ℕ) → composed name ≡ name → composed_full name ≡ name
  same_full name same = by (is_none (full_error (composed name)))
    where
      by : (b : Bool) → (if b then composed name else name) ≡ name
      by true = same
      by false = refl

  asked_one : (given asked : RefEdit) → IsComposedEdit given asked → KeepsFor s view true given → KeepsFor s view true asked
  asked_one given asked is keeps =
      let name : name_of asked ≡ name_of given = is.name ∙ same_full (name_of given) keeps.composed_name in
      record {
        reference = subst (λ n. s.is_reference n ≡ true) (sym name) keeps.reference;
        composed_name = subst (λ n. composed n ≡ n) (sym name) keeps.composed_name;
        direct = is.deref ∙ keeps.direct;
        id = keeps.id;
        new = ap new_of is.change ∙ keeps.new;
        reads = subst (λ n. reading s view n ≡ Is (object_id keeps.id)) (sym name) keeps.reads;
      }

  asked_each : (given asked : List RefEdit) → AreComposedEdits given asked → AllByRecursion (KeepsFor s view true) given → AllByRecursion (KeepsFor s view true) asked
  asked_each [] [] are all = tt
  asked_each [] (a ∷ asked) are all = absurd are
  asked_each (g ∷ given) [] are all = absurd are
  asked_each (g ∷ given) (a ∷ asked) (is, are) (keeps, all) = (asked_one g a is keeps, asked_each given asked are all)

  -- and so of the edits that a store is asked for
  pub asked_keep : (composes : Bool) (given asked : List RefEdit) → AreAskedAs composes given asked → AllByRecursion (KeepsFor s view composes) given → AllByRecursion (KeepsFor s view composes) asked
  asked_keep false given asked are all = subst (AllByRecursion (KeepsFor s view false)) (sym are) all
  asked_keep true given asked are all = asked_each given asked are all

  pub direct_edits : (composes : Bool) (edits : List RefEdit) → AllByRecursion (KeepsFor s view composes) edits → AreDirect edits
  direct_edits composes [] all = All-nil (λ (edit : RefEdit). edit.deref ≡ false)
  direct_edits composes (edit ∷ edits) (keeps, all) = All-cons (λ (edit : RefEdit). edit.deref ≡ false) edit edits keeps.direct (direct_edits composes edits all)

-- ---- loose references

module _ (settings : Settings) (view : View) (records : List Record) where
  abbrev pub s : Places
  s = meaning_in settings

  -- a loose reference reads the object that it has; its name is composed, where names are
  pub record ReadsSo (l : Loose) : Type 0 where
    pub reference : s.is_reference (full_bytes l.name) ≡ true
    pub composed_name : name_asked settings.precompose_unicode (full_bytes l.name) ≡ full_bytes l.name
    pub reads : reading_among s view records (full_bytes l.name) ≡ Is (object_id l.id)

  shared_reference : (name : FullName) → IsPartialName (full_bytes name) → is_shared name ≡ true → s.is_reference (full_bytes name) ≡ true
  shared_reference name valid shared =
      let n = full_bytes name in
      let begins = left_true (starts_with nat_eq n (codes "refs/")) (is_some (key_outside n)) shared in
      ap (λ e. is_none e && is_safe n) valid
      ∙ safe_is_tested n (inl (drop (length (codes "refs/")) n, (starts_is Decides-eqb n (codes "refs/") (starts_with nat_eq n (codes "refs/")) refl).0 begins))

  module _ (composed_files : AreComposed settings view) (prefix : List ℕ) (honest : Type 0) (h : honest) where
    file_reads : (before now : FaultCounts) (key path : List ℕ) (n : FullName) (r : Reference) → full_bytes n ≡ key → IsFileListed settings view prefix key path → IsFileItem honest settings view before now n path (Ok r) → IfSome (packable r) ReadsSo
    file_reads before now key path n r named file item = by r.target (item.1 h)
      where
        name : full_bytes r.name ≡ key
        name = ap full_bytes item.0 ∙ named

        on_disk : name_asked settings.precompose_unicode file.disk ≡ file.disk
        on_disk = composed_files file.front file.disk file.of (subst (λ p. IsSome (view p)) file.at file.there)

        at : s.place key ≡ path
        at = file.placed.own ∙ (ap (λ d. file.front ++ d) (file.asked ∙ on_disk) ∙ sym file.at)

        is_composed : name_asked settings.precompose_unicode key ≡ key
        is_composed = subst (λ k. name_asked settings.precompose_unicode k ≡ k) (sym (file.asked ∙ on_disk)) on_disk

        one : (id : ObjectId) → IsLooseTarget s (view path) (Some (Object id)) → (b : Bool) → is_shared r.name ≡ b → IfSome (if b then Some (loose_to r.name id) else None) ReadsSo
        one id loose false shared = tt
        one id loose true shared = record {
          reference = shared_reference r.name (subst IsPartialName (sym name) file.placed.valid) shared;
          composed_name = subst (λ k. name_asked settings.precompose_unicode k ≡ k) (sym name) is_composed;
          reads = subst (λ k. reading_among s view records k ≡ Is (object_id id)) (sym name)
              (cond-false (s.is_prohibited (s.place key)) Fault (reading_by s (s.key key) (view (s.place key)) records) (ap s.is_prohibited at ∙ item.3)
              ∙ (ap (λ f. reading_by s (s.key key) f records) (ap view at ∙ loose.1) ∙ loose.2));
        }

        by : (target : Target) → IsLooseTarget s (view path) (Some target) → IfSome (packable_to r.name target) ReadsSo
        by (Symbolic other) loose = tt
        by (Object id) loose = one id loose (is_shared r.name) refl

    no_record : (own_of : Record) → ◌≡◌ {A = Option Record} None (Some own_of) → {P : Type 0} → P
    no_record own_of is = cc

    one_reads : (before now : FaultCounts) (one : Listed) (item : Result Reference Error) → IsInStore settings view [] prefix one → IsItem honest settings view before now one item → IfSome (loose_in item) ReadsSo
    one_reads before now one (Err error) there item = tt
    one_reads before now (Walked (key, File n path)) (Ok r) (named, file) item = file_reads before now key.items path.items n r named file item
    one_reads before now (Walked (key, Unlisted path error)) (Ok r) there item = absurd item
    one_reads before now (InPacked own) (Ok r) (there, has) item = no_record own.of has

    -- the loose references among the items of a listing
    pub all_read : {F : Type 0} (means : F → Meaning) (faults : F → FaultCounts) (before now : FaultCounts) (listed : List Listed) (items : List (Result Reference Error)) → AllByRecursion (IsInStore settings view [] prefix) listed →
        AreFirst honest means faults settings view before now listed [] items → AllByRecursion ReadsSo (loose_among items)
    all_read means faults before now listed [] there first = tt
    all_read means faults before now listed (item ∷ items) there (mid, one, more, same, up, is, later) =
        let there' : AllByRecursion (IsInStore settings view [] prefix) (one ∷ more) = subst (AllByRecursion (IsInStore settings view [] prefix)) same there in
        all_cons ReadsSo (loose_in item) (loose_among items) (one_reads before mid one item there'.0 is) (all_read means faults mid now more items there'.1 later)
