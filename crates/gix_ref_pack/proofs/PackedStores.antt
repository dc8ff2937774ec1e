-- A packing leaves each reference as it was, whatever becomes of it.
use Rattle.std.proofs.Common.{◌≡◌, inl, inr, ⊎_elim, ℕ, arith, Bool, true, false, List, [], ◌∷◌, ◌++◌, ◌⊎◌, append-nil, refl, sym, ◌∙◌, ap, subst, Option, Some, None, IfErr, IfOk, Result, Ok, Err, length}
use Rattle.std.specs.Prelude.{IsErrAnd, Vec}
use Rattle.std.specs.declared.alloc.Global.{Global}
use Rattle.std.specs.Option.{option_copied}
use denote.Ref.{Bor}
use Rattle.std.specs.List.{AllByRecursion, Any, filter}
use Rattle.gix_ref_files.specs.declared.files.FileError.{FileError}
use Rattle.gix_ref_files.specs.Disk.{Disk, Lost}
use Rattle.gix_ref_files.specs.Files.{Meaning, FaultCounts, Leaves, Loses, StopsLeave, LossesLeave, disk_of, left_since, lost_since}
use Rattle.gix_ref_files.specs.Settled.{AllStay, IsAllSettled}
use Rattle.gix_ref_files.specs.Tree.{Content, Path, Tree, bytes_of, is_file}
use Rattle.gix_ref_hash.specs.declared.hash.Kind.{Kind}
use Rattle.gix_ref_files.proofs.Moments.{joins, losses, loses_joins, loses_weaken, stops_leave, weaken}
use Rattle.gix_ref_target.specs.Targets.TargetValue.{object_id}
use Rattle.gix_ref_name.specs.Names.{full_bytes}
use Rattle.gix_ref_name.specs.declared.namespace.Namespace.{Namespace}
use Rattle.gix_ref_target.specs.PackedRecords.{Record}
use Rattle.gix_ref_target.specs.Layout.{packed_refs}
use Rattle.gix_ref_packed.specs.Buffers.{Opened}
use Rattle.gix_ref_packed.specs.declared.packed.buffer.Buffer.{Buffer}
use Rattle.gix_ref_theory.specs.OnRealTrees.{view_of}
use Rattle.gix_ref_theory.specs.Roots.{roots}
use Rattle.gix_ref_theory.specs.Readings.{Store as Places, HasLaws, reading, records_of_file}
use Rattle.gix_ref_theory.specs.Readings.Reading.{Is}
use Rattle.gix_ref_theory.proofs.PlaceLaws.{laws_hold}
use Rattle.gix_ref_edits.specs.RefEdits.{name_of}
use Rattle.gix_ref_edits.specs.declared.transaction.RefEdit.{RefEdit}
use Rattle.gix_ref_lookup.specs.StoreLayout.{folders_of, git_options}
use Rattle.gix_ref_lookup.specs.declared.folders.Dirs.{Dirs}
use Rattle.gix_ref_lookup.proofs.Laying.{folders_laid}
use Rattle.gix_ref_lookup.specs.Lookups.{name_asked}
use Rattle.gix_ref_listing.specs.declared.error.Error.{Error as ItemError}
use Rattle.gix_ref_packed_text.specs.declared.raw.Reference.{Reference}
use Rattle.gix_ref_read_back.specs.ListedItems.{AreItemsIn}
use Rattle.gix_ref_transaction.specs.OwnLocks.{paths_of}
use Rattle.gix_ref_transaction.specs.Packing.{OfFinder, ends_of, mode_in}
use Rattle.gix_ref_store.specs.Listings.{prefix_of_all}
use Rattle.gix_ref_store.specs.Lookup.{AreHeld, LooksUp, OpensBuffer, packed_refs_at, settings_of, view_in}
use Rattle.gix_ref_store.specs.Prepared.{HasGoodRecords, IsAtRest, SplitsGiven, disk_in, tree_of}
use Rattle.gix_ref_store.specs.Store.{files_of, folders, kind_of, meaning_of}
use Rattle.gix_ref_store.specs.declared.file.store.Store.{Store}
use Rattle.gix_ref_store.proofs.Commits.{same_meaning}
use Rattle.gix_ref_store.proofs.Walked.{records_on}
use Rattle.gix_ref_read_back.specs.ListedReadings.{AreComposed}
use Rattle.gix_ref_read_back.specs.PlainPromises.{EachReadsOldOrNew}
use Rattle.gix_ref_read_back.proofs.Committed.{lost_reading}
use Rattle.gix_ref_read_back.proofs.PlainLemmas.{made_losses, made_stops, refused_losses, refused_stops}
use Rattle.gix_ref_pack.specs.KeptObjects.{AreKeptFor, KeepsObject}
use Rattle.gix_ref_pack.specs.KnownObjects.{is_known}
use Rattle.gix_ref_pack.specs.LooseObjects.{faults_among, is_chosen, key_for, loose_among}
use Rattle.gix_ref_pack.specs.Packings.{ArePicked, Chooses, ChoosesAmong, EachReadsAsItDid, HasKey, HasText, HidesKey, IsAskError, IsChosen, IsNoTag, IsOfLent, IsPlanned, IsTagOr, IsUnchosen, Packs, PlanComes, PlanFails, PutComes, PutEnds, uses_of}
use Rattle.gix_ref_pack.specs.contracts.objects.ObjectsFind.TheImpl.{claims-value, meaning-value}
use Rattle.gix_ref_pack.specs.declared.objects.Objects.{Objects}
use Rattle.gix_ref_pack.specs.declared.pack.Loose.{Loose}
use Rattle.gix_ref_pack.specs.declared.pack.PackError.{PackError}
use Rattle.gix_ref_pack.specs.declared.pack.PackError.TheVariants.{Memory, Open, Find, Prepare, Commit}
use Rattle.gix_ref_pack.specs.declared.pack.Packed.{Packed}
use Rattle.gix_ref_pack.specs.declared.pack.Plan.{Plan}
use Rattle.gix_ref_pack.proofs.Choosing.{IsOpened, held_now}
use Rattle.gix_ref_pack.proofs.KeptReadings.{KeepsFor, ReadsSo, all_filter, all_read, asked_keep, direct_edits, edited_same}

pub no_items : {A : Type 0} (xs : List A) → length xs ≡ 0 → xs ≡ []
no_items [] none = refl
no_items (x ∷ xs) none = absurd (omega (arith, none))

-- each that is picked has another property
pub picked_as : (P Q N : Loose → Type 0) → ((l : Loose) → P l → Q l) → (found picked : List Loose) → ArePicked P N found picked → ArePicked Q N found picked
picked_as P Q N so [] picked are = are
picked_as P Q N so (l ∷ found) picked (inl (not, are)) = inl (not, picked_as P Q N so found picked are)
picked_as P Q N so (l ∷ found) picked (inr (more, same, is, are)) = inr (more, same, so l is, picked_as P Q N so found more are)

tag_or : (Has Has' : List ℕ → Type 0) → ((key : List ℕ) → Has key → Has' key) → (namespace other : Option Namespace) (l : Loose) → namespace ≡ other → IsTagOr Has namespace l → IsTagOr Has' other l
tag_or Has Has' so namespace other l same (inl tag) = inl tag
tag_or Has Has' so namespace other l same (inr has) = inr (subst (λ (n : Option Namespace). Has' (key_for n l.name)) same (so (key_for namespace l.name) has))

-- one of these has another property
any_as : (P Q : Loose → Type 0) → ((l : Loose) → P l → Q l) → (ls : List Loose) → Any P ls → Any Q ls
any_as P Q so ls (k, l, within, at, is) = (k, l, within, at, so l is)

-- what a loss of power at any moment since old could have left, where since old no other disk was found than that of old
losses_leave : {old new : Meaning} {P : Tree → Type 0} → Loses old new P → ((T : Tree) → Lost (disk_of old) T → P T) → ((D : Disk) → old.found_since old.moment D → D ≡ disk_of old) → LossesLeave old new P
unfolding lost_since
losses_leave {old = old} run here only T left =
    ⊎_elim (λ past. here T (subst (λ (D : Disk). Lost D T) (only past.0 past.1) past.2)) (λ p. p) (run.since old.moment T (omega arith) left)

module _ {F : Type 0} (honest : Type 0) (means : F → Meaning) (faults : F → FaultCounts) where
  -- the edit keeps what its reference reads in a store
  abbrev pub Keeps : Store F → RefEdit → Type 0
  Keeps store edit = KeepsFor (meaning_of store) (view_in means store) store.precompose_unicode edit

  laws : (store : Store F) → HasLaws (meaning_of store)
  laws store = laws_hold (folders store) (git_options (kind_of store) store.prohibit_windows_device_names) (folders_laid store.dirs store.namespace)

  -- ---- what is chosen

  opens_as : (store : Store F) (opened : Option Buffer) → OpensBuffer means store opened → IsOpened (kind_of store) (packed_refs_at means store) opened
  opens_as store None opens = opens
  opens_as store (Some buffer) opens = opens

  not_true : {P : Type 0} (b : Bool) → b ≡ false → b ≡ true → P
  not_true b one other = cc

  -- the text that was lent is that of the opened `packed-refs`
  text_of : (old : Store F) (opened : Option Buffer) (lent : Option (Bor Buffer)) (P : Buffer → Type 0) → OpensBuffer means old opened → option_copied lent ≡ opened → IsOfLent P lent → HasText honest means P old
  text_of old opened None P opens value has = absurd has
  text_of old None (Some lent) P opens value has = absurd (cc)
  text_of old (Some b) (Some lent) P opens value has = (b, opens, subst P (inner lent.now b value) has)
    where
      inner : (x y : Buffer) → ◌≡◌ {A = Option Buffer} (Some x) (Some y) → x ≡ y
      inner x y same = cc

  -- by the records of an opened `packed-refs`
  pub chooses_from : (is_all : Bool) (old : Store F) (namespace : Option Namespace) (found : List Loose) (opened : Option Buffer) (lent : Option (Bor Buffer)) → is_all ≡ false → namespace ≡ old.namespace → (honest → OpensBuffer means old opened) → option_copied lent ≡ opened →
      (result : Result (Vec Loose Global) PackError) → ((rs : List Record) → AreHeld lent rs → ChoosesAmong namespace rs found result) → IfOk result (λ chosen. ArePicked (IsTagOr (λ key. IsOfLent (HasKey key) lent) namespace) IsNoTag found chosen.items) →
      IfErr result (IsAskError (Any (λ (l : Loose). IsOfLent (HidesKey (key_for namespace l.name)) lent) found)) → (new : Store F) → faults (files_of new) ≡ faults (files_of old) → Chooses honest means faults is_all found old new result
  chooses_from is_all old namespace found opened lent some same opens value (Ok chosen) each picked errors new none = (
    record {
      all = λ every. not_true is_all some every;
      by_record = λ no h rs are. subst (λ (n : Option Namespace). chosen.items ≡ filter (is_chosen n rs) found) same
          (each rs (held_now (kind_of old) (packed_refs_at means old) rs opened lent are (opens_as old opened (opens h)) value));
      by_line = λ no h. picked_as (IsTagOr (λ key. IsOfLent (HasKey key) lent) namespace) (IsTagOr (λ key. HasText honest means (HasKey key) old) old.namespace) IsNoTag
          (λ l is. tag_or (λ key. IsOfLent (HasKey key) lent) (λ key. HasText honest means (HasKey key) old) (λ key has. text_of old opened lent (HasKey key) (opens h) value has) namespace old.namespace l same is) found chosen.items picked;
    },
    none,
  )
  chooses_from is_all old namespace found opened lent some same opens value (Err Memory) each picked errors new none = tt
  chooses_from is_all old namespace found opened lent some same opens value (Err (Find error)) each picked errors new none = (
    some,
    (
      (λ h. any_as (λ (l : Loose). IsOfLent (HidesKey (key_for namespace l.name)) lent) (λ (l : Loose). HasText honest means (HidesKey (key_for old.namespace l.name)) old)
          (λ l hides. subst (λ (n : Option Namespace). HasText honest means (HidesKey (key_for n l.name)) old) same (text_of old opened lent (HidesKey (key_for namespace l.name)) (opens h) value hides)) found errors),
      (λ h good. each good.0 (held_now (kind_of old) (packed_refs_at means old) good.0 opened lent good.1 (opens_as old opened (opens h)) value)),
    ),
  )
  chooses_from is_all old namespace found opened lent some same opens value (Err (Open error)) each picked errors new none = absurd errors
  chooses_from is_all old namespace found opened lent some same opens value (Err (Prepare error)) each picked errors new none = absurd errors
  chooses_from is_all old namespace found opened lent some same opens value (Err (Commit error)) each picked errors new none = absurd errors

  -- ---- what is planned

  module _ (h : honest) (old : Store F) (good : HasGoodRecords means old) (composed : AreComposed (settings_of old) (view_in means old)) where
    abbrev records : List Record
    records = records_of_file (meaning_of old) (view_in means old (meaning_of old).packed_path)

    abbrev Reads : Loose → Type 0
    Reads = ReadsSo (settings_of old) (view_in means old) records

    chosen_read : (is_all : Bool) (found chosen : List Loose) → IsChosen honest means is_all old found chosen → AllByRecursion Reads found → AllByRecursion Reads chosen
    chosen_read true found chosen are all = subst (AllByRecursion Reads) (sym (are.all refl)) all
    chosen_read false found chosen are all =
        subst (AllByRecursion Reads) (sym (are.by_record refl h good.0 good.1)) (all_filter Reads (is_chosen old.namespace good.0) found all)

    one_kept : (l : Loose) (edit : RefEdit) → KeepsObject l edit → Reads l → Keeps old edit
    one_kept l edit keeps reads =
        let name : name_of edit ≡ full_bytes l.name = ap full_bytes keeps.name in
        record {
          reference = subst (λ n. (meaning_of old).is_reference n ≡ true) (sym name) reads.reference;
          composed_name = subst (λ n. name_asked old.precompose_unicode n ≡ n) (sym name) reads.composed_name;
          direct = keeps.direct;
          id = l.id;
          new = keeps.new;
          reads = subst (λ n. reading (meaning_of old) (view_in means old) n ≡ Is (object_id l.id)) (sym name) reads.reads;
        }

    each_kept : (loose : List Loose) (edits : List RefEdit) → AreKeptFor loose edits → AllByRecursion Reads loose → AllByRecursion (Keeps old) edits
    each_kept [] [] are all = tt
    each_kept [] (edit ∷ edits) are all = absurd are
    each_kept (l ∷ loose) [] are all = absurd are
    each_kept (l ∷ loose) (edit ∷ edits) (keeps, are) (reads, all) = (one_kept l edit keeps reads, each_kept loose edits are all)

    pub planned_keep : (is_all : Bool) (objects : Objects) (mid : Store F) (plan : Plan) (broken : List ItemError) → IsPlanned honest means faults is_all objects old mid plan broken → AllByRecursion (Keeps old) plan.edits.items
    planned_keep is_all objects mid plan broken planned =
        let listed = planned.listed.items_are h in
        let found = all_read (settings_of old) (view_in means old) records composed (prefix_of_all old.namespace) honest h means faults (faults (files_of old)) (faults (files_of mid)) listed.listed planned.items listed.is.only listed.first in
        each_kept (filter (λ (l : Loose). is_known plan.objects l.id) planned.chosen) plan.edits.items planned.edits
        (all_filter Reads (λ (l : Loose). is_known plan.objects l.id) planned.chosen (chosen_read is_all (loose_among planned.items) planned.chosen planned.are_chosen found))

  -- what is chosen in a store that was looked at was chosen in it before
  module _ (old mid : Store F) (looked : LooksUp honest means old mid) where
    packed_on : honest → packed_refs_at means mid ≡ packed_refs_at means old
    packed_on h =
        ap (λ (d : Dirs). tree_of means mid (packed_refs (folders_of d mid.namespace))) looked.same.dirs
        ∙ (ap (λ (n : Option Namespace). tree_of means mid (packed_refs (folders_of old.dirs n))) looked.same.namespace ∙ ap (λ (T : Tree). T (packed_refs (folders old))) (looked.leaves h).tree)

    text_on : honest → (P : Buffer → Type 0) → HasText honest means P mid → HasText honest means P old
    text_on h P (b, opens, is) = (
      b,
      subst (λ (k : Kind). (is_file (packed_refs_at means old) ≡ true) × Opened k (bytes_of (packed_refs_at means old)) b) looked.same.of_kind
          (subst (λ (c : Option Content). (is_file c ≡ true) × Opened (kind_of mid) (bytes_of c) b) (packed_on h) opens),
      is,
    )

    pub chosen_on : (is_all : Bool) (found chosen : List Loose) → IsChosen honest means is_all mid found chosen → IsChosen honest means is_all old found chosen
    chosen_on is_all found chosen c = record {
      all = c.all;
      by_record = λ no h rs are. subst (λ (n : Option Namespace). chosen ≡ filter (is_chosen n rs) found) looked.same.namespace (c.by_record no h rs (records_on honest means old mid rs h looked are));
      by_line = λ no h. picked_as (IsTagOr (λ key. HasText honest means (HasKey key) mid) mid.namespace) (IsTagOr (λ key. HasText honest means (HasKey key) old) old.namespace) IsNoTag
          (λ l is. tag_or (λ key. HasText honest means (HasKey key) mid) (λ key. HasText honest means (HasKey key) old) (λ key has. text_on h (HasKey key) has) mid.namespace old.namespace l looked.same.namespace is) found chosen (c.by_line no h);
    }

  -- once a store was looked at
  module _ (old mid : Store F) (looked : LooksUp honest means old mid) (h : honest) where
    abbrev same_tree : tree_of means mid ≡ tree_of means old
    same_tree = (looked.leaves h).tree

    pub keeps_on : (edits : List RefEdit) → AllByRecursion (Keeps old) edits → AllByRecursion (Keeps mid) edits
    keeps_on edits all =
        subst (λ (s : Places). AllByRecursion (KeepsFor s (view_in means mid) mid.precompose_unicode) edits) (sym (same_meaning old mid looked.same))
        (subst (λ (T : Tree). AllByRecursion (KeepsFor (meaning_of old) (view_of T) mid.precompose_unicode) edits) (sym same_tree)
        (subst (λ (b : Bool). AllByRecursion (KeepsFor (meaning_of old) (view_in means old) b) edits) (sym looked.same.composes) all))

    pub good_on : HasGoodRecords means old → HasGoodRecords means mid
    good_on good = (good.0, records_on honest means old mid good.0 h looked good.1)

    pub reads_back : (T : Tree) → EachReadsAsItDid honest means faults mid T → EachReadsAsItDid honest means faults old T
    reads_back T each =
        subst (λ (U : Tree). (name : List ℕ) → (meaning_of old).is_reference name ≡ true → reading (meaning_of old) (view_of T) name ≡ reading (meaning_of old) (view_of U) name) same_tree
        (subst (λ (s : Places). (name : List ℕ) → s.is_reference name ≡ true → reading s (view_of T) name ≡ reading s (view_in means mid) name) (same_meaning old mid looked.same) each)

    pub looked_leaves : Leaves (means (files_of old)) (means (files_of mid)) (EachReadsAsItDid honest means faults old)
    looked_leaves = weaken (looked.leaves h)
        (λ T same name is. ap (λ (U : Tree). reading (meaning_of old) (view_of U) name) same)

    pub looked_loses : IsAtRest means old → Loses (means (files_of old)) (means (files_of mid)) (EachReadsAsItDid honest means faults old)
    looked_loses rests = losses (EachReadsAsItDid honest means faults old)
        (λ D same T lost name is. lost_reading (meaning_of old) (laws old) (disk_in means old) T rests.0 (subst (λ (E : Disk). Lost E T) same lost) name is)
        (looked.passes h)

    pub rests_on : IsAtRest means old → IsAtRest means mid
    rests_on rests =
        subst (λ (d : Dirs). IsAllSettled (disk_in means mid) × AllStay (disk_in means mid) (roots (folders_of d mid.namespace))) (sym looked.same.dirs)
        (subst (λ (n : Option Namespace). IsAllSettled (disk_in means mid) × AllStay (disk_in means mid) (roots (folders_of old.dirs n))) (sym looked.same.namespace)
        (subst (λ (D : Disk). IsAllSettled D × AllStay D (roots (folders old))) (sym (looked.passes h).disk) rests))

  -- ---- how the planning ended

  module _ (is_all : Bool) (objects : Objects) (old mid new : Store F) (items : List (Result Reference ItemError)) (looked : LooksUp honest means old mid)
      (are : honest → AreItemsIn honest means faults old (faults (files_of old)) (faults (files_of mid)) [] (prefix_of_all old.namespace) items) (broken : List ItemError) where
    listed_only : (error : PackError) (more : List ItemError) → broken ++ more ≡ faults_among items → (error ≡ Memory) ⊎ (more ≡ []) → IsUnchosen honest means faults is_all (loose_among items) mid new error → PlanFails honest means faults is_all old new error broken
    listed_only error more same all why = inl (record { items = items; mid = mid; listed = record { looked = looked; items_are = are }; more = more; faults_are = same; all = all; why = why })

    -- there was no memory
    pub lacks_memory : (r : Result Plan PackError) (more : List ItemError) → IsErrAnd r (λ error. error ≡ Memory) → broken ++ more ≡ faults_among items → PlanComes honest means faults is_all objects old new r broken
    lacks_memory (Ok plan) more fails same = absurd fails
    lacks_memory (Err error) more fails same = subst (λ (e : PackError). PlanFails honest means faults is_all old new e broken) (sym fails) (listed_only Memory more same (inl refl) tt)

    -- it is not known which are chosen
    pub not_chosen : (r : Result Plan PackError) (error : PackError) (found : List Loose) → IsErrAnd r (λ e. e ≡ error) → broken ≡ faults_among items → found ≡ loose_among items → IsUnchosen honest means faults is_all found mid new error →
        PlanComes honest means faults is_all objects old new r broken
    not_chosen (Ok plan) error found fails same is why = absurd fails
    not_chosen (Err e) error found fails same is why = subst (λ (x : PackError). PlanFails honest means faults is_all old new x broken) (sym fails)
        (listed_only error [] (append-nil broken ∙ same) (inr refl) (subst (λ (ls : List Loose). IsUnchosen honest means faults is_all ls mid new error) is why))

  -- ---- the transaction

  -- where each edit keeps what its reference reads, each reference reads as before
  module _ (old : Store F) (edits : List RefEdit) (all : AllByRecursion (Keeps old) edits) where
    split_keeps : (split : List RefEdit) → SplitsGiven honest means faults old edits split → AllByRecursion (Keeps old) split
    split_keeps split splits =
        let asked = asked_keep (meaning_of old) (view_in means old) old.precompose_unicode edits splits.asked splits.composed all in
        subst (AllByRecursion (Keeps old)) (sym (splits.from.direct (direct_edits (meaning_of old) (view_in means old) old.precompose_unicode splits.asked asked))) asked

    pub reads_same : (T : Tree) → EachReadsOldOrNew honest means faults old edits T → EachReadsAsItDid honest means faults old T
    reads_same T (inl did) name is = did name is
    reads_same T (inr (split, splits, each)) name is =
        ⊎_elim (λ did. did) (λ say. say ∙ edited_same (meaning_of old) (view_in means old) old.precompose_unicode (laws old) split (split_keeps split splits) name is) (each name is)

  module _ (read : FileError → Type 0) (prune : Bool) (plan : Plan) (old new : Store F) (left : List Path) (h : honest) (good : HasGoodRecords means old) where
    abbrev edits : List RefEdit
    edits = plan.edits.items

    abbrev claims : Type 0
    claims = OfFinder claims-value.it (uses_of prune plan.objects)

    put_leaves : (result : Result ℕ PackError) → PutEnds honest means faults read prune plan old new result left → Leaves (means (files_of old)) (means (files_of new)) (EachReadsOldOrNew honest means faults old edits)
    put_leaves (Ok count) (len, (done, left_is, made)) =
        made_stops honest means faults claims (ends_of meaning-value.it (uses_of prune plan.objects)) (mode_in (uses_of prune plan.objects)) old made.commits.mid new edits None made.commits.packed made.commits.held (paths_of done.locks_left.items)
        made.commits.prepared made.commits.stops h good
    put_leaves (Err (Prepare error)) (refused, is, left_is, (from, back)) =
        refused_stops honest means faults (mode_in (uses_of prune plan.objects)) old new edits from.refuses.tried (from.refuses.leaves h)
    put_leaves (Err (Commit error)) (failed, is, left_is, (from, back)) =
        made_stops honest means faults claims (ends_of meaning-value.it (uses_of prune plan.objects)) (mode_in (uses_of prune plan.objects)) old from.mid new edits None from.packed from.held (paths_of failed.locks_left.items)
        from.prepared from.stops h good
    put_leaves (Err Memory) ends = absurd ends
    put_leaves (Err (Open error)) ends = absurd ends
    put_leaves (Err (Find error)) ends = absurd ends

    put_loses : IsAtRest means old → (result : Result ℕ PackError) → PutEnds honest means faults read prune plan old new result left → Loses (means (files_of old)) (means (files_of new)) (EachReadsOldOrNew honest means faults old edits)
    put_loses rests (Ok count) (len, (done, left_is, made)) =
        made_losses honest means faults claims (ends_of meaning-value.it (uses_of prune plan.objects)) (mode_in (uses_of prune plan.objects)) old made.commits.mid new edits None made.commits.packed made.commits.held (paths_of done.locks_left.items)
        made.commits.prepared made.commits.lost h good rests
    put_loses rests (Err (Prepare error)) (refused, is, left_is, (from, back)) =
        refused_losses honest means faults (mode_in (uses_of prune plan.objects)) old new edits from.refuses.tried rests (from.refuses.lost h)
    put_loses rests (Err (Commit error)) (failed, is, left_is, (from, back)) =
        made_losses honest means faults claims (ends_of meaning-value.it (uses_of prune plan.objects)) (mode_in (uses_of prune plan.objects)) old from.mid new edits None from.packed from.held (paths_of failed.locks_left.items)
        from.prepared from.lost h good rests
    put_loses rests (Err Memory) ends = absurd ends
    put_loses rests (Err (Open error)) ends = absurd ends
    put_loses rests (Err (Find error)) ends = absurd ends

  -- ---- the whole

  module _ (read : FileError → Type 0) (is_all prune : Bool) (objects : Objects) (old new : Store F) (packed : Packed) (h : honest) (good : HasGoodRecords means old) (composed : AreComposed (settings_of old) (view_in means old)) where
    pub packs_leave : Packs honest means faults read is_all prune objects old new packed → Leaves (means (files_of old)) (means (files_of new)) (EachReadsAsItDid honest means faults old)
    packs_leave (inr unplanned) = looked_leaves old new unplanned.looked h
    packs_leave (inl put) = by put.ends
      where
        keeps : AllByRecursion (Keeps put.mid) put.plan.edits.items
        keeps = keeps_on old put.mid put.planned.listed.looked h put.plan.edits.items (planned_keep h old good composed is_all objects put.mid put.plan packed.broken.items put.planned)

        by : PutComes honest means faults read prune put.plan put.mid new packed.result (paths_of packed.locks_left.items) → Leaves (means (files_of old)) (means (files_of new)) (EachReadsAsItDid honest means faults old)
        by (inl ends) = joins (looked_leaves old put.mid put.planned.listed.looked h)
            (weaken (put_leaves read prune put.plan put.mid new (paths_of packed.locks_left.items) h (good_on old put.mid put.planned.listed.looked h good) packed.result ends)
            (λ T each. reads_back old put.mid put.planned.listed.looked h T (reads_same put.mid put.plan.edits.items keeps T each)))
        by (inr none) = subst (λ (s : Store F). Leaves (means (files_of old)) (means (files_of s)) (EachReadsAsItDid honest means faults old)) (sym none.2) (looked_leaves old put.mid put.planned.listed.looked h)

    pub packs_lose : IsAtRest means old → Packs honest means faults read is_all prune objects old new packed → Loses (means (files_of old)) (means (files_of new)) (EachReadsAsItDid honest means faults old)
    packs_lose rests (inr unplanned) = looked_loses old new unplanned.looked h rests
    packs_lose rests (inl put) = by put.ends
      where
        keeps : AllByRecursion (Keeps put.mid) put.plan.edits.items
        keeps = keeps_on old put.mid put.planned.listed.looked h put.plan.edits.items (planned_keep h old good composed is_all objects put.mid put.plan packed.broken.items put.planned)

        by : PutComes honest means faults read prune put.plan put.mid new packed.result (paths_of packed.locks_left.items) → Loses (means (files_of old)) (means (files_of new)) (EachReadsAsItDid honest means faults old)
        by (inl ends) = loses_joins (looked_loses old put.mid put.planned.listed.looked h rests)
            (loses_weaken (put_loses read prune put.plan put.mid new (paths_of packed.locks_left.items) h (good_on old put.mid put.planned.listed.looked h good) (rests_on old put.mid put.planned.listed.looked h rests) packed.result ends)
            (λ T each. reads_back old put.mid put.planned.listed.looked h T (reads_same put.mid put.plan.edits.items keeps T each)))
        by (inr none) = subst (λ (s : Store F). Loses (means (files_of old)) (means (files_of s)) (EachReadsAsItDid honest means faults old)) (sym none.2) (looked_loses old put.mid put.planned.listed.looked h rests)

    pub packs_stop : Packs honest means faults read is_all prune objects old new packed → ((T : Tree) → left_since (means (files_of old)) (means (files_of old)).moment T → T ≡ tree_of means old) →
        StopsLeave (means (files_of old)) (means (files_of new)) (EachReadsAsItDid honest means faults old)
    packs_stop packs only = stops_leave (packs_leave packs) (λ name is. refl) only

    pub packs_are_lost : IsAtRest means old → Packs honest means faults read is_all prune objects old new packed → ((D : Disk) → (means (files_of old)).found_since (means (files_of old)).moment D → D ≡ disk_in means old) →
        LossesLeave (means (files_of old)) (means (files_of new)) (EachReadsAsItDid honest means faults old)
    packs_are_lost rests packs only = losses_leave (packs_lose rests packs) (λ T lost name is. lost_reading (meaning_of old) (laws old) (disk_in means old) T rests.0 lost name is) only
