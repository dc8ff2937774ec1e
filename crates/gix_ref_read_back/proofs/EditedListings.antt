-- The items of a listing, by what each reference reads as edited.
use Rattle.std.proofs.Common.{◌≡◌, ◌⊎◌, inl, inr, ℕ, Bool, true, false, List, [], ◌∷◌, ◌++◌, refl, sym, ◌∙◌, ap, subst, Option, Some, None, Result, Ok, Err, IfOk, codes, append-nil, append_assoc}
use Rattle.gix_ref_files.proofs.Meeting.{no_fewer_joins}
use Rattle.std.specs.declared.alloc.Global.{Global}
use Rattle.std.specs.Prelude.{Vec, ◌&&◌, is_none, is_some, option_to_list}
use Rattle.std.specs.Iterator.{Yields}
use Rattle.std.specs.List.{AllByRecursion}
use Rattle.gix_ref_name.specs.NameGrammar.{IsPartialName}
use Rattle.gix_ref_hash.specs.Bytes.{BeginsWith}
use Rattle.gix_ref_target.specs.Locations.{is_safe}
use Rattle.gix_ref_target.specs.PackedRecords.{Record}
use Rattle.gix_ref_target.proofs.LocationLemmas.{safe_is_tested}
use Rattle.gix_ref_files.specs.Files.{Meaning, FaultCounts, NoFewer}
use Rattle.gix_ref_files.specs.declared.files.ReadAt.{Ghosts}
use Rattle.gix_ref_files.specs.Tree.{Path, Tree}
use Rattle.gix_ref_files.proofs.Moments.{starts, passes_starts}
use Rattle.gix_ref_packed_text.specs.declared.raw.Reference.{Reference}
use Rattle.gix_ref_theory.specs.Edits.{Mode}
use Rattle.gix_ref_theory.specs.Lookups.{is_there}
use Rattle.gix_ref_theory.specs.OnRealTrees.{view_of}
use Rattle.gix_ref_theory.specs.Readings.{Store as Places, Reading, reading_among}
use Rattle.gix_ref_theory.specs.Views.{View}
use Rattle.gix_ref_edits.specs.declared.transaction.RefEdit.{RefEdit}
use Rattle.gix_ref_lookup.specs.Lookups.{meaning_in, Among}
use Rattle.gix_ref_lookup.specs.declared.settings.Settings.{Settings}
use Rattle.gix_ref_listing.specs.Items.{IsItem}
use Rattle.gix_ref_listing.specs.Listings.{Listed}
use Rattle.gix_ref_listing.specs.Listings.Listed.{Walked, InPacked}
use Rattle.gix_ref_listing.specs.WholeListings.{IsInStore, IsListing, IsNameItem, listed_key}
use Rattle.gix_ref_listing.specs.CleanPrefixes.{IsAcceptedPrefix, IsRefusedPrefix}
use Rattle.gix_ref_listing.specs.declared.error.Error.{Error}
use Rattle.gix_ref_listing.specs.declared.list.LooseNames.{LooseNames}
use Rattle.gix_ref_listing.specs.declared.prefix.Error.{Error as PrefixError}
use Rattle.gix_ref_listing.specs.declared.prefix.Error.TheVariants as no_list
use Rattle.gix_ref_listing.specs.declared.found.Found.TheVariants.{File, Unlisted}
use Rattle.gix_ref_listing.proofs.FolderWalks.{unchanged_on, untouched_on}
use Rattle.gix_ref_listing.proofs.Listing.{names_on}
use Rattle.gix_ref_store.specs.Listings.{AreFirst, IsNoListing, IsWalkedIn, IteratesListing, NextItem, count_in, store_listed, walked_prefix}
use Rattle.gix_ref_store.specs.Lookup.{AreRecordsIn, LooksUp, settings_of, view_in}
use Rattle.gix_ref_store.specs.Store.{files_of, folders, kind_of, meaning_of, IsSameStore}
use Rattle.gix_ref_store.specs.declared.file.iter.LooseThenPacked.{LooseThenPacked}
use Rattle.gix_ref_store.specs.declared.file.iter.Remaining.{Remaining}
use Rattle.gix_ref_store.specs.declared.file.store.Store.{Store}
use Rattle.gix_ref_store.proofs.Commits.{same_meaning}
use Rattle.gix_ref_store.proofs.FirstItems.{first_from, first_to}
use Rattle.gix_ref_store.proofs.ListingRuns.{same_settings}
use Rattle.gix_ref_store.proofs.SameStores.{same_on}
use Rattle.gix_ref_read_back.specs.ListedItems.{AreItemsIn, GivesAll, ListsAmong, ListsIn, TakesNext}
use Rattle.gix_ref_read_back.specs.ListedReadings.{AreComposed, AreItemsOf, IsReadingFault, IsItemOf, IsNoFolder, ListsReadings}
use Rattle.gix_ref_read_back.specs.WholeRuns.{ListsEdited, ListsNames, ReadsEdited, reads_after}
use Rattle.gix_ref_read_back.proofs.Committed.{packed_back, still_made, still_split}
use Rattle.gix_ref_read_back.proofs.ListedNames.{all_given, one_target, only_given}
use Rattle.gix_ref_read_back.proofs.PackedAgain.{computed}

-- ---- another reading of the same names

module _ (settings : Settings) (view : View) (composed : AreComposed settings view) (records : List Record) (prefix : List ℕ) (listed : List Listed) (is : IsListing settings view records prefix listed) where
  abbrev s : Places
  s = meaning_in settings

  abbrev found : List ℕ → Reading
  found name = reading_among s view records name

  in_prefix : (one : Listed) → IsNameItem one → IsInStore settings view records prefix one → IsPartialName (listed_key one) × BeginsWith (listed_key one) prefix
  in_prefix (Walked (key, File n path)) name (named, file) = (file.placed.valid, file.placed.begins)
  in_prefix (Walked (key, Unlisted path e)) name there = absurd name
  in_prefix (InPacked own) name (there, has) = (there.valid, there.begins)

  module _ (reads : List ℕ → Reading) (agree : (name : List ℕ) → IsPartialName name → BeginsWith name prefix → reads name ≡ found name) (names : AllByRecursion IsNameItem listed) where
    agree_at : (one : Listed) → IsNameItem one → IsInStore settings view records prefix one → reads (listed_key one) ≡ found (listed_key one)
    agree_at one name there = let within = in_prefix one name there in agree (listed_key one) within.0 within.1

    all_read : (ones : List Listed) → AllByRecursion IsNameItem ones → AllByRecursion (IsInStore settings view records prefix) ones → AllByRecursion (λ one. is_there (found (listed_key one)) ≡ true) ones →
        AllByRecursion (λ one. is_there (reads (listed_key one)) ≡ true) ones
    all_read [] names there read = tt
    all_read (one ∷ ones) names there read = (subst (λ r. is_there r ≡ true) (sym (agree_at one names.0 there.0)) read.0, all_read ones names.1 there.1 read.1)

    one_item : (before now : FaultCounts) (one : Listed) (item : Result Reference Error) → reads (listed_key one) ≡ found (listed_key one) → IsItemOf s found before now one item → IsItemOf s reads before now one item
    one_item before now one (Err e) same item = subst (λ r. IsReadingFault s before now (listed_key one) r e) (sym same) item
    one_item before now one (Ok r) same (name, target) = (name, subst (λ n. reads n ≡ found n) (sym name) same ∙ target)

    module _ {F : Type 0} (honest : Type 0) (h : honest) (means : F → Meaning) (faults : F → FaultCounts) (now : FaultCounts) where
      all_items : (items : List (Result Reference Error)) (before : FaultCounts) (ones : List Listed) → AllByRecursion IsNameItem ones → AllByRecursion (IsInStore settings view records prefix) ones →
          ((l : Listed) → Among (λ x. l ≡ x) ones → Among (λ x. l ≡ x) listed) → AreFirst honest means faults settings view before now ones [] items → AreItemsOf s reads before now ones items
      all_items [] before ones names_are there within first = subst (λ os. AreItemsOf s reads before now os []) (sym first.1) first.0
      all_items (item ∷ items) before ones names_are there within (mid, one, more, same, up, is_item, later) =
          let names' : AllByRecursion IsNameItem (one ∷ more) = subst (AllByRecursion IsNameItem) same names_are in
          let there' : AllByRecursion (IsInStore settings view records prefix) (one ∷ more) = subst (AllByRecursion (IsInStore settings view records prefix)) same there in
          let within' : (l : Listed) → Among (λ x. l ≡ x) (one ∷ more) → Among (λ x. l ≡ x) listed = λ l w. within l (subst (λ os. Among (λ x. l ≡ x) os) (sym same) w) in
          subst (λ os. AreItemsOf s reads before now os (item ∷ items)) (sym same) (
            mid,
            up,
            one_item before mid one item (agree_at one names'.0 there'.0) (one_target settings view composed records prefix listed is honest h names before mid one item names'.0 (within' one (inl refl)) there'.0 is_item),
            all_items items mid more names'.1 there'.1 (λ l w. within' l (inr w)) later,
          )

      pub lists_readings : (items : List (Result Reference Error)) (before : FaultCounts) → AreFirst honest means faults settings view before now listed [] items → ListsReadings s reads before now prefix items
      lists_readings items before first = record {
        listed = listed;
        ascending = is.ascending;
        all = λ name listable there.
            all_given settings view composed records prefix listed is name listable (subst (λ r. is_there r ≡ true) (agree name listable.valid listable.begins) there);
        only = all_read listed names is.only (only_given settings view composed records prefix listed is names);
        targets = all_items items before listed names is.only (λ l w. w) first;
      }

-- ---- items that are taken one after the other

-- one item more
yields_more : {S A : Type 0} (steps : S → Option A → S → Type 0) (s t u : S) (items : List A) (item : A) → Yields steps s items t → steps t (Some item) u → Yields steps s (items ++ item ∷ []) u
yields_more steps s t u [] item gave next = (u, subst (λ x. steps x (Some item) u) (sym gave) next, refl)
yields_more steps s t u (first ∷ items) item (mid, one, gave) next = (mid, one, yields_more steps mid t u items item gave next)

true_is_not : true ≡ false → ⊥
true_is_not h = cc

module _ {F : Type 0} (honest : Type 0) (means : F → Meaning) (faults : F → FaultCounts) where
  -- one look after another
  pub looks_on : (old mid new : Store F) → LooksUp honest means old mid → LooksUp honest means mid new → LooksUp honest means old new
  looks_on old mid new first second = record {
    leaves = λ h. unchanged_on (means (files_of old)) (means (files_of mid)) (means (files_of new)) (first.leaves h) (second.leaves h);
    passes = λ h. untouched_on (means (files_of old)) (means (files_of mid)) (means (files_of new)) (first.passes h) (second.passes h);
    same = same_on old mid new first.same second.same;
  }

  -- the items that an iterator gave so far, from its first state; the store is the same, with the same files
  pub record AreSoFar (first it : LooseThenPacked F Remaining) (items : List (Result Reference Error)) : Type 0 where
    pub gives : Yields (NextItem honest means faults) first items it
    pub same_reference : it.store.ghost_name ≡ first.store.ghost_name
    pub unchanged : LooksUp honest means (store_listed first) (store_listed it)

  pub begins : (it : LooseThenPacked F Remaining) → AreSoFar it it []
  begins it = record {
    gives = refl;
    same_reference = refl;
    unchanged = record {
      leaves = λ h. starts (means (files_of (store_listed it))) _ refl;
      passes = λ h. passes_starts (means (files_of (store_listed it))) _ refl;
      same = record { dirs = refl; namespace = refl; of_kind = refl; reflogs = refl; composes = refl; prohibits = refl; threshold = refl };
    };
  }

  module _ (first it next : LooseThenPacked F Remaining) (before after : List (Result Reference Error)) (more : Bool) (so_far : AreSoFar first it before) (takes : TakesNext honest means faults it next before after more) where
    follows : LooksUp honest means (store_listed first) (store_listed next)
    follows = looks_on (store_listed first) (store_listed it) (store_listed next) so_far.unchanged record { leaves = takes.gives.gives.leaves; passes = takes.gives.gives.passes; same = takes.gives.same_store }

    pub taken : more ≡ true → AreSoFar first next after
    taken is = go takes.item takes.gives takes.more_is takes.adds
      where
        go : (item : Option (Result Reference Error)) → NextItem honest means faults it item next → more ≡ is_some item → after ≡ before ++ option_to_list item → AreSoFar first next after
        go None gives told adds = absurd (true_is_not (sym is ∙ told))
        go (Some item) gives told adds = record {
          gives = subst (λ (items : List (Result Reference Error)). Yields (NextItem honest means faults) first items next) (sym adds) (yields_more (NextItem honest means faults) first it next before item so_far.gives gives);
          same_reference = gives.same_reference ∙ so_far.same_reference;
          unchanged = follows;
        }

    pub ended : more ≡ false → GivesAll honest means faults first next after
    ended is = go takes.item takes.gives takes.more_is takes.adds
      where
        go : (item : Option (Result Reference Error)) → NextItem honest means faults it item next → more ≡ is_some item → after ≡ before ++ option_to_list item → GivesAll honest means faults first next after
        go None gives told adds = record { last = it; gives = subst (λ (items : List (Result Reference Error)). Yields (NextItem honest means faults) first items it) (sym (adds ∙ append-nil before)) so_far.gives; ends = gives }
        go (Some item) gives told adds = absurd (true_is_not (sym told ∙ is))

  -- ---- the whole listing

  -- the count of faults does not fall while items are given
  rises : (settings : Settings) (view : View) (before now : FaultCounts) (listed rest : List Listed) (items : List (Result Reference Error)) → AreFirst honest means faults settings view before now listed rest items → NoFewer before now
  rises settings view before now listed rest [] first = first.0
  rises settings view before now listed rest (item ∷ items) (mid, one, more, same, up, is, later) = let on = rises settings view mid now more rest items later in no_fewer_joins up on

  -- the items of a listing whose iterator ended in the store `new`
  pub items_in : (start new : Store F) (records : List Record) (prefix : List ℕ) (it t : LooseThenPacked F Remaining) (items : List (Result Reference Error)) → IteratesListing honest means faults start records prefix it →
      GivesAll honest means faults it t items → store_listed t ≡ new → AreItemsIn honest means faults start (faults (files_of start)) (faults (files_of new)) records prefix items
  items_in start new records prefix it t items l all is =
      let first = l.runs items all.last all.gives in
      let last : NoFewer (count_in honest means faults all.last) (faults (files_of new)) = subst (λ (x : Store F). NoFewer (count_in honest means faults all.last) (faults (files_of x))) is all.ends.gives.rises in
      let given = rises (settings_of start) (view_in means start) (count_in honest means faults it) (count_in honest means faults all.last) l.listed first.rest items first.first in
      record {
        listed = l.listed;
        is = l.is;
        names = names_on (faults (files_of start)) (count_in honest means faults it) (faults (files_of new)) l.listed (no_fewer_joins given last) l.names;
        first = subst (λ rest. AreFirst honest means faults (settings_of start) (view_in means start) (faults (files_of start)) (faults (files_of new)) l.listed rest items) (first.ends t all.ends)
            (first_from honest means faults (settings_of start) (view_in means start) (faults (files_of start)) (count_in honest means faults it) (faults (files_of new)) l.listed first.rest items l.counts
            (first_to honest means faults (settings_of start) (view_in means start) (count_in honest means faults it) (count_in honest means faults all.last) (faults (files_of new)) l.listed first.rest items last first.first));
      }

  one_is_name : (settings : Settings) (view : View) (before now : FaultCounts) (one : Listed) (item : Result Reference Error) → IsItem honest settings view before now one item → IsNoFolder item → IsNameItem one
  one_is_name settings view before now (InPacked own) item is plain = tt
  one_is_name settings view before now (Walked (key, File n path)) item is plain = tt
  one_is_name settings view before now (Walked (key, Unlisted path source)) (Ok r) is plain = is
  one_is_name settings view before now (Walked (key, Unlisted path source)) (Err e) is plain = subst (λ (x : Error). IsNoFolder (Err x)) is plain

  -- where no item is a folder, each is a name
  all_names : (settings : Settings) (view : View) (items : List (Result Reference Error)) (before now : FaultCounts) (ones : List Listed) → AreFirst honest means faults settings view before now ones [] items →
      AllByRecursion IsNoFolder items → AllByRecursion IsNameItem ones
  all_names settings view [] before now ones first plain = subst (AllByRecursion IsNameItem) (sym first.1) tt
  all_names settings view (item ∷ items) before now ones (mid, one, more, same, up, is, later) plain =
      subst (AllByRecursion IsNameItem) (sym same) (one_is_name settings view before mid one item is plain.0, all_names settings view items mid now more later plain.1)

  -- a valid name below `refs/` may be that of a reference
  is_reference : (s : Store F) (name : List ℕ) → IsPartialName name → BeginsWith name (codes "refs/") → (meaning_of s).is_reference name ≡ true
  is_reference s name valid begins = ap (λ e. is_none e && is_safe name) valid ∙ safe_is_tested name (inl begins)

  begins_on : (name prefix front : List ℕ) → BeginsWith name prefix → BeginsWith prefix front → BeginsWith name front
  begins_on name prefix front (rest, is) (more, begins) = (more ++ rest, is ∙ (ap (λ p. p ++ rest) begins ∙ append_assoc front more rest))

  -- the items by what each reference reads as edited
  names_edited : (mode : Mode) (old mid new : Store F) (given : List RefEdit) (left : List Path) (made : ReadsEdited honest means faults mode old mid given left) → IsSameStore old mid → LooksUp honest means mid new → (prefix : List ℕ) (items : List (Result Reference Error)) →
      (honest → (records : List Record) → AreRecordsIn means mid records → AreItemsIn honest means faults mid (faults (files_of mid)) (faults (files_of new)) records prefix items) → ListsNames honest means faults old mid new made.split prefix items
  names_edited mode old mid new given left made same looks prefix items are h good below composed no_folder =
      let again = made.good h good in
      let before = faults (files_of mid) in
      let now = faults (files_of new) in
      let all = are h again.0 again.1 in
      let back = packed_back honest means faults old mid same again.0 again.1 in
      let same_records = computed (folders old) (kind_of old) old.prohibit_windows_device_names (view_in means mid (meaning_of old).packed_path) again.0 back in
      let all_composed : AreComposed (settings_of mid) (view_in means mid) =
      subst (λ (T : Tree). AreComposed (settings_of mid) (view_of T)) (looks.leaves h).tree
      (subst (λ (x : Settings). AreComposed x (view_in means new)) (same_settings old mid same) composed) in
      subst (λ (s : Places). ListsReadings s (reads_after honest means faults old made.split) before now prefix items) (same_meaning old mid same)
      (lists_readings (settings_of mid) (view_in means mid) all_composed again.0 prefix all.listed all.is (reads_after honest means faults old made.split)
      (λ name valid begins.
      sym (made.reads h good name (is_reference old name valid (begins_on name prefix (codes "refs/") begins below)))
      ∙ (ap (λ rs. reading_among (meaning_of old) (view_in means mid) rs name) same_records
      ∙ ap (λ s. reading_among s (view_in means mid) again.0 name) (sym (same_meaning old mid same))))
      (all_names (settings_of mid) (view_in means mid) items before now all.listed all.first no_folder) honest h means faults now items before all.first)

  -- and so as the result of a listing
  pub listed_edited : {R : Type 0} (G : Ghosts R) (mode : Mode) (old mid new : Store F) (given : List RefEdit) (left : List Path) → ReadsEdited honest means faults mode old mid given left → IsSameStore old mid → LooksUp honest means mid new → (prefix : List ℕ) →
      (r : Result (Vec (Result Reference Error) Global) PrefixError) → ListsIn honest means faults G mid new prefix r → ListsEdited honest means faults G mode old mid new given left prefix r
  listed_edited G mode old mid new given left made same looks prefix r listing = record {
    made = still_made honest means faults mode old mid new given left made same looks;
    listing = listing;
    changes = looks;
    lists = by r listing;
  }
    where
      by : (r : Result (Vec (Result Reference Error) Global) PrefixError) → ListsIn honest means faults G mid new prefix r →
          IfOk r (λ all. ListsNames honest means faults old mid new (still_made honest means faults mode old mid new given left made same looks).split prefix all.items)
      by (Ok all) listing =
          subst (λ (split : List RefEdit). ListsNames honest means faults old mid new split prefix all.items) (sym (still_split honest means faults mode old mid new given left made same looks))
          (names_edited mode old mid new given left made same looks prefix all.items listing.1)
      by (Err e) listing = tt

  -- a prefix without a listing
  pub no_listing : {R : Type 0} (G : Ghosts R) (start new : Store F) (prefix : List ℕ) (error : PrefixError) → (error ≡ no_list.Memory) ⊎ IsRefusedPrefix start.namespace prefix error → IsNoListing honest means faults G start new prefix error
  no_listing G start new prefix no_list.Memory why = tt
  no_listing G start new prefix no_list.EmptyPrefix (inl none) = cc
  no_listing G start new prefix no_list.EmptyPrefix (inr refused) = refused
  no_listing G start new prefix no_list.PrefixNotClean (inl none) = cc
  no_listing G start new prefix no_list.PrefixNotClean (inr refused) = refused
  no_listing G start new prefix (no_list.PackedOpen error) (inl none) = cc
  no_listing G start new prefix (no_list.PackedOpen error) (inr refused) = absurd refused

  -- a listing of the names that a walk found, among the records that were read after it
  pub listed_from : {R : Type 0} (G : Ghosts R) (start old new : Store F) (prefix : List ℕ) (names : LooseNames) (Are : List Record → Type 0) → IsAcceptedPrefix start.namespace prefix → walked_prefix names ≡ prefix →
      (honest → IsWalkedIn honest means faults start old names) → (honest → (records : List Record) → AreRecordsIn means start records → Are records) → (r : Result (Vec (Result Reference Error) Global) PrefixError) →
      ListsAmong honest means faults old new names Are r → ListsIn honest means faults G start new prefix r
  listed_from G start old new prefix names Are taken asked walked read (Ok all) among = (
    taken,
    λ h records are. subst (λ (p : List ℕ). AreItemsIn honest means faults start (faults (files_of start)) (faults (files_of new)) records p all.items) asked (among h start records (walked h) (read h records are)),
  )
  listed_from G start old new prefix names Are taken asked walked read (Err error) why = no_listing G start new prefix error (inl why)
