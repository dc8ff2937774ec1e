-- Names that are in one another's way, in a store that is only looked at.
use Rattle.std.proofs.Common.{◌≡◌, ◌⊎◌, ℕ, ◌+◌, ◌<◌, length, get_or, take, map, List, [], ◌∷◌, ◌++◌, Bool, true, false, codes, if◌then◌else◌, Option, Some, None, Result, Ok, Err, inl, inr, ap, sym, subst, refl, ◌∙◌}
use Rattle.std.specs.Prelude.{is_some, Decides, IfErr, IfOk, IsErrAnd, IfSome, MatchBool}
use Rattle.std.specs.List.{AllByRecursion, Contains}
use Rattle.gix_ref_edits.specs.RefEdits.{expected_of, matched, name_of}
use Rattle.gix_ref_edits.specs.declared.transaction.RefEdit.{RefEdit}
use Rattle.gix_ref_files.specs.Files.{Meaning, FaultCounts}
use Rattle.gix_ref_files.specs.Tree.{Tree}
use Rattle.gix_ref_files.specs.declared.files.ReadAt.{Ghosts}
use Rattle.gix_ref_files.proofs.Meeting.{no_fewer_starts}
use Rattle.gix_ref_listing.specs.CleanPrefixes.{IsRefusedPrefix}
use Rattle.gix_ref_listing.specs.Listings.{Listed}
use Rattle.gix_ref_listing.specs.WholeListings.{IsListing, IsNameOrMet}
use Rattle.gix_ref_listing.specs.declared.error.Error.{Error as ItemError}
use Rattle.gix_ref_listing.specs.declared.prefix.Error.{Error as ListError}
use Rattle.gix_ref_listing.specs.declared.prefix.Error.TheVariants as lists
use Rattle.gix_ref_lookup.specs.declared.find.error.Error.{Error as FindError}
use Rattle.gix_ref_lookup.specs.declared.settings.Settings.{Settings}
use Rattle.gix_ref_name.specs.Names.{full_bytes}
use Rattle.gix_ref_name.specs.declared.name.FullName.{FullName}
use Rattle.gix_ref_packed.specs.OpenFiles.{CountsRefusal}
use Rattle.gix_ref_packed.specs.declared.packed.buffer.open.Error.{Error as OpenError}
use Rattle.gix_ref_packed_text.specs.declared.raw.Reference.{Reference}
use Rattle.gix_ref_queries.specs.Resolving.{TargetsByName, IsUnreadBy, targets_in, resolved}
use Rattle.gix_ref_queries.proofs.Names.{same_finds, same_records, same_settings, unfollowed_before, unread_before}
use Rattle.gix_ref_store.specs.Listings.{IsNoListing, IteratesListing, NextItem, store_listed}
use Rattle.gix_ref_store.specs.Lookup.{LooksUp, RefusesBuffer, settings_of, view_in}
use Rattle.gix_ref_store.specs.Store.{files_of}
use Rattle.gix_ref_store.specs.declared.file.iter.LooseThenPacked.{LooseThenPacked}
use Rattle.gix_ref_store.specs.declared.file.iter.Remaining.{Remaining}
use Rattle.gix_ref_store.specs.declared.file.store.Store.{Store}
use Rattle.gix_ref_target.specs.PackedRecords.{Record}
use Rattle.gix_ref_target.specs.Targets.{TargetValue}
use Rattle.gix_ref_theory.specs.OnRealTrees.{view_of}
use Rattle.gix_ref_session.specs.Clashes.{HasFreeFolders, IsClash, IsClashFailure, IsClearEdit, IsClearName, IsEditFailure, IsEditUnread, IsFailedLook, IsFindFailure, IsFolderAt, IsFolderUnread, IsHeadUnread, IsInTheWay, IsListFailure, IsLookFailure, IsNameFailure, IsNotListed, IsOwnUnread, IsTaken, IsTakenAt, IsUnlisted, ListsNone, ListsOne, Makes, front_below, made_name, missing_last, missing_own}
use Rattle.gix_ref_session.specs.declared.fatal.Fatal.{Fatal}
use Rattle.gix_ref_session.specs.declared.fatal.Fatal.TheVariants as fatals
use Rattle.gix_ref_session.proofs.FolderLemmas.{taken_here}
use Rattle.gix_ref_session.proofs.LeadLemmas.{next_one}
use Rattle.gix_ref_session.proofs.Looking.{looks_on, looks_same}
use Rattle.gix_ref_session.proofs.SeenClashes.{clash_before as seen_before}

pub own_there : (name : List ℕ) (read : Option TargetValue) → is_some read ≡ true → missing_own name read ≡ None
own_there name None there = cc
own_there name (Some target) there = refl

pub own_missing : (name : List ℕ) (read : Option TargetValue) → is_some read ≡ false → missing_own name read ≡ Some name
own_missing name None missing = refl
own_missing name (Some target) missing = cc

-- The name that an edit makes.
module _ (find : TargetsByName) (edit : RefEdit) where
  pub makes_none : is_some (matched (expected_of edit.change)) ≡ true → made_name find edit ≡ None
  makes_none expects = ap (λ (b : Bool). if b then None else if edit.deref then missing_last (resolved find 5 (name_of edit)) else missing_own (name_of edit) (find (name_of edit))) expects

  may_make : is_some (matched (expected_of edit.change)) ≡ false → made_name find edit ≡ (if edit.deref then missing_last (resolved find 5 (name_of edit)) else missing_own (name_of edit) (find (name_of edit)))
  may_make not = ap (λ (b : Bool). if b then None else if edit.deref then missing_last (resolved find 5 (name_of edit)) else missing_own (name_of edit) (find (name_of edit))) not

  pub makes_last : is_some (matched (expected_of edit.change)) ≡ false → edit.deref ≡ true → made_name find edit ≡ missing_last (resolved find 5 (name_of edit))
  makes_last not follows = may_make not ∙ ap (λ (b : Bool). if b then missing_last (resolved find 5 (name_of edit)) else missing_own (name_of edit) (find (name_of edit))) follows

  makes_own : is_some (matched (expected_of edit.change)) ≡ false → edit.deref ≡ false → made_name find edit ≡ missing_own (name_of edit) (find (name_of edit))
  makes_own not direct = may_make not ∙ ap (λ (b : Bool). if b then missing_last (resolved find 5 (name_of edit)) else missing_own (name_of edit) (find (name_of edit))) direct

  pub makes_not : is_some (matched (expected_of edit.change)) ≡ false → edit.deref ≡ false → is_some (find (name_of edit)) ≡ true → made_name find edit ≡ None
  makes_not not direct there = makes_own not direct ∙ own_there (name_of edit) (find (name_of edit)) there

  pub makes_itself : is_some (matched (expected_of edit.change)) ≡ false → edit.deref ≡ false → is_some (find (name_of edit)) ≡ false → made_name find edit ≡ Some (name_of edit)
  makes_itself not direct missing = makes_own not direct ∙ own_missing (name_of edit) (find (name_of edit)) missing

-- a look failed, for other reasons
pub failed_map : {Unread Unread' : FindError → Type 0} {Unlisted Unlisted' : ListError → Type 0} {Clashes Clashes' : FullName → Type 0} → ((e : FindError) → Unread e → Unread' e) → ((e : ListError) → Unlisted e → Unlisted' e) → ((n : FullName) → Clashes n → Clashes' n) →
    (fatal : Fatal) → IsFailedLook Unread Unlisted Clashes fatal → IsFailedLook Unread' Unlisted' Clashes' fatal
failed_map unread unlisted clashes fatals.Memory why = tt
failed_map unread unlisted clashes (fatals.Find e) why = unread e why
failed_map unread unlisted clashes (fatals.List e) why = unlisted e why
failed_map unread unlisted clashes (fatals.Clash n) why = clashes n why
failed_map unread unlisted clashes (fatals.Read e) why = why
failed_map unread unlisted clashes (fatals.Write e) why = why
failed_map unread unlisted clashes fatals.Folder why = why
failed_map unread unlisted clashes (fatals.Malformed t) why = why
failed_map unread unlisted clashes (fatals.Name e) why = why
failed_map unread unlisted clashes fatals.Closed why = why
failed_map unread unlisted clashes fatals.Restarted why = why
failed_map unread unlisted clashes fatals.Prepared why = why
failed_map unread unlisted clashes fatals.Deref why = why
failed_map unread unlisted clashes (fatals.Update e) why = why
failed_map unread unlisted clashes (fatals.Switched n) why = why

-- a lookup failed, for another reason
pub find_map : {A B : FindError → Type 0} → ((error : FindError) → A error → B error) → (fatal : Fatal) → IsFindFailure A fatal → IsFindFailure B fatal
find_map so fatal why = failed_map so (λ error never. never) (λ name never. never) fatal why

-- the error is handed on
pub told : {T E : Type 0} (r : Result T E) (e : E) (P : E → Type 0) → IsErrAnd r (λ f. f ≡ e) → P e → IfErr r P
told (Ok v) e P same is = absurd same
told (Err f) e P same is = subst P (sym same) is

pub err_map : {T E : Type 0} (r : Result T E) (P Q : E → Type 0) → IfErr r P → ((e : E) → P e → Q e) → IfErr r Q
err_map (Ok v) P Q is leads = tt
err_map (Err e) P Q is leads = leads e is

pub holds : (P : Type 0) → P → Decides true P
holds P is = (λ _. is, λ _. refl)

pub fails : (P : Type 0) → (P → ⊥) → Decides false P
fails P not = (λ is. no_true is, λ is. absurd (not is))
  where
    no_true : false ≡ true → P
    no_true is = cc

pub not_when : (b : Bool) (P : Type 0) → Decides b P → b ≡ false → P → ⊥
not_when b P d differs is = both (d.1 is) differs
  where
    both : b ≡ true → b ≡ false → ⊥
    both same other = cc

-- whether a name is taken of which there is no edit
pub taken_by : (find : TargetsByName) (edits : List RefEdit) (name : List ℕ) (r : Result Bool Fatal) → (Contains (map name_of edits) name → ⊥) → IfOk r (λ there. there ≡ is_some (find name)) → IfOk r (λ taken. Decides taken (IsTaken find edits name))
taken_by find edits name (Err fatal) not is = tt
taken_by find edits name (Ok b) not is = (
  λ yes. inl (sym is ∙ yes),
  λ taken. elim taken [
    | inl there ↦ is ∙ there
    | inr edited ↦ absurd (not edited)
  ],
)

-- whether the folder that ends at a place is taken
pub folder_by : (find : TargetsByName) (edits : List RefEdit) (name : List ℕ) (at : ℕ) (f : List ℕ) (r : Result Bool Fatal) → IsFolderAt at f name → IfOk r (λ taken. Decides taken (IsTaken find edits f)) → IfOk r (λ taken. Decides taken (IsTakenAt find edits at name))
folder_by find edits name at f (Err fatal) is taken = tt
folder_by find edits name at f (Ok b) is taken = taken_here find edits name at f b is taken

-- one element more
pub all_more : {X : Type 0} (P : X → Type 0) (xs : List X) (x : X) → AllByRecursion P xs → P x → AllByRecursion P (xs ++ x ∷ [])
all_more P [] x all is = (is, tt)
all_more P (y ∷ xs) x (first, all) is = (first, all_more P xs x all is)

pub all_taken : (P : RefEdit → Type 0) (edits : List RefEdit) (k : ℕ) (e : RefEdit) → k < length edits → AllByRecursion P (take k edits) → e ≡ get_or edits k e → P e → AllByRecursion P (take (k + 1) edits)
all_taken P edits k e lt all here is =
    subst (λ (es : List RefEdit). AllByRecursion P es) (sym (next_one edits k e lt))
    (all_more P (take k edits) (get_or edits k e) all (subst P here is))

module _ {F : Type 0} (honest : Type 0) (means : F → Meaning) (faults : F → FaultCounts) where
  -- whether the first call of a listing gives an item
  pub lists_by : (start : Store F) (records : List Record) (prefix : List ℕ) (it t : LooseThenPacked F Remaining) (item : Option (Result Reference ItemError)) → LooksUp honest means start (store_listed it) → IteratesListing honest means faults start records prefix it →
      NextItem honest means faults it item t → MatchBool (is_some item) (ListsOne honest means faults start records prefix) (ListsNone honest means start records prefix)
  lists_by start records prefix it t None looks l next =
      let run = l.runs [] it refl in
      subst (λ (listed : List Listed). IsListing (settings_of start) (view_in means start) records prefix listed) (run.first.1 ∙ run.ends t next) l.is
  lists_by start records prefix it t (Some item) looks l next =
      let first = (l.runs (item ∷ []) t (t, next, refl)).first in
      record {
        first = first.1;
        more = first.2;
        is = subst (λ (listed : List Listed). IsListing (settings_of start) (view_in means start) records prefix listed) first.3 l.is;
        before = start;
        now = store_listed it;
        looked = looks_same honest means start;
        looks = looks;
        met = (subst (λ (listed : List Listed). AllByRecursion (IsNameOrMet (faults (files_of start)) (faults (files_of (store_listed it)))) listed) first.3 l.names).0;
      }

  module _ {R : Type 0} (G : Ghosts R) where
    no_walk : (store : Store F) (prefix : List ℕ) (error : ListError) → (error ≡ lists.Memory) ⊎ IsRefusedPrefix store.namespace prefix error → IsNoListing honest means faults G store store prefix error
    no_walk store prefix lists.Memory why = tt
    no_walk store prefix (lists.PackedOpen e) (inl is) = cc
    no_walk store prefix (lists.PackedOpen e) (inr never) = absurd never
    no_walk store prefix lists.EmptyPrefix (inl is) = cc
    no_walk store prefix lists.EmptyPrefix (inr why) = why
    no_walk store prefix lists.PrefixNotClean (inl is) = cc
    no_walk store prefix lists.PrefixNotClean (inr why) = why

    -- the walk of a listing failed, and the opening of `packed-refs` for it
    pub walk_failed : (store : Store F) (prefix : List ℕ) (error : ListError) → (error ≡ lists.Memory) ⊎ IsRefusedPrefix store.namespace prefix error → IsNotListed honest means faults G store prefix error
    walk_failed store prefix error why = record { mid = store; now = store; looked = looks_same honest means store; none = no_walk store prefix error why }

    pub open_failed : (old mid now : Store F) (prefix : List ℕ) (error : OpenError) → LooksUp honest means old mid → (honest → RefusesBuffer means mid error) → (honest → CountsRefusal G.faults (faults (files_of mid)) (faults (files_of now)) error) →
        IsNotListed honest means faults G old prefix (lists.PackedOpen error)
    open_failed old mid now prefix error looked refused counts = record { mid = mid; now = now; looked = looked; none = λ h. (refused h, (faults (files_of mid), no_fewer_starts _, counts h)) }

-- What holds once a store was looked at held before.
module _ {F : Type 0} (honest : Type 0) (means : F → Meaning) (old mid : Store F) (looked : LooksUp honest means old mid) where
  lists_before : (records : List Record) (prefix : List ℕ) (listed : List Listed) → honest → IsListing (settings_of mid) (view_in means mid) records prefix listed → IsListing (settings_of old) (view_in means old) records prefix listed
  lists_before records prefix listed h is =
      subst (λ (s : Settings). IsListing s (view_in means old) records prefix listed) (same_settings old mid looked.same)
      (subst (λ (T : Tree). IsListing (settings_of mid) (view_of T) records prefix listed) (looked.leaves h).tree is)

  pub makes_before : (edit : RefEdit) (name : List ℕ) → Makes honest means mid edit name → Makes honest means old edit name
  makes_before edit name makes h records are =
      ap (λ (find : TargetsByName). made_name find edit) (sym (same_finds honest means old mid records looked h)) ∙ makes h records (same_records honest means old mid records looked h are)

  pub taken_before : (records : List Record) (edits : List RefEdit) (name : List ℕ) → honest → IsTaken (targets_in means mid records) edits name → IsTaken (targets_in means old records) edits name
  taken_before records edits name h taken = subst (λ (find : TargetsByName). IsTaken find edits name) (same_finds honest means old mid records looked h) taken

  pub taken_after : (records : List Record) (edits : List RefEdit) (name : List ℕ) → honest → IsTaken (targets_in means old records) edits name → IsTaken (targets_in means mid records) edits name
  taken_after records edits name h taken = subst (λ (find : TargetsByName). IsTaken find edits name) (sym (same_finds honest means old mid records looked h)) taken

  -- folders that are free are so after a look
  pub free_after : (records : List Record) (edits : List RefEdit) (name : List ℕ) → honest → HasFreeFolders (targets_in means old records) edits name → HasFreeFolders (targets_in means mid records) edits name
  free_after records edits name h free folder of taken = free folder of (taken_before records edits folder h taken)

  pub free_before : (records : List Record) (edits : List RefEdit) (name : List ℕ) → honest → HasFreeFolders (targets_in means mid records) edits name → HasFreeFolders (targets_in means old records) edits name
  free_before records edits name h free folder of taken = free folder of (taken_after records edits folder h taken)

  pub clear_before : (records : List Record) (edits : List RefEdit) (name : List ℕ) → honest → IsClearName (targets_in means mid records) edits (ListsNone honest means mid records) name → IsClearName (targets_in means old records) edits (ListsNone honest means old records) name
  clear_before records edits name h clear = record {
    folders = free_before records edits name h clear.folders;
    below = lists_before records (front_below name) [] h clear.below;
  }

  pub clear_edit_before : (records : List Record) (edits : List RefEdit) (edit : RefEdit) → honest → IsClearEdit (targets_in means mid records) edits (ListsNone honest means mid records) edit → IsClearEdit (targets_in means old records) edits (ListsNone honest means old records) edit
  clear_edit_before records edits edit h clear =
      subst (λ (made : Option (List ℕ)). IfSome made (IsClearName (targets_in means old records) edits (ListsNone honest means old records))) (ap (λ (find : TargetsByName). made_name find edit) (same_finds honest means old mid records looked h))
      (each (made_name (targets_in means mid records) edit) clear)
    where
      each : (made : Option (List ℕ)) → IfSome made (IsClearName (targets_in means mid records) edits (ListsNone honest means mid records)) → IfSome made (IsClearName (targets_in means old records) edits (ListsNone honest means old records))
      each None is = tt
      each (Some name) is = clear_before records edits name h is

  module _ (faults : F → FaultCounts) where
    pub lists_one_before : (records : List Record) (prefix : List ℕ) → honest → ListsOne honest means faults mid records prefix → ListsOne honest means faults old records prefix
    lists_one_before records prefix h l = record {
      first = l.first;
      more = l.more;
      is = lists_before records prefix (l.first ∷ l.more) h l.is;
      before = l.before;
      now = l.now;
      looked = looks_on honest means old mid l.before looked l.looked;
      looks = l.looks;
      met = l.met;
    }

    pub way_before : (records : List Record) (edits : List RefEdit) (name : List ℕ) → honest → IsInTheWay honest means faults mid edits records name → IsInTheWay honest means faults old edits records name
    way_before records edits name h (inl (folder, of, taken)) = inl (folder, of, taken_before records edits folder h taken)
    way_before records edits name h (inr l) = inr (lists_one_before records (front_below name) h l)

    -- a name below which one is listed is in the way
    pub way_found : (records : List Record) (edits : List RefEdit) (name : List ℕ) (r : Result Bool Fatal) → honest →
        IfOk r (λ any. MatchBool any (ListsOne honest means faults mid records (front_below name)) (ListsNone honest means mid records (front_below name))) →
        IfOk r (λ clashes. clashes ≡ true → IsInTheWay honest means faults old edits records name)
    way_found records edits name (Ok true) h l = λ _. inr (lists_one_before records (front_below name) h l)
    way_found records edits name (Ok false) h l = λ is. no is
      where
        no : false ≡ true → IsInTheWay honest means faults old edits records name
        no is = cc
    way_found records edits name (Err fatal) h l = tt

    -- one below which none is listed is clear, where its folders are free
    pub clear_found : (records : List Record) (edits : List RefEdit) (name : List ℕ) (r : Result Bool Fatal) → honest → HasFreeFolders (targets_in means old records) edits name →
        IfOk r (λ any. MatchBool any (ListsOne honest means faults mid records (front_below name)) (ListsNone honest means mid records (front_below name))) →
        IfOk r (λ clashes. clashes ≡ false → IsClearName (targets_in means old records) edits (ListsNone honest means old records) name)
    clear_found records edits name (Ok true) h free l = λ is. no is
      where
        no : true ≡ false → IsClearName (targets_in means old records) edits (ListsNone honest means old records) name
        no is = cc
    clear_found records edits name (Ok false) h free l = λ _. record { folders = free; below = lists_before records (front_below name) [] h l }
    clear_found records edits name (Err fatal) h free l = tt

    clash_before : (edits : List RefEdit) (name : List ℕ) (edit : RefEdit) → IsClash honest means faults mid edits name edit → IsClash honest means faults old edits name edit
    clash_before edits name edit clash = record {
      makes = makes_before edit name clash.makes;
      in_the_way = λ h records are. way_before records edits name h (clash.in_the_way h records (same_records honest means old mid records looked h are));
      seen = λ h. seen_before honest means faults old mid looked h edits edit name (clash.seen h);
    }

    module _ {R : Type 0} (G : Ghosts R) where
      pub unread_still : (name : List ℕ) (error : FindError) → IsUnreadBy G honest means faults mid name error → IsUnreadBy G honest means faults old name error
      unread_still name error u = unread_before G honest means faults old mid name error looked u

      pub folder_still : (name : List ℕ) (error : FindError) → IsFolderUnread honest means faults G mid name error → IsFolderUnread honest means faults G old name error
      folder_still name error (folder, of, u) = (folder, of, unread_still folder error u)

      pub own_still : (edit : RefEdit) (error : FindError) → IsOwnUnread honest means faults G mid edit error → IsOwnUnread honest means faults G old edit error
      own_still edit error (inl u) = inl (unread_still (name_of edit) error u)
      own_still edit error (inr (follows, u)) = inr (follows, unfollowed_before G honest means faults old mid (name_of edit) error looked u)

      edit_still : (edit : RefEdit) (error : FindError) → IsEditUnread honest means faults G mid error edit → IsEditUnread honest means faults G old error edit
      edit_still edit error (inl u) = inl (own_still edit error u)
      edit_still edit error (inr (name, makes, u)) = inr (name, makes_before edit name makes, folder_still name error u)

      not_listed_before : (prefix : List ℕ) (error : ListError) → IsNotListed honest means faults G mid prefix error → IsNotListed honest means faults G old prefix error
      not_listed_before prefix error n = record { mid = n.mid; now = n.now; looked = looks_on honest means old mid n.mid looked n.looked; none = n.none }

      unlisted_before : (error : ListError) (edit : RefEdit) → IsUnlisted honest means faults G mid error edit → IsUnlisted honest means faults G old error edit
      unlisted_before error edit u = record { name = u.name; makes = makes_before edit u.name u.makes; fails = not_listed_before (front_below u.name) error u.fails }

      -- what is below a name was not listed
      pub list_name_before : (name : List ℕ) (fatal : Fatal) → IsListFailure honest means faults G mid (front_below name) fatal → IsNameFailure honest means faults G old name fatal
      list_name_before name fatal why = failed_map (λ error never. absurd never) (not_listed_before (front_below name)) (λ n never. never) fatal why

      -- a look failed for a name that an edit makes
      pub name_edit_before : (edits : List RefEdit) (edit : RefEdit) (name : List ℕ) (fatal : Fatal) → Makes honest means old edit name → IsNameFailure honest means faults G mid name fatal → IsEditFailure honest means faults G old edits edit fatal
      name_edit_before edits edit name fatal makes why =
          failed_map (λ error u. inr (name, makes, folder_still name error u)) (λ error not. record { name = name; makes = makes; fails = not_listed_before (front_below name) error not }) (λ n never. absurd never) fatal why

      -- one of the edits is refused
      pub edit_look_before : (edits : List RefEdit) (k : ℕ) (edit : RefEdit) (fatal : Fatal) → k < length edits → edit ≡ get_or edits k edit → IsEditFailure honest means faults G mid edits edit fatal → IsClashFailure honest means faults G old edits fatal
      edit_look_before edits k edit fatal lt here why =
          failed_map (λ error u. (k, edit, lt, sym here, edit_still edit error u)) (λ error not. (k, edit, lt, sym here, unlisted_before error edit not)) (λ n clash. (k, edit, lt, sym here, clash_before edits (full_bytes n) edit clash)) fatal why

      -- the lookup of `HEAD` failed, or one for an edit
      pub head_look_before : (writes : Bool) (edits : List RefEdit) (fatal : Fatal) → IsFindFailure (IsHeadUnread honest means faults G mid writes) fatal → IsLookFailure honest means faults G old writes edits fatal
      head_look_before writes edits fatal why = failed_map (λ error u. inl (u.0, unread_still (codes "HEAD") error u.1)) (λ error never. absurd never) (λ n never. absurd never) fatal why

      pub own_look_before : (writes : Bool) (edits : List RefEdit) (k : ℕ) (edit : RefEdit) (fatal : Fatal) → k < length edits → edit ≡ get_or edits k edit → IsFindFailure (IsOwnUnread honest means faults G mid edit) fatal → IsLookFailure honest means faults G old writes edits fatal
      own_look_before writes edits k edit fatal lt here why = failed_map (λ error u. inr (k, edit, lt, sym here, inl (own_still edit error u))) (λ error never. absurd never) (λ n never. absurd never) fatal why

-- Why a look failed.
module _ {F R : Type 0} (G : Ghosts R) (honest : Type 0) (means : F → Meaning) (faults : F → FaultCounts) (store : Store F) where
  -- one of the edits was refused
  pub clash_look : (writes : Bool) (edits : List RefEdit) (fatal : Fatal) → IsClashFailure honest means faults G store edits fatal → IsLookFailure honest means faults G store writes edits fatal
  clash_look writes edits fatal why = failed_map (λ error u. inr u) (λ error not. not) (λ n clash. clash) fatal why

  -- a lookup for the name of an edit failed
  pub own_edit : (edits : List RefEdit) (edit : RefEdit) (fatal : Fatal) → IsFindFailure (IsOwnUnread honest means faults G store edit) fatal → IsEditFailure honest means faults G store edits edit fatal
  own_edit edits edit fatal why = failed_map (λ error u. inl u) (λ error never. absurd never) (λ n never. absurd never) fatal why

  -- and that of a folder
  pub folder_name : (name at : List ℕ) (fatal : Fatal) → at ≡ name → IsFindFailure (IsFolderUnread honest means faults G store at) fatal → IsNameFailure honest means faults G store name fatal
  folder_name name at fatal same why = failed_map (λ error u. subst (λ (n : List ℕ). IsFolderUnread honest means faults G store n error) same u) (λ error never. absurd never) (λ n never. absurd never) fatal why

  -- the lookup of a name, which is this one
  pub unread_as : (name at : List ℕ) (error : FindError) → at ≡ name → IsUnreadBy G honest means faults store at error → IsUnreadBy G honest means faults store name error
  unread_as name at error same u = subst (λ (n : List ℕ). IsUnreadBy G honest means faults store n error) same u
