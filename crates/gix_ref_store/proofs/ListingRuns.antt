-- The runs of a listing of a store.
use Rattle.std.proofs.Common.{◌≡◌, inl, inr, ℕ, Bool, List, [], ◌∷◌, refl, sym, ◌∙◌, ap, subst, Option, Some, None, Result}
use Rattle.gix_ref_files.proofs.Meeting.{no_fewer_starts}
use Rattle.std.specs.Prelude.{IsSome}
use Rattle.std.specs.Iterator.{Yields}
use Rattle.std.specs.List.{AllByRecursion}
use Rattle.gix_ref_name.specs.declared.namespace.Namespace.{Namespace}
use Rattle.gix_ref_hash.specs.declared.hash.Kind.{Kind}
use Rattle.gix_ref_target.specs.PackedRecords.{Record}
use Rattle.gix_ref_files.specs.Files.{Meaning, FaultCounts, NoFewer}
use Rattle.gix_ref_theory.specs.OnRealTrees.{view_of}
use Rattle.gix_ref_theory.specs.Views.{View}
use Rattle.gix_ref_packed_text.specs.declared.raw.Reference.{Reference}
use Rattle.gix_ref_lookup.specs.declared.folders.Dirs.{Dirs}
use Rattle.gix_ref_lookup.specs.declared.settings.Settings.{Settings}
use Rattle.gix_ref_listing.specs.GoneFiles.{IsGivenItem}
use Rattle.gix_ref_listing.specs.Items.{IsItem}
use Rattle.gix_ref_listing.specs.Listings.{Listed}
use Rattle.gix_ref_listing.specs.Listings.Listed.{Walked, InPacked}
use Rattle.gix_ref_listing.specs.PseudoListings.{IsPseudoItem}
use Rattle.gix_ref_listing.specs.WholeListings.{IsInStore}
use Rattle.gix_ref_listing.specs.declared.found.Found.TheVariants.{File, Unlisted}
use Rattle.gix_ref_listing.specs.Steps.{AreYet, GivesItem}
use Rattle.gix_ref_listing.specs.declared.error.Error.{Error}
use Rattle.gix_ref_store.specs.Store as stores
use Rattle.gix_ref_store.specs.Lookup.{settings_of, view_in}
use Rattle.gix_ref_store.specs.Listings.{NextItem, AreFirst, GivesFirst, count_in}
use Rattle.gix_ref_store.specs.declared.file.store.Store.{Store}
use Rattle.gix_ref_store.specs.declared.file.iter.LooseThenPacked.{LooseThenPacked}
use Rattle.gix_ref_store.specs.declared.file.iter.Remaining.{Remaining}
use Rattle.gix_ref_listing.specs.PlainSettings.{lent}

abbrev made : Dirs → Option Namespace → Kind → (prohibits composes : Bool) → Settings
made dirs namespace kind prohibits composes = record { dirs = lent dirs; namespace = lent namespace; kind = kind; prohibit_windows_device_names = prohibits; precompose_unicode = composes }

-- the same store has the same settings
pub same_settings : {F : Type 0} (old new : Store F) → stores.IsSameStore old new → settings_of old ≡ settings_of new
same_settings old new same =
    ap (λ d. made d old.namespace old.object_hash old.prohibit_windows_device_names old.precompose_unicode) (sym same.dirs)
    ∙ (ap (λ n. made new.dirs n old.object_hash old.prohibit_windows_device_names old.precompose_unicode) (sym same.namespace)
    ∙ (ap (λ k. made new.dirs new.namespace k old.prohibit_windows_device_names old.precompose_unicode) (sym same.of_kind)
    ∙ (ap (λ p. made new.dirs new.namespace new.object_hash p old.precompose_unicode) (sym same.prohibits)
    ∙ ap (λ c. made new.dirs new.namespace new.object_hash new.prohibit_windows_device_names c) (sym same.composes))))

-- a file that was found is there
abbrev pub HasItsFile : View → Listed → Type 0
HasItsFile view (Walked (key, File name path)) = IsSome (view path.items)
HasItsFile view (Walked (key, Unlisted path error)) = Unit {0}
HasItsFile view (InPacked own) = Unit {0}

-- so it is of a listing
in_store_there : (settings : Settings) (view : View) (records : List Record) (prefix : List ℕ) (one : Listed) → IsInStore settings view records prefix one → HasItsFile view one
in_store_there settings view records prefix (Walked (key, File name path)) is = is.1.there
in_store_there settings view records prefix (Walked (key, Unlisted path error)) is = tt
in_store_there settings view records prefix (InPacked own) is = tt

pub all_there : (settings : Settings) (view : View) (records : List Record) (prefix : List ℕ) (listed : List Listed) → AllByRecursion (IsInStore settings view records prefix) listed → AllByRecursion (HasItsFile view) listed
all_there settings view records prefix [] all = tt
all_there settings view records prefix (one ∷ more) all = (in_store_there settings view records prefix one all.0, all_there settings view records prefix more all.1)

-- and of a listing of pseudo references
pseudo_there : (settings : Settings) (view : View) (one : Listed) → IsPseudoItem settings view one → HasItsFile view one
pseudo_there settings view (Walked (key, File name path)) is = is.1.file.there
pseudo_there settings view (Walked (key, Unlisted path error)) is = tt
pseudo_there settings view (InPacked own) is = absurd is

pub all_pseudo_there : (settings : Settings) (view : View) (listed : List Listed) → AllByRecursion (IsPseudoItem settings view) listed → AllByRecursion (HasItsFile view) listed
all_pseudo_there settings view [] all = tt
all_pseudo_there settings view (one ∷ more) all = (pseudo_there settings view one all.0, all_pseudo_there settings view more all.1)

none_there : IsSome {T = List ℕ} None → ⊥
none_there h = cc

-- a file that is there is not gone in files that keep their meaning
of_given : (honest : Type 0) (settings : Settings) (view : View) (before now : FaultCounts) → honest → (one : Listed) (item : Result Reference Error) → HasItsFile view one → IsGivenItem honest settings view before now one item → IsItem honest settings view before now one item
of_given honest settings view before now h (Walked (key, File name path)) item there (inl found) = found
of_given honest settings view before now h (Walked (key, File name path)) item there (inr gone) = absurd (none_there (subst (λ (f : Option (List ℕ)). IsSome f) (gone.0 h) there))
of_given honest settings view before now h (Walked (key, Unlisted path error)) item there (inl found) = found
of_given honest settings view before now h (Walked (key, Unlisted path error)) item there (inr gone) = absurd gone
of_given honest settings view before now h (InPacked own) item there given = given

module _ {F : Type 0} (honest : Type 0) (means : F → Meaning) (faults : F → FaultCounts) where
  -- what is yet to come of a listing, while the files of the store stay as they are
  record AreAhead (settings : Settings) (view : View) (s : LooseThenPacked F Remaining) (listed : List Listed) : Type 0 where
    of_settings : settings_of s.store.now ≡ settings
    of_view : view_in means s.store.now ≡ view
    yet : AreYet settings s.rest.merge listed
    files : AllByRecursion (HasItsFile view) listed

  step : (settings : Settings) (view : View) (s : LooseThenPacked F Remaining) (item : Option (Result Reference Error)) (t : LooseThenPacked F Remaining) (listed : List Listed) → honest →
      AreAhead settings view s listed → NextItem honest means faults s item t →
      GivesItem honest means faults settings (stores.files_of s.store.now) (stores.files_of t.store.now) listed item t.rest.merge
  step settings view s item t listed h ahead next =
      subst (λ (x : Settings). GivesItem honest means faults x (stores.files_of s.store.now) (stores.files_of t.store.now) listed item t.rest.merge) ahead.of_settings
      (next.gives.gives listed (subst (λ (x : Settings). AreYet x s.rest.merge listed) (sym ahead.of_settings) ahead.yet))

  after : (settings : Settings) (view : View) (s : LooseThenPacked F Remaining) (item : Option (Result Reference Error)) (t : LooseThenPacked F Remaining) (listed : List Listed) (one : Listed) (more : List Listed) → honest →
      AreAhead settings view s listed → NextItem honest means faults s item t → listed ≡ one ∷ more → AreYet settings t.rest.merge more → AreAhead settings view t more
  after settings view s item t listed one more h ahead next is yet = record {
    of_settings = sym (same_settings s.store.now t.store.now next.same_store) ∙ ahead.of_settings;
    of_view = ap view_of (next.gives.leaves h).tree ∙ ahead.of_view;
    yet = yet;
    files = (subst (AllByRecursion (HasItsFile view)) is ahead.files).1;
  }

  -- what calls of `next` give are the first of those that are yet to come
  gives_first : (settings : Settings) (view : View) (items : List (Result Reference Error)) (s t : LooseThenPacked F Remaining) (listed : List Listed) → honest →
      AreAhead settings view s listed → Yields (NextItem honest means faults) s items t →
      (rest : List Listed) × AreAhead settings view t rest × AreFirst honest means faults settings view (count_in honest means faults s) (count_in honest means faults t) listed rest items
  gives_first settings view [] s t listed h ahead y =
      (listed, subst (λ (x : LooseThenPacked F Remaining). AreAhead settings view x listed) y ahead, (subst (λ (x : LooseThenPacked F Remaining). NoFewer (count_in honest means faults s) (count_in honest means faults x)) y (no_fewer_starts (count_in honest means faults s)), refl))
  gives_first settings view (item ∷ items) s t listed h ahead (mid, next, y) =
      let first = step settings view s (Some item) mid listed h ahead next in
      let later = gives_first settings view items mid t first.1 h (after settings view s (Some item) mid listed first.0 first.1 h ahead next first.2 first.3) y in
      let there = (subst (AllByRecursion (HasItsFile view)) first.2 ahead.files).0 in (
        later.0,
        later.1,
        (
          count_in honest means faults mid,
          first.0,
          first.1,
          first.2,
          next.gives.rises,
          of_given honest settings view (count_in honest means faults s) (count_in honest means faults mid) h first.0 item there
              (subst (λ (v : View). IsGivenItem honest settings v (count_in honest means faults s) (count_in honest means faults mid) first.0 item) ahead.of_view first.4),
          later.2,
        ),
      )

  -- the items of each run are those that are yet to come
  pub each_run : (store : Store F) (s : LooseThenPacked F Remaining) (listed : List Listed) → honest → settings_of s.store.now ≡ settings_of store → view_in means s.store.now ≡ view_in means store →
      AreYet (settings_of store) s.rest.merge listed → AllByRecursion (HasItsFile (view_in means store)) listed → (items : List (Result Reference Error)) (t : LooseThenPacked F Remaining) → Yields (NextItem honest means faults) s items t →
      GivesFirst honest means faults store listed s t items
  each_run store s listed h of_settings of_view yet files items t y =
      let settings = settings_of store in
      let view = view_in means store in
      let first = gives_first settings view items s t listed h record { of_settings = of_settings; of_view = of_view; yet = yet; files = files } y in
      record {
        rest = first.0;
        first = first.2;
        ends = λ u next. (step settings view t None u first.0 h first.1 next).0;
      }
