-- Lookups in a store after other lookups in it.
use Rattle.std.proofs.Common.{◌≡◌, inl, inr, ⊎_elim, ℕ, Bool, true, ◌&&◌, List, [], ◌∷◌, None, sym, ◌∙◌, ap, subst}
use Rattle.std.specs.List.{AllByRecursion}
use Rattle.std.specs.Prelude.{option_to_list}
use Rattle.gix_ref_target.specs.PackedRecords.{Record}
use Rattle.gix_ref_name.specs.Candidates.{candidates, remote_head}
use Rattle.gix_ref_name.specs.Names.{full_bytes}
use Rattle.gix_ref_packed_text.specs.Positions.{IsNotMalformed}
use Rattle.gix_ref_files.specs.Files.{Meaning, FaultCounts}
use Rattle.gix_ref_files.specs.Tree.{Tree}
use Rattle.gix_ref_files.specs.declared.files.ReadAt.{Ghosts}
use Rattle.gix_ref_files.proofs.Moments.{joins, weaken, passes_joins, passes_weaken}
use Rattle.gix_ref_theory.specs.OnRealTrees.{view_of}
use Rattle.gix_ref_theory.specs.Readings.{reading_among}
use Rattle.gix_ref_theory.specs.Readings.Reading.{Absent}
use Rattle.gix_ref_packed_text.specs.declared.raw.Reference.{Reference}
use Rattle.gix_ref_lookup.specs.Lookups.{AreHonest, meaning_in, lookup_of, asked_names, AreAsked, AreMissing, AreStillAsked, FindsNone, HasNoKey, IsHit, IsHitOf, IsMissing, name_asked, IsPassed, CandidateFails, FailsAt, FailsAmong, OfSearched, SearchesNone}
use Rattle.gix_ref_lookup.specs.declared.settings.Settings.{Settings}
use Rattle.gix_ref_lookup.specs.declared.find.error.Error.{Error as FindError}
use Rattle.gix_ref_lookup.specs.declared.find.records.Records.{Records}
use Rattle.gix_ref_lookup.specs.declared.find.existing.Error.{Error as Missing}
use Rattle.gix_ref_lookup.specs.declared.find.existing.Error.TheVariants.{Find, NotFound}
use Rattle.gix_ref_lookup.proofs.Looking.{packed_refs_at, fails_from, hit_from, among_wider, still_asked}
use Rattle.gix_ref_store.specs.Lookup.{settings_of, composes_in, view_in, AreAskedIn, AreStillAskedIn, IfNotFound, MissesIn, SeesNothing, LooksUp}
use Rattle.gix_ref_store.specs.Store as stores
use Rattle.gix_ref_store.specs.declared.file.store.Store.{Store}
use Rattle.gix_ref_follow.specs.Followed.{finds_in, HitsNext, IsNoStep, IsNotFollowed, IsReturn, WasPassed}
use Rattle.gix_ref_follow.specs.Following.{is_one_of}
use Rattle.gix_ref_follow.specs.declared.peel.to_object.Error.{Error}
use Rattle.gix_ref_follow.specs.declared.peel.to_object.Error.TheVariants.{Follow, Cycle, DepthLimitExceeded, Memory}
use Rattle.gix_ref_listing.specs.PlainSettings.{lent}
use Rattle.gix_ref_store.proofs.SameStores.{same_on}

all_wider : (P Q : List ℕ → Type 0) (names : List (List ℕ)) → ((n : List ℕ) → P n → Q n) → AllByRecursion P names → AllByRecursion Q names
all_wider P Q [] wider all = tt
all_wider P Q (n ∷ names) wider all = (wider n all.0, all_wider P Q names wider all.1)

if_not_found : (error : Missing) (P Q : Type 0) → (P → Q) → IfNotFound error P → IfNotFound error Q
if_not_found (NotFound n) P Q wider p = wider p
if_not_found (Find error) P Q wider p = tt

pub fails_wider : (Passed Passed' Fails Fails' : List ℕ → Type 0) (names : List (List ℕ)) → ((n : List ℕ) → Passed n → Passed' n) → ((n : List ℕ) → Fails n → Fails' n) →
    FailsAt Passed Fails names → FailsAt Passed' Fails' names
fails_wider Passed Passed' Fails Fails' [] p f why = absurd why
fails_wider Passed Passed' Fails Fails' (n ∷ names) p f (inl here) = inl (f n here)
fails_wider Passed Passed' Fails Fails' (n ∷ names) p f (inr later) = inr (p n later.0, fails_wider Passed Passed' Fails Fails' names p f later.1)

-- a lookup that fails after others did not is one that fails at first
pub fails_at_first : {R : Type 0} {G : Ghosts R} (honest : Type 0) (settings : Settings) (T T' : Tree) (r r' : Records R G) (before before' now : FaultCounts) (names : List (List ℕ)) (error : FindError) →
    (honest → T' ≡ T) → before' ≡ before → (honest → AreStillAsked settings.kind (packed_refs_at settings T) r r') →
    FailsAmong honest settings T' r' before' now names error → FailsAmong honest settings T r before now names error
fails_at_first {R} {G} honest settings T T' r r' before before' now names error same count still =
    fails_wider (IsPassed honest settings T' r') (IsPassed honest settings T r)
    (λ n. CandidateFails honest settings T' r' before' now n error) (λ n. CandidateFails honest settings T r before now n error) names
    (λ n passed h rs are. subst (λ (U : Tree). reading_among (meaning_in settings) (view_of U) rs n ≡ Absent) (same h)
    (passed h rs (subst (λ (U : Tree). AreAsked settings.kind (packed_refs_at settings U) r' rs) (sym (same h)) ((still h).asked rs are))))
    (λ n. fails_from honest settings T T' r r' same (λ h. (still h).readers) (λ h. (still h).searched) (λ h. (still h).of_file) before before' now n error count)

pub same_settings : {F : Type 0} (old new : Store F) → stores.IsSameStore old new → settings_of new ≡ settings_of old
same_settings old new same =
    ap (λ d. let s : Settings = record { dirs = lent d; namespace = lent new.namespace; kind = stores.kind_of new; prohibit_windows_device_names = new.prohibit_windows_device_names; precompose_unicode = new.precompose_unicode } in s) same.dirs
    ∙ (ap (λ n. let s : Settings = record { dirs = lent old.dirs; namespace = lent n; kind = stores.kind_of new; prohibit_windows_device_names = new.prohibit_windows_device_names; precompose_unicode = new.precompose_unicode } in s) same.namespace
    ∙ (ap (λ k. let s : Settings = record { dirs = lent old.dirs; namespace = lent old.namespace; kind = k; prohibit_windows_device_names = new.prohibit_windows_device_names; precompose_unicode = new.precompose_unicode } in s) same.of_kind
    ∙ (ap (λ p. let s : Settings = record { dirs = lent old.dirs; namespace = lent old.namespace; kind = stores.kind_of old; prohibit_windows_device_names = p; precompose_unicode = new.precompose_unicode } in s) same.prohibits
    ∙ ap (λ p. let s : Settings = record { dirs = lent old.dirs; namespace = lent old.namespace; kind = stores.kind_of old; prohibit_windows_device_names = old.prohibit_windows_device_names; precompose_unicode = p } in s) same.composes)))

pub same_place : {F : Type 0} (old new : Store F) (name : List ℕ) → stores.IsSameStore old new → (stores.meaning_of new).place name ≡ (stores.meaning_of old).place name
same_place old new name same = ap (λ s. (meaning_in s).place name) (same_settings old new same)

module _ {F : Type 0} (honest : Type 0) (means : F → Meaning) where
  -- lookups in a row
  pub looks_up : (first mid last : Store F) → LooksUp honest means first mid → LooksUp honest means mid last → LooksUp honest means first last
  looks_up first mid last a b = record {
    leaves = λ h. joins (a.leaves h) (weaken (b.leaves h) (λ T is. is ∙ (a.leaves h).tree));
    passes = λ h. passes_joins (a.passes h) (passes_weaken (b.passes h) (λ D is. is ∙ (a.passes h).disk));
    same = same_on first mid last a.same b.same;
  }

  -- what lookups find stays
  pub same_finds : (asks : Bool) (old new : Store F) (rs : List Record) → LooksUp honest means old new → honest → finds_in means asks new rs ≡ finds_in means asks old rs
  same_finds asks old new rs looked h =
      ap (λ s. lookup_of (s.precompose_unicode && asks) (meaning_in s) (view_in means new) rs) (same_settings old new looked.same)
      ∙ ap (λ T. lookup_of (composes_in asks old) (stores.meaning_of old) (view_of T) rs) (looked.leaves h).tree

module _ {F R : Type 0} {G : Ghosts R} (honest : Type 0) (means : F → Meaning) (faults : F → FaultCounts) (asks : Bool) (first mid new : Store F) (r : Records R G) (same : stores.IsSameStore first mid) where
  -- a step that leads back to a name that was reached
  pub no_step_back : (reached : List (List ℕ)) (at next : Reference) (error : Error) → (honest → AreHonest r → HitsNext means asks first r at next) →
      IsReturn (full_bytes next.name) reached ((stores.meaning_of mid).place (full_bytes at.name)) error → IsNoStep honest means faults asks first new r reached at error
  no_step_back reached at next (Cycle path) hit is = (is.1 ∙ same_place first mid (full_bytes at.name) same, λ h honest. (next, hit h honest, is.0))
  no_step_back reached at next Memory hit is = tt
  no_step_back reached at next (Follow error) hit is = absurd is
  no_step_back reached at next (DepthLimitExceeded n) hit is = absurd is

module _ {F R : Type 0} {G : Ghosts R} (honest : Type 0) (means : F → Meaning) (asks : Bool) (first mid : Store F) (r r' : Records R G) (looked : LooksUp honest means first mid) (still : honest → AreStillAskedIn means first r r') where
  abbrev T : Tree
  T = (means (stores.files_of first)).tree

  abbrev T' : Tree
  T' = (means (stores.files_of mid)).tree

  same : honest → T' ≡ T
  same h = (looked.leaves h).tree

  settled : settings_of mid ≡ settings_of first
  settled = same_settings first mid looked.same

  -- the records that are asked stay
  pub asked_on : honest → (rs : List Record) → AreAskedIn means first r rs → AreAskedIn means mid r' rs
  asked_on h rs are =
      subst (λ (s : Settings). AreAsked s.kind (packed_refs_at s T') r' rs) (sym settled)
      (subst (λ (U : Tree). AreAsked (settings_of first).kind (packed_refs_at (settings_of first) U) r' rs) (sym (same h)) ((still h).asked rs are))

  pub still_on : (r'' : Records R G) → honest → AreStillAskedIn means mid r' r'' → AreStillAskedIn means first r r''
  still_on r'' h later =
      still_asked (settings_of first).kind (packed_refs_at (settings_of first) T) (packed_refs_at (settings_of first) T') r r' r'' (ap (packed_refs_at (settings_of first)) (same h)) (still h)
      (subst (λ (s : Settings). AreStillAsked s.kind (packed_refs_at s T') r' r'') settled later)

  pub hits_on : honest → (at next : Reference) → HitsNext means asks mid r' at next → HitsNext means asks first r at next
  hits_on h at next hit =
      let composes = composes_in asks first in
      let asked = name_asked composes hit.0 in
      let of : IsHitOf composes (settings_of first) (view_of T') r' hit.0 next = subst (λ (s : Settings). IsHitOf (s.precompose_unicode && asks) s (view_of T') r' hit.0 next) settled hit.2 in (
        hit.0,
        hit.1,
        (
          of.0,
          among_wider (λ n. IsHit (settings_of first) (view_of T') r' n of.0) (λ n. IsHit (settings_of first) (view_of T) r n of.0) (asked_names asked)
              (λ n is. hit_from honest (settings_of first) T T' r r' same (λ k. (still k).readers) (λ k. (still k).searched) (λ k. (still k).of_file) h n of.0 is) of.1,
          of.2,
        ),
      )

  missing_on : honest → (name : List ℕ) → IsMissing (settings_of first) (view_of T') r' name → IsMissing (settings_of first) (view_of T) r name
  missing_on h name missing =
      let s = meaning_in (settings_of first) in
      record {
        loose = subst (λ (U : Tree). view_of U (s.place name) ≡ None) (same h) missing.loose;
        packed = ⊎_elim
            (λ (none : HasNoKey s name). inl none)
            (λ (none : FindsNone (settings_of first).kind (view_of T' s.packed_path) r').
            inr (⊎_elim
            (λ (no_text : SearchesNone (view_of T s.packed_path) r'). inl ((still h).none no_text))
            (λ (of : OfSearched (settings_of first).kind (view_of T s.packed_path) r' IsNotMalformed).
            inr (record { of_kind = of.of_kind; text = of.text; searched = (still h).searched of.of_kind of.text of.searched; has = of.has }))
            (subst (λ (U : Tree). FindsNone (settings_of first).kind (view_of U s.packed_path) r') (same h) none)))
            missing.packed;
      }

  -- a lookup that sees nothing sees nothing from the first one on
  pub nothing_on : honest → (name : List ℕ) → SeesNothing means asks mid r' name → SeesNothing means asks first r name
  nothing_on h name nothing =
      let composes = composes_in asks first in
      let asked = name_asked composes name in
      let of : AreMissing (settings_of first) (view_of T') r' asked = subst (λ (s : Settings). AreMissing s (view_of T') r' (name_asked (s.precompose_unicode && asks) name)) settled nothing in
      record {
        candidates = all_wider (IsMissing (settings_of first) (view_of T') r') (IsMissing (settings_of first) (view_of T) r) (candidates asked) (missing_on h) of.candidates;
        head = subst (λ (U : Tree). AllByRecursion (λ n. view_of U ((meaning_in (settings_of first)).place n) ≡ None) (option_to_list (remote_head asked))) (same h) of.head;
      }

  pub misses_on : (faults : F → FaultCounts) (new : Store F) (name : List ℕ) (error : Missing) → faults (stores.files_of mid) ≡ faults (stores.files_of first) →
      MissesIn honest means faults asks mid new r' name error → MissesIn honest means faults asks first new r name error
  misses_on faults new name (NotFound n) count why = why
  misses_on faults new name (Find error) count (inl memory) = inl memory
  misses_on faults new name (Find error) count (inr why) = inr
      (fails_at_first honest (settings_of first) T T' r r' (faults (stores.files_of first)) (faults (stores.files_of mid)) (faults (stores.files_of new)) (asked_names (name_asked (composes_in asks first) name)) error same count still
      (subst (λ (s : Settings). FailsAmong honest s T' r' (faults (stores.files_of mid)) (faults (stores.files_of new)) (asked_names (name_asked (s.precompose_unicode && asks) name)) error) settled why))

  -- why a step is not made, once others were
  pub not_followed_on : (faults : F → FaultCounts) (new : Store F) (start at : Reference) (reached : List (List ℕ)) (error : Error) → faults (stores.files_of mid) ≡ faults (stores.files_of first) →
      (honest → AreHonest r → (name : List ℕ) → is_one_of name reached ≡ true → WasPassed means asks first r start name) → IsNoStep honest means faults asks mid new r' reached at error → IsNotFollowed honest means faults asks first new r start at error
  not_followed_on faults new start at reached (Follow error) count passed why = (
    why.0,
    why.1,
    misses_on faults new why.0 error count why.2,
    λ h honest. if_not_found error (SeesNothing means asks mid r' why.0) (SeesNothing means asks first r why.0) (nothing_on h why.0) (why.3 h ((still h).readers honest)),
  )
  not_followed_on faults new start at reached (Cycle path) count passed why = (
    why.0 ∙ same_place first mid (full_bytes at.name) looked.same,
    λ h honest. let back = why.1 h ((still h).readers honest) in (back.0, hits_on h at back.0 back.1, passed h honest (full_bytes back.0.name) back.2),
  )
  not_followed_on faults new start at reached (DepthLimitExceeded n) count passed why = absurd why
  not_followed_on faults new start at reached Memory count passed why = tt
