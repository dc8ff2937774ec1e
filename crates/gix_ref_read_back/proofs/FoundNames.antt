-- What a lookup of a full name finds, by what the name reads.
use Rattle.std.proofs.Common.{◌≡◌, ◌⊎◌, ◌||◌, inl, inr, ℕ, Bool, true, false, List, [], ◌∷◌, ◌++◌, drop, map, refl, sym, ◌∙◌, ap, subst, Option, Some, None, Result, Ok, Err, cond, if◌then◌else◌, codes}
use Rattle.gix_ref_files.specs.declared.files.FileError.{FileError}
use Rattle.std.specs.Option.{option_map}
use Rattle.gix_ref_name.specs.Candidates.{candidates, is_pseudo, is_full_ref_path, remote_head}
use Rattle.gix_ref_name.specs.declared.name.PartialName.{PartialName}
use Rattle.gix_ref_target.specs.PackedRecords.{Record}
use Rattle.gix_ref_target.specs.Targets.{TargetValue, target_value}
use Rattle.gix_ref_packed_text.specs.declared.raw.Reference.{Reference}
use Rattle.gix_ref_theory.specs.Lookups.{Hit, hit, first_hit, hit_or_head, lookup, is_there}
use Rattle.gix_ref_theory.specs.Readings.{Store, Reading, reading_among, reading_by, reading_of_loose, records_of_file}
use Rattle.gix_ref_theory.specs.Readings.Reading.{Is, Fault, Absent}
use Rattle.gix_ref_theory.specs.Views.{View}
use Rattle.gix_ref_files.specs.Files.{FaultCounts}
use Rattle.gix_ref_files.specs.Tree.{Tree}
use Rattle.gix_ref_files.specs.declared.files.ReadAt.{Ghosts}
use Rattle.gix_ref_packed.specs.declared.packed.buffer.open.Error.TheVariants.{Iter, HeaderParsing, Io, Memory as open_memory}
use Rattle.gix_ref_theory.specs.OnRealTrees.{view_of}
use Rattle.gix_ref_lookup.specs.LooseFiles.{IsUndecodable}
use Rattle.gix_ref_lookup.specs.Lookups.{ReturnsHit, AreAsked, CandidateFails, FailsAmong, IsSound, asked_names, lookup_of, hit_given, meaning_in, name_asked, IsFaultOf}
use Rattle.std.specs.Prelude.{option_to_list}
use Rattle.gix_ref_lookup.specs.declared.settings.Settings.{Settings}
use Rattle.gix_ref_lookup.specs.declared.loose.error.Error.{Error as Undecoded}
use Rattle.gix_ref_lookup.specs.declared.find.records.Records.TheVariants.{Unopened}
use Rattle.gix_ref_lookup.specs.declared.find.error.ReadError.TheVariants.{File as file_error, DeviceName}
use Rattle.gix_ref_lookup.specs.declared.find.error.Error.{Error as FindError}
use Rattle.gix_ref_lookup.specs.declared.find.error.Error.TheVariants.{ReadFileContents, ReferenceCreation, RefnameValidation, PackedRef, PackedOpen, Memory}
use Rattle.gix_ref_lookup.specs.declared.find.existing.Error.{Error as Missing}
use Rattle.gix_ref_lookup.specs.declared.find.existing.Error.TheVariants.{Find, NotFound}
use Rattle.gix_ref_lookup.proofs.Composing.{given_same}
use Rattle.gix_ref_lookup.proofs.LooseLemmas.{refused_none}
use Rattle.gix_ref_read_back.specs.EditedReadings.{AnswersName, FailsAs, IsAskedFirst, IsFoundAs, further}

-- what a name may be short for, by its two tests
abbrev names : List ℕ → (pseudo rooted : Bool) → List (List ℕ)
names name pseudo rooted =
    map (λ front. front ++ name)
    (if pseudo then [] ∷ codes "refs/" ∷ codes "refs/tags/" ∷ codes "refs/heads/" ∷ codes "refs/remotes/" ∷ []
    else if rooted then [] ∷ codes "tags/" ∷ codes "heads/" ∷ codes "remotes/" ∷ []
    else codes "refs/" ∷ codes "refs/tags/" ∷ codes "refs/heads/" ∷ codes "refs/remotes/" ∷ [])

itself_first : (name : List ℕ) (pseudo rooted : Bool) → (pseudo || rooted) ≡ true → names name pseudo rooted ≡ name ∷ drop 1 (names name pseudo rooted)
itself_first name true rooted h = refl
itself_first name false true h = refl
itself_first name false false h = absurd (cc)

-- the name itself comes first
asked_first : (name : List ℕ) → (is_pseudo name || is_full_ref_path name) ≡ true → candidates name ≡ name ∷ further name
asked_first name = itself_first name (is_pseudo name) (is_full_ref_path name)

same_target : (a b : TargetValue) → Is a ≡ Is b → b ≡ a
same_target a b is = cc

not_a_target : (a : TargetValue) → Fault ≡ Is a → ⊥
not_a_target a is = cc

-- what is given of a hit under the name that was asked is the hit
as_given : (name : List ℕ) (found : Option Hit) (r : Option Reference) → ReturnsHit (option_map (hit_given name name) found) r → ReturnsHit found r
as_given name None r is = is
as_given name (Some h) None is = is
as_given name (Some h) (Some r) is = (is.0 ∙ given_same name h.name, is.1, is.2)

module _ (s : Store) (view : View) (records : List Record) (same : records_of_file s (view s.packed_path) ≡ records) (name : List ℕ) where
  abbrev more : Option Hit
  more = first_hit s view records (further name)

  -- the lookup, by what the name reads
  by_reading : (reads : Reading) (r : Option Reference) → reading_among s view records name ≡ reads →
      ReturnsHit (hit_or_head s view (cond (is_there (reading_among s view records name)) (Some (hit s view records name)) more) (remote_head name)) r → AnswersName s view name reads r
  by_reading (Is target) r is found = go r (subst (λ (b : Bool). ReturnsHit (hit_or_head s view (cond b (Some (hit s view records name)) more) (remote_head name)) r) (ap is_there is) found)
    where
      go : (r : Option Reference) → ReturnsHit (Some (hit s view records name)) r → AnswersName s view name (Is target) r
      go None h = h
      go (Some r) h = (same_target target (target_value r.target) (sym is ∙ h.1), h.0)
  by_reading Fault r is found = go r (subst (λ (b : Bool). ReturnsHit (hit_or_head s view (cond b (Some (hit s view records name)) more) (remote_head name)) r) (ap is_there is) found)
    where
      go : (r : Option Reference) → ReturnsHit (Some (hit s view records name)) r → AnswersName s view name Fault r
      go None h = h
      go (Some r) h = not_a_target (target_value r.target) (sym is ∙ h.1)
  by_reading Absent r is found =
      subst (λ (rs : List Record). ReturnsHit (lookup s view rs (further name) (remote_head name)) r) (sym same)
      (subst (λ (b : Bool). ReturnsHit (hit_or_head s view (cond b (Some (hit s view records name)) more) (remote_head name)) r) (ap is_there is) found)

  module _ (composes : Bool) (asked : IsAskedFirst s composes name) where
    answers : (reads : Reading) (r : Option Reference) → reading_among s view records name ≡ reads → ReturnsHit (lookup_of composes s view records name) r → AnswersName s view name reads r
    answers reads r is found =
        let plain = as_given name (lookup s view records (candidates name) (remote_head name)) r
        (subst (λ (n : List ℕ). ReturnsHit (option_map (hit_given n name) (lookup s view records (candidates n) (remote_head n))) r) asked.composed found) in
        by_reading reads r is (subst (λ (names : List (List ℕ)). ReturnsHit (lookup s view records names (remote_head name)) r) (asked_first name asked.first) plain)

    -- and so the result of `find`
    pub found_as : (failed : FileError → Type 0) (reads : Reading) (found : Result Reference Missing) → reading_among s view records name ≡ reads →
        ((r : Reference) → found ≡ Ok r → ReturnsHit (lookup_of composes s view records name) (Some r)) →
        ((n : PartialName) → found ≡ Err (NotFound n) → ReturnsHit (lookup_of composes s view records name) None) →
        ((e : FindError) → found ≡ Err (Find e) → IsSound e × FailsAs failed reads e) → IsFoundAs s view name failed reads found
    found_as failed reads (Ok r) is ok missing fails = answers reads (Some r) is (ok r refl)
    found_as failed reads (Err (NotFound n)) is ok missing fails = answers reads None is (missing n refl)
    found_as failed reads (Err (Find e)) is ok missing fails = fails e refl

-- ---- the error of a lookup

fault_is_none : (a : TargetValue) → Fault ≡ Is a → ⊥
fault_is_none a is = cc

absent_is_none : (a : TargetValue) → Absent ≡ Is a → ⊥
absent_is_none a is = cc

module _ {R : Type 0} (G : Ghosts R) (honest : Type 0) (h : honest) (settings : Settings) (T : Tree) (records : List Record) (are : AreAsked {G = G} settings.kind (view_of T (meaning_in settings).packed_path) Unopened records)
    (before now : FaultCounts) (name : List ℕ) where
  abbrev places : Store
  places = meaning_in settings

  abbrev failed : FileError → Type 0
  failed = IsFaultOf G.faults before now

  -- a place that is prohibited reads a fault
  prohibited : (target : TargetValue) → places.is_prohibited (places.place name) ≡ true → reading_among places (view_of T) records name ≡ Is target → ⊥
  prohibited target bad is =
      fault_is_none target (sym (ap (λ (b : Bool). if b then Fault else reading_by places (places.key name) (view_of T (places.place name)) records) bad) ∙ is)

  -- and so does a file that holds no target
  undecodable : (target : TargetValue) (source : Undecoded) → IsUndecodable settings.kind (view_of T (places.place name)) source → reading_among places (view_of T) records name ≡ Is target → ⊥
  undecodable target source none is = by (places.is_prohibited (places.place name)) refl
    where
      holds_none : reading_by places (places.key name) (view_of T (places.place name)) records ≡ Fault
      holds_none = ap (λ (f : Option (List ℕ)). reading_by places (places.key name) f records) none.1 ∙ ap (reading_of_loose places) (refused_none settings.kind none.0 source none.2 none.3)

      by : (b : Bool) → places.is_prohibited (places.place name) ≡ b → ⊥
      by true bad = prohibited target bad is
      by false fine =
          fault_is_none target
          (sym holds_none ∙ (sym (ap (λ (b : Bool). if b then Fault else reading_by places (places.key name) (view_of T (places.place name)) records) fine) ∙ is))

  -- a candidate that reads a target fails by a call of files
  candidate_fails : (target : TargetValue) → reading_among places (view_of T) records name ≡ Is target → (e : FindError) → IsSound e →
      CandidateFails {G = G} honest settings T Unopened before now name e → FailsAs failed (Is target) e
  candidate_fails target is Memory sound fails = tt
  candidate_fails target is (ReadFileContents (file_error source) path) sound (inl unread) = inl unread.0
  candidate_fails target is (ReadFileContents (file_error source) path) sound (inr unpacked) = absurd unpacked.1
  candidate_fails target is (ReadFileContents DeviceName path) sound (inl unread) = absurd (prohibited target unread.0 is)
  candidate_fails target is (ReadFileContents DeviceName path) sound (inr unpacked) = absurd unpacked.1
  candidate_fails target is (ReferenceCreation source path) sound (inl unread) = absurd (undecodable target source (unread.1 h) is)
  candidate_fails target is (ReferenceCreation source path) sound (inr unpacked) = absurd unpacked.1
  candidate_fails target is (PackedOpen (Io error)) sound (inl unread) = absurd unread
  candidate_fails target is (PackedOpen (Io error)) sound (inr unpacked) = (unpacked.1 (h, tt)).1.1
  candidate_fails target is (PackedOpen HeaderParsing) sound fails = absurd sound
  candidate_fails target is (PackedOpen (Iter line)) sound fails = absurd sound
  candidate_fails target is (PackedOpen open_memory) sound fails = absurd sound
  candidate_fails target is (PackedRef error) sound fails = absurd sound
  candidate_fails target is (RefnameValidation error) sound fails = absurd sound

  -- so a lookup of it has an error only then
  target_fails : (target : TargetValue) → reading_among places (view_of T) records name ≡ Is target → (others : List (List ℕ)) (e : FindError) → IsSound e →
      (e ≡ Memory) ⊎ FailsAmong {G = G} honest settings T Unopened before now (name ∷ others) e → FailsAs failed (Is target) e
  target_fails target is others e sound (inl no_memory) = subst (FailsAs failed (Is target)) (sym no_memory) tt
  target_fails target is others e sound (inr (inl here)) = candidate_fails target is e sound here
  target_fails target is others e sound (inr (inr later)) = absurd (absent_is_none target (sym (later.0 h records are) ∙ is))

  or_none : (e : FindError) → FailsAs failed Fault e
  or_none Memory = tt
  or_none (ReadFileContents source path) = tt
  or_none (ReferenceCreation source path) = tt
  or_none (PackedOpen error) = tt
  or_none (PackedRef error) = tt
  or_none (RefnameValidation error) = tt

  or_later : (e : FindError) → FailsAs failed Absent e
  or_later Memory = tt
  or_later (ReadFileContents source path) = tt
  or_later (ReferenceCreation source path) = tt
  or_later (PackedOpen error) = tt
  or_later (PackedRef error) = tt
  or_later (RefnameValidation error) = tt

  pub fails_as : (composes : Bool) → (is_pseudo name || is_full_ref_path name) ≡ true → name_asked composes name ≡ name → (reads : Reading) → reading_among places (view_of T) records name ≡ reads → (e : FindError) → IsSound e →
      (e ≡ Memory) ⊎ FailsAmong {G = G} honest settings T Unopened before now (asked_names (name_asked composes name)) e → FailsAs failed reads e
  fails_as composes first composed Fault is e sound fails = or_none e
  fails_as composes first composed Absent is e sound fails = or_later e
  fails_as composes first composed (Is target) is e sound fails =
      target_fails target is (further name ++ option_to_list (remote_head name)) e sound
      (subst (λ (names : List (List ℕ)). (e ≡ Memory) ⊎ FailsAmong {G = G} honest settings T Unopened before now (names ++ option_to_list (remote_head name)) e) (asked_first name first)
      (subst (λ (n : List ℕ). (e ≡ Memory) ⊎ FailsAmong {G = G} honest settings T Unopened before now (asked_names n) e) composed fails))
