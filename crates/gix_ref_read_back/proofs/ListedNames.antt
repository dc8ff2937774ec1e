-- A listing of files and records gives what each reference reads among them.
use Rattle.std.proofs.Common.{◌≡◌, inl, inr, ℕ, Bool, true, false, List, [], ◌∷◌, ◌++◌, refl, sym, ◌∙◌, ap, subst, Option, Some, None, Result, Ok, Err}
use Rattle.gix_ref_files.specs.Files.{FaultCounts}
use Rattle.std.specs.Prelude.{IsSome, is_some, if◌then◌else◌}
use Rattle.std.specs.List.{AllByRecursion}
use Rattle.std.specs.declared.cmp.Ordering.TheVariants.{Less, Equal}
use Rattle.std.proofs.lemmas.Bool.{cond-false}
use Rattle.gix_ref_name.specs.NameGrammar.{IsPartialName}
use Rattle.gix_ref_hash.specs.Bytes.{BeginsWith}
use Rattle.gix_ref_hash.specs.declared.hash.ObjectId.{ObjectId}
use Rattle.gix_ref_name.specs.Names.{full_bytes}
use Rattle.gix_ref_target.specs.PackedRecords.{Record, record_named, id_read}
use Rattle.gix_ref_target.specs.Targets.{TargetValue, target_value}
use Rattle.gix_ref_packed_text.specs.RecordGrammar.{Below}
use Rattle.gix_ref_packed_text.specs.declared.raw.Reference.{Reference}
use Rattle.gix_ref_packed_text.proofs.MergeLemmas.{equal_cmp}
use Rattle.gix_ref_theory.specs.Lookups.{is_there}
use Rattle.gix_ref_theory.specs.Readings.{Store, Reading, reading_among, reading_by, reading_of_loose, reading_of_id, reading_of_record}
use Rattle.gix_ref_theory.specs.Readings.Reading.{Is, Fault, Absent}
use Rattle.gix_ref_theory.specs.Views.{View}
use Rattle.gix_ref_lookup.specs.Lookups.{meaning_in, Among}
use Rattle.gix_ref_lookup.specs.declared.settings.Settings.{Settings}
use Rattle.gix_ref_listing.specs.Items.{IsAllowed, IsItem, IsRecordFault, IsUnread}
use Rattle.gix_ref_listing.specs.Listings.{Listed}
use Rattle.gix_ref_listing.specs.Listings.Listed.{Walked, InPacked}
use Rattle.gix_ref_listing.specs.LooseListings.{IsFileListed, IsFront, IsLooseListed}
use Rattle.gix_ref_listing.specs.OwnRecords.{Own}
use Rattle.gix_ref_listing.specs.WholeListings.{IsInStore, IsListing, IsLooseOf, IsNameItem, IsOf, Rises, key_in, listed_key}
use Rattle.gix_ref_listing.specs.declared.error.Error.{Error}
use Rattle.gix_ref_listing.specs.declared.found.Found.TheVariants.{File, Unlisted}
use Rattle.gix_ref_listing.specs.declared.error.Error.TheVariants.{Traversal, ReadFileContents, ReferenceCreation, PackedReference, Memory}
use Rattle.gix_ref_lookup.specs.declared.find.error.ReadError.TheVariants.{File as file_error, DeviceName}
use Rattle.gix_ref_lookup.proofs.LooseLemmas.{refused_none}
use Rattle.gix_ref_read_back.specs.ListedReadings.{AreComposed, IsReadingFault, IsItemOf, IsListable}
use Rattle.gix_ref_read_back.proofs.OwnPlaces.{own_key, own_place, place_of_own_key}

-- ---- lists

among_weaker : {A : Type 0} (P Q : A → Type 0) → ((x : A) → P x → Q x) → (xs : List A) → Among P xs → Among Q xs
among_weaker P Q f [] has = has
among_weaker P Q f (x ∷ xs) (inl here) = inl (f x here)
among_weaker P Q f (x ∷ xs) (inr later) = inr (among_weaker P Q f xs later)

of_all : {A : Type 0} (P Q : A → Type 0) → (xs : List A) → AllByRecursion P xs → Among Q xs → (x : A) × P x × Q x
of_all P Q [] all has = absurd has
of_all P Q (x ∷ xs) (p, all) (inl here) = (x, p, here)
of_all P Q (x ∷ xs) (p, all) (inr later) = of_all P Q xs all later

not_below_itself : (a b : List ℕ) → a ≡ b → Below a b → ⊥
not_below_itself a b same below = let bad : Less ≡ Equal = sym below ∙ equal_cmp a b same in absurd (cc)

loose_is : (name : List ℕ) (one : Listed) → IsLooseOf name one → IsOf name one
loose_is name (Walked e) h = h
loose_is name (InPacked own) h = absurd h

-- the name of a file
loose_key : (name : List ℕ) (one : Listed) → IsNameItem one → IsLooseOf name one → listed_key one ≡ name
loose_key name (Walked (key, File n path)) is h = h
loose_key name (Walked (key, Unlisted path e)) is h = absurd is
loose_key name (InPacked own) is h = absurd h

no_record_is_loose : (own : Own) (one : Listed) → InPacked own ≡ one → IsLooseOf own.name one → ⊥
no_record_is_loose own (Walked e) is h = cc
no_record_is_loose own (InPacked other) is h = h

-- a listing has no file under the name of a record
alone : (own : Own) (listed : List Listed) → Rises listed → AllByRecursion IsNameItem listed → Among (λ one. InPacked own ≡ one) listed → Among (IsLooseOf own.name) listed → ⊥
alone own [] rises names has loose = has
alone own (one ∷ listed) (above, rises) (is, names) (inl here) (inl loose) = no_record_is_loose own one here loose
alone own (one ∷ listed) (above, rises) (is, names) (inl here) (inr loose) =
    let both : (l : Listed) × (Below (listed_key one) (listed_key l) × IsNameItem l) × IsLooseOf own.name l = of_all _ (IsLooseOf own.name) listed (and_all (λ l. Below (listed_key one) (listed_key l)) IsNameItem listed above names) loose in
    not_below_itself (listed_key one) (listed_key both.0) (sym (ap listed_key here) ∙ sym (loose_key own.name both.0 both.1.1 both.2)) both.1.0
  where
    and_all : (P Q : Listed → Type 0) (ls : List Listed) → AllByRecursion P ls → AllByRecursion Q ls → AllByRecursion (λ l. P l × Q l) ls
    and_all P Q [] p q = tt
    and_all P Q (l ∷ ls) p q = ((p.0, q.0), and_all P Q ls p.1 q.1)
alone own (one ∷ listed) (above, rises) (is, names) (inr later) (inl loose) =
    let found : (l : Listed) × Below (listed_key one) (listed_key l) × (InPacked own ≡ l) = of_all _ _ listed above later in
    not_below_itself (listed_key one) (listed_key found.0) (loose_key own.name one is loose ∙ ap listed_key found.2) found.1
alone own (one ∷ listed) (above, rises) (is, names) (inr later) (inr loose) = alone own listed rises names later loose

-- ---- readings

id_is_there : (o : Option ObjectId) → is_there (reading_of_id o) ≡ true
id_is_there None = refl
id_is_there (Some id) = refl

loose_is_there : (s : Store) (t : Option TargetValue) → is_there (reading_of_loose s t) ≡ true
loose_is_there s None = refl
loose_is_there s (Some t) = refl

none_there : IsSome {T = List ℕ} None → ⊥
none_there h = cc

absent_there : is_there Absent ≡ true → ⊥
absent_there h = cc

-- a reading where a file is at the place
by_file : (s : Store) (key file : Option (List ℕ)) (records : List Record) → IsSome file → is_there (reading_by s key file records) ≡ true
by_file s key None records there = absurd (none_there there)
by_file s key (Some bytes) records there = loose_is_there s (s.target_of bytes)

-- and where its key has a record
by_record : (s : Store) (key file : Option (List ℕ)) (records : List Record) (k : List ℕ) (r : Record) → key ≡ Some k → record_named k records ≡ Some r → is_there (reading_by s key file records) ≡ true
by_record s key (Some bytes) records k r keyed there = loose_is_there s (s.target_of bytes)
by_record s key None records k r keyed there =
    ap (λ o. is_there (reading_by s o None records)) keyed ∙ (ap (λ o. is_there (reading_of_record o)) there ∙ id_is_there (id_read r.target))

-- a fault is something, so a reading is where it is without the prohibition
there_anyway : (prohibited : Bool) (reads : Reading) → is_there reads ≡ true → is_there (if prohibited then Fault else reads) ≡ true
there_anyway true reads h = refl
there_anyway false reads h = h

module _ (settings : Settings) (view : View) (composed : AreComposed settings view) (records : List Record) where
  abbrev s : Store
  s = meaning_in settings

  abbrev reads : List ℕ → Reading
  reads name = reading_among s view records name

  allowed : (name : List ℕ) → IsAllowed s name → reads name ≡ reading_by s (s.key name) (view (s.place name)) records
  allowed name may = cond-false (s.is_prohibited (s.place name)) Fault (reading_by s (s.key name) (view (s.place name)) records) may

  -- a name with a file at its own place is listed for it
  loose_listed : (prefix name : List ℕ) → IsPartialName name → BeginsWith name prefix → (front : List ℕ) × IsFront settings front × (s.place name ≡ front ++ name) → IsSome (view (s.place name)) → IsLooseListed settings view prefix name
  loose_listed prefix name valid begins (front, of, own) there =
      let at : IsSome (view (front ++ name)) = subst (λ p. IsSome (view p)) own there in
      (front, of, record { placed = record { valid = valid; begins = begins; own = own }; composed = composed front name of at; there = at })

  -- the name that is listed is that of the file
  at_place : (prefix name path : List ℕ) → IsFileListed settings view prefix name path → s.place name ≡ path
  at_place prefix name path file =
      file.placed.own ∙ (ap (λ d. file.front ++ d) (file.asked ∙ composed file.front file.disk file.of (subst (λ p. IsSome (view p)) file.at file.there)) ∙ sym file.at)

  module _ (prefix : List ℕ) (listed : List Listed) (is : IsListing settings view records prefix listed) where
    -- each name that reads something is given
    pub all_given : (name : List ℕ) → IsListable s prefix name → is_there (reads name) ≡ true → Among (IsOf name) listed
    all_given name listable there = by (view (s.place name)) refl (s.key name) refl (subst (λ r. is_there r ≡ true) (allowed name listable.allowed) there)
      where
        by : (file : Option (List ℕ)) → view (s.place name) ≡ file → (key : Option (List ℕ)) → s.key name ≡ key → is_there (reading_by s (s.key name) (view (s.place name)) records) ≡ true → Among (IsOf name) listed
        by (Some bytes) at key keyed h =
            among_weaker (IsLooseOf name) (IsOf name) (loose_is name) listed
            (is.loose name (loose_listed prefix name listable.valid listable.begins (own_place settings name listable.below_refs) (ap is_some at)))
        by None at None keyed h = absurd (absent_there (sym (ap (λ o. is_there (reading_by s o None records)) keyed) ∙ (sym (ap (λ o. is_there (reading_by s (s.key name) o records)) at) ∙ h)))
        by None at (Some key) keyed h =
            let own = own_key settings name key listable.below_refs keyed in
            packed (record_named (key_in settings name) records) refl
            (sym (ap (λ o. is_there (reading_by s o None records)) own) ∙ (sym (ap (λ o. is_there (reading_by s (s.key name) o records)) at) ∙ h)) own
          where
            packed : (r : Option Record) → record_named (key_in settings name) records ≡ r → is_there (reading_of_record (record_named (key_in settings name) records)) ≡ true → s.key name ≡ Some (key_in settings name) → Among (IsOf name) listed
            packed None has h own = absurd (absent_there (sym (ap (λ o. is_there (reading_of_record o)) has) ∙ h))
            packed (Some r) has h own = is.packed name record { valid = listable.valid; begins = listable.begins; own = own; there = ap is_some has }

    -- and no other
    one_there : (one : Listed) → IsNameItem one → IsInStore settings view records prefix one → is_there (reads (listed_key one)) ≡ true
    one_there (Walked (key, Unlisted path e)) name found = absurd name
    one_there (Walked (key, File n path)) name (named, file) =
        let at = at_place prefix key.items path.items file in
        there_anyway (s.is_prohibited (s.place key.items)) (reading_by s (s.key key.items) (view (s.place key.items)) records)
        (by_file s (s.key key.items) (view (s.place key.items)) records (subst (λ p. IsSome (view p)) (sym at) file.there))
    one_there (InPacked own) name (there, has) =
        there_anyway (s.is_prohibited (s.place own.name)) (reading_by s (s.key own.name) (view (s.place own.name)) records)
        (by_record s (s.key own.name) (view (s.place own.name)) records (key_in settings own.name) own.of there.own has)

    all_there : (ones : List Listed) → AllByRecursion IsNameItem ones → AllByRecursion (IsInStore settings view records prefix) ones → AllByRecursion (λ one. is_there (reads (listed_key one)) ≡ true) ones
    all_there [] names found = tt
    all_there (one ∷ ones) names found = (one_there one names.0 found.0, all_there ones names.1 found.1)

    pub only_given : AllByRecursion IsNameItem listed → AllByRecursion (λ one. is_there (reads (listed_key one)) ≡ true) listed
    only_given names = all_there listed names is.only

    -- a file that holds no target reads a fault; and one that is there could not be read only where a call of files failed
    fault_of : (honest : Type 0) → honest → (before now : FaultCounts) (name key path : List ℕ) (e : Error) → s.place key ≡ path → name ≡ key → IsSome (view path) → IsUnread honest settings.kind s view before now name path e →
        IsReadingFault s before now key (reads key) e
    fault_of honest h before now name key path (ReadFileContents (file_error source) p) at named there failed = (failed.0, failed.2 ∙ sym at)
    fault_of honest h before now name key path (ReadFileContents DeviceName p) at named there unread = (ap s.is_prohibited at ∙ unread.0, unread.1 ∙ sym at)
    fault_of honest h before now name key path Memory at named there unread = tt
    fault_of honest h before now name key path (Traversal source p) at named there unread = unread
    fault_of honest h before now name key path (PackedReference line number) at named there unread = unread
    fault_of honest h before now name key path (ReferenceCreation source p) at named there unread =
        let undecoded = unread.1 h in
        let none = refused_none settings.kind undecoded.0 source undecoded.2 undecoded.3 in
        (by (s.is_prohibited (s.place key)) (ap (λ f. reading_by s (s.key key) f records) (ap view at ∙ undecoded.1) ∙ ap (reading_of_loose s) none), unread.0 ∙ named)
      where
        by : (prohibited : Bool) → reading_by s (s.key key) (view (s.place key)) records ≡ Fault → (if prohibited then Fault else reading_by s (s.key key) (view (s.place key)) records) ≡ Fault
        by true is = refl
        by false is = is

    -- the record of a name is not given where its place is prohibited
    record_fault : (before now : FaultCounts) (name : List ℕ) (e : Error) → IsRecordFault s name e → IsReadingFault s before now name (reads name) e
    record_fault before now name (ReadFileContents DeviceName path) why = why
    record_fault before now name (ReadFileContents (file_error source) path) why = absurd why
    record_fault before now name Memory why = tt
    record_fault before now name (ReferenceCreation source path) why = absurd why
    record_fault before now name (Traversal source path) why = absurd why
    record_fault before now name (PackedReference line number) why = absurd why

    -- and each reference has the target that it reads
    pub one_target : (honest : Type 0) → honest → AllByRecursion IsNameItem listed → (before now : FaultCounts) (one : Listed) (item : Result Reference Error) → IsNameItem one → Among (λ l. one ≡ l) listed → IsInStore settings view records prefix one →
        IsItem honest settings view before now one item → IsItemOf s reads before now one item
    one_target honest h names before now (Walked (key, Unlisted path source)) (Err e) is_name within found item = absurd is_name
    one_target honest h names before now (Walked (key, File n path)) (Err e) is_name within (named, file) item =
        fault_of honest h before now (full_bytes n) key.items path.items e (at_place prefix key.items path.items file) named file.there item
    one_target honest h names before now (InPacked own) (Err e) is_name within found item = record_fault before now own.name e item
    one_target honest h names before now (Walked (key, Unlisted path e)) (Ok r) is_name within found item = absurd item
    one_target honest h names before now (Walked (key, File n path)) (Ok r) is_name within (named, file) item =
        let name : full_bytes r.name ≡ key.items = ap full_bytes item.0 ∙ named in
        let at = at_place prefix key.items path.items file in
        let loose = item.1 h in (
          name,
          subst (λ n. reads n ≡ Is (target_value r.target)) (sym name)
              (allowed key.items (ap s.is_prohibited at ∙ item.3) ∙ (ap (λ f. reading_by s (s.key key.items) f records) (ap view at ∙ loose.1) ∙ loose.2)),
        )
    one_target honest h names before now (InPacked own) (Ok r) is_name within (there, has) item =
        (item.0.0, subst (λ n. reads n ≡ Is (target_value r.target)) (sym item.0.0) (allowed own.name item.1 ∙ by (view (s.place own.name)) refl))
      where
        by : (file : Option (List ℕ)) → view (s.place own.name) ≡ file → reading_by s (s.key own.name) (view (s.place own.name)) records ≡ Is (target_value r.target)
        by (Some bytes) at =
            absurd
            (alone own listed is.ascending names (among_weaker (λ l. InPacked own ≡ l) (λ l. InPacked own ≡ l) (λ l e. e) listed within)
            (is.loose own.name (loose_listed prefix own.name there.valid there.begins (place_of_own_key settings own.name there.own) (ap is_some at))))
        by None at =
            ap (λ f. reading_by s (s.key own.name) f records) at
            ∙ (ap (λ k. reading_by s k None records) there.own ∙ (ap reading_of_record has ∙ item.0.1))
