-- One candidate of a lookup more.
use Rattle.std.proofs.Common.{◌≡◌, inl, inr, ℕ, zero, suc, ◌+◌, ◌<◌, List, [], ◌∷◌, ◌++◌, Option, Some, None, if◌then◌else◌, length, map, drop, get_or, arith, Bor, refl, sym, ◌∙◌, ap, subst}
use Rattle.std.proofs.lemmas.List.{drop_more, get_or-map, length-map}
use Rattle.gix_ref_target.specs.PackedRecords.{Record}
use Rattle.gix_ref_theory.specs.Views.{View}
use Rattle.gix_ref_theory.specs.Readings.{Store, Reading, reading_among}
use Rattle.gix_ref_theory.specs.Readings.Reading.{Is, Absent, Fault}
use Rattle.gix_ref_theory.specs.Lookups.{Hit, first_hit, hit, is_there}
use Rattle.gix_ref_packed_text.specs.declared.raw.Reference.{Reference}
use Rattle.gix_ref_lookup.specs.Lookups.{ReturnsHit, IsCandidate, FailsAt, Among, IsPassed, AreAsked, IsNotRead, CandidateFails, IsFaultOf, IsHit, IsLooseTarget, AreHonest, AreOfFile, AreStillAsked, IsSearched, OfSearched, OfKey, meaning_in}
use Rattle.gix_ref_lookup.specs.LooseFiles.{IsUndecodable}
use Rattle.gix_ref_lookup.specs.StoreLayout.{namespace_text}
use Rattle.gix_ref_lookup.specs.declared.settings.Settings.{Settings}
use Rattle.gix_ref_lookup.specs.declared.find.records.Records.{Records as Asked}
use Rattle.gix_ref_lookup.specs.declared.find.error.Error.{Error}
use Rattle.gix_ref_lookup.specs.declared.find.error.Error.TheVariants.{RefnameValidation, ReadFileContents, ReferenceCreation, PackedRef, PackedOpen, Memory}
use Rattle.gix_ref_lookup.specs.declared.find.error.ReadError.TheVariants.{File, DeviceName}
use Rattle.gix_ref_lookup.proofs.Opening.{searched_wider, hit_wider, not_packed_wider}
use Rattle.gix_ref_hash.specs.declared.hash.Kind.{Kind}
use Rattle.gix_ref_files.specs.Tree.{Tree}
use Rattle.gix_ref_files.specs.Files.{FaultCounts, IsMet}
use Rattle.gix_ref_files.specs.declared.files.ReadAt.{Ghosts}
use Rattle.gix_ref_theory.specs.OnRealTrees.{view_of}
use Rattle.gix_ref_packed_text.specs.Positions.{CannotRead}
use Rattle.gix_ref_packed.specs.Buffers.{IsRefusedFile}

abbrev pub packed_refs_at : Settings → Tree → Option (List ℕ)
packed_refs_at settings T = view_of T (meaning_in settings).packed_path

-- a candidate that is there is the first hit
pub hit_here : (s : Store) (view : View) (rs : List Record) (name : List ℕ) (names : List (List ℕ)) (r : Reference) → IsCandidate s view rs name (Some r) → ReturnsHit (first_hit s view rs (name ∷ names)) (Some r)
hit_here s view rs name names r is =
    subst (λ found. ReturnsHit found (Some r))
    (sym (ap (λ (reading : Reading). if is_there reading then Some (hit s view rs name) else first_hit s view rs names) is.1)) is

-- one that is absent is passed
pub hit_later : (s : Store) (view : View) (rs : List Record) (name : List ℕ) (names : List (List ℕ)) → reading_among s view rs name ≡ Absent → first_hit s view rs (name ∷ names) ≡ first_hit s view rs names
hit_later s view rs name names absent = ap (λ (reading : Reading). if is_there reading then Some (hit s view rs name) else first_hit s view rs names) absent

-- what is left of the candidates, where the front at this place is next
pub next_name : (lent : List (Bor (List ℕ))) (fronts : List (List ℕ)) (p : List ℕ) (i : ℕ) (d : Bor (List ℕ)) → map (λ (f : Bor (List ℕ)). f.now) lent ≡ fronts → i < length lent →
    ((get_or lent i d).now ++ p) ∷ drop (i + 1) (map (λ (f : List ℕ). f ++ p) fronts) ≡ drop i (map (λ (f : List ℕ). f ++ p) fronts)
next_name lent fronts p i d are lt =
    let names = map (λ (f : List ℕ). f ++ p) fronts in
    let front : get_or fronts i [] ≡ (get_or lent i d).now = ap (λ (l : List (List ℕ)). get_or l i []) (sym are) ∙ get_or-map (λ (f : Bor (List ℕ)). f.now) lent i d [] lt in
    let mapped : length (map (λ (f : Bor (List ℕ)). f.now) lent) ≡ length lent = simp length-map in
    let len : length fronts ≡ length lent = ap length (sym are) ∙ mapped in
    let at : get_or names i [] ≡ get_or fronts i [] ++ p = get_or-map (λ (f : List ℕ). f ++ p) fronts i [] [] (omega arith) in
    let len' : length names ≡ length fronts = simp length-map in
    ap (λ n. n ∷ drop (i + 1) names) (ap (λ f. f ++ p) (sym front) ∙ sym at) ∙ sym (drop_more names i [] (omega arith))

pub among_later : (P : List ℕ → Type 0) (names : List (List ℕ)) (i : ℕ) → Among P (drop i names) → Among P names
among_later P names zero h = h
among_later P [] (suc i) h = h
among_later P (n ∷ names) (suc i) h = inr (among_later P names i h)

pub among_here : (P : List ℕ → Type 0) (names : List (List ℕ)) (i : ℕ) (n : List ℕ) → n ∷ drop (i + 1) names ≡ drop i names → P n → Among P names
among_here P names i n next has = among_later P names i (subst (Among P) next (inl has))

-- the next candidate fails, or is passed
pub fails_here : (Passed Fails : List ℕ → Type 0) (names : List (List ℕ)) (i : ℕ) (n : List ℕ) → n ∷ drop (i + 1) names ≡ drop i names → Fails n → FailsAt Passed Fails (drop i names)
fails_here Passed Fails names i n next why = subst (FailsAt Passed Fails) next (inl why)

pub fails_later : (Passed Fails : List ℕ → Type 0) (names : List (List ℕ)) (i : ℕ) (n : List ℕ) → n ∷ drop (i + 1) names ≡ drop i names → Passed n →
    FailsAt Passed Fails (drop (i + 1) names) → FailsAt Passed Fails (drop i names)
fails_later Passed Fails names i n next passed later = subst (FailsAt Passed Fails) next (inr (passed, later))

-- why a candidate failed after others were passed is why the lookup fails
pub not_read_from : (honest : Type 0) (kind : Kind) (s : Store) (T T' : Tree) (before before' now : FaultCounts) (name : List ℕ) (error : Error) → (honest → T' ≡ T) → before' ≡ before →
    IsNotRead honest kind s (view_of T') before' now name error → IsNotRead honest kind s (view_of T) before now name error
not_read_from honest kind s T T' before before' now name (ReadFileContents (File source) path) same count why = (subst (λ b. IsMet source b now) count why.0, why.1, why.2)
not_read_from honest kind s T T' before before' now name (ReadFileContents DeviceName path) same count why = why
not_read_from honest kind s T T' before before' now name (ReferenceCreation source path) same count why =
    (why.0, λ h. subst (λ (U : Tree). IsUndecodable kind (view_of U (s.place name)) source) (same h) (why.1 h))
not_read_from honest kind s T T' before before' now name Memory same count why = tt
not_read_from honest kind s T T' before before' now name (RefnameValidation e) same count why = absurd why
not_read_from honest kind s T T' before before' now name (PackedRef e) same count why = absurd why
not_read_from honest kind s T T' before before' now name (PackedOpen e) same count why = absurd why

module _ {R : Type 0} {G : Ghosts R} (honest : Type 0) (settings : Settings) (T T' : Tree) (r r' : Asked R G) (same : honest → T' ≡ T) (readers : honest → AreHonest r → AreHonest r')
    (searched : honest → (k : Kind) (text : List ℕ) → IsSearched settings.kind (packed_refs_at settings T) r' k text → IsSearched settings.kind (packed_refs_at settings T) r k text) (of_file : honest → AreOfFile r' → AreOfFile r) where
  abbrev s : Store
  s = meaning_in settings

  back : honest → (k : Kind) (text : List ℕ) → IsSearched settings.kind (packed_refs_at settings T') r' k text → IsSearched settings.kind (packed_refs_at settings T) r k text
  back h k text is = searched h k text (subst (λ (U : Tree). IsSearched settings.kind (packed_refs_at settings U) r' k text) (same h) is)

  pub fails_from : (before before' now : FaultCounts) (name : List ℕ) (error : Error) → before' ≡ before →
      CandidateFails honest settings T' r' before' now name error → CandidateFails honest settings T r before now name error
  fails_from before before' now name error count (inl loose) = inl (not_read_from honest settings.kind s T T' before before' now name error same count loose)
  fails_from before before' now name error count (inr packed) = inr (
    λ h. subst (λ (U : Tree). view_of U (s.place name) ≡ None) (same h) (packed.0 h),
    not_packed_wider (honest × AreHonest r') (honest × AreHonest r) (λ e. AreOfFile r' × IsFaultOf G.faults before' now e) (λ e. AreOfFile r × IsFaultOf G.faults before now e)
        (OfKey s name (λ key. OfSearched settings.kind (packed_refs_at settings T') r' (λ k text. CannotRead k text key)))
        (OfKey s name (λ key. OfSearched settings.kind (packed_refs_at settings T) r (λ k text. CannotRead k text key)))
        (λ e. AreOfFile r' × IsRefusedFile settings.kind (T' s.packed_path) e) (λ e. AreOfFile r × IsRefusedFile settings.kind (T s.packed_path) e) error
        (λ h. (h.0, readers h.0 h.1)) (λ h e f. (of_file h.0 f.0, subst (λ b. IsFaultOf G.faults b now e) count f.1))
        (λ h bad. (bad.0, bad.1, searched_wider settings.kind (packed_refs_at settings T') (packed_refs_at settings T) r' r (λ k text. CannotRead k text bad.0) (back h.0) bad.2))
        (λ h e refused. (of_file h.0 refused.0, subst (λ (U : Tree). IsRefusedFile settings.kind (U s.packed_path) e) (same h.0) refused.1)) packed.1,
  )

  -- and a hit is one of the lookup
  pub hit_from : honest → (name : List ℕ) (x : Reference) → IsHit settings (view_of T') r' name x → IsHit settings (view_of T) r name x
  hit_from h name x (inl loose) = inl (loose.0, subst (λ (U : Tree). IsLooseTarget s (view_of U (s.place name)) (Some x.target)) (same h) loose.1, loose.2)
  hit_from h name x (inr packed) = inr (
    subst (λ (U : Tree). view_of U (s.place name) ≡ None) (same h) packed.0,
    (packed.1.0, packed.1.1, hit_wider settings.kind (packed_refs_at settings T') (packed_refs_at settings T) r' r (namespace_text settings.namespace.now) packed.1.0 x (back h) packed.1.2),
  )

-- what one look-up leaves of the records after another
pub still_asked : {R : Type 0} {G : Ghosts R} (kind : Kind) (file file' : Option (List ℕ)) (first mid last : Asked R G) → file' ≡ file →
    AreStillAsked kind file first mid → AreStillAsked kind file' mid last → AreStillAsked kind file first last
still_asked {R} {G} kind file file' first mid last same before after =
    let later = subst (λ (f : Option (List ℕ)). AreStillAsked kind f mid last) same after in
    record {
      asked = λ records are. later.asked records (before.asked records are);
      readers = λ honest. later.readers (before.readers honest);
      searched = λ k text is. before.searched k text (later.searched k text is);
      none = λ none. before.none (later.none none);
      of_file = λ is. before.of_file (later.of_file is);
    }

-- the result of one candidate alone
pub answer_one : (s : Store) (view : View) (rs : List Record) (name : List ℕ) (found : Option Reference) → IsCandidate s view rs name found → ReturnsHit (first_hit s view rs (name ∷ [])) found
answer_one s view rs name None absent = subst (λ f. ReturnsHit f None) (sym (hit_later s view rs name [] absent)) tt
answer_one s view rs name (Some r) is = hit_here s view rs name [] r is

-- where nothing is found, the first candidate and all after it are absent
none_first : (s : Store) (view : View) (rs : List Record) (name : List ℕ) (names : List (List ℕ)) → first_hit s view rs (name ∷ names) ≡ None →
    (reading_among s view rs name ≡ Absent) × (first_hit s view rs names ≡ None)
none_first s view rs name names none = by (reading_among s view rs name) refl none
  where
    by : (reading : Reading) → reading_among s view rs name ≡ reading → (if is_there reading then Some (hit s view rs name) else first_hit s view rs names) ≡ None →
        (reading_among s view rs name ≡ Absent) × (first_hit s view rs names ≡ None)
    by Absent is none = (is, none)
    by Fault is none = absurd (cc)
    by (Is target) is none = absurd (cc)

-- the rest fails after candidates that are absent
pub fails_behind : {R : Type 0} {G : Ghosts R} (honest : Type 0) (settings : Settings) (T : Tree) (r : Asked R G) (Fails : List ℕ → Type 0) (names tail : List (List ℕ)) →
    (honest → (rs : List Record) → AreAsked settings.kind (packed_refs_at settings T) r rs → first_hit (meaning_in settings) (view_of T) rs names ≡ None) →
    FailsAt (IsPassed honest settings T r) Fails tail → FailsAt (IsPassed honest settings T r) Fails (names ++ tail)
fails_behind honest settings T r Fails [] tail none later = later
fails_behind honest settings T r Fails (n ∷ names) tail none later = inr (
  λ h rs are. (none_first (meaning_in settings) (view_of T) rs n names (none h rs are)).0,
  fails_behind honest settings T r Fails names tail (λ h rs are. (none_first (meaning_in settings) (view_of T) rs n names (none h rs are)).1) later,
)

pub fails_front : (Passed Fails : List ℕ → Type 0) (names tail : List (List ℕ)) → FailsAt Passed Fails names → FailsAt Passed Fails (names ++ tail)
fails_front Passed Fails [] tail why = absurd why
fails_front Passed Fails (n ∷ names) tail (inl here) = inl here
fails_front Passed Fails (n ∷ names) tail (inr later) = inr (later.0, fails_front Passed Fails names tail later.1)

pub among_front : (P : List ℕ → Type 0) (names tail : List (List ℕ)) → Among P names → Among P (names ++ tail)
among_front P [] tail why = absurd why
among_front P (n ∷ names) tail (inl here) = inl here
among_front P (n ∷ names) tail (inr later) = inr (among_front P names tail later)

pub among_behind : (P : List ℕ → Type 0) (names tail : List (List ℕ)) → Among P tail → Among P (names ++ tail)
among_behind P [] tail h = h
among_behind P (n ∷ names) tail h = inr (among_behind P names tail h)

pub among_wider : (P Q : List ℕ → Type 0) (names : List (List ℕ)) → ((n : List ℕ) → P n → Q n) → Among P names → Among Q names
among_wider P Q [] wider why = absurd why
among_wider P Q (n ∷ names) wider (inl here) = inl (wider n here)
among_wider P Q (n ∷ names) wider (inr later) = inr (among_wider P Q names wider later)

-- where a lookup returns `None`, nothing is found
pub none_found : (found : Option Hit) → ReturnsHit found None → found ≡ None
none_found None is = refl
none_found (Some hit) is = absurd is
