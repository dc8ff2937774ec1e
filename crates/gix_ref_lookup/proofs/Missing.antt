-- Why nothing is found on any text of `packed-refs`.
use Rattle.std.proofs.Common.{◌≡◌, inl, inr, ⊎_elim, ℕ, List, Option, Some, None, true, false, ◌∙◌, Result, Ok, Err, refl, sym, subst, IfOk, IfNone, IfSome, MatchOption}
use Rattle.gix_ref_hash.specs.declared.hash.Kind.{Kind}
use Rattle.gix_ref_target.specs.PackedRecords.{Record}
use Rattle.gix_ref_files.specs.Tree.{Tree, Content, is_file, bytes_of, file_of}
use Rattle.gix_ref_files.specs.Tree.Content.{File, Folder}
use Rattle.gix_ref_files.specs.declared.files.ReadAt.{Ghosts}
use Rattle.gix_ref_theory.specs.OnRealTrees.{view_of}
use Rattle.gix_ref_packed_text.specs.Positions.{IsNotMalformed}
use Rattle.gix_ref_packed_text.specs.declared.packed.window.Found.{Found}
use Rattle.gix_ref_packed.specs.declared.packed.sorted_file.FindError.{FindError}
use Rattle.gix_ref_packed.specs.Buffers.{buffer_kind, buffer_text}
use Rattle.gix_ref_packed.specs.declared.packed.file.PackedFile.{PackedFile}
use Rattle.gix_ref_packed.specs.OpenFiles.{OpenedFile, packed_file_kind, packed_file_text}
use Rattle.gix_ref_packed_text.specs.OpenedText.{OpensTo}
use Rattle.gix_ref_lookup.specs.Lookups.{AreAsked, FindsNone, IsMissing, IsOpenable, IsOpenedText, IsReady, IsSearched, SearchesNone, as_found}
use Rattle.gix_ref_lookup.specs.declared.settings.Settings.{Settings}
use Rattle.gix_ref_lookup.specs.declared.find.records.Records.{Records as Asked}
use Rattle.gix_ref_lookup.specs.declared.find.records.Records.TheVariants as sources
use Rattle.gix_ref_lookup.proofs.Looking.{packed_refs_at}
use Rattle.gix_ref_lookup.proofs.Opening.{searched_wider}

-- what a search says of a record and of none is what the lookup says
pub found_seen : {N N' : Type 0} {P Q : Found → Type 0} (found : Result (Option Found) FindError) → (N → N') → ((f : Found) → P f → Q f) → IfOk found (λ f. IfNone f N) → IfOk found (λ f. IfSome f P) →
    IfOk (as_found found) (λ f. MatchOption f N' Q)
found_seen (Ok None) none some nothing hit = none nothing
found_seen (Ok (Some f)) none some nothing hit = some f hit
found_seen (Err error) none some nothing hit = tt

-- no file is there
pub no_file : (content : Option Content) → is_file content ≡ false → file_of content ≡ None
no_file None none = refl
no_file (Some (File bytes)) none = absurd (cc)
no_file (Some Folder) none = refl

-- a file is there
some_file : (content : Option Content) → is_file content ≡ true → file_of content ≡ Some (bytes_of content)
some_file None some = absurd (cc)
some_file (Some (File bytes)) some = refl
some_file (Some Folder) some = absurd (cc)

-- what is searched in an open file is a text of it
pub opened_text : {R : Type 0} {G : Ghosts R} (kind : Kind) (content : Option Content) (p : PackedFile R G) → is_file content ≡ true → OpenedFile kind (bytes_of content) p →
    (k : Kind) (text : List ℕ) → IsSearched kind None (sources.Open p) k text → IsOpenedText kind (file_of content) k text
opened_text kind content p some opened k text is =
    (is.0 ∙ opened.kind_is, bytes_of content, opened.line, some_file content some, subst (λ (t : List ℕ). OpensTo kind (bytes_of content) t opened.line) (sym is.1) opened.opens)

-- where `packed-refs` is open, it is of no matter what file it is now
pub any_file : {R : Type 0} {G : Ghosts R} (f f' : Option (List ℕ)) (r : Asked R G) → IsReady r → SearchesNone f r → SearchesNone f' r
any_file f f' sources.None ready none = tt
any_file f f' (sources.Held buffer) ready none = absurd none
any_file f f' sources.Unopened ready none = absurd ready
any_file f f' (sources.Open packed) ready none = absurd none

pub any_asked : {R : Type 0} {G : Ghosts R} (kind : Kind) (f f' : Option (List ℕ)) (r : Asked R G) (rs : List Record) → IsReady r → AreAsked kind f r rs → AreAsked kind f' r rs
any_asked kind f f' sources.None rs ready are = are
any_asked kind f f' (sources.Held buffer) rs ready are = are
any_asked kind f f' sources.Unopened rs ready are = absurd ready
any_asked kind f f' (sources.Open packed) rs ready are = are

pub any_searched : {R : Type 0} {G : Ghosts R} (kind : Kind) (f f' : Option (List ℕ)) (r : Asked R G) (k : Kind) (text : List ℕ) → IsReady r → IsSearched kind f r k text → IsSearched kind f' r k text
any_searched kind f f' sources.None k text ready is = absurd is
any_searched kind f f' (sources.Held buffer) k text ready is = is
any_searched kind f f' sources.Unopened k text ready is = absurd ready
any_searched kind f f' (sources.Open packed) k text ready is = is

-- `packed-refs` can be opened where it is open
of_text : (kind : Kind) (file : Option (List ℕ)) (k : Kind) (text : List ℕ) → IsOpenedText kind file k text → IsOpenable kind file
of_text kind file k text is = subst (IsOpenable kind) (sym is.3) (text, is.2, is.4)

pub openable : {R : Type 0} {G : Ghosts R} (kind : Kind) (file : Option (List ℕ)) (r : Asked R G) → IsReady r → (SearchesNone None r → file ≡ None) →
    ((k : Kind) (text : List ℕ) → IsSearched kind None r k text → IsOpenedText kind file k text) → IsOpenable kind file
openable kind file sources.None ready none opened = subst (IsOpenable kind) (sym (none tt)) tt
openable kind file (sources.Held buffer) ready none opened = of_text kind file _ _ (opened (buffer_kind buffer.now) (buffer_text buffer.now) (refl, refl))
openable kind file sources.Unopened ready none opened = absurd ready
openable kind file (sources.Open packed) ready none opened = of_text kind file _ _ (opened (packed_file_kind packed) (packed_file_text packed) (refl, refl))

pub none_wider : {R : Type 0} {G : Ghosts R} (kind : Kind) (f f' : Option (List ℕ)) (r r' : Asked R G) → (SearchesNone f r → SearchesNone f' r') →
    ((k : Kind) (text : List ℕ) → IsSearched kind f r k text → IsSearched kind f' r' k text) → FindsNone kind f r → FindsNone kind f' r'
none_wider kind f f' r r' none wider (inl nowhere) = inl (none nowhere)
none_wider kind f f' r r' none wider (inr o) = inr (searched_wider kind f f' r r' IsNotMalformed wider o)

-- a candidate that is nothing after others is nothing in the lookup
pub missing_from : {R : Type 0} {G : Ghosts R} (settings : Settings) (T T' : Tree) (r r' : Asked R G) → T' ≡ T →
    (SearchesNone (packed_refs_at settings T) r' → SearchesNone (packed_refs_at settings T) r) →
    ((k : Kind) (text : List ℕ) → IsSearched settings.kind (packed_refs_at settings T) r' k text → IsSearched settings.kind (packed_refs_at settings T) r k text) →
    (name : List ℕ) → IsMissing settings (view_of T') r' name → IsMissing settings (view_of T) r name
missing_from settings T T' r r' same none searched name missing =
    let here = subst (λ (U : Tree). IsMissing settings (view_of U) r' name) same missing in
    let file = packed_refs_at settings T in
    record { loose = here.loose; packed = ⊎_elim (λ no_key. inl no_key) (λ found. inr (none_wider settings.kind file file r' r none searched found)) here.packed }
