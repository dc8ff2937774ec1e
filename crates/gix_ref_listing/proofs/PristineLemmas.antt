-- What is said of a store by what its files are read as.
use Rattle.std.proofs.Common.{◌≡◌, ◌⊎◌, inl, inr, ⊎_elim, ℕ, ◌<◌, zero, suc, arith, Bool, true, false, List, [], ◌∷◌, refl, sym, ◌∙◌, ap, subst, Option, Some, None, Result, Ok, Err}
use Rattle.gix_ref_files.specs.Files.{FaultCounts}
use Rattle.std.specs.Prelude.{IfOk}
use Rattle.std.specs.List.{All}
use Rattle.std.specs.declared.alloc.AllocError.{AllocError}
use Rattle.std.proofs.lemmas.List.Elements.{All-cons, All-head, All-tail}
use Rattle.gix_ref_name.specs.NameGrammar.{IsPartialName, partial_error}
use Rattle.gix_ref_theory.specs.Readings.{reading_of_loose}
use Rattle.gix_ref_theory.specs.Readings.Reading.{Is, Fault}
use Rattle.gix_ref_theory.specs.Views.{View}
use Rattle.gix_ref_lookup.specs.LooseFiles.{IsUndecodable}
use Rattle.gix_ref_lookup.specs.LooseText.{target_in}
use Rattle.gix_ref_lookup.specs.Lookups.{meaning_in, Among}
use Rattle.gix_ref_lookup.specs.declared.settings.Settings.{Settings}
use Rattle.gix_ref_lookup.specs.declared.loose.error.Error.{Error as Undecoded}
use Rattle.gix_ref_lookup.proofs.LooseLemmas.{refused_none}
use Rattle.gix_ref_listing.specs.PlainSettings.{plain}
use Rattle.gix_ref_listing.specs.LooseListings.{IsFoundIn, IsFileListed, IsLooseListed}
use Rattle.gix_ref_listing.specs.PristineStores.{Says, ReadsNone, IsReadableFile, IsUnreadableFile, IsFoundFile, HasLoose, HasNoLoose}
use Rattle.gix_ref_listing.specs.Walks.{Holds, FoundEntry, IsFile, IsFileOrMet, IsAnyMet}
use Rattle.gix_ref_listing.specs.declared.found.Found.TheVariants.{File, Unlisted}
use Rattle.gix_ref_listing.proofs.PlainListings.{found_plain, loose_of_plain}

-- `HEAD` is a name
pub head_is_name : IsPartialName (72 ∷ 69 ∷ 65 ∷ 68 ∷ [])
unfolding partial_error
head_is_name = refl

some_is : (a b : List ℕ) → Some a ≡ Some b → a ≡ b
some_is a b h = cc

-- a file that cannot be decoded is read as nothing
pub undecodable : (s : Settings) (view : View) (path : List ℕ) (error : Undecoded) → IsUndecodable s.kind (view path) error → ReadsNone (plain s) view path
undecodable s view path error (bytes, is, refused, memory) target reads =
    let same : bytes ≡ reads.bytes = some_is bytes reads.bytes (sym is ∙ reads.there) in
    let none : target_in s.kind reads.bytes ≡ None = subst (λ b. target_in s.kind b ≡ None) same (refused_none s.kind bytes error refused memory) in
    let bad : Fault ≡ Is target = sym (ap (λ t. reading_of_loose (meaning_in (plain s)) t) none) ∙ reads.holds in
    absurd (cc)

-- by what is said
pub says : (This Other Unknown : Type 0) (b : Bool) → (b ≡ true → This) → (b ≡ false → Other) → Says This Other Unknown (Some b)
says This Other Unknown true this other = this refl
says This Other Unknown false this other = other refl

-- nothing is left
pub none_left : (n : ℕ) → (0 < n → ⊥) → n ≡ 0
none_left zero h = refl
none_left (suc n) h = absurd (h (omega arith))

-- what is said of one thing is said of another that follows
pub says_too : {This Other Unknown This' Other' Unknown' : Type 0} (r : Result (Option Bool) AllocError) → (This → This') → (Other → Other') → (Unknown → Unknown') →
    IfOk r (Says This Other Unknown) → IfOk r (Says This' Other' Unknown')
says_too (Ok (Some true)) this other unknown h = this h
says_too (Ok (Some false)) this other unknown h = other h
says_too (Ok None) this other unknown h = unknown h
says_too (Err e) this other unknown h = h

pub found_file : (e : FoundEntry) → IsFile e → IsFoundFile e.1
found_file (key, File name path) is = is
found_file (key, Unlisted path error) is = is

-- all that was found are files, or a fault was counted
pub files_or_met : (before now : FaultCounts) (es : List FoundEntry) → All (IsFileOrMet before now) es → All IsFile es ⊎ IsAnyMet before now
files_or_met before now [] all = inl (λ k d below. absurd (omega (arith, below)))
files_or_met before now (e ∷ es) all = ⊎_elim
    (λ files. by e (All-head (IsFileOrMet before now) e es all) files)
    (λ met. inr met) (files_or_met before now es (All-tail (IsFileOrMet before now) e es all))
  where
    by : (f : FoundEntry) → IsFileOrMet before now f → All IsFile es → All IsFile (f ∷ es) ⊎ IsAnyMet before now
    by (key, File name path) is files = inl (All-cons IsFile (key, File name path) es tt files)
    by (key, Unlisted path error) met files = inr (error, met)

module _ (s : Settings) (view : View) (prefix : List ℕ) where
  -- a file that was found and can be read is a loose reference that can be read
  pub has_one : (es : List FoundEntry) → All (IsFoundIn s view prefix) es → Among (λ (e : FoundEntry). IsReadableFile (plain s) view e.1) es → HasLoose (plain s) view prefix
  has_one [] all has = absurd has
  has_one (e ∷ es) all has = ⊎_elim (here e (found_plain s view prefix e (All-head (IsFoundIn s view prefix) e es all))) (λ later. has_one es (All-tail (IsFoundIn s view prefix) e es all) later) has
    where
      here : (f : FoundEntry) → IsFoundIn (plain s) view prefix f → IsReadableFile (plain s) view f.1 → HasLoose (plain s) view prefix
      here (key, File name path) (named, listed) (target, reads) = record { name = key.items; path = path.items; target = target; listed = listed; reads = reads }
      here (key, Unlisted path error) found reads = absurd reads

  -- where none can be read, no loose reference can
  none_at : (name : List ℕ) (es : List FoundEntry) → All (IsFoundIn s view prefix) es → All (λ (e : FoundEntry). IsUnreadableFile (plain s) view e.1) es → Among (Holds name) es →
      (path : List ℕ) × IsFileListed (plain s) view prefix name path × ReadsNone (plain s) view path
  none_at name [] all none has = absurd has
  none_at name (e ∷ es) all none has =
      ⊎_elim (here e (found_plain s view prefix e (All-head (IsFoundIn s view prefix) e es all)) (All-head (λ (f : FoundEntry). IsUnreadableFile (plain s) view f.1) e es none))
      (λ later. none_at name es (All-tail (IsFoundIn s view prefix) e es all) (All-tail (λ (f : FoundEntry). IsUnreadableFile (plain s) view f.1) e es none) later) has
    where
      here : (f : FoundEntry) → IsFoundIn (plain s) view prefix f → IsUnreadableFile (plain s) view f.1 → Holds name f → (path : List ℕ) × IsFileListed (plain s) view prefix name path × ReadsNone (plain s) view path
      here (key, File n path) (named, listed) reads is = (path.items, subst (λ m. IsFileListed (plain s) view prefix m path.items) is listed, reads)
      here (key, Unlisted path error) found reads is = absurd reads

  pub has_none : (es : List FoundEntry) → All (IsFoundIn s view prefix) es → ((name : List ℕ) → IsLooseListed s view prefix name → Among (Holds name) es) →
      All (λ (e : FoundEntry). IsUnreadableFile (plain s) view e.1) es → HasNoLoose (plain s) view prefix
  has_none es all finds none name listed = none_at name es all none (finds name (loose_of_plain s view prefix name listed))
