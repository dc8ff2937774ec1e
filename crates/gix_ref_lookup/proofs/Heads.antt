-- The head of a remote, as a loose file alone.
use Rattle.std.proofs.Common.{◌≡◌, inl, inr, ℕ, List, [], ◌∷◌, Option, Some, None, false, Result, Ok, Err, OnOk, IfOk, MatchOption, MatchResult, refl}
use Rattle.std.specs.Prelude.{option_to_list}
use Rattle.gix_ref_hash.specs.declared.hash.Kind.{Kind}
use Rattle.gix_ref_files.specs.Files.{FaultCounts}
use Rattle.gix_ref_theory.specs.Views.{View}
use Rattle.gix_ref_theory.specs.Readings.{Store, reading_by}
use Rattle.gix_ref_theory.specs.Readings.Reading.{Absent}
use Rattle.gix_ref_theory.specs.Lookups.{first_hit}
use Rattle.gix_ref_packed_text.specs.declared.raw.Reference.{Reference}
use Rattle.gix_ref_lookup.specs.Lookups.{Among, FailsAt, Finds, IsLooseHit, IsNotRead, IsSound}
use Rattle.gix_ref_lookup.specs.declared.find.error.Error.{Error}
use Rattle.gix_ref_lookup.specs.declared.find.error.Error.TheVariants.{RefnameValidation, ReadFileContents, ReferenceCreation, PackedRef, PackedOpen, Memory}
use Rattle.gix_ref_lookup.proofs.Answering.{loose_candidate, packed_candidate}
use Rattle.gix_ref_lookup.proofs.Looking.{answer_one}

-- among no records a name without a loose file reads nothing
none_recorded : (s : Store) (key : Option (List ℕ)) → reading_by s key None [] ≡ Absent
none_recorded s None = refl
none_recorded s (Some key) = refl

-- a loose file that is not read says nothing of records
pub not_read_sound : (honest : Type 0) (kind : Kind) (s : Store) (view : View) (before now : FaultCounts) (name : List ℕ) (error : Error) → IsNotRead honest kind s view before now name error → IsSound error
not_read_sound honest kind s view before now name (ReadFileContents source path) why = tt
not_read_sound honest kind s view before now name (ReferenceCreation source path) why = tt
not_read_sound honest kind s view before now name Memory why = tt
not_read_sound honest kind s view before now name (RefnameValidation e) why = absurd why
not_read_sound honest kind s view before now name (PackedRef e) why = absurd why
not_read_sound honest kind s view before now name (PackedOpen e) why = absurd why

-- a loose file alone as a result
pub loose_answer : (s : Store) (view : View) (name : List ℕ) (S : Type 0) (Why : Error → Type 0) (result : Result (Option Reference) Error) → ((error : Error) → Why error → IsSound error) →
    OnOk result (s.is_prohibited (s.place name) ≡ false) → IfOk result (λ found. MatchOption found (view (s.place name) ≡ None) (IsLooseHit s view name)) → MatchResult result (λ found. S) Why →
    Finds (first_hit s view [] (name ∷ [])) result
loose_answer s view name S Why (Ok None) sound allowed absent still = answer_one s view [] name None (packed_candidate s view [] name None allowed absent (none_recorded s (s.key name)))
loose_answer s view name S Why (Ok (Some r)) sound allowed hit still = answer_one s view [] name (Some r) (loose_candidate s view [] name r allowed hit)
loose_answer s view name S Why (Err error) sound allowed found why = sound error why

-- it is the one name that fails
pub fails_alone : (Passed Fails Why : List ℕ → Type 0) (head : Option (List ℕ)) → ((n : List ℕ) → Why n → Fails n) → Among Why (option_to_list head) → FailsAt Passed Fails (option_to_list head)
fails_alone Passed Fails Why None f why = absurd why
fails_alone Passed Fails Why (Some n) f (inl here) = inl (f n here)
fails_alone Passed Fails Why (Some n) f (inr later) = absurd later
