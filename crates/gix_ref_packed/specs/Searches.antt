-- What a search in memory returns.
use Rattle.std.specs.Prelude.{◌≡◌, ◌≢◌, ℕ, List, [], Contains, false, Option, Some, None, Result, Ok, Err, IfOk, IfErr, IfSome, IfNone, MatchResult}
use Rattle.std.specs.Option.{option_map}
use Rattle.gix_ref_hash.specs.declared.hash.Kind.{Kind}
use Rattle.gix_ref_name.specs.Names.{full_ref_bytes}
use Rattle.gix_ref_packed_text.specs.declared.packed.reference.Reference.{Reference}
use Rattle.gix_ref_packed.specs.declared.packed.find.Error.{Error}
use Rattle.gix_ref_packed.specs.declared.packed.find.Error.TheVariants.{RefnameValidation, Parse, Memory}
use Rattle.gix_ref_packed.specs.declared.packed.find.ParseError.{ParseError}
use Rattle.gix_ref_packed.specs.declared.packed.find.existing.Error.{Error as ExistingError}
use Rattle.gix_ref_packed.specs.declared.packed.find.existing.Error.TheVariants.{Find, NotFound}
use Rattle.gix_ref_target.specs.PackedRecords.{Record, record_named}
use Rattle.gix_ref_packed_text.specs.RecordGrammar.{Records, Forms, Ascending}
use Rattle.gix_ref_packed_text.specs.Positions.{RecordBeginsLine, IsNotMalformed, CannotRead, IsUnreadable}
use Rattle.gix_ref_packed_text.specs.Views.{record_of}
use Rattle.gix_ref_packed.specs.AskedNames.{asked_keys, first_named}
use Rattle.gix_ref_name.specs.Candidates.{is_full_ref_path}

-- What a search for one full name returns.
pub record Finds {E : Type 0} (kind : Kind) (text name : List ℕ)
    (result : Result (Option Reference) E) : Type 0 where
  -- on any text a hit is a record of that name at the start of a line
  pub hit : IfOk result (λ found. IfSome found
      (λ r. (full_ref_bytes r.name ≡ name) × RecordBeginsLine kind text (record_of r)))
  -- a text of malformed lines alone is never taken for one without the name
  pub none : IfOk result (λ found. IfNone found (IsNotMalformed kind text))
  -- on any text an error comes from a malformed line, or from a record of the name that cannot be read
  pub refused : IfErr result (λ _. CannotRead kind text name)
  -- among ascending records it is the record of the name, or `None` where no record has it
  pub records : (rs : List Record) → Records kind text rs → Ascending rs →
      MatchResult result (λ found. option_map record_of found ≡ record_named name rs) (λ _. ⊥)
  -- so it is where ids and names are not checked, except for a record of the name that cannot be read
  pub forms : (rs : List Record) → Forms kind text rs → Ascending rs →
      MatchResult result (λ found. option_map record_of found ≡ record_named name rs)
      (λ _. IsUnreadable kind (record_named name rs))

-- what it returns where the name is to be made, too
abbrev pub FindsOne : Kind → List ℕ → List ℕ → Result (Option Reference) Error → Type 0
FindsOne kind text name (Ok found) = Finds {E = ParseError} kind text name (Ok found)
FindsOne kind text name (Err Parse) = (e : ParseError) × Finds kind text name (Err e)
FindsOne kind text name (Err Memory) = Unit {0}
FindsOne kind text name (Err (RefnameValidation error)) = ⊥

-- what is found for a partial name on any text: a record of a name that is asked for, at the start of a line
pub record HitsPartial (kind : Kind) (text p : List ℕ) (r : Record) : Type 0 where
  pub wanted : Contains (asked_keys p) r.name
  pub begins : RecordBeginsLine kind text r

-- why a search for a partial name fails on any text: a name that is asked for meets a malformed line or a record that
-- cannot be read, or, where names are to be made, there was no memory
abbrev pub PartialFails : Kind → List ℕ → List ℕ → Error → Type 0
PartialFails kind text p Parse = (n : List ℕ) × Contains (asked_keys p) n × CannotRead kind text n
PartialFails kind text p Memory = is_full_ref_path p ≡ false
PartialFails kind text p (RefnameValidation error) = ⊥

-- why it fails where each line has its form
abbrev pub PartialUnreadable : Kind → List Record → List ℕ → Error → Type 0
PartialUnreadable kind rs p Parse = (n : List ℕ) × Contains (asked_keys p) n
    × IsUnreadable kind (record_named n rs)
PartialUnreadable kind rs p Memory = Unit {0}
PartialUnreadable kind rs p (RefnameValidation error) = ⊥

-- What a search for a partial name returns.
pub record FindsPartial (kind : Kind) (text p : List ℕ)
    (result : Result (Option Reference) Error) : Type 0 where
  pub hit : IfOk result (λ found. IfSome found (λ r. HitsPartial kind text p (record_of r)))
  -- where a name is asked for, a text of malformed lines alone is never taken for one without it
  pub none : IfOk result (λ found. IfNone found (asked_keys p ≢ [] → IsNotMalformed kind text))
  pub refused : IfErr result (PartialFails kind text p)
  -- among ascending records it is the record of the first name that has one
  pub records : (rs : List Record) → Records kind text rs → Ascending rs →
      MatchResult result (λ found. option_map record_of found ≡ first_named (asked_keys p) rs)
      (λ e. e ≡ Memory)
  -- so it is where ids and names are not checked
  pub forms : (rs : List Record) → Forms kind text rs → Ascending rs →
      MatchResult result (λ found. option_map record_of found ≡ first_named (asked_keys p) rs)
      (PartialUnreadable kind rs p)

-- the result of `try_find` that a result of `find` says
abbrev pub as_try_find : Result Reference ExistingError → Result (Option Reference) Error
as_try_find (Ok r) = Ok (Some r)
as_try_find (Err NotFound) = Ok None
as_try_find (Err (Find error)) = Err error
