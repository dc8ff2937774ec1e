-- What an iterator of packed records is yet to give, for a caller that keeps it and takes one item at a time.
use Rattle.std.specs.Prelude.{◌≡◌, ◌≢◌, ◌⊎◌, ◌+◌, ℕ, nat_eq, true, List, [], ◌∷◌, take, drop, Option, Some, None, Result, Ok, Err}
use Rattle.std.specs.List.{take_while, starts_with, Contains}
use Rattle.gix_ref_hash.specs.declared.hash.Kind.{Kind}
use Rattle.gix_ref_packed_text.specs.declared.packed.reference.Reference.{Reference}
use Rattle.gix_ref_packed.specs.declared.packed.iter.Iter.{Iter}
use Rattle.gix_ref_packed.specs.declared.packed.iter.error.Error.{Error}
use Rattle.gix_ref_packed.specs.declared.packed.iter.error.Error.TheVariants.{Header as bad_header, Reference as bad_line}
use Rattle.gix_ref_target.specs.PackedRecords.{Record}
use Rattle.gix_ref_packed_text.specs.RecordGrammar.{NoRecord, Records, Below}
use Rattle.gix_ref_packed_text.specs.Positions.{RecordBeginsLine}
use Rattle.gix_ref_packed_text.specs.Prefixes.{IsBadLineAt, IsItemStart, NamedLine, NamesAscend}
use Rattle.gix_ref_packed.specs.Items.{CutsAtFeed, ItemStep, has_prefix, line_feeds, unread, unread_at}
use Rattle.gix_ref_packed_text.specs.Views.{record_of}

-- the records up to the first other name, where only some names are asked for
abbrev pub asked_records : Option (List ℕ) → List Record → List Record
asked_records prefix rs = take_while (λ r. has_prefix prefix r.name) rs

-- what is unread is records, and these are those that the iterator is yet to give
pub record IsYet (it : Iter) (rs : List Record) : Type 0 where
  pub left : List Record
  pub records : Records (unread it).kind (unread it).text left
  pub asked : rs ≡ asked_records (unread it).prefix left

-- one item of an iterator that is yet to give these records, and what it is yet to give then
abbrev pub TakesOne : List Record → Option (Result Reference Error) → Iter → Type 0
TakesOne rs None t = (rs ≡ []) × IsYet t []
TakesOne rs (Some (Ok r)) t = (more : List Record) × (rs ≡ record_of r ∷ more) × IsYet t more
TakesOne rs (Some (Err e)) t = ⊥

-- one call of `next` gives the first of the records that it is yet to give, without a fault, and `None` where there is none
abbrev pub NextGivesTheFirst : Type 0
NextGivesTheFirst = (s t : Iter) (item : Option (Result Reference Error)) (rs : List Record) →
    ItemStep s item t → IsYet s rs → TakesOne rs item t

-- a line that is no record, and no header
abbrev pub IsLineFault : Error → Type 0
IsLineFault (bad_line line number) = Unit {0}
IsLineFault (bad_header line) = ⊥

-- of any text: each fault is a line
abbrev pub FaultsAreLines : Type 0
FaultsAreLines = (s t : Iter) (e : Error) → ItemStep s (Some (Err e)) t → IsLineFault e

-- of any text: after its end an iterator gives nothing more
abbrev pub EndedStaysEnded : Type 0
EndedStaysEnded = (s t u : Iter) (item : Option (Result Reference Error)) → ItemStep s None t →
    ItemStep t item u → item ≡ None

-- a line of what is unread has this name, which is asked for, whatever the lines are
abbrev pub IsOwed : Iter → (name : List ℕ) → Type 0
IsOwed it name = ((p : ℕ) × NamedLine (unread it).kind (unread it).text p name)
    × (has_prefix (unread it).prefix name ≡ true)

-- no name of what is unread comes before those that are asked for
abbrev pub NoneIsBefore : Option (List ℕ) → Iter → Type 0
NoneIsBefore None it = Unit {0}
NoneIsBefore (Some prefix) it = (p : ℕ) (name : List ℕ) →
    NamedLine (unread it).kind (unread it).text p name → Below name prefix → ⊥

-- the names of what is unread ascend, whatever its other lines are
pub record IsInOrder (it : Iter) : Type 0 where
  pub ascend : NamesAscend (unread it).kind (unread it).text
  pub from : NoneIsBefore (unread it).prefix it

-- a line that is no record comes next
pub record IsAtBadLine (it : Iter) : Type 0 where
  pub some : (unread it).text ≢ []
  pub bad : NoRecord (unread it).kind (unread it).text

-- a line of the text, which has the form of a record's, has this name, which begins with the prefix
abbrev pub IsAsked : Kind → List ℕ → (prefix name : List ℕ) → Type 0
IsAsked kind text prefix name =
    ((p : ℕ) × NamedLine kind text p name) × (starts_with nat_eq name prefix ≡ true)

-- Where records of these names were given, it is yet to give one of each other name of the text with the prefix; or it gives a line
-- that is no record.
abbrev pub Owes : Kind → (text prefix : List ℕ) → (given : List (List ℕ)) → Iter → Type 0
Owes kind text prefix given it = IsAtBadLine it
    ⊎ (IsInOrder it × ((name : List ℕ) → IsAsked kind text prefix name →
    Contains given name ⊎ IsOwed it name))

-- one item of an iterator that owes these, and what it owes then; at its end all were given, unless an item was a fault
abbrev pub PaysOne : Kind → (text prefix : List ℕ) → (given : List (List ℕ)) →
    Option (Result Reference Error) → Iter → Type 0
PaysOne kind text prefix given None t = (name : List ℕ) → IsAsked kind text prefix name →
    Contains given name
PaysOne kind text prefix given (Some (Ok x)) t = Owes kind text prefix
    ((record_of x).name ∷ given) t
PaysOne kind text prefix given (Some (Err e)) t = Unit {0}

-- of any text: one call of `next` gives a record of a name that the iterator owes, or a fault, or all were given
abbrev pub NextPaysOne : Type 0
NextPaysOne = (kind : Kind) (text prefix : List ℕ) (given : List (List ℕ)) (s t : Iter)
    (item : Option (Result Reference Error)) → Owes kind text prefix given s → ItemStep s item t
    → PaysOne kind text prefix given item t

-- A line of a text that is no record, without its LF. It has this number where the first line has that one.
pub record IsBadLine (kind : Kind) (text : List ℕ) (first : ℕ) (line : List ℕ)
    (number : ℕ) : Type 0 where
  pub start : ℕ
  pub at : IsBadLineAt kind text start
  pub rest : List ℕ
  pub cut : CutsAtFeed (drop start text) line rest
  pub numbered : number ≡ first + line_feeds (take start text)

-- An item of a text: a record that begins a line, with a name that is asked for; or a line that is no record.
abbrev pub IsItemOf : Kind → (text : List ℕ) → (first : ℕ) → (prefix : Option (List ℕ)) →
    Result Reference Error → Type 0
IsItemOf kind text first prefix (Ok r) = RecordBeginsLine kind text (record_of r)
    × (has_prefix prefix (record_of r).name ≡ true)
IsItemOf kind text first prefix (Err (bad_line line number)) = IsBadLine kind text first line.now
    number
IsItemOf kind text first prefix (Err (bad_header line)) = ⊥

-- what is unread is what a text has from a line on, or nothing
abbrev pub IsRestOf : Kind → (text : List ℕ) → (first : ℕ) → (prefix : Option (List ℕ)) → Iter →
    Type 0
IsRestOf kind text first prefix it = ((unread it).text ≡ [])
    ⊎ ((start : ℕ) × IsItemStart kind text start
    × (unread it ≡ unread_at kind text first prefix start))

-- of any text: what one call of `next` gives is an item of it, and what is unread then is the rest of it
abbrev pub NextIsOf : Type 0
NextIsOf = (kind : Kind) (text : List ℕ) (first : ℕ) (prefix : Option (List ℕ)) (s t : Iter)
    (item : Result Reference Error) → IsRestOf kind text first prefix s →
    ItemStep s (Some item) t → IsItemOf kind text first prefix item
    × IsRestOf kind text first prefix t
