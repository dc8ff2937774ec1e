-- The items of packed references: records, and lines that are no record, with their numbers in the file.
use Rattle.std.specs.Prelude.{◌≡◌, ◌≢◌, ◌==◌, ◌+◌, ◌-◌, ◌⊎◌, ℕ, Bool, true, false, List, [], ◌∷◌, length, take, drop, nat_eq, Option, Some, None, Result, Ok, Err, count_by, if◌then◌else◌}
use Rattle.std.specs.List.{starts_with, ends_with}
use Rattle.std.specs.Option.{option_map}
use Rattle.gix_ref_hash.specs.declared.hash.Kind.{Kind}
use Rattle.gix_ref_hash.specs.Bytes.{Cuts, NoByte}
use Rattle.gix_ref_packed.specs.declared.packed.buffer.Buffer.{Buffer}
use Rattle.gix_ref_packed.specs.Buffers.{buffer_text, buffer_kind, buffer_line}
use Rattle.gix_ref_packed_text.specs.declared.packed.reference.Reference.{Reference}
use Rattle.gix_ref_packed.specs.declared.packed.iter.Iter.{Iter}
use Rattle.gix_ref_packed.specs.declared.packed.iter.error.Error.{Error}
use Rattle.gix_ref_packed.specs.declared.packed.iter.error.Error.TheVariants.{Header as bad_header, Reference as bad_line}
use Rattle.gix_ref_target.specs.PackedRecords.{Record}
use Rattle.gix_ref_packed_text.specs.RecordGrammar.{Takes, NoRecord}
use Rattle.gix_ref_packed_text.specs.OpenedText.{NoHeader, lines_of}
use Rattle.gix_ref_packed_text.specs.Views.{record_of}

-- a line up to its LF, which it may lack at the end of the text, and what follows; a CR belongs to the line
abbrev pub CutsAtFeed : List ℕ → List ℕ → List ℕ → Type 0
CutsAtFeed text line rest = Cuts 10 text line rest ⊎ (NoByte 10 text × (line ≡ text) × (rest ≡ []))

-- a line without the CR of a CRLF
abbrev pub line_without_cr : List ℕ → List ℕ
line_without_cr line = if ends_with nat_eq line (13 ∷ []) then take (length line - 1) line else line

-- the first line without its LF or CRLF
abbrev pub FirstLine : List ℕ → List ℕ → Type 0
FirstLine text line =
    ((before : List ℕ) × (after : List ℕ) × Cuts 10 text before after
    × (line ≡ line_without_cr before)) ⊎ (NoByte 10 text × (line ≡ text))

-- where only some names are asked for, the name begins with that prefix
abbrev pub has_prefix : Option (List ℕ) → List ℕ → Bool
has_prefix None name = true
has_prefix (Some prefix) name = starts_with nat_eq name prefix

-- What an iterator is yet to read: a text whose first line has this number, up to the first other name.
pub record Unread : Type 0 where
  pub kind : Kind
  pub prefix : Option (List ℕ)
  pub number : ℕ
  pub text : List ℕ

-- nothing is left, or a record of another name is there
abbrev pub HasNoMore : Unread → Type 0
HasNoMore s = (s.text ≡ []) ⊎ ((r : Record) × (rest : List ℕ) × Takes s.kind s.text r rest
    × (has_prefix s.prefix r.name ≡ false))

-- of the same kind, for the same names
abbrev pub IsAlike : Unread → Unread → Type 0
IsAlike s t = (t.kind ≡ s.kind) × (t.prefix ≡ s.prefix)

-- One item, by what is to be read before it and after it: the record there, or the line, where it is no record.
abbrev pub GivesPackedItem : Unread → Option (Result Reference Error) → Unread → Type 0
GivesPackedItem s None t = HasNoMore s × (t.text ≡ [])
GivesPackedItem s (Some (Ok r)) t =
    Takes s.kind s.text (record_of r) t.text × (has_prefix s.prefix (record_of r).name ≡ true)
    × (t.number ≡ s.number + lines_of (record_of r)) × IsAlike s t
GivesPackedItem s (Some (Err (bad_line line number))) t =
    (s.text ≢ []) × NoRecord s.kind s.text × CutsAtFeed s.text line.now t.text × (number ≡ s.number)
    × (t.number ≡ s.number + 1) × IsAlike s t
GivesPackedItem s (Some (Err (bad_header line))) t = ⊥

-- the items of a run; `Ended` holds where it went on to the end
abbrev pub AreItems : Type 0 → Unread → List (Result Reference Error) → Type 0
AreItems Ended s [] = Ended → HasNoMore s
AreItems Ended s (x ∷ items) = (t : Unread) × GivesPackedItem s (Some x) t × AreItems Ended t items

-- the items of a run are these records, without a fault
abbrev pub AreRecords : Type 0 → List Record → List (Result Reference Error) → Type 0
AreRecords Ended rs [] = Ended → rs ≡ []
AreRecords Ended rs (Ok r ∷ items) = (more : List Record) × (rs ≡ record_of r ∷ more)
    × AreRecords Ended more items
AreRecords Ended rs (Err e ∷ items) = ⊥

-- how many lines end in a text
abbrev pub line_feeds : List ℕ → ℕ
line_feeds = count_by (λ b. b == 10)

abbrev pub unread : Iter → Unread
unread it = record {
  kind = it.kind;
  prefix = option_map (λ p. p.items) it.prefix;
  number = it.line + line_feeds it.before.now;
  text = it.rest.now;
}

-- a text whose first line has this number, with records of any name
abbrev pub unread_text : Kind → ℕ → List ℕ → Unread
unread_text kind number text = record { kind = kind; prefix = None; number = number; text = text }

-- the records of a buffer
abbrev pub unread_buffer : Buffer → Unread
unread_buffer b = unread_text (buffer_kind b) (buffer_line b) (buffer_text b)

-- what is to be read from a place of a text on, whose first line has this number
abbrev pub unread_at : Kind → (text : List ℕ) → (first : ℕ) → (prefix : Option (List ℕ)) →
    (start : ℕ) → Unread
unread_at kind text first prefix start =
    record {
      kind = kind;
      prefix = prefix;
      number = first + line_feeds (take start text);
      text = drop start text;
    }

-- the records of a buffer from a place on, up to the first name without the prefix
abbrev pub unread_from : Buffer → List ℕ → ℕ → Unread
unread_from b prefix start =
    unread_at (buffer_kind b) (buffer_text b) (buffer_line b) (Some prefix) start

-- one call of `next`
abbrev pub ItemStep : Iter → Option (Result Reference Error) → Iter → Type 0
ItemStep s r t = GivesPackedItem (unread s) r (unread t)

-- why a text has no items
abbrev pub IsHeaderError : List ℕ → Error → Type 0
IsHeaderError text (bad_header line) = NoHeader text × FirstLine text line.now
IsHeaderError text (bad_line line number) = ⊥
