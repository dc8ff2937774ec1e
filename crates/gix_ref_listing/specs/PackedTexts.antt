-- What an item of a listing tells of a text of `packed-refs`, whatever its lines are.
use denote.Ref.{Bor}
use Rattle.std.specs.Prelude.{◌≡◌, ◌⊎◌, ℕ, List, nat_eq, true, Option, Some, None, Result, Ok, Err}
use Rattle.std.specs.List.{starts_with}
use Rattle.gix_ref_hash.specs.declared.hash.Kind.{Kind}
use Rattle.gix_ref_packed_text.specs.Positions.{RecordBeginsLine}
use Rattle.gix_ref_packed_text.specs.Prefixes.{NamesAscend}
use Rattle.gix_ref_packed_text.specs.declared.raw.Reference.{Reference}
use Rattle.gix_ref_packed.specs.Buffers.{buffer_kind, buffer_line, buffer_text}
use Rattle.gix_ref_packed.specs.YetToGive.{IsItemOf, IsRestOf}
use Rattle.gix_ref_packed.specs.declared.packed.buffer.Buffer.{Buffer}
use Rattle.gix_ref_packed.specs.declared.packed.iter.Iter.{Iter}
use Rattle.gix_ref_packed.specs.declared.packed.iter.error.Error.{Error as LineError}
use Rattle.gix_ref_lookup.specs.declared.settings.Settings.{Settings}
use Rattle.gix_ref_listing.specs.Items.{IsOfLine, IsRecordItem}
use Rattle.gix_ref_listing.specs.OwnRecords.{Own, own_name}
use Rattle.gix_ref_listing.specs.declared.error.Error.{Error}

-- A text of `packed-refs`, whose records are asked for by the beginning of their keys. Its first line has this number in the file.
pub record Text : Type 0 where
  pub kind : Kind
  pub bytes : List ℕ
  pub line : ℕ
  pub key : List ℕ

-- its names ascend, whatever its other lines are
abbrev pub Ascends : Text → Type 0
Ascends text = NamesAscend text.kind text.bytes

-- the text of this buffer, which is asked for a key
abbrev pub IsTextOf : (key : List ℕ) → Option (Bor Buffer) → Text → Type 0
IsTextOf key None text = ⊥
IsTextOf key (Some buffer) text = text ≡ record {
  kind = buffer_kind buffer.now;
  bytes = buffer_text buffer.now;
  line = buffer_line buffer.now;
  key = key;
}

-- A record begins a line of the text. Its key is asked for, and this is the name of that.
pub record IsRecordOf (settings : Settings) (text : Text) (own : Own) : Type 0 where
  pub begins : RecordBeginsLine text.kind text.bytes own.of
  pub asked : starts_with nat_eq own.of.name text.key ≡ true
  pub named : own_name settings own.of.name ≡ Some own.name

-- the fault of a line is about a line of the text that is no record, and has its number
abbrev pub IsLineOf : Text → LineError → Type 0
IsLineOf text error = IsItemOf text.kind text.bytes text.line (Some text.key) (Err error)

-- an iterator is yet to give what the text has from a line on
abbrev pub IsRest : Text → Iter → Type 0
IsRest text it = IsRestOf text.kind text.bytes text.line (Some text.key) it

-- a record of the text as an item: its reference, or why that is not given
abbrev pub IsOfSomeRecord : Settings → Text → Result Reference Error → Type 0
IsOfSomeRecord settings text item = (own : Own) × IsRecordOf settings text own
    × IsRecordItem settings own item

-- An item that was read from the text: a record as an item, or the fault of a line.
abbrev pub IsTextItem : Settings → Text → Result Reference Error → Type 0
IsTextItem settings text (Ok r) = IsOfSomeRecord settings text (Ok r)
IsTextItem settings text (Err error) = IsOfSomeRecord settings text (Err error)
    ⊎ ((line : LineError) × IsLineOf text line × IsOfLine line error)
