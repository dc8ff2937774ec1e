-- Buffers of the records of a prefix.
use Rattle.std.proofs.Common.{◌≡◌, ℕ, ◌-◌, List, length, take, drop, refl, sym, ◌∙◌, ap, subst, arith}
use Rattle.gix_ref_hash.specs.declared.hash.Kind.{Kind}
use Rattle.gix_ref_target.specs.PackedRecords.{Record}
use Rattle.gix_ref_packed_text.specs.Positions.{RecordBeginsLine}
use Rattle.gix_ref_packed_text.specs.RecordGrammar.{Records}
use Rattle.gix_ref_packed.specs.Buffers.{buffer_text, buffer_kind, buffer_line}
use Rattle.gix_ref_packed.specs.FilePrefixes.{HoldsPrefixed, Encloses, HoldsPrefix, PrefixedBuffersHold}
use Rattle.gix_ref_packed.specs.YetToGive.{IsBadLine}
use Rattle.gix_ref_packed.specs.declared.packed.buffer.Buffer.{Buffer}
use Rattle.gix_ref_packed.proofs.PrefixParts.{drop_zero, encloses_all}
use Rattle.gix_ref_packed.proofs.TextItems.{bad_of_front, begins_longer, begins_whole, none_bad}

module _ (k : Kind) (text prefix : List ℕ) (line : ℕ) (b : Buffer) (kind_is : buffer_kind b ≡ k) where
  -- what is said of the text of the buffer
  record_at : (part : List ℕ) → buffer_text b ≡ part → (r : Record) → RecordBeginsLine (buffer_kind b) (buffer_text b) r → RecordBeginsLine k part r
  record_at part is r at = subst (λ (t : List ℕ). RecordBeginsLine k t r) is (subst (λ (x : Kind). RecordBeginsLine x (buffer_text b) r) kind_is at)

  bad_at : (part : List ℕ) → buffer_text b ≡ part → (bytes : List ℕ) (number : ℕ) → IsBadLine (buffer_kind b) (buffer_text b) (buffer_line b) bytes number → IsBadLine k part (buffer_line b) bytes number
  bad_at part is bytes number at = subst (λ (t : List ℕ). IsBadLine k t (buffer_line b) bytes number) is (subst (λ (x : Kind). IsBadLine x (buffer_text b) (buffer_line b) bytes number) kind_is at)

  -- a part of the text that begins with its first line
  pub holds_first : (start end : ℕ) → Encloses k text prefix start end → buffer_text b ≡ take (end - start) (drop start text) → start ≡ 0 → buffer_line b ≡ line → HoldsPrefix k text line prefix b
  holds_first start end encloses is first number =
      let all : end - start ≡ end = omega arith in
      let front : buffer_text b ≡ take end text = is ∙ ap (λ i. take (end - start) (drop i text)) first ∙ ap (take (end - start)) (drop_zero text) ∙ ap (λ i. take i text) all in
      record {
        kind_is = kind_is;
        part = record { start = start; end = end; encloses = encloses; is = is };
        items = record {
          records = λ r at. begins_longer k text end encloses.ends encloses.no_caret r (record_at (take end text) front r at);
          bad_lines = λ bytes line_number at.
              bad_of_front k text end encloses.ends encloses.no_caret line bytes line_number (subst (λ (m : ℕ). IsBadLine k (take end text) m bytes line_number) number (bad_at (take end text) front bytes line_number at));
        };
      }

  -- the whole text
  pub holds_all : (end : ℕ) → end ≡ length text → buffer_text b ≡ take (end - 0) (drop 0 text) → buffer_line b ≡ line → HoldsPrefix k text line prefix b
  holds_all end whole is number = holds_first 0 end (encloses_all k text prefix end whole) is refl number

  -- records of any part of it
  pub holds_part : (start end : ℕ) → Encloses k text prefix start end → buffer_text b ≡ take (end - start) (drop start text) → (rs : List Record) → Records k (buffer_text b) rs → HoldsPrefix k text line prefix b
  holds_part start end encloses is rs h = record {
    kind_is = kind_is;
    part = record { start = start; end = end; encloses = encloses; is = is };
    items = record {
      records = λ r at. begins_whole k text start end encloses.begins encloses.ends encloses.no_caret encloses.ordered r (record_at (take (end - start) (drop start text)) is r at);
      bad_lines = λ bytes number at.
          let bad = bad_at (buffer_text b) refl bytes number at in
          absurd (none_bad k (buffer_text b) rs h bad.start bad.at.begins.apart bad.at.some bad.at.bad);
    };
  }

pub prefixed_hold : PrefixedBuffersHold
prefixed_hold kind text line prefix b rs h records up =
    subst (λ (k : Kind). HoldsPrefixed k prefix rs (buffer_text b)) (sym h.kind_is) (subst (HoldsPrefixed kind prefix rs) (sym h.part.is) (h.part.encloses.records rs records up))
