use Rattle.std.proofs.Common.{◌≡◌, ◌∙◌, Result, Ok, Err, IfOk, ℕ, List, length, refl, sym, subst}
use Rattle.gix_ref_hash.specs.declared.hash.Kind.{Kind}
use Rattle.gix_ref_packed.specs.declared.packed.buffer.Buffer.{Buffer}
use Rattle.gix_ref_packed.specs.declared.packed.sorted_file.ReadError.{ReadError}
use Rattle.gix_ref_packed.specs.FilePrefixes.{HoldsPrefix, HoldsAsked, BufferHoldsAsked}
use Rattle.gix_ref_packed_text.specs.Prefixes.{NamesAscend}
use Rattle.gix_ref_packed.specs.Buffers.{buffer_text, buffer_kind, buffer_line}
use Rattle.gix_ref_packed.specs.Unsorted.{unsorted_kind, unsorted_line, unsorted_text}
use Rattle.gix_ref_packed.proofs.PrefixBuffers.{holds_all}
use Rattle.gix_ref_packed.proofs.PrefixParts.{whole_part}
use Rattle.gix_ref_packed.proofs.packed.file.PackedFile.into_prefixed.Goals as goal

pub returns-in-InFile-clause-holds : goal.returns-in-InFile-clause-holds
returns-in-InFile-clause-holds g c = λ honest. rw c.in-InFile.is (rw c.first_line_behind.ensures.line at c.read_prefixed.ensures.holds honest)

pub returns-in-InFile-clause-asked : goal.returns-in-InFile-clause-asked
returns-in-InFile-clause-asked g c = λ honest. rw c.in-InFile.is (c.read_prefixed.ensures.asked honest)

-- all records are held
sorted_holds : (kind : Kind) (text : List ℕ) (line : ℕ) (prefix : List ℕ) (r : Result Buffer ReadError) → IfOk r (λ b. buffer_text b ≡ text) → IfOk r (λ b. (buffer_kind b ≡ kind) × (buffer_line b ≡ line)) → IfOk r (HoldsPrefix kind text line prefix)
sorted_holds kind text line prefix (Ok b) is like = holds_all kind text prefix line b like.0 (length text) refl (is ∙ sym (whole_part text (length text) refl)) like.1
sorted_holds kind text line prefix (Err e) is like = tt

pub returns-in-Unsorted-clause-holds : goal.returns-in-Unsorted-clause-holds
returns-in-Unsorted-clause-holds g c = λ honest. rw c.in-Unsorted.is
    (let u = c.in-Unsorted.records in
    sorted_holds (unsorted_kind u) (unsorted_text u) (unsorted_line u) c.args.prefix.now c.into_sorted.result (c.into_sorted.ensures.text honest) c.into_sorted.ensures.numbered)

sorted_asked : (kind : Kind) (text prefix : List ℕ) (r : Result Buffer ReadError) → NamesAscend kind text → IfOk r (λ b. buffer_text b ≡ text) → IfOk r (BufferHoldsAsked kind text prefix)
sorted_asked kind text prefix (Ok b) ascend is = subst (HoldsAsked kind text prefix) (sym is) (ascend, λ name asked. asked)
sorted_asked kind text prefix (Err e) ascend is = tt

pub returns-in-Unsorted-clause-asked : goal.returns-in-Unsorted-clause-asked
returns-in-Unsorted-clause-asked g c = λ honest. rw c.in-Unsorted.is
    (let u = c.in-Unsorted.records in λ ascend. sorted_asked (unsorted_kind u) (unsorted_text u) c.args.prefix.now c.into_sorted.result ascend (c.into_sorted.ensures.text honest))
