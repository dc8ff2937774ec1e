use Rattle.std.proofs.Common.{◌≡◌, Bool, true, false, List, ℕ, drop, refl, sym, ◌∙◌, ap, subst}
use Rattle.std.proofs.lemmas.Result.{err_from_is_err_and}
use Rattle.gix_ref_hash.specs.declared.hash.Kind.{Kind}
use Rattle.gix_ref_packed.specs.declared.packed.buffer.open.Error.{Error}
use Rattle.gix_ref_packed.specs.declared.packed.buffer.open.Error.TheVariants.{Iter, HeaderParsing, Io, Memory}
use Rattle.gix_ref_packed_text.specs.OpenedText.{Keeps, OpensTo, SortsText, line_behind, says_sorted}
use Rattle.gix_ref_packed_text.specs.declared.packed.header_end.HeaderEnd.{HeaderEnd}
use Rattle.gix_ref_packed_text.specs.RecordGrammar.{Records}
use Rattle.gix_ref_packed_text.specs.HeaderEnds.{HeadsAt}
use Rattle.gix_ref_packed.specs.Buffers.{IsRefusedBytes}
use Rattle.gix_ref_packed.specs.InOrder.{are_records, in_order}
use Rattle.gix_ref_packed.specs.OpenFiles.{OpenedFile}
use Rattle.gix_ref_packed.specs.declared.packed.file.PackedFile.TheVariants.{InFile}
use Rattle.gix_ref_packed.specs.internal.Parts.{IsUnread}
use Rattle.gix_ref_packed.proofs.AreRecords.{pass_records}
use Rattle.gix_ref_packed.proofs.RecordsInOrder.{order_sorts}
use Rattle.gix_ref_packed.proofs.SortedPieces.{keeps_text}
use Rattle.gix_ref_packed.proofs.packed.file.open_reader.Goals.{then-not-says_sorted+in_ok-rises+else-not-rises, else-not-says_sorted}
use Rattle.gix_ref_packed.proofs.packed.file.open_reader.Goals as goal

-- the records of a file that the header does not say to be sorted are not read
unread_bytes : (k : Kind) (bytes : List ℕ) (heading : HeaderEnd) (first : ℕ) (e : Error) → HeadsAt bytes heading → says_sorted heading.header ≡ false → first ≡ line_behind heading.header → IsUnread k first (drop heading.start bytes) e → IsRefusedBytes k bytes e
unread_bytes k bytes heading first (Io error) heads plain line h = h
unread_bytes k bytes heading first HeaderParsing heads plain line h = absurd h
unread_bytes k bytes heading first Memory heads plain line h = tt
unread_bytes k bytes heading first (Iter number) heads plain line h =
    (heading.header, drop heading.start bytes, heads.0, plain, subst (λ (n : ℕ). IsUnread k n (drop heading.start bytes) (Iter number)) line h)

-- what is kept of a text
opens : (k : Kind) (bytes kept : List ℕ) (heading : HeaderEnd) (sorted : Bool) → HeadsAt bytes heading → says_sorted heading.header ≡ sorted → Keeps k sorted (drop heading.start bytes) kept → OpensTo k bytes kept (line_behind heading.header)
opens k bytes kept heading sorted heads is keeps = record {
  header = heading.header;
  rest = drop heading.start bytes;
  heads = heads.0;
  keeps = subst (λ (b : Bool). Keeps k b (drop heading.start bytes) kept) (sym is) keeps;
  number = refl;
}

pub returns-in-Err-clause-refused : goal.returns-in-Err-clause-refused
returns-in-Err-clause-refused g c = λ honest. c.refusal.ensures.refused c.args.kind (g.R.ReadAt.bytes c.args.reader)

pub returns-in_err-rises-clause-refused : goal.returns-in_err-rises-clause-refused
returns-in_err-rises-clause-refused g c = λ honest.
    let heading = c.in-Ok-Some.heading in
    let bytes = g.R.ReadAt.bytes c.args.reader in
    let heads = rw c.in-Ok-Some.field-0-is at c.in-Ok-Some.ensures.heads honest in
    let first = c.first_line_behind-first.result in
    let why = c.in_err-rises.field-0.0 in
    let unread : IsUnread c.args.kind first (drop heading.start bytes) why = subst (λ (t : List ℕ). IsUnread c.args.kind first (drop heading.start t) why) c.file_header.ensures.same (c.in_err-rises.ensures.refused honest) in
    let error = err_from_is_err_and c.from_residual.result c.from_residual.ensures.1 in
    rw (error.1, error.2) (unread_bytes c.args.kind bytes heading first why heads (sym c.says_sorted.ensures ∙ c.if-not-says_sorted.true) c.first_line_behind-first.ensures.line unread)

pub new-records-requires : goal.new-records-requires
new-records-requires g c = λ honest.
    let same = c.in_ok-rises.ensures.same.0 in
    let read = c.in_ok-rises.ensures.order honest in
    ap (λ (t : List ℕ). are_records c.args.kind (drop c.in-Ok-Some.heading.start t)) same ∙ pass_records c.args.kind (drop c.in-Ok-Some.heading.start (g.R.ReadAt.bytes c.file_header.new.reader)) read.0 read.1

pub returns-then-not-rises-clause-opened : goal.returns-then-not-rises-clause-opened
returns-then-not-rises-clause-opened g c = λ honest.
    let heading = c.in-Ok-Some.heading in
    let bytes = g.R.ReadAt.bytes c.args.reader in
    let text = drop heading.start bytes in
    let heads = rw c.in-Ok-Some.field-0-is at c.in-Ok-Some.ensures.heads honest in
    let u = c.new-records.result in
    let made = c.new-records.ensures in
    let order = c.in_ok-rises.ensures.order honest in
    let read : Records c.args.kind text order.0 = subst (λ (t : List ℕ). Records c.args.kind (drop heading.start t) order.0) c.file_header.ensures.same order.1 in
    let same : g.R.ReadAt.bytes u.reader ≡ bytes = ap g.R.ReadAt.bytes made.reader ∙ c.in_ok-rises.ensures.same.0 ∙ c.file_header.ensures.same in
    let kept : in_order u.kind (drop u.start (g.R.ReadAt.bytes u.reader)) ≡ in_order c.args.kind text = λ i. in_order (made.kind i) (drop (made.start i) (same i)) in
    record {
      kind_is = made.kind;
      line = line_behind heading.header;
      line_is = ap line_behind (sym made.header);
      opens = opens c.args.kind bytes (in_order u.kind (drop u.start (g.R.ReadAt.bytes u.reader))) heading false heads (sym c.says_sorted.ensures ∙ c.if-not-says_sorted.true)
          (subst (SortsText c.args.kind text) (sym kept) (order_sorts c.args.kind text order.0 read));
    }

pub returns-clause-opened : goal.returns-clause-opened
returns-clause-opened g c = λ honest.
    let heading = c.in-Ok-Some.heading in
    let kind = c.args.kind in
    let bytes = g.R.ReadAt.bytes c.args.reader in
    let text = drop heading.start bytes in
    let heads = rw c.in-Ok-Some.field-0-is at c.in-Ok-Some.ensures.heads honest in
    let source = c.with_window_memory-source.result in
    let made = c.with_window_memory-source.ensures in
    let kept = drop source.base (g.R.ReadAt.bytes source.reader) in
    let held : g.R.ReadAt.bytes c.if-not-says_sorted.reader ≡ bytes → kept ≡ text = λ same i. drop (made.base i) ((ap g.R.ReadAt.bytes made.reader ∙ same) i) in
    let opened : (sorted : Bool) → says_sorted heading.header ≡ sorted → Keeps kind sorted text kept → OpenedFile {G = g.R.ReadAt} kind bytes (InFile source kind heading.header) =
    λ sorted is keeps. record { kind_is = refl; line = line_behind heading.header; line_is = refl; opens = opens kind bytes kept heading sorted heads is keeps } in
    elim c.if-not-says_sorted.branch [
      | then-not-says_sorted+in_ok-rises+else-not-rises w ↦
          let order = w.in_ok-rises.ensures.order honest in
          let read : Records kind text order.0 = subst (λ (t : List ℕ). Records kind (drop heading.start t) order.0) c.file_header.ensures.same order.1 in
          let same : g.R.ReadAt.bytes c.if-not-says_sorted.reader ≡ bytes = ap g.R.ReadAt.bytes w.reader-is ∙ w.in_ok-rises.ensures.same.0 ∙ c.file_header.ensures.same in
          opened false (sym c.says_sorted.ensures ∙ w.if-not-says_sorted.true) (subst (SortsText kind text) (sym (held same)) (keeps_text kind text order.0 read (order.2 w.if-not-rises.false)))
      | else-not-says_sorted w ↦
          opened true (sym c.says_sorted.ensures ∙ w.if-not-says_sorted.false) (held (ap g.R.ReadAt.bytes w.reader-is ∙ c.file_header.ensures.same))
    ]
