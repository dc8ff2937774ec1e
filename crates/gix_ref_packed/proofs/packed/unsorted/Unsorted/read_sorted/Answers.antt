use Rattle.std.proofs.Common.{◌≡◌, ◌-◌, List, ℕ, length, take, drop, ◌∙◌, ap, arith}
use Rattle.std.proofs.lemmas.List.{take_all, length-drop}
use Rattle.gix_ref_packed.specs.InOrder.{are_records, in_order}
use Rattle.gix_ref_packed.proofs.PrefixParts.{drop_zero}
use Rattle.gix_ref_packed.proofs.RecordsInOrder.{kept_is}
use Rattle.gix_ref_packed.proofs.packed.unsorted.Unsorted.read_sorted.Goals as goal

-- what was read is all records
whole : (w t : List ℕ) (start size len : ℕ) → w ≡ take (length w) (drop start t) → length w ≡ len → len ≡ size - start → size ≡ length t → w ≡ drop start t
whole w t start size len is same cut all = is ∙ take_all (length w) (drop start t) (omega (arith, length-drop start t))

pub returns-in-Ok-clause-text : goal.returns-in-Ok-clause-text
returns-in-Ok-clause-text g c = λ honest.
    let s = c.args.self.now in
    let read = c.read_window.new.window.items in
    let all : read ≡ drop s.start (g.R.ReadAt.bytes s.reader) = whole read (g.R.ReadAt.bytes s.reader) s.start c.len.result c.saturating_sub-len.result (c.in_ok-read_window.ensures.read honest) c.in_ok-read_window.ensures.len c.saturating_sub-len.ensures (c.len.ensures.bytes honest) in
    c.from_start.ensures.text ∙ drop_zero c.in-Ok.sorted.items ∙ kept_is s.kind c.as_slice.result.now c.in-Ok.sorted.items c.in-Ok.ensures.sorts ∙ ap (in_order s.kind) (c.as_slice.ensures.value ∙ all)

pub returns-clause-stays : goal.returns-clause-stays
returns-clause-stays g c = λ honest.
    let s = c.args.self.now in
    let read = c.read_window.new.window.items in
    let all : read ≡ drop s.start (g.R.ReadAt.bytes s.reader) = whole read (g.R.ReadAt.bytes s.reader) s.start c.len.result c.saturating_sub-len.result (c.in_ok-read_window.ensures.read honest) c.in_ok-read_window.ensures.len c.saturating_sub-len.ensures (c.len.ensures.bytes honest) in
    let seen : c.as_slice.result.now ≡ drop s.start (g.R.ReadAt.bytes s.reader) = c.as_slice.ensures.value ∙ all in
    c.not_sorted.ensures.no_change s.kind c.first_line_behind-first_line.result c.as_slice.result.now (ap (are_records s.kind) seen ∙ s.are_records honest) c.in-Err.ensures.refused
