use Rattle.std.proofs.Common.{◌≡◌, ◌≢◌, ◌∙◌, List, [], length, ap, sym, arith}
use Rattle.std.proofs.lemmas.List.{nil_from_length}
use Rattle.std.proofs.lemmas.Bool.Decides.{nat_tests}
use Rattle.gix_ref_log.specs.declared.log.line.LineRef.{LineRef}
use Rattle.gix_ref_queries.specs.LogRows.{entry_lines, entry_parts, newest}
use Rattle.gix_ref_queries.proofs.log_rows.shown_lines.Goals as goal

pub returns-then-is_empty : goal.returns-then-is_empty
returns-then-is_empty c =
    let read = c.in_ok-entries.ensures in
    let ok = c.in_ok-entries.entries.ok in
    let empty = c.if-is_empty.ensures in
    let none : length c.in_ok-entries.entries.items ≡ 0 = grind (arith, nat_tests, ok.0, empty) in
    (read.0, read.1, read.2, sym read.3 ∙ nil_from_length c.in_ok-entries.entries.items none)

pub returns : goal.returns
returns c =
    let read = c.in_ok-entries.ensures in
    let name = c.args.name.now in
    let count = c.args.count in
    let ok = c.in_ok-entries.entries.ok in
    let empty = c.if-is_empty.ensures in
    let some : c.in_ok-entries.entries.items ≢ [] = λ none. (let zero : length c.in_ok-entries.entries.items ≡ 0 = ap length none in grind (arith, nat_tests, ok.0, empty, zero)) in (
      read.0,
      read.1,
      read.2,
      (
        (λ none. some (read.3 ∙ none)),
        c.in_ok-text.ensures ∙ (ap (λ (es : List LineRef). entry_lines name 0 (entry_parts es)) c.deref.ensures.value ∙ (ap (entry_lines name 0) c.put_newest_first.ensures ∙ ap (λ (es : List LineRef). entry_lines name 0 (newest count (entry_parts es))) read.3)),
      ),
    )
