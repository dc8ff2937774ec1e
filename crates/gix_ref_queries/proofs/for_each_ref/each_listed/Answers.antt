use Rattle.std.proofs.Common.{◌∙◌, ap, sym, subst, inl, inr, codes, List}
use Rattle.gix_ref_packed_text.specs.declared.raw.Reference.{Reference}
use Rattle.gix_ref_queries.specs.Answers.{path_lines}
use Rattle.gix_ref_queries.specs.Patterns.{texts}
use Rattle.gix_ref_queries.specs.Rows.{EachListed, IsUnfollowedAs, ListsAsked, row_lines, row_texts}
use Rattle.gix_ref_queries.proofs.RowLemmas.{if_ok, lines_of_rows, rows_before, rows_failed_before, seen_before}
use Rattle.gix_ref_queries.proofs.for_each_ref.each_listed.Goals as goal

pub returns-in-Ok-rows-clause-answers : goal.returns-in-Ok-rows-clause-answers
returns-in-Ok-rows-clause-answers g c =
    let F = g.F.Files in
    let old = c.args.store.now in
    let mid = c.list_asked.new.store in
    let references = c.deref.result.now in
    let rows = c.in-Ok-rows.rows.items in
    let chosen = c.choose.new.rows.items in
    let lists = subst (λ (r : List Reference). ListsAsked F.honest F.means F.faults old mid (codes "refs/") (texts c.args.patterns.now) r) (sym c.deref.ensures.value) c.in-Ok.ensures.lists in
    let text = c.said.ensures.0 ∙ (c.in_ok-lines-in-Ok-rows.ensures ∙ (ap path_lines c.deref-in-Ok-rows.ensures.value ∙ (lines_of_rows chosen ∙ ap row_lines c.choose.ensures))) in
    inr (mid, references, c.list_asked.ensures.unchanged, lists, inr (row_texts rows, (text, c.said.ensures.1, c.said.ensures.2), λ h. (seen_before F.honest F.means old mid c.list_asked.ensures.unchanged h c.args.parts.now references (row_texts rows) (c.in-Ok-rows.ensures.seen h), rows_before g.F.Reader.ReadAt F.honest F.means F.faults old mid c.args.parts.now references (row_texts rows) c.list_asked.ensures.unchanged c.in-Ok-rows.ensures.rows h)))

pub returns-clause-answers : goal.returns-clause-answers
returns-clause-answers g c =
    let F = g.F.Files in
    let G = g.F.Reader.ReadAt in
    let old = c.args.store.now in
    let mid = c.list_asked.new.store in
    let references = c.deref.result.now in
    let patterns = texts c.args.patterns.now in
    let lists = subst (λ (r : List Reference). ListsAsked F.honest F.means F.faults old mid (codes "refs/") patterns r) (sym c.deref.ensures.value) c.in-Ok.ensures.lists in
    if_ok c.unfollowed.result (IsUnfollowedAs c.in-Err-rows.why) (EachListed F.honest F.means F.faults G old c.rows.new.store c.args.parts.now patterns c.args.descending c.args.count)
    (λ answer said. inr (mid, references, c.list_asked.ensures.unchanged, lists, inl (c.in-Err-rows.why, rows_failed_before G F.honest F.means F.faults old mid c.args.parts.now references c.in-Err-rows.why c.list_asked.ensures.unchanged c.in-Err-rows.ensures.failed, said))) c.unfollowed.ensures
