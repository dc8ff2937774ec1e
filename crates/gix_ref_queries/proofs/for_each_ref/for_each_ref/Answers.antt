use Rattle.std.proofs.Common.{◌≡◌, sym, subst, inr, List, Ok}
use Rattle.gix_ref_queries.specs.Formats.{Parts, format_parts}
use Rattle.gix_ref_queries.specs.Patterns.{texts}
use Rattle.gix_ref_queries.specs.Rows.{EachAnswer, EachListed}
use Rattle.gix_ref_queries.specs.declared.format.Part.{Part}
use Rattle.gix_ref_queries.proofs.RowLemmas.{if_ok}
use Rattle.gix_ref_queries.proofs.for_each_ref.for_each_ref.Goals as goal

pub returns-clause-answers : goal.returns-clause-answers
returns-clause-answers g c =
    let F = g.F.Files in
    let G = g.F.Reader.ReadAt in
    let old = c.args.store.now in
    let new = c.each_listed.new.store in
    let parts = c.deref.result.now in
    let patterns = texts c.args.patterns.now in
    let reads = subst (λ (ps : List Part). let r : Parts = Ok ps in format_parts c.args.format.now ≡ r) (sym c.deref.ensures.value) c.in-Ok.ensures in
    if_ok c.each_listed.result (EachListed F.honest F.means F.faults G old new parts patterns c.args.descending c.args.count) (EachAnswer F.honest F.means F.faults G old new c.args.format.now patterns c.args.descending c.args.count)
    (λ answer said. inr (parts, reads, inr (sym c.in_default.ensures, said))) c.each_listed.ensures.answers
