use Rattle.std.proofs.Common.{◌∙◌, refl, sym, subst}
use Rattle.gix_ref_store.specs.Listings.{store_listed}
use Rattle.gix_ref_store.specs.Lookup.{LooksUp}
use Rattle.gix_ref_store.specs.declared.file.store.Store.{Store}
use Rattle.gix_ref_program.specs.Runs.{ListRanAmong, Prints}
use Rattle.gix_ref_program.specs.Runs.Ran.{Said}
use Rattle.gix_ref_program.specs.declared.outcome.Outcome.{Outcome}
use Rattle.gix_ref_program.proofs.Listing.{printed_all, looks_on}
use Rattle.gix_ref_program.proofs.Printing.{said}
use Rattle.gix_ref_program.proofs.run.print_among.Goals as goal

pub returns-in-Err-clause-prints : goal.returns-in-Err-clause-prints
returns-in-Err-clause-prints g c =
    let F = g.F.Files in
    let store = c.args.store.now in
    let new = c.iter_walked.follows.lender-at-none in
    let names = c.args.names in
    let refused = c.refused.ensures in
    let does = ListRanAmong F.honest F.means F.faults store new names c.args.packed in
    said does (g.W.Write.contents c.args.out.now) (g.W.Write.contents c.print.new.out) c.print.result c.refused.result
    (subst (λ (o : Outcome). does (Said o)) (sym refused.1) (c.in-Err.ensures.made, refused.2)) c.print.ensures.status c.print.ensures.printed

pub returns-in-Ok-clause-prints : goal.returns-in-Ok-clause-prints
returns-in-Ok-clause-prints g c =
    let F = g.F.Files in
    let store = c.args.store.now in
    let names = c.args.names in
    let out = g.W.Write.contents c.args.out.now in
    let now = g.W.Write.contents c.print_items-status.new.out in
    let packed = c.args.packed in
    let new = store_listed c.print_items-status.new.items in
    let done : Prints (ListRanAmong F.honest F.means F.faults store new names packed) out now c.print_items-status.result =
    printed_all F.honest F.means F.faults store new names packed c.in-Ok.items c.print_items-status.new.items out now c.print_items-status.result c.in-Ok.ensures.lists c.in-Ok.ensures.complete c.print_items-status.ensures.rises refl c.print_items-status.ensures.prints in
    let name = sym (c.into_store.ensures.same_reference ∙ (c.print_items-status.ensures.same_reference ∙ c.in-Ok.ensures.same_reference)) in
    subst (λ (x : Store g.row.F.Denot). Prints (ListRanAmong F.honest F.means F.faults store x names packed) out now c.print_items-status.result)
    (sym (c.store-1.given.1 name ∙ c.into_store.ensures.same)) done

pub returns-in-Ok-clause-unchanged : goal.returns-in-Ok-clause-unchanged
returns-in-Ok-clause-unchanged g c =
    let F = g.F.Files in
    let name = sym (c.into_store.ensures.same_reference ∙ (c.print_items-status.ensures.same_reference ∙ c.in-Ok.ensures.same_reference)) in
    subst (λ (x : Store g.row.F.Denot). LooksUp F.honest F.means c.args.store.now x) (sym (c.store-1.given.1 name ∙ c.into_store.ensures.same))
    (looks_on F.honest F.means F.faults c.args.store.now (store_listed c.in-Ok.items) (store_listed c.print_items-status.new.items) c.in-Ok.ensures.made c.print_items-status.ensures.unchanged)
