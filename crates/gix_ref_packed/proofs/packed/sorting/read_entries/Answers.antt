use Rattle.std.proofs.Common.{◌-◌, length, map, refl, sym, ◌∙◌, ap, ◌++◌, append-nil, arith}
use Rattle.gix_ref_packed.specs.internal.Entries.{entry_record, entry_bytes}
use Rattle.std.specs.List.{flat_map}
use Rattle.gix_ref_packed_text.specs.Views.{record_of}
use Rattle.gix_ref_packed_text.proofs.RecordBytes.{fronts_all, lines_fit}
use Rattle.gix_ref_packed.proofs.SortedPieces.{entries_more}
use Rattle.gix_ref_packed.proofs.OrderLemmas.{no_bytes}
use Rattle.gix_ref_packed.proofs.packed.sorting.read_entries.Goals as goal

pub loop-rest-preserved : goal.loop-rest-preserved
loop-rest-preserved c =
    let was = c.loop-rest.invariant in
    let takes = c.in-Some.ensures in
    let fit = lines_fit c.args.kind c.loop-rest.rest.now (record_of c.in-Some.reference) c.in-Some.after.now takes in
    let next = entries_more c.args.kind c.args.text.now c.loop-rest.entries.items c.push.new.self.items _ c.loop-rest.rest.now c.in-Some.after.now (length c.loop-rest.rest.now - length c.in-Some.after.now) c.in_ok-push.ensures.items was.fronts was.pieces was.cut takes refl (omega arith) in
    let old = was.number in
    let fits = was.fits in
    let count = c.line_count-line.ensures in
    let sum = next.2 in
    record { fronts = next.0; pieces = next.1; cut = next.3; number = omega arith; fits = omega arith }

pub returns-clause-records : goal.returns-clause-records
returns-clause-records c =
    fronts_all c.args.kind c.args.text.now (map entry_record c.loop-rest.entries.items) c.loop-rest.rest.now (no_bytes c.loop-rest.rest.now (sym c.loop-rest-test.ensures)) c.loop-rest.invariant.fronts

pub returns-clause-cut : goal.returns-clause-cut
returns-clause-cut c =
    c.loop-rest.invariant.cut ∙ ap (λ u. flat_map entry_bytes c.loop-rest.entries.items ++ u) (no_bytes c.loop-rest.rest.now (sym c.loop-rest-test.ensures)) ∙ append-nil _
