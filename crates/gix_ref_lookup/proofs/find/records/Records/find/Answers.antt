use Rattle.std.proofs.Common.{inr, refl}
use Rattle.gix_ref_name.specs.Names.{full_ref_bytes}
use Rattle.gix_ref_packed.specs.Buffers.{buffer_kind, buffer_text}
use Rattle.gix_ref_packed.specs.OpenFiles.{packed_file_text, packed_file_kind}
use Rattle.gix_ref_lookup.proofs.Opening.{not_searched}
use Rattle.gix_ref_lookup.proofs.Missing.{found_seen}
use Rattle.gix_ref_lookup.proofs.find.records.Records.find.Goals as goal

pub returns-in-Open-clause-failed : goal.returns-in-Open-clause-failed
returns-in-Open-clause-failed g c kind =
    let file = c.in-Open.file in
    rw (c.in-Open.is, c.said-in-Open.ensures)
    (not_searched g.R.ReadAt.honest g.R.ReadAt.faults _ (packed_file_kind file) (packed_file_text file) (full_ref_bytes c.args.key) c.find.result
    (λ h. (c.find.ensures.finds h).refused) c.find.ensures.failed
    (λ bad. record { of_kind = packed_file_kind file; text = packed_file_text file; searched = (refl, refl); has = bad }))

pub returns-in-Open-clause-seen : goal.returns-in-Open-clause-seen
returns-in-Open-clause-seen g c h kind =
    let file = c.in-Open.file in
    let finds = c.find.ensures.finds (rw c.in-Open.is at h) in
    rw (c.in-Open.is, c.said-in-Open.ensures)
    (found_seen c.find.result
    (λ some. inr (record { of_kind = packed_file_kind file; text = packed_file_text file; searched = (refl, refl); has = some }))
    (λ ids hit. record { of_kind = packed_file_kind file; text = packed_file_text file; searched = (refl, refl); has = hit })
    finds.none finds.hit)

pub returns-in-Held-clause-seen : goal.returns-in-Held-clause-seen
returns-in-Held-clause-seen g c h kind =
    let buffer = c.in-Held.buffer.now in
    let finds = c.find_in_order.ensures.finds in
    rw (c.in-Held.is, c.said.ensures)
    (found_seen c.find_in_order.result
    (λ some. inr (record { of_kind = buffer_kind buffer; text = buffer_text buffer; searched = (refl, refl); has = some }))
    (λ ids hit. record { of_kind = buffer_kind buffer; text = buffer_text buffer; searched = (refl, refl); has = hit })
    finds.none finds.hit)
