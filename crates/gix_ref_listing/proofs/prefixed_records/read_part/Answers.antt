use Rattle.gix_ref_packed.specs.OpenFiles.{packed_file_kind, packed_file_text, packed_file_line}
use Rattle.gix_ref_listing.proofs.PrefixedRecords.{held_part, part_fails}
use Rattle.gix_ref_listing.proofs.prefixed_records.read_part.Goals as goal

pub returns-in-Ok-clause-holds : goal.returns-in-Ok-clause-holds
returns-in-Ok-clause-holds g c h records holds =
    let file = c.args.file in
    held_part (packed_file_kind file) (packed_file_text file) (packed_file_line file) c.args.key.now c.in-Ok.buffer records (c.in-Ok.ensures.holds h) holds

pub returns-in-Err-clause-failed : goal.returns-in-Err-clause-failed
returns-in-Err-clause-failed g c h count = rw c.of_part.ensures (part_fails g.R.ReadAt.faults count c.in-Err.error (c.in-Err.ensures.refused h) c.in-Err.ensures.failed)

pub returns-in-Ok-clause-part : goal.returns-in-Ok-clause-part
returns-in-Ok-clause-part g c h = c.in-Ok.ensures.holds h

pub returns-in-Ok-clause-asked : goal.returns-in-Ok-clause-asked
returns-in-Ok-clause-asked g c h ascend = c.in-Ok.ensures.asked h ascend
