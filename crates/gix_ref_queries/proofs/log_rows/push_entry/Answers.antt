use Rattle.std.proofs.Common.{codes, ◌∙◌}
use Rattle.std.specs.Fmt.{decimal}
use Rattle.gix_ref_queries.proofs.LogEntries.{eight}
use Rattle.gix_ref_queries.proofs.log_rows.push_entry.Goals as goal

pub returns : goal.returns
returns c =
    eight c.args.text.now.items c.args.entry.now.new_oid.now (codes " ") c.args.name.now (codes "@{") (decimal c.args.place) (codes "}: ") c.args.entry.now.message.now (codes "\n") c.extend_from_slice.new.self.items c.extend_from_slice-2.new.self.items c.extend_from_slice-3.new.self.items c.extend_from_slice-4.new.self.items c.extend_from_slice-5.new.self.items
    c.extend_from_slice-6.new.self.items c.extend_from_slice-7.new.self.items c.extend_from_slice-8.new.self.items c.in_ok-extend_from_slice.ensures.items c.in_ok-extend_from_slice-2.ensures.items c.in_ok-extend_from_slice-3.ensures.items c.in_ok-extend_from_slice-4.ensures.items
    (rw (c.as_bytes.ensures.value ∙ c.format.ensures.text) at c.in_ok-extend_from_slice-5.ensures.items) c.in_ok-extend_from_slice-6.ensures.items c.in_ok-extend_from_slice-7.ensures.items c.in_ok-extend_from_slice-8.ensures.items
