use Rattle.std.proofs.Common.{}
use Rattle.gix_ref_pack.proofs.PackedStores.{chooses_from}
use Rattle.gix_ref_pack.proofs.pack.choose.Goals as goal

pub returns-in-Ok-clause-chooses : goal.returns-in-Ok-clause-chooses
returns-in-Ok-clause-chooses g c =
    let F = g.F.Files in
    chooses_from F.honest F.means F.faults c.args.is_all c.args.store.now c.open_packed_buffer.new.self.namespace c.args.found.items c.in-Ok.records c.as_ref.result c.if-is_all.false c.in-Ok.ensures.unchanged.same.namespace c.in-Ok.ensures.opened c.as_ref.ensures.value
    c.chosen_among.result c.chosen_among.ensures.chosen c.chosen_among.ensures.picked c.chosen_among.ensures.errors c.open_packed_buffer.new.self c.in-Ok.ensures.count
