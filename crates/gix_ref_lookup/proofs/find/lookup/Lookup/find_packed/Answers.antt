use Rattle.gix_ref_name.specs.Names.{full_ref_bytes}
use Rattle.gix_ref_lookup.specs.Lookups.{packed_refs_in}
use Rattle.gix_ref_lookup.proofs.NamedRecords.{without_key}
use Rattle.gix_ref_lookup.proofs.find.lookup.Lookup.find_packed.Goals as goal

pub returns-in-None-clause-found : goal.returns-in-None-clause-found
returns-in-None-clause-found g c h rs are =
    let lookup = c.args.self.now in
    without_key {R = g.row.F-Reader.Denot} {G = g.F.Reader.ReadAt} lookup.settings lookup.settings.kind (packed_refs_in lookup.settings (g.F.Files.means lookup.files.now)) lookup.records.now rs (full_ref_bytes c.args.name) are
    (rw c.in-None.is at c.in_ok-key.ensures)
