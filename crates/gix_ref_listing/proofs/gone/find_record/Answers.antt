use Rattle.std.proofs.Common.{◌∙◌, ap, sym, Some}
use Rattle.gix_ref_name.specs.Names.{full_ref_bytes}
use Rattle.gix_ref_theory.specs.OnRealTrees.{view_of}
use Rattle.gix_ref_lookup.specs.Lookups.{meaning_in, packed_refs_in, HasKey}
use Rattle.gix_ref_lookup.specs.declared.find.records.Records.TheVariants.{Unopened}
use Rattle.gix_ref_lookup.proofs.NamedRecords.{without_key}
use Rattle.gix_ref_listing.proofs.GoneFiles.{found_now}
use Rattle.gix_ref_listing.proofs.gone.find_record.Goals as goal

pub returns-in-Some-clause-found : goal.returns-in-Some-clause-found
returns-in-Some-clause-found g c h =
    let settings = c.args.settings in
    let name = full_ref_bytes c.args.name in
    let key = full_ref_bytes c.as_ref.result in
    let keyed : HasKey (meaning_in settings) name key = (rw c.in-Some.is at c.in_ok-key.ensures) ∙ ap Some (sym c.as_ref.ensures) in
    found_now settings (view_of (g.F.Files.means c.args.files.now).tree) name key c.find_key.result keyed (c.find_key.ensures.found h) (c.find_key.ensures.hit h)

pub returns-in-None-clause-found : goal.returns-in-None-clause-found
returns-in-None-clause-found g c h records are =
    without_key {R = g.row.F-Reader.Denot} {G = g.F.Reader.ReadAt} c.args.settings c.args.settings.kind (packed_refs_in c.args.settings (g.F.Files.means c.args.files.now)) Unopened records (full_ref_bytes c.args.name) are
    (rw c.in-None.is at c.in_ok-key.ensures)
