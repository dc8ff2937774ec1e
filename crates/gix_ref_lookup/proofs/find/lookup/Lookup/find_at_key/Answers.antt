use Rattle.std.proofs.Common.{inr, None, refl}
use Rattle.gix_ref_name.specs.Names.{full_ref_bytes}
use Rattle.gix_ref_packed_text.specs.Positions.{CannotRead}
use Rattle.gix_ref_lookup.specs.StoreLayout.{namespace_text}
use Rattle.gix_ref_files.specs.declared.files.FileError.{FileError}
use Rattle.gix_ref_lookup.specs.Lookups.{meaning_in, packed_refs_in, AreHonest, AreOfFile, OfSearched, OfKey, IsFaultOf, IsReadFault}
use Rattle.gix_ref_packed.specs.Buffers.{IsRefusedFile}
use Rattle.gix_ref_lookup.proofs.NamedRecords.{of_key}
use Rattle.gix_ref_lookup.proofs.Opening.{if_ok, both_ways, same_or_err, none_or_some, hit_wider, searched_wider, not_packed_wider}
use Rattle.gix_ref_lookup.proofs.Missing.{any_asked, any_file, any_searched, none_wider}
use Rattle.gix_ref_lookup.proofs.Steps.{kept_after}
use Rattle.gix_ref_lookup.proofs.find.lookup.Lookup.find_at_key.Goals as goal

pub returns-in-Ok-clause-found : goal.returns-in-Ok-clause-found
returns-in-Ok-clause-found g c name keyed h rs are =
    let settings = c.args.self.now.settings in
    both_ways c.find_key.result (λ found is. of_key settings rs name (full_ref_bytes c.args.key) found keyed is) (λ error is. is)
    (c.find_key.ensures.found settings.kind rs (c.in-Ok.ensures.asked h rs are))

pub returns-in-Ok-clause-seen : goal.returns-in-Ok-clause-seen
returns-in-Ok-clause-seen g c name keyed h honest =
    let settings = c.args.self.now.settings in
    let key = full_ref_bytes c.args.key in
    let file = packed_refs_in settings (g.F.Files.means c.args.self.now.files.now) in
    let opened = c.in-Ok.ensures.opened h in
    if_ok c.find_key.result
    (λ found. none_or_some found (λ none. inr (none_wider settings.kind None file c.open.new.self c.args.self.now.records.now opened.none opened.searched none))
    (λ r hit. (key, keyed, hit_wider settings.kind None file c.open.new.self c.args.self.now.records.now (namespace_text settings.namespace.now) key r opened.searched hit)))
    (c.find_key.ensures.seen (opened.readers honest) settings.kind)

pub returns-in-Ok-clause-leaves : goal.returns-in-Ok-clause-leaves
returns-in-Ok-clause-leaves g c =
    let settings = c.args.self.now.settings in
    let kind = settings.kind in
    let file = packed_refs_in settings (g.F.Files.means c.args.self.now.files.now) in
    let found = c.find_key.ensures.leaves.1 kind in
    record {
      files = refl;
      records = refl;
      settings = refl;
      nothing = kept_after g.F.Files.honest g.F.Files.means g.F.Files.faults _ _ _ c.in-Ok.ensures.reads;
      reads = c.in-Ok.ensures.reads;
      asked = λ h.
          let opened = c.in-Ok.ensures.opened h in
          record {
            asked = λ rs are. any_asked kind None file c.find_key.new.records rs c.find_key.ensures.leaves.0 (found.asked rs (c.in-Ok.ensures.asked h rs are));
            readers = λ honest. found.readers (opened.readers honest);
            searched = λ k text is. opened.searched k text (found.searched k text (any_searched kind file None c.find_key.new.records k text c.find_key.ensures.leaves.0 is));
            none = λ none. opened.none (found.none (any_file file None c.find_key.new.records c.find_key.ensures.leaves.0 none));
            of_file = λ is. opened.of_file (found.of_file is);
          };
    }

pub returns-in-Ok-clause-failed : goal.returns-in-Ok-clause-failed
returns-in-Ok-clause-failed g c name keyed =
    let settings = c.args.self.now.settings in
    let s = meaning_in settings in
    let old = c.args.self.now.records.now in
    let new = c.open.new.self in
    let before = g.F.Files.means c.args.self.now.files.now in
    let file = packed_refs_in settings before in
    let key = full_ref_bytes c.args.key in
    let fault = λ (e : FileError). IsReadFault {R = g.row.F-Reader.Denot} {G = g.F.Reader.ReadAt} new e in
    let either = λ (e : FileError). AreOfFile {R = g.row.F-Reader.Denot} {G = g.F.Reader.ReadAt} old × IsFaultOf g.F.Reader.ReadAt.faults (g.F.Files.faults c.args.self.now.files.now) (g.F.Files.faults c.open.new.files) e in
    same_or_err c.find_key.result c.in-Ok.ensures.refused
    (λ error why. not_packed_wider (AreHonest {R = g.row.F-Reader.Denot} {G = g.F.Reader.ReadAt} new) (g.F.Files.honest × AreHonest {R = g.row.F-Reader.Denot} {G = g.F.Reader.ReadAt} old)
    fault either
    (OfSearched {R = g.row.F-Reader.Denot} {G = g.F.Reader.ReadAt} settings.kind None new (λ k text. CannotRead k text key))
    (OfKey s name (λ k. OfSearched {R = g.row.F-Reader.Denot} {G = g.F.Reader.ReadAt} settings.kind file old (λ of_kind text. CannotRead of_kind text k)))
    (λ e. ⊥) (λ e. AreOfFile {R = g.row.F-Reader.Denot} {G = g.F.Reader.ReadAt} old × IsRefusedFile settings.kind (before.tree s.packed_path) e) error
    (λ k. (c.in-Ok.ensures.opened k.0).readers k.1) (λ k e f. ((c.in-Ok.ensures.opened k.0).of_file f.0, inr f.1))
    (λ k bad. (key, keyed, searched_wider settings.kind None file new old (λ of_kind text. CannotRead of_kind text key) (c.in-Ok.ensures.opened k.0).searched bad))
    (λ k e none. absurd none) why)
    (c.find_key.ensures.failed settings.kind)

pub returns-in-Err-clause-failed : goal.returns-in-Err-clause-failed
returns-in-Err-clause-failed g c name keyed =
    let settings = c.args.self.now.settings in
    let s = meaning_in settings in
    let old = c.args.self.now.records.now in
    let before = g.F.Files.means c.args.self.now.files.now in
    let file = packed_refs_in settings before in
    let fault = IsFaultOf g.F.Reader.ReadAt.faults (g.F.Files.faults c.args.self.now.files.now) (g.F.Files.faults c.open.new.files) in
    let refused = IsRefusedFile settings.kind (before.tree s.packed_path) in
    let of_file = c.in-Err.ensures.ready.1 in
    not_packed_wider g.F.Files.honest (g.F.Files.honest × AreHonest {R = g.row.F-Reader.Denot} {G = g.F.Reader.ReadAt} old)
    fault (λ (e : FileError). AreOfFile {R = g.row.F-Reader.Denot} {G = g.F.Reader.ReadAt} old × fault e)
    ⊥ (OfKey s name (λ k. OfSearched {R = g.row.F-Reader.Denot} {G = g.F.Reader.ReadAt} settings.kind file old (λ of_kind text. CannotRead of_kind text k)))
    refused (λ e. AreOfFile {R = g.row.F-Reader.Denot} {G = g.F.Reader.ReadAt} old × refused e) c.in-Err.error
    (λ k. k.0) (λ k e f. (of_file, f)) (λ k bad. absurd bad) (λ k e why. (of_file, why)) c.in-Err.ensures.refused
