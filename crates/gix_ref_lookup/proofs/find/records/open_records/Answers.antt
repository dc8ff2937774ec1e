use Rattle.std.proofs.Common.{◌≡◌, ◌∙◌, subst, true, false}
use Rattle.gix_ref_files.specs.Tree.{Path, is_file, bytes_of}
use Rattle.gix_ref_packed.specs.Buffers.{IsRefusedFile}
use Rattle.gix_ref_packed.specs.OpenFiles.{OpenedFile}
use Rattle.gix_ref_lookup.specs.Lookups.{meaning_in}
use Rattle.gix_ref_lookup.proofs.Opening.{holds_packed, not_opened, opens_sound}
use Rattle.gix_ref_lookup.proofs.Missing.{no_file, opened_text}
use Rattle.gix_ref_lookup.proofs.find.records.open_records.Goals as goal

pub returns-in-Ok-Some-clause-asked : goal.returns-in-Ok-Some-clause-asked
returns-in-Ok-Some-clause-asked g c h records are =
    let tree = (g.F.Files.means c.args.files.now).tree in
    let kind = c.args.settings.kind in
    let at = c.deref.ensures.value ∙ c.in_ok-path.ensures in
    let o = rw c.in-Ok-Some.field-0-is at (c.in-Ok-Some.ensures.opened h) in
    let a_file = subst (λ (p : Path). is_file (tree p) ≡ true) at o.1 in
    let opened = subst (λ (p : Path). OpenedFile kind (bytes_of (tree p)) c.in-Ok-Some.file) at o.2 in
    (o.0, opened.kind_is, holds_packed kind _ records c.in-Ok-Some.file are a_file opened)

pub returns-in-Ok-None-clause-opened : goal.returns-in-Ok-None-clause-opened
returns-in-Ok-None-clause-opened g c h =
    let tree = (g.F.Files.means c.args.files.now).tree in
    let at = c.deref.ensures.value ∙ c.in_ok-path.ensures in
    record {
      readers = λ honest. tt;
      searched = λ kind text nowhere. absurd nowhere;
      of_file = λ is. tt;
      none = λ none. no_file (tree (meaning_in c.args.settings).packed_path) (subst (λ (p : Path). is_file (tree p) ≡ false) at (rw c.in-Ok-None.field-0-is at (c.in-Ok-None.ensures.opened h)));
    }

pub returns-in-Ok-Some-clause-opened : goal.returns-in-Ok-Some-clause-opened
returns-in-Ok-Some-clause-opened g c h =
    let tree = (g.F.Files.means c.args.files.now).tree in
    let kind = c.args.settings.kind in
    let at = c.deref.ensures.value ∙ c.in_ok-path.ensures in
    let o = rw c.in-Ok-Some.field-0-is at (c.in-Ok-Some.ensures.opened h) in
    let a_file = subst (λ (p : Path). is_file (tree p) ≡ true) at o.1 in
    let opened = subst (λ (p : Path). OpenedFile kind (bytes_of (tree p)) c.in-Ok-Some.file) at o.2 in
    record {
      readers = λ honest. o.0;
      searched = opened_text kind (tree (meaning_in c.args.settings).packed_path) c.in-Ok-Some.file a_file opened;
      none = λ nowhere. absurd nowhere;
      of_file = λ is. tt;
    }

pub returns-clause-refused : goal.returns-clause-refused
returns-clause-refused g c =
    let tree = (g.F.Files.means c.args.files.now).tree in
    let at = c.deref.ensures.value ∙ c.in_ok-path.ensures in
    rw c.refused.ensures (not_opened g.F.Files.honest g.F.Reader.ReadAt.faults c.args.settings.kind (tree (meaning_in c.args.settings).packed_path) _ _ c.in-Err.error
    (λ h. subst (λ (p : Path). IsRefusedFile c.args.settings.kind (tree p) c.in-Err.error) at (c.in-Err.ensures.refused h))
    c.in-Err.ensures.failed)

pub returns-clause-asked : goal.returns-clause-asked
returns-clause-asked g c h records are =
    let tree = (g.F.Files.means c.args.files.now).tree in
    let at = c.deref.ensures.value ∙ c.in_ok-path.ensures in
    rw c.refused.ensures (opens_sound c.args.settings.kind (tree (meaning_in c.args.settings).packed_path) records c.in-Err.error are
    (subst (λ (p : Path). IsRefusedFile c.args.settings.kind (tree p) c.in-Err.error) at (c.in-Err.ensures.refused h)))
