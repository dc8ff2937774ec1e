use Rattle.std.proofs.Common.{◌≡◌, ◌∙◌, true, false, subst}
use Rattle.gix_ref_files.specs.Tree.{Path, is_file, bytes_of}
use Rattle.gix_ref_packed.specs.Buffers.{IsRefusedFile, Opened}
use Rattle.gix_ref_lookup.specs.Lookups.{meaning_in}
use Rattle.gix_ref_packed_transaction.specs.Changes.{IsChanged, change_values}
use Rattle.gix_ref_packed_transaction.proofs.Opening.{file_is_read, holds, made_of, memory_only, no_records, sound}
use Rattle.gix_ref_packed_transaction.proofs.changed.file_changed.Goals as goal

pub returns-in-Ok-Some-clause-rewritten : goal.returns-in-Ok-Some-clause-rewritten
returns-in-Ok-Some-clause-rewritten g c h rs are sorted =
    let tree = (g.F.Files.means c.args.files.now).tree in
    let kind = c.args.settings.now.kind in
    let at = c.deref.ensures.value ∙ c.in_ok-path.ensures in
    let o = rw c.in-Ok-Some.field-0-is at (c.in-Ok-Some.ensures.opened h) in
    let a_file = subst (λ (p : Path). is_file (tree p) ≡ true) at o.0 in
    let opened = subst (λ (p : Path). Opened kind (bytes_of (tree p)) c.in-Ok-Some.buffer) at o.1 in
    memory_only (IsChanged kind (change_values c.args.changes.now) rs) c.changed.result (c.changed.ensures.rewritten rs (holds kind _ rs c.in-Ok-Some.buffer are a_file opened) sorted)

pub returns-in-Ok-None-clause-rewritten : goal.returns-in-Ok-None-clause-rewritten
returns-in-Ok-None-clause-rewritten g c h rs are sorted =
    let tree = (g.F.Files.means c.args.files.now).tree in
    let kind = c.args.settings.now.kind in
    let at = c.deref.ensures.value ∙ c.in_ok-path.ensures in
    let o = rw c.in-Ok-None.field-0-is at (c.in-Ok-None.ensures.opened h) in
    let none = no_records kind _ rs are (subst (λ (p : Path). is_file (tree p) ≡ false) at o) in
    made_of kind (change_values c.args.changes.now) rs none c.made.result (c.made.ensures.rewritten sorted) c.made.ensures.memory

pub returns-clause-rewritten : goal.returns-clause-rewritten
returns-clause-rewritten g c h rs are sorted =
    let tree = (g.F.Files.means c.args.files.now).tree in
    let kind = c.args.settings.now.kind in
    let at = c.deref.ensures.value ∙ c.in_ok-path.ensures in
    rw c.refused.ensures (sound kind (tree (meaning_in c.args.settings.now).packed_path) rs c.in-Err.error are
    (subst (λ (p : Path). IsRefusedFile kind (tree p) c.in-Err.error) at (c.in-Err.ensures.refused h)))

pub returns-in-Ok-Some-clause-whole : goal.returns-in-Ok-Some-clause-whole
returns-in-Ok-Some-clause-whole g c h =
    let tree = (g.F.Files.means c.args.files.now).tree in
    let kind = c.args.settings.now.kind in
    let at = c.deref.ensures.value ∙ c.in_ok-path.ensures in
    let o = rw c.in-Ok-Some.field-0-is at (c.in-Ok-Some.ensures.opened h) in
    let opened = subst (λ (p : Path). Opened kind (bytes_of (tree p)) c.in-Ok-Some.buffer) at o.1 in
    file_is_read kind _ c.in-Ok-Some.buffer c.changed.result opened c.changed.ensures.whole
