use Rattle.std.proofs.Common.{◌≡◌, ◌∙◌, ◌++◌, ap, subst, sym, true, List, ℕ}
use Rattle.gix_ref_files.specs.Files.{FaultCounts}
use Rattle.gix_ref_hash.specs.declared.hash.Kind.{Kind}
use Rattle.gix_ref_files.specs.Tree.{Path, is_file, bytes_of}
use Rattle.gix_ref_packed.specs.Buffers.{HoldsRecords, buffer_kind, buffer_text}
use Rattle.gix_ref_packed.specs.OpenFiles.{OpenedFile, CountsRefusal, packed_file_text}
use Rattle.gix_ref_lookup.specs.Lookups.{meaning_in}
use Rattle.gix_ref_lookup.proofs.Opening.{holds_packed}
use Rattle.gix_ref_listing.specs.WholeListings.{HoldsFor}
use Rattle.std.proofs.Common.{false}
use Rattle.gix_ref_listing.proofs.PrefixedRecords.{asked_of, not_there}
use Rattle.gix_ref_listing.proofs.prefixed_records.open_prefixed.Goals as goal

pub returns-in-Ok-clause-holds : goal.returns-in-Ok-clause-holds
returns-in-Ok-clause-holds g c h records are =
    let tree = (g.F.Files.means c.args.files.now).tree in
    let kind = c.args.settings.kind in
    let file = c.in-Ok-Some.file in
    let buffer = c.in-Ok.buffer in
    let at = c.deref.ensures.value ∙ c.in_ok-path.ensures in
    let o = rw c.in-Ok-Some.field-0-is at (c.in-Ok-Some.ensures.opened h) in
    let a_file = subst (λ (p : Path). is_file (tree p) ≡ true) at o.1 in
    let opened = subst (λ (p : Path). OpenedFile kind (bytes_of (tree p)) file) at o.2 in
    let holds = holds_packed kind (tree (meaning_in c.args.settings).packed_path) records file are a_file opened in
    let key = c.deref-in-Ok-Some.ensures.value ∙ (c.in_ok-key.ensures ∙ ap (λ n. n ++ c.args.prefix.now) c.text_of.ensures.text) in
    subst (λ (k : List ℕ). HoldsFor (buffer_kind buffer) k records (buffer_text buffer)) key
    (c.in-Ok.ensures.holds o.0 records (subst (λ (k : Kind). HoldsRecords k records (packed_file_text file)) (sym opened.kind_is) holds))

pub returns-in-Ok-Some-clause-refused : goal.returns-in-Ok-Some-clause-refused
returns-in-Ok-Some-clause-refused g c h =
    let o = rw c.in-Ok-Some.field-0-is at (c.in-Ok-Some.ensures.opened h) in
    c.in-Err-read_part.ensures.refused o.0 _ _

pub returns-in-Ok-Some-clause-failed : goal.returns-in-Ok-Some-clause-failed
returns-in-Ok-Some-clause-failed g c h =
    let F = g.F.Files in
    let before = F.faults c.args.files.now in
    let o = rw c.in-Ok-Some.field-0-is at (c.in-Ok-Some.ensures.opened h) in
    subst (λ (now : FaultCounts). CountsRefusal g.F.Reader.ReadAt.faults before now c.in-Err-read_part.error) (sym c.in-Ok-Some.ensures.no_fault) (c.in-Err-read_part.ensures.failed o.0 before)

pub returns-in-Ok-clause-asked : goal.returns-in-Ok-clause-asked
returns-in-Ok-clause-asked g c h =
    let tree = (g.F.Files.means c.args.files.now).tree in
    let kind = c.args.settings.kind in
    let file = c.in-Ok-Some.file in
    let at = c.deref.ensures.value ∙ c.in_ok-path.ensures in
    let o = rw c.in-Ok-Some.field-0-is at (c.in-Ok-Some.ensures.opened h) in
    let a_file = subst (λ (p : Path). is_file (tree p) ≡ true) at o.1 in
    let opened = subst (λ (p : Path). OpenedFile kind (bytes_of (tree p)) file) at o.2 in
    let key = c.deref-in-Ok-Some.ensures.value ∙ (c.in_ok-key.ensures ∙ ap (λ n. n ++ c.args.prefix.now) c.text_of.ensures.text) in
    asked_of kind (tree (meaning_in c.args.settings).packed_path) file c.in-Ok.buffer _ _ a_file opened key (c.in-Ok.ensures.part o.0) (c.in-Ok.ensures.asked o.0)

pub returns-in-Ok-None-clause-asked : goal.returns-in-Ok-None-clause-asked
returns-in-Ok-None-clause-asked g c h =
    let tree = (g.F.Files.means c.args.files.now).tree in
    let at = c.deref.ensures.value ∙ c.in_ok-path.ensures in
    let none = rw c.in-Ok-None.field-0-is at (c.in-Ok-None.ensures.opened h) in
    not_there (tree (meaning_in c.args.settings).packed_path) (subst (λ (p : Path). is_file (tree p) ≡ false) at none)
