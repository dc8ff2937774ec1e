use Rattle.gix_ref_transaction.specs.PrepareSteps.{setting_of}
use Rattle.gix_ref_transaction.proofs.PackedLemmas.{both_err, counted_by, counted_cause, counted_on, opened_refusal, sound_cause}
use Rattle.std.proofs.Common.{sym, subst}
use Rattle.gix_ref_files.specs.Tree.{Tree}
use Rattle.gix_ref_theory.specs.OnRealTrees.{view_of}
use Rattle.gix_ref_edits.specs.declared.transaction.RefEdit.{RefEdit}
use Rattle.gix_ref_lookup.proofs.Missing.{openable}
use Rattle.gix_ref_packed.specs.Buffers.{IsRefusedFile}
use Rattle.gix_ref_packed.specs.OpenFiles.{HasReadFault}
use Rattle.gix_ref_lookup.specs.Lookups.{packed_refs_in, AreHonest, IsFaultOf}
use Rattle.gix_ref_transaction.specs.Causes.{IsHidden, IsRecordId, IsUnreadableRecord, OfSomeKey}
use Rattle.gix_ref_transaction.specs.PackedCauses.{as_cause}
use Rattle.gix_ref_transaction.specs.PrepareSteps.{updates}
use Rattle.gix_ref_transaction.specs.internal.StuckRecords.{AreNotFound, IsAskedId, IsSearchFault, IsStuckKey}
use Rattle.gix_ref_transaction.specs.declared.prepare.error.Error.{Error}
use Rattle.gix_ref_transaction.proofs.UnreadRecords.{find_wider, found_cause, keys_wider}
use Rattle.gix_ref_transaction.proofs.RecordIds.{if_on_ok, on_ok, record_id, with_wider}
use Rattle.gix_ref_transaction.proofs.prepare.records.find_records.Goals as goal

pub returns-in-Ok-clause-found : goal.returns-in-Ok-clause-found
returns-in-Ok-clause-found g c h rs are =
    let settings = c.args.settings.now in
    c.find_ids.ensures.found settings.kind rs
    (c.in-Ok.ensures.asked h rs (c.unopened-records.ensures.asked settings.kind (packed_refs_in settings (g.F.Files.means c.args.files.now)) rs (c.requires.absent h) are))

pub returns-in-Ok-clause-failed : goal.returns-in-Ok-clause-failed
returns-in-Ok-clause-failed g c =
    let settings = c.args.settings.now in
    let s = setting_of settings in
    let edits = updates c.args.edits.now in
    let records = c.open.new.self in
    let old = g.F.Files.means c.args.files.now in
    let file = packed_refs_in settings old in
    let stuck = IsStuckKey settings.kind records in
    let bad = IsUnreadableRecord settings.kind file in
    let mid = (g.F.Files.means c.open.new.files).tree in
    let asked = λ (edit : RefEdit). g.F.Files.honest → IsHidden s (view_of mid) edit → ⊥ in
    let still = λ (edit : RefEdit). IsHidden s (view_of old.tree) edit → ⊥ in
    let readers : g.F.Files.honest → AreHonest records = λ h. (c.in-Ok.ensures.opened h).readers c.unopened-records.ensures.honest in
    both_err c.find_ids.result (λ (e : Error) (why : IsSearchFault records (λ kind. OfSomeKey asked (IsStuckKey kind records) s edits) e) told. record {
      sound = λ h rs are. why.sound settings.kind rs (c.in-Ok.ensures.asked h rs (c.unopened-records.ensures.asked settings.kind file rs (c.requires.absent h) are));
      refused = λ h. why.refused (readers h) settings.kind (old.tree s.packed_path);
      unread = λ h. find_wider (OfSomeKey asked stuck s edits) (OfSomeKey still bad s edits) e
          (keys_wider asked still stuck bad s edits (λ edit is hidden. is h (subst (λ (T : Tree). IsHidden s (view_of T) edit) (sym (c.open.ensures.reads.leaves h).tree) hidden)) (λ key at. record { of_kind = at.of_kind; text = at.text; opened = c.unopened-records.ensures.searched settings.kind at.of_kind file at.text ((c.in-Ok.ensures.opened h).searched at.of_kind at.text at.searched); has = at.has }))
          (why.unread (readers h) settings.kind);
      counted = counted_by _ _ _ (g.F.Files.faults c.args.files.now) (g.F.Files.faults c.find_ids.new.files) e readers (counted_on _ _ (g.F.Files.faults c.args.files.now) (g.F.Files.faults c.open.new.files) (g.F.Files.faults c.find_ids.new.files) e c.open.ensures.reads.no_fewer told);
    }) c.find_ids.ensures.failed c.find_ids.ensures.counted

pub returns-in-Ok-clause-opened : goal.returns-in-Ok-clause-opened
returns-in-Ok-clause-opened g c h =
    let settings = c.args.settings.now in
    let file = packed_refs_in settings (g.F.Files.means c.args.files.now) in
    on_ok c.find_ids.result (openable settings.kind file c.open.new.self c.in-Ok.ensures.ready
    (λ none. c.unopened-records.ensures.none file (c.requires.absent h) ((c.in-Ok.ensures.opened h).none none))
    (λ k text is. c.unopened-records.ensures.searched settings.kind k file text ((c.in-Ok.ensures.opened h).searched k text is)))

pub returns-in-Ok-clause-read : goal.returns-in-Ok-clause-read
returns-in-Ok-clause-read g c h =
    let settings = c.args.settings.now in
    let s = setting_of settings in
    let old = (g.F.Files.means c.args.files.now).tree in
    let mid = (g.F.Files.means c.open.new.files).tree in
    let file = packed_refs_in settings (g.F.Files.means c.args.files.now) in
    let records = c.open.new.self in
    if_on_ok c.find_ids.result
    (with_wider (IsAskedId s settings.kind (view_of mid) records) (IsRecordId s settings.kind (view_of old)) _ _ (λ edit id asked.
    record_id s settings.kind (view_of old) records
    (λ none. c.unopened-records.ensures.none file (c.requires.absent h) ((c.in-Ok.ensures.opened h).none none))
    (λ k text is. c.unopened-records.ensures.searched settings.kind k file text ((c.in-Ok.ensures.opened h).searched k text is))
    edit id (subst (λ (T : Tree). IsAskedId s settings.kind (view_of T) records edit id) (c.open.ensures.reads.leaves h).tree asked)))
    (c.find_ids.ensures.read h ((c.in-Ok.ensures.opened h).readers c.unopened-records.ensures.honest) settings.kind)

pub returns-clause-failed : goal.returns-clause-failed
returns-clause-failed g c =
    let F = g.F.Files in
    let G = g.F.Reader.ReadAt in
    let settings = c.args.settings.now in
    let s = setting_of settings in
    let edits = updates c.args.edits.now in
    let old = F.means c.args.files.now in
    let file = packed_refs_in settings old in
    let error = c.in-Err.error in
    let a = F.faults c.args.files.now in
    let b = F.faults c.open.new.files in
    let refusal = IsRefusedFile settings.kind (old.tree s.packed_path) in
    let hidden = OfSomeKey (λ (edit : RefEdit). IsHidden s (view_of old.tree) edit → ⊥) (IsUnreadableRecord settings.kind (view_of old.tree s.packed_path)) s edits in
    subst (λ (e : Error). AreNotFound F.honest (HasReadFault G.faults) F.means F.faults s settings.kind edits c.args.files.now c.open.new.files e) (sym c.refused.ensures)
    (record {
      sound = λ h rs are. sound_cause error (c.in-Err.ensures.asked h rs (c.unopened-records.ensures.asked settings.kind file rs (c.requires.absent h) are));
      refused = λ h. opened_refusal F.honest (IsFaultOf G.faults a b) settings.kind (old.tree s.packed_path) error h c.in-Err.ensures.refused;
      unread = λ h. find_wider ⊥ hidden (as_cause error) (λ bad. absurd bad) (found_cause F.honest (IsFaultOf G.faults a b) ⊥ refusal error h c.in-Err.ensures.refused);
      counted = counted_cause F.honest (IsFaultOf G.faults a b) ⊥ (HasReadFault G.faults) refusal a b error (λ e came. came) c.in-Err.ensures.refused;
    })
