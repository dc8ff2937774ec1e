use Rattle.std.proofs.Common.{List, sym, ap, ◌∙◌, subst}
use Rattle.std.specs.List.Sorted.{IsPermutation, IsSorted}
use Rattle.std.specs.Ordering.{nat_cmp}
use Rattle.std.specs.Cmp.Lexicographic.{slice_cmp}
use Rattle.gix_ref_lookup.specs.StoreLayout.{folders_of}
use Rattle.gix_ref_lookup.proofs.Laying.{folders_laid}
use Rattle.gix_ref_theory.specs.Edits.Mode.{DeletionsOnly}
use Rattle.gix_ref_transaction.specs.Packing.{plan_edits}
use Rattle.gix_ref_transaction.specs.PrepareSteps.{setting_of}
use Rattle.gix_ref_transaction.proofs.Adds.{clash}
use Rattle.gix_ref_packed_transaction.specs.Changes.{ChangeValue, IsChanged, change_values, keys_in}
use Rattle.gix_ref_packed_transaction.specs.Refusals.{IsRepackFault}
use Rattle.gix_ref_packed_transaction.specs.Repacks.{IsRepack}
use Rattle.gix_ref_packed_transaction.specs.internal.ChangedKeys.{key_changes}
use Rattle.gix_ref_packed_transaction.proofs.RepackLemmas.{err_part, ok_part, repack_is, sorted_keys, unaltered}
use Rattle.gix_ref_packed_transaction.proofs.repack.repack.Goals as goal

pub returns-then-not-alter_some-clause-repacked : goal.returns-then-not-alter_some-clause-repacked
returns-then-not-alter_some-clause-repacked g c h mode apart rs are found puts can =
    let set = c.args.settings.now in
    unaltered (folders_of set.dirs.now set.namespace.now) (folders_laid set.dirs.now set.namespace.now) set.kind set.prohibit_windows_device_names mode _ rs are c.args.edits.now found puts
    (sym c.alter_some.ensures ∙ c.if-not-alter_some.true)

pub returns-clause-repacked : goal.returns-clause-repacked
returns-clause-repacked g c h mode apart rs are found puts can =
    let set = c.args.settings.now in
    let f = folders_of set.dirs.now set.namespace.now in
    let laid = folders_laid set.dirs.now set.namespace.now in
    let edits = c.args.edits.now in
    let changes = change_values c.deref.result.now in
    let same = sym (ap change_values c.deref.ensures.value) in
    let moved = subst (λ (cs : List ChangeValue). IsPermutation (key_changes (setting_of set) edits) cs) same c.in_ok-changes.ensures.moved in
    let in_order = subst (λ (cs : List ChangeValue). IsSorted (slice_cmp nat_cmp) (keys_in cs)) same c.in_ok-changes.ensures.sorted in
    let up = sorted_keys f laid set.kind set.prohibit_windows_device_names mode edits changes apart moved in_order in
    ok_part (IsChanged set.kind changes rs) (IsRepack (setting_of set) mode set.kind rs (plan_edits edits)) IsRepackFault c.file_changed.result (c.file_changed.ensures.rewritten h rs are up)
    (repack_is f laid set.kind set.prohibit_windows_device_names mode _ rs are edits found puts apart can changes moved)

pub returns-clause-sound : goal.returns-clause-sound
returns-clause-sound g c h apart rs are =
    let set = c.args.settings.now in
    let f = folders_of set.dirs.now set.namespace.now in
    let laid = folders_laid set.dirs.now set.namespace.now in
    let edits = c.args.edits.now in
    let changes = change_values c.deref.result.now in
    let same = sym (ap change_values c.deref.ensures.value) in
    let moved = subst (λ (cs : List ChangeValue). IsPermutation (key_changes (setting_of set) edits) cs) same c.in_ok-changes.ensures.moved in
    let in_order = subst (λ (cs : List ChangeValue). IsSorted (slice_cmp nat_cmp) (keys_in cs)) same c.in_ok-changes.ensures.sorted in
    let up = sorted_keys f laid set.kind set.prohibit_windows_device_names DeletionsOnly edits changes apart moved in_order in
    err_part (IsChanged set.kind changes rs) IsRepackFault c.file_changed.result (c.file_changed.ensures.rewritten h rs are up)

pub returns-then-not-alter_some-clause-whole : goal.returns-then-not-alter_some-clause-whole
returns-then-not-alter_some-clause-whole g c h some = clash some (sym c.alter_some.ensures ∙ c.if-not-alter_some.true)
