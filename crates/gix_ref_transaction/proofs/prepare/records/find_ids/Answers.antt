use Rattle.std.proofs.Common.{◌≡◌, ◌<◌, ◌≤◌, List, length, take, get_or, arith, ap, sym, subst, ◌∙◌}
use Rattle.std.proofs.lemmas.List.{length-map, take_all}
use Rattle.gix_ref_files.specs.Tree.{Tree}
use Rattle.gix_ref_theory.specs.OnRealTrees.{view_of}
use Rattle.gix_ref_edits.specs.declared.transaction.RefEdit.{RefEdit}
use Rattle.std.proofs.Math.Seq.{map-set_same}
use Rattle.std.proofs.lemmas.Result.{err_from_is_err_and}
use Rattle.gix_ref_hash.specs.declared.hash.Kind.TheVariants.{Sha1}
use Rattle.gix_ref_lookup.specs.Lookups.{OfKey}
use Rattle.gix_ref_edits.specs.RefEdits.{name_of}
use Rattle.gix_ref_transaction.specs.Causes.{AllWithIds, IsHidden, OfSomeKey}
use Rattle.gix_ref_transaction.specs.PrepareSteps.{ids_in, setting_of, updates}
use Rattle.gix_ref_transaction.specs.internal.StuckRecords.{IsAskedId, IsStuckKey}
use Rattle.gix_ref_transaction.proofs.UnreadRecords.{find_asked, find_wider, some_key, stuck_back}
use Rattle.gix_ref_transaction.proofs.RecordIds.{asked_back, placed, read_more}
use Rattle.gix_ref_transaction.specs.declared.edit.Edit.{Edit}
use Rattle.gix_ref_transaction.proofs.PackedLemmas.{counted_by, counted_on, ids_more, updates_alike}
use Rattle.gix_ref_files.proofs.ReadOnly.{reads_more}
use Rattle.gix_ref_transaction.proofs.prepare.records.find_ids.Goals as goal

pub returns-in_err-edit-clause-failed : goal.returns-in_err-edit-clause-failed
returns-in_err-edit-clause-failed g c =
    let told = err_from_is_err_and c.from_residual.result c.from_residual.ensures.1 in
    let x = c.loop-edit.invariant in
    let s = setting_of c.args.settings.now in
    let old = c.args.edits.now in
    let edits = c.loop-edit.edits in
    let i = c.loop-edit.edit-index in
    let e = get_or edits i c.edit-item.result in
    let is : e ≡ get_or edits i e = ap (λ d. get_or edits i d) c.edit-item.is in
    let lt : i < length edits = omega arith in
    let view = view_of (g.F.Files.means c.args.files.now).tree in
    let failed = c.in_err-edit.ensures.failed in
    rw (told.1, told.2) (record {
      sound = λ kind rs asked. failed.sound kind rs ((x.still kind).asked rs asked);
      refused = λ h kind packed. failed.refused ((x.still kind).readers h) kind packed;
      unread = λ h kind.
          let Asked = λ (edit : RefEdit). g.F.Files.honest → IsHidden s view edit → ⊥ in
          let Stuck = OfKey s (name_of e.update) (IsStuckKey kind c.loop-edit.records) in
          find_wider (Asked e.update × Stuck) (OfSomeKey Asked (IsStuckKey kind c.args.records.now) s (updates old)) _
          (λ key. some_key Asked (IsStuckKey kind c.args.records.now) s old edits x.same i e lt is (key.0, (key.1.0, key.1.1, stuck_back kind c.args.records.now c.loop-edit.records (x.still kind).searched key.1.0 key.1.2)))
          (find_asked (Asked e.update) Stuck _ (λ is_find h hidden. c.in_err-edit.ensures.asked h is_find (subst (λ (T : Tree). IsHidden s (view_of T) e.update) (sym (x.reads.leaves h).tree) hidden)) (failed.unread ((x.still kind).readers h) kind));
    })

pub returns-in_err-edit-clause-counted : goal.returns-in_err-edit-clause-counted
returns-in_err-edit-clause-counted g c =
    let told = err_from_is_err_and c.from_residual.result c.from_residual.ensures.1 in
    rw (told.1, told.2) (counted_by _ _ _ (g.F.Files.faults c.args.files.now) (g.F.Files.faults c.id_unless_hidden.new.files) _ (c.loop-edit.invariant.still Sha1).readers (counted_on _ _ (g.F.Files.faults c.args.files.now) (g.F.Files.faults c.loop-edit.files) (g.F.Files.faults c.id_unless_hidden.new.files) _ c.loop-edit.invariant.reads.no_fewer c.in_err-edit.ensures.counted))

pub loop-edit-preserved : goal.loop-edit-preserved
loop-edit-preserved g c =
    let x = c.loop-edit.invariant in
    let s = setting_of c.args.settings.now in
    let edits = c.loop-edit.edits in
    let i = c.loop-edit.edit-index in
    let e = get_or edits i c.edit-item.result in
    let is : e ≡ get_or edits i e = ap (λ d. get_or edits i d) c.edit-item.is in
    let lt : i < length edits = omega arith in
    record {
      ready = c.in_ok-edit.ensures.ready;
      same = map-set_same (λ (a : Edit). (a.update, a.lock, a.parent)) edits i _ e (ap (λ (a : Edit). (a.update, a.lock, a.parent)) is) ∙ x.same;
      still = λ kind. record {
        asked = λ rs asked. (c.in_ok-edit.ensures.still kind).asked rs ((x.still kind).asked rs asked);
        readers = λ h. (c.in_ok-edit.ensures.still kind).readers ((x.still kind).readers h);
        searched = λ of_kind text h. (x.still kind).searched of_kind text ((c.in_ok-edit.ensures.still kind).searched of_kind text h);
        none = λ none. (x.still kind).none ((c.in_ok-edit.ensures.still kind).none none);
        of_file = λ is. (x.still kind).of_file ((c.in_ok-edit.ensures.still kind).of_file is);
      };
      reads = reads_more _ _ _ _ _ _ x.reads c.in_ok-edit.ensures.reads;
      read = λ h honest kind.
          let P = IsAskedId s kind (view_of (g.F.Files.means c.args.files.now).tree) c.args.records.now in
          read_more P c.args.edits.now edits x.same i e lt is _ (x.read h honest kind)
          (asked_back s kind (view_of (g.F.Files.means c.args.files.now).tree) c.args.records.now c.loop-edit.records (x.still kind) e.update _
          (subst (λ (T : Tree). IsAskedId s kind (view_of T) c.loop-edit.records e.update c.in_ok-edit.field-0) (x.reads.leaves h).tree (c.in_ok-edit.ensures.read h ((x.still kind).readers honest) kind)));
      found = λ kind rs asked. ids_more s rs c.args.edits.now edits x.same i e lt is _ (x.found kind rs asked) (c.in_ok-edit.ensures.found kind rs ((x.still kind).asked rs asked));
    }

pub id_unless_hidden-requires-clause-place : goal.id_unless_hidden-requires-clause-place
id_unless_hidden-requires-clause-place g c =
    let edits = c.loop-edit.edits in
    let i = c.loop-edit.edit-index in
    let e = get_or edits i c.edit-item.result in
    placed (setting_of c.args.settings.now) c.args.edits.now edits c.loop-edit.invariant.same c.requires.places i e (omega arith) (ap (λ d. get_or edits i d) c.edit-item.is)

pub returns-clause-read : goal.returns-clause-read
returns-clause-read g c h honest kind =
    let x = c.loop-edit.invariant in
    let edits = c.loop-edit.edits in
    let i = c.loop-edit.edit-index in
    let old = updates c.args.edits.now in
    let P = IsAskedId (setting_of c.args.settings.now) kind (view_of (g.F.Files.means c.args.files.now).tree) c.args.records.now in
    let all : length edits ≤ i = omega arith in
    let len : length old ≤ i = omega (arith, all, length-map edits (λ (a : Edit). a.update), ap length (updates_alike c.args.edits.now edits x.same)) in
    subst (λ (l : List RefEdit). AllWithIds P l (ids_in edits)) (take_all i old len) (subst (λ (l : List Edit). AllWithIds P (take i old) (ids_in l)) (take_all i edits all) (x.read h honest kind))
