use Rattle.std.proofs.Common.{◌≡◌, is_some, refl, sym, ap, ◌∙◌, subst, [], false}
use Rattle.gix_ref_files.specs.Lock.{lock_of}
use Rattle.gix_ref_files.specs.Disk.{Disk}
use Rattle.gix_ref_files.specs.Tree.{Path}
use Rattle.gix_ref_files.specs.Files.{disk_of}
use Rattle.gix_ref_files.specs.Settled.{IsWholeAt}
use Rattle.gix_ref_theory.specs.OnRealTrees.{view_of}
use Rattle.gix_ref_edits.specs.RefEdits.{name_of, new_of, expected_of, Expects}
use Rattle.gix_ref_transaction.specs.Causes.{found, found_by, decoded}
use Rattle.gix_ref_transaction.specs.Packing.{mode_of_packing}
use Rattle.gix_ref_transaction.specs.PrepareSteps.{setting_of, value_of, decision, effect_value, is_damaged, IsSomeWhole}
use Rattle.gix_ref_transaction.proofs.EditRounds.{both_on_ok}
use Rattle.gix_ref_transaction.proofs.LookupLemmas.{decided_is, filled_with}
use Rattle.gix_ref_transaction.proofs.edit.Edit.compare_and_write.Goals as goal

pub returns-clause-written : goal.returns-clause-written
returns-clause-written g c h =
    let s = setting_of c.args.settings.now in
    let T = (g.F.Files.means c.args.files.now).tree in
    let T' = (g.F.Files.means c.read_old_value.new.files).tree in
    let view = view_of T in
    let old = c.args.self.now in
    let new = c.decide.new.self in
    let name = name_of old.update in
    let was = c.in_ok-was.was' in
    let placed : c.place.result.now ≡ s.place name = c.place.ensures ∙ c.requires.place in
    let bad : was.damaged ≡ is_damaged s (view (s.place name)) = c.in_ok-was.ensures.damaged h ∙ ap (λ (p : Path). is_damaged s (view p)) placed in
    let allowed : s.is_prohibited (s.place name) ≡ false = subst (λ (p : Path). s.is_prohibited p ≡ false) c.requires.place c.requires.allowed in
    let same : T' ≡ T = (c.read_old_value.ensures.reads.leaves h).tree in
    let at : lock_of new.lock ≡ lock_of old.lock = ap (λ p. lock_of p.1) c.decide.ensures.given in
    let still = (c.read_old_value.ensures.reads.passes h).disk in
    both_on_ok c.write.result (c.write.ensures.filled h) (c.write.ensures.whole h) (λ fills wholes. record {
      decided = λ asked empty.
          let is : value_of was.target ≡ found s view name =
          c.in_ok-was.ensures.target h ∙ (ap (λ (p : Path). found_by s (decoded s (view p)) old.packed) placed ∙ ap (found_by s (decoded s (view (s.place name)))) asked) in
          let alone = c.is_packed_alone-alone.result in
          let told : new.effect ≡ decision old.update.change alone (found s view name) (is_damaged s (view (s.place name))) =
          c.decide.ensures.effect ∙ (ap (λ w. decision old.update.change alone w was.damaged) is ∙ ap (decision old.update.change alone (found s view name)) bad) in
          let what : effect_value old.update.change new.effect ≡ _ = decided_is s (mode_of_packing c.args.packing) view old.update allowed (λ t. refl) alone c.is_packed_alone-alone.ensures new.effect told in
          let text : effect_value new.update.change new.effect ≡ _ = ap (λ p. effect_value p.0.change new.effect) c.decide.ensures.given ∙ what in
          record {
            was = ap value_of c.decide.ensures.found ∙ is;
            file = c.decide.ensures.file ∙ (c.in_ok-was.ensures.file h ∙ ap (λ (p : Path). is_some (view p)) placed);
            what = what;
            expects = subst (λ w. Expects (expected_of old.update.change) (new_of old.update.change) w) is c.in_ok-check_expected.ensures;
            filled = filled_with T T' (g.F.Files.means c.write.new.files).tree (lock_of old.lock) (lock_of new.lock) _ _ same at text empty fills;
          };
      whole = λ whole. subst (IsSomeWhole (disk_of (g.F.Files.means c.write.new.files))) at
          (wholes (subst (λ (l : Path). IsWholeAt (disk_of (g.F.Files.means c.read_old_value.new.files)) l []) (sym at) (subst (λ (D : Disk). IsWholeAt D (lock_of old.lock) []) (sym still) whole)));
    })
