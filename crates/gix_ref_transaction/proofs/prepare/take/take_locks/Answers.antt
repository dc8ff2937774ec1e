use Rattle.gix_ref_files.proofs.Meeting.{no_fewer_starts, no_fewer_joins}
use Rattle.std.proofs.Common.{rules, ◌≡◌, ◌≤◌, ◌∙◌, length, refl, sym, subst, arith, false}
use Rattle.std.proofs.lemmas.List.{length-map}
use Rattle.std.proofs.lemmas.Result.{err_from_is_err_and}
use Rattle.gix_ref_files.specs.Tree.{Path}
use Rattle.gix_ref_transaction.specs.PrepareSteps.{setting_of, updates}
use Rattle.gix_ref_transaction.specs.declared.edit.Edit.{Edit}
use Rattle.gix_ref_transaction.proofs.EditRounds.{turn, goes_first, finds_first, lockable_all, whole_all, same_ids, settled_all, is_led, lt_all, update_is, place_is, same_then, took_refused, took_still, took_leaves, took_passes, id_then, found_refused, free_then, text_adds, text_leaves, text_passes, goes_then, finds_then}
use Rattle.gix_ref_transaction.proofs.Rounds.{allowed_at, possible_at}
use Rattle.gix_ref_transaction.proofs.prepare.take.take_locks.Goals as goal

pub loop-i-init : goal.loop-i-init
loop-i-init g c =
    let s = setting_of c.args.settings.now in
    let first = g.F.Files.means c.args.files.now in
    record {
      no_fewer = no_fewer_starts _;
      same = refl;
      counted = c.requires.none;
      goes = λ h. goes_first s c.args.settings.now.kind (updates c.args.edits.now) first;
      finds = λ h asked. finds_first s c.args.settings.now.kind (updates c.args.edits.now) first c.args.edits.now;
    }

pub take-requires : goal.take-requires
take-requires g c =
    let s = setting_of c.args.settings.now in
    let kind = c.args.settings.now.kind in
    let old = c.args.edits.now in
    let x = c.loop-i.invariant in
    let first = g.F.Files.means c.args.files.now in
    let mid = g.F.Files.means c.loop-i.files in
    let t = turn old c.loop-i.edits x.same c.loop-i.i c.index-edits-i.result (omega arith) c.index-edits-i.is in
    record {
      ready = λ h ready.
          is_led s old t kind c.requires.ready.apart c.requires.ready.places first mid (x.goes h) (c.is_led_to-is_ready.ensures.after ready) (c.is_led_to-is_ready.ensures.folders mid.tree ready)
          (g.met.F.Files.shaped c.loop-i.files h);
    }

pub returns-in_err-take-clause-refused : goal.returns-in_err-take-clause-refused
returns-in_err-take-clause-refused g c =
    let s = setting_of c.args.settings.now in
    let kind = c.args.settings.now.kind in
    let old = c.args.edits.now in
    let x = c.loop-i.invariant in
    let first = g.F.Files.means c.args.files.now in
    let mid = g.F.Files.means c.loop-i.files in
    let t = turn old c.loop-i.edits x.same c.loop-i.i c.index-edits-i.result (omega arith) c.index-edits-i.is in
    let told = err_from_is_err_and c.from_residual.result c.from_residual.ensures.1 in
    rw (told.1, told.2) (record {
      first = λ h asked. took_refused s old t kind c.requires.ready.apart c.requires.ready.places first mid (x.goes h) _ c.loop-i.edits (x.finds h asked) (c.in_err-take.ensures.refused.cause h);
      counted = search rules;
    })

pub returns-in_err-take-clause-first : goal.returns-in_err-take-clause-first
returns-in_err-take-clause-first g c =
    let s = setting_of c.args.settings.now in
    let kind = c.args.settings.now.kind in
    let old = c.args.edits.now in
    let x = c.loop-i.invariant in
    let first = g.F.Files.means c.args.files.now in
    let mid = g.F.Files.means c.loop-i.files in
    let t = turn old c.loop-i.edits x.same c.loop-i.i c.index-edits-i.result (omega arith) c.index-edits-i.is in
    record {
      within = search rules;
      adds = λ h. rw x.counted (took_still s old t kind c.requires.ready.apart c.requires.ready.places first mid (x.goes h) (g.F.Files.means c.take.new.files).tree (c.in_err-take.ensures.refused.kept h));
      free = λ h. rw x.counted (x.goes h).free;
    }

pub returns-in_err-take-clause-takes : goal.returns-in_err-take-clause-takes
returns-in_err-take-clause-takes g c =
    let s = setting_of c.args.settings.now in
    let kind = c.args.settings.now.kind in
    let old = c.args.edits.now in
    let x = c.loop-i.invariant in
    let first = g.F.Files.means c.args.files.now in
    let mid = g.F.Files.means c.loop-i.files in
    let t = turn old c.loop-i.edits x.same c.loop-i.i c.index-edits-i.result (omega arith) c.index-edits-i.is in
    record {
      leaves = λ h. took_leaves s old t kind c.requires.ready.apart c.requires.ready.places first mid (x.goes h) (g.F.Files.means c.take.new.files) (c.take.ensures.takes.leaves h);
      passes = λ h. took_passes s old t kind c.requires.ready.apart c.requires.ready.places first mid (x.goes h) (g.F.Files.means c.take.new.files) (c.take.ensures.takes.passes h);
      no_fewer = no_fewer_joins x.no_fewer c.take.ensures.takes.no_fewer;
    }

pub compare_and_write-requires : goal.compare_and_write-requires
compare_and_write-requires g c =
    let s = setting_of c.args.settings.now in
    let kind = c.args.settings.now.kind in
    let old = c.args.edits.now in
    let x = c.loop-i.invariant in
    let ready = c.requires.ready in
    let t = turn old c.loop-i.edits x.same c.loop-i.i c.index-edits-i.result (omega arith) c.index-edits-i.is in
    let place = place_is s old t ready.places in
    let less = lt_all s old t in
    let is = update_is s old t in
    record {
      place = place;
      allowed = subst (λ (p : Path). s.is_prohibited p ≡ false) (sym place) (allowed_at s kind (updates old) ready.valid t.i t.e.update less is);
      possible = possible_at s kind (updates old) ready.valid t.i t.e.update less is;
    }

pub returns-in_err-compare_and_write-clause-given : goal.returns-in_err-compare_and_write-clause-given
returns-in_err-compare_and_write-clause-given g c =
    let s = setting_of c.args.settings.now in
    let kind = c.args.settings.now.kind in
    let old = c.args.edits.now in
    let x = c.loop-i.invariant in
    let first = g.F.Files.means c.args.files.now in
    let mid = g.F.Files.means c.loop-i.files in
    let t = turn old c.loop-i.edits x.same c.loop-i.i c.index-edits-i.result (omega arith) c.index-edits-i.is in
    same_then s old t c.compare_and_write.new.self c.compare_and_write.ensures.given

pub returns-in_err-compare_and_write-clause-refused : goal.returns-in_err-compare_and_write-clause-refused
returns-in_err-compare_and_write-clause-refused g c =
    let s = setting_of c.args.settings.now in
    let kind = c.args.settings.now.kind in
    let old = c.args.edits.now in
    let x = c.loop-i.invariant in
    let first = g.F.Files.means c.args.files.now in
    let mid = g.F.Files.means c.loop-i.files in
    let t = turn old c.loop-i.edits x.same c.loop-i.i c.index-edits-i.result (omega arith) c.index-edits-i.is in
    let told = err_from_is_err_and c.from_residual-in_err-compare_and_write.result c.from_residual-in_err-compare_and_write.ensures.1 in
    rw (told.1, told.2) (record {
      first = λ h asked.
          let one = g.F.Files.means c.take.new.files in
          let took = c.take.ensures.takes.leaves h in
          let new = (c.in_ok-take.ensures.taken h).made in
          found_refused s old t kind c.requires.ready.apart c.requires.ready.places first mid (x.goes h) one took new _ c.loop-i.edits (x.finds h asked) (c.in_err-compare_and_write.ensures.refused.cause h (id_then s old t kind c.requires.ready.apart c.requires.ready.places first mid (x.goes h) one took new asked));
      counted = search rules;
    })

pub returns-in_err-compare_and_write-clause-first : goal.returns-in_err-compare_and_write-clause-first
returns-in_err-compare_and_write-clause-first g c =
    let s = setting_of c.args.settings.now in
    let kind = c.args.settings.now.kind in
    let old = c.args.edits.now in
    let x = c.loop-i.invariant in
    let first = g.F.Files.means c.args.files.now in
    let mid = g.F.Files.means c.loop-i.files in
    let t = turn old c.loop-i.edits x.same c.loop-i.i c.index-edits-i.result (omega arith) c.index-edits-i.is in
    record {
      within = search rules;
      adds = λ h.
          let one = g.F.Files.means c.take.new.files in
          let took = c.take.ensures.takes.leaves h in
          let new = (c.in_ok-take.ensures.taken h).made in
          let two = g.F.Files.means c.compare_and_write.new.files in
          let fills = c.compare_and_write.ensures.fills.leaves h new.empty in
          text_adds s old t kind c.requires.ready.apart c.requires.ready.places first mid (x.goes h) one took new two fills;
      free = λ h.
          let one = g.F.Files.means c.take.new.files in
          let took = c.take.ensures.takes.leaves h in
          let new = (c.in_ok-take.ensures.taken h).made in
          free_then s old t kind c.requires.ready.apart c.requires.ready.places first mid (x.goes h) one took new;
    }

pub returns-in_err-compare_and_write-clause-takes : goal.returns-in_err-compare_and_write-clause-takes
returns-in_err-compare_and_write-clause-takes g c =
    let s = setting_of c.args.settings.now in
    let kind = c.args.settings.now.kind in
    let old = c.args.edits.now in
    let x = c.loop-i.invariant in
    let first = g.F.Files.means c.args.files.now in
    let mid = g.F.Files.means c.loop-i.files in
    let t = turn old c.loop-i.edits x.same c.loop-i.i c.index-edits-i.result (omega arith) c.index-edits-i.is in
    record {
      leaves = λ h.
          let one = g.F.Files.means c.take.new.files in
          let took = c.take.ensures.takes.leaves h in
          let new = (c.in_ok-take.ensures.taken h).made in
          let two = g.F.Files.means c.compare_and_write.new.files in
          let fills = c.compare_and_write.ensures.fills.leaves h new.empty in
          text_leaves s old t kind c.requires.ready.apart c.requires.ready.places first mid (x.goes h) one took new two fills;
      passes = λ h.
          let one = g.F.Files.means c.take.new.files in
          let took = c.take.ensures.takes.leaves h in
          let new = (c.in_ok-take.ensures.taken h).made in
          let two = g.F.Files.means c.compare_and_write.new.files in
          let fills = c.compare_and_write.ensures.fills.leaves h new.empty in
          text_passes s old t kind c.requires.ready.apart c.requires.ready.places first mid (x.goes h) one took new two fills (c.take.ensures.takes.passes h) (c.compare_and_write.ensures.fills.passes h);
      no_fewer = no_fewer_joins x.no_fewer (no_fewer_joins c.take.ensures.takes.no_fewer c.compare_and_write.ensures.fills.no_fewer);
    }

pub loop-i-preserved : goal.loop-i-preserved
loop-i-preserved g c =
    let s = setting_of c.args.settings.now in
    let kind = c.args.settings.now.kind in
    let old = c.args.edits.now in
    let x = c.loop-i.invariant in
    let first = g.F.Files.means c.args.files.now in
    let mid = g.F.Files.means c.loop-i.files in
    let t = turn old c.loop-i.edits x.same c.loop-i.i c.index-edits-i.result (omega arith) c.index-edits-i.is in
    record {
      no_fewer = no_fewer_joins x.no_fewer (no_fewer_joins c.take.ensures.takes.no_fewer c.compare_and_write.ensures.fills.no_fewer);
      same = same_then s old t c.compare_and_write.new.self c.compare_and_write.ensures.given;
      counted = refl;
      goes = λ h.
          let one = g.F.Files.means c.take.new.files in
          let new = (c.in_ok-take.ensures.taken h).made in
          goes_then s old t kind c.requires.ready.apart c.requires.ready.places first mid (x.goes h) one (c.take.ensures.takes.leaves h) new (g.F.Files.means c.compare_and_write.new.files) (c.compare_and_write.ensures.fills.leaves h new.empty)
          (c.take.ensures.takes.passes h) (c.compare_and_write.ensures.fills.passes h) ((c.in_ok-compare_and_write.ensures.written h).whole ((c.in_ok-take.ensures.taken h).whole));
      finds = λ h asked.
          let one = g.F.Files.means c.take.new.files in
          let took = c.take.ensures.takes.leaves h in
          let new = (c.in_ok-take.ensures.taken h).made in
          finds_then s old t kind c.requires.ready.apart c.requires.ready.places first mid (x.goes h) one took new (g.F.Files.means c.compare_and_write.new.files) (c.compare_and_write.ensures.fills.leaves h new.empty) c.compare_and_write.new.self c.compare_and_write.ensures.given
          ((c.in_ok-compare_and_write.ensures.written h).decided (id_then s old t kind c.requires.ready.apart c.requires.ready.places first mid (x.goes h) one took new asked) new.empty) (x.finds h asked);
    }

pub returns-clause-taken : goal.returns-clause-taken
returns-clause-taken g c h =
    let s = setting_of c.args.settings.now in
    let kind = c.args.settings.now.kind in
    let old = c.args.edits.now in
    let x = c.loop-i.invariant in
    let first = g.F.Files.means c.args.files.now in
    let now = g.F.Files.means c.loop-i.files in
    let end : length (updates old) ≤ c.loop-i.i = omega (arith, length-map old (λ (e : Edit). e.update)) in
    record {
      settled = λ asked. settled_all s kind (updates old) first c.loop-i.i now c.loop-i.edits old end (omega arith) refl (same_ids c.loop-i.edits old x.same ∙ asked) (x.finds h asked);
      lockable = lockable_all s kind (updates old) first c.loop-i.i now end (x.goes h);
      whole = whole_all s kind (updates old) first c.loop-i.i now end (x.goes h);
    }

pub returns-clause-wholes : goal.returns-clause-wholes
returns-clause-wholes g c h q text =
    (c.loop-i.invariant.goes h).wholes q text

pub returns-clause-first : goal.returns-clause-first
returns-clause-first g c =
    let x = c.loop-i.invariant in
    record {
      within = search rules;
      adds = λ h. rw x.counted (x.goes h).adds;
      free = λ h. rw x.counted (x.goes h).free;
    }

pub returns-clause-takes : goal.returns-clause-takes
returns-clause-takes g c =
    let x = c.loop-i.invariant in
    record {
      leaves = λ h. (x.goes h).run;
      passes = λ h. (x.goes h).passes;
      no_fewer = x.no_fewer;
    }
