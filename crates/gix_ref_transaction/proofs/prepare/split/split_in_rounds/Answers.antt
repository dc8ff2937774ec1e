use Rattle.std.proofs.Common.{◌≡◌, ◌<◌, ◌++◌, ⊎_elim, inl, inr, [], All, length, arith, subst, sym, refl, ◌∙◌, ap, rules}
use Rattle.std.proofs.lemmas.Grind.{common_steps}
use Rattle.std.proofs.lemmas.List.{length-append, length-map, map-append, nil_from_length}
use Rattle.std.proofs.lemmas.List.Elements.{All-nil, All-append}
use Rattle.std.proofs.lemmas.Result.{err_from_is_err_and}
use Rattle.gix_ref_files.specs.Tree.{Tree}
use Rattle.gix_ref_theory.specs.OnRealTrees.{view_of}
use Rattle.gix_ref_edits.specs.EditValues.{edit_value}
use Rattle.gix_ref_edits.specs.SplitLists.{after_round, first_levels, level}
use Rattle.gix_ref_transaction.specs.Parents.{first_parents, parents_from}
use Rattle.gix_ref_transaction.specs.PrepareSteps.{setting_of}
use Rattle.gix_ref_transaction.specs.Splits.{name_led_to, values_of, CanFollow}
use Rattle.gix_ref_transaction.specs.internal.SplitRounds.{IsRoundOver, IsSoundValue, IsUpdateValue, IsValidValue}
use Rattle.gix_ref_transaction.proofs.SplitLemmas.{after_by-length, can_more, can_none, done_more, done_none, first_parents_more, first_parents_none, level_more, level_none, level_parents_more, level_parents_none, misnamed_on}
use Rattle.gix_ref_files.proofs.ReadOnly.{reads_more, reads_none}
use Rattle.gix_ref_transaction.proofs.SplitValidity.{after_updates, after_valid, all_updates, all_valid, children_sound, children_updates, given_sound, given_updates, now_valid}
use Rattle.gix_ref_transaction.proofs.prepare.split.split_in_rounds.Goals as goal

pub loop-round-init : goal.loop-round-init
loop-round-init g c =
    let F = g.F.Files in
    let s = setting_of c.args.settings.now in
    let kind = c.args.settings.now.kind in
    let find = name_led_to s (view_of (F.means c.args.files.now).tree) in
    let given = values_of c.args.edits.items in
    record {
      done = λ h. ap values_of c.in_ok-with_capacity.ensures.items ∙ done_none find given;
      next = λ h. ap (λ edits. values_of edits.items) c.in-Ok.ensures.edits ∙ level_none find given;
      done_parents = λ h. c.in_ok-with_capacity-2.ensures.items ∙ first_parents_none find given;
      next_parents = λ h. c.in-Ok.ensures.parents ∙ level_parents_none find given;
      done_len = omega (arith, c.in_ok-with_capacity.ensures.len, c.in_ok-with_capacity-2.ensures.len);
      next_len = c.in-Ok.ensures.len;
      can_follow = λ h. can_none find (CanFollow s) given;
      reads = reads_none F.honest F.means F.faults c.args.files.now;
      valid = λ valid. (
        subst (λ l. All (IsValidValue s kind) (values_of l)) (sym c.in_ok-with_capacity.ensures.items) (All-nil (IsValidValue s kind)),
        subst (λ edits. All (IsSoundValue s kind) (values_of edits.items)) (sym c.in-Ok.ensures.edits) (given_sound s kind [] c.args.edits.items valid),
      );
      updates = λ updates. (
        subst (λ l. All IsUpdateValue (values_of l)) (sym c.in_ok-with_capacity.ensures.items) (All-nil IsUpdateValue),
        subst (λ edits. All IsUpdateValue (values_of edits.items)) (sym c.in-Ok.ensures.edits) (given_updates c.args.edits.items updates),
      );
    }

pub returns-in_err-children-clause-refused : goal.returns-in_err-children-clause-refused
returns-in_err-children-clause-refused g c =
    let F = g.F.Files in
    let x = c.loop-round.invariant in
    let s = setting_of c.args.settings.now in
    let find = name_led_to s (view_of (F.means c.args.files.now).tree) in
    let given = values_of c.args.edits.items in
    let n = c.loop-round._round in
    let lt : n < 5 = omega (arith, c.loop-round-test.true, c.loop-round.auto._round-end) in
    let told = err_from_is_err_and c.from_residual-in_err-children.result c.from_residual-in_err-children.ensures.1 in
    rw (told.1, told.2) (record {
      cause = λ h. ⊎_elim (λ outside. inl outside)
          (λ bad. inr (inl (misnamed_on find s given n 5 (values_of c.loop-round.level.edits.items) _ lt (x.next h) (x.can_follow h) bad)))
          c.in_err-children.ensures.refused.cause;
      counted = search rules;
    })

pub loop-round-preserved : goal.loop-round-preserved
loop-round-preserved g c =
    let F = g.F.Files in
    let x = c.loop-round.invariant in
    let s = setting_of c.args.settings.now in
    let kind = c.args.settings.now.kind in
    let find = name_led_to s (view_of (F.means c.args.files.now).tree) in
    let given = values_of c.args.edits.items in
    let n = c.loop-round._round in
    let here = c.in_ok-children.ensures.over in
    let done = values_of c.loop-round.done.edits.items in
    let back = values_of c.loop-round.level.edits.items in
    let after = values_of c.split_round.new.edits.items in
    let kids = values_of c.in_ok-children.children.edits.items in
    let joined : values_of c.append.new.self.items ≡ done ++ after = ap values_of c.in_ok-append.ensures.items ∙ map-append edit_value c.loop-round.done.edits.items c.split_round.new.edits.items in
    let round_len : length c.split_round.new.edits.items ≡ length c.loop-round.level.edits.items =
    sym (length-map c.split_round.new.edits.items edit_value) ∙ (ap length here.by.changed ∙ (after_by-length back here.by.led here.by.len ∙ length-map c.loop-round.level.edits.items edit_value)) in
    record {
      done = λ h.
          let round = subst (λ (T : Tree). IsRoundOver (name_led_to s (view_of T)) back after kids) (x.reads.leaves h).tree (here.round h) in
          joined ∙ done_more find given n done back after (x.done h) (x.next h) round.changed;
      next = λ h.
          let round = subst (λ (T : Tree). IsRoundOver (name_led_to s (view_of T)) back after kids) (x.reads.leaves h).tree (here.round h) in
          level_more find given n back kids (x.next h) round.split;
      done_parents = λ h. c.in_ok-append-2.ensures.items ∙ first_parents_more find given n c.loop-round.done.parents.items c.loop-round.level.parents.items (x.done_parents h) (x.next_parents h);
      next_parents = λ h.
          let kids_parents = c.in_ok-children.children.parents.items in
          let first = c.len-first.result in
          let at : first ≡ length c.loop-round.done.edits.items = omega arith in
          level_parents_more find given n first c.loop-round.done.edits.items back kids_parents at (x.done h) (x.next h)
          (subst (λ (T : Tree). kids_parents ≡ parents_from (name_led_to s (view_of T)) first back) (x.reads.leaves h).tree (here.parents h));
      done_len = omega (
        arith,
        x.done_len,
        x.next_len,
        round_len,
        ap length c.in_ok-append.ensures.items,
        ap length c.in_ok-append-2.ensures.items,
        length-append c.loop-round.done.edits.items c.split_round.new.edits.items,
        length-append c.loop-round.done.parents.items c.loop-round.level.parents.items,
      );
      next_len = here.len;
      can_follow = λ h. can_more find (CanFollow s) given n back (x.next h) (x.can_follow h) here.can_follow;
      reads = reads_more F.honest F.means F.faults c.args.files.now c.loop-round.files c.split_round.new.files x.reads c.in_ok-children.ensures.reads;
      valid = λ valid.
          let before = x.valid valid in
          let now = now_valid s kind back before.1 here.can_follow in (
            subst (All (IsValidValue s kind)) (sym joined) (All-append (IsValidValue s kind) done after before.0 (subst (All (IsValidValue s kind)) (sym here.by.changed) (after_valid s kind back here.by.led now))),
            subst (All (IsSoundValue s kind)) (sym here.by.split) (children_sound s kind back here.by.led now),
          );
      updates = λ updates.
          let before = x.updates updates in (
            subst (All IsUpdateValue) (sym joined) (All-append IsUpdateValue done after before.0 (subst (All IsUpdateValue) (sym here.by.changed) (after_updates back here.by.led before.1))),
            subst (All IsUpdateValue) (sym here.by.split) (children_updates back here.by.led before.1),
          );
    }

pub returns-then-is_empty-clause-split : goal.returns-then-is_empty-clause-split
returns-then-is_empty-clause-split g c =
    let s = setting_of c.args.settings.now in
    let find = name_led_to s (view_of (g.F.Files.means c.args.files.now).tree) in
    let given = values_of c.args.edits.items in
    let x = c.loop-round.invariant in
    let five : c.loop-round._round ≡ 5 = omega (arith, c.loop-round-test.false, c.loop-round.auto._round-end) in
    let left = c.loop-round.level.edits.items in
    let empty : length left ≡ 0 = first_of (search rules, grind (arith, common_steps)) in
    record {
      is = λ h. record {
        ends = subst (λ n. level find given n ≡ []) five (sym (x.next h) ∙ ap values_of (nil_from_length left empty));
        levels = x.done h ∙ ap (λ n. after_round find (first_levels find given n)) five;
      };
      parents = λ h. x.done_parents h ∙ ap (first_parents find given) five;
      len = x.done_len;
      can_follow = λ h. subst (λ n. All (CanFollow s) (first_levels find given n)) five (x.can_follow h);
      valid = λ valid. all_valid s c.args.settings.now.kind [] c.loop-round.done.edits.items (x.valid valid).0;
      updates = λ updates. all_updates c.loop-round.done.edits.items (x.updates updates).0;
    }

pub returns-else-is_empty-clause-refused : goal.returns-else-is_empty-clause-refused
returns-else-is_empty-clause-refused g c =
    let s = setting_of c.args.settings.now in
    let find = name_led_to s (view_of (g.F.Files.means c.args.files.now).tree) in
    let given = values_of c.args.edits.items in
    let left = c.loop-round.level.edits.items in
    let five : c.loop-round._round ≡ 5 = omega (arith, c.loop-round-test.false, c.loop-round.auto._round-end) in
    let some : left ≡ [] → ⊥ = λ none. let empty : length left ≡ 0 = ap length none in first_of (search rules, grind (arith, common_steps)) in
    record {
      cause = λ h. inr (inr (
        refl,
        subst (λ n. All (CanFollow s) (first_levels find given n)) five (c.loop-round.invariant.can_follow h),
        λ none.
            let empty : values_of left ≡ [] = c.loop-round.invariant.next h ∙ (ap (level find given) five ∙ none) in
            some (nil_from_length left (sym (length-map left edit_value) ∙ ap length empty)),
      ));
      counted = search rules;
    }
