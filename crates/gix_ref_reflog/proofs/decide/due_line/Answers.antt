use Rattle.std.proofs.Common.{◌≡◌, Bool, true, None, Some, ap, sym, ◌∙◌}
use Rattle.std.specs.Prelude.{◌||◌, vec_items}
use Rattle.std.specs.Option.{option_map}
use Rattle.std.proofs.lemmas.Result.{err_from_is_err_and}
use Rattle.gix_ref_reflog.specs.AskedEdits.{asked_edit}
use Rattle.gix_ref_reflog.specs.DueLines.{written_ids, has_log}
use Rattle.gix_ref_reflog.specs.LineCauses.{has_file_in_path}
use Rattle.gix_ref_reflog.specs.internal.SeenLogs.{due_paths}
use Rattle.gix_ref_reflog.specs.internal.LineSteps.{log_rules}
use Rattle.gix_ref_reflog.proofs.LineSteps.{no_ids, no_line, none_passes, none_kept, is_due, has_one, seen_with, blocked_seen, due_fails, due_passes}
use Rattle.gix_ref_transaction.specs.OwnLocks.{is_in}
use Rattle.gix_ref_reflog.proofs.decide.due_line.Goals as goal

pub returns-in_default-clause-line : goal.returns-in_default-clause-line
returns-in_default-clause-line g c h view sees =
    let r = log_rules c.args.rules in
    let a = asked_edit c.args.edit.now c.args.leaf in
    let none : written_ids r a ≡ None = sym c.written_ids.ensures ∙ c.in_default.is in
    ap (option_map vec_items) c.nothing.ensures.line ∙ sym (no_line r view a (no_ids r view a none))

pub returns-in_default-clause-passed : goal.returns-in_default-clause-passed
returns-in_default-clause-passed g c h view sees =
    let r = log_rules c.args.rules in
    let a = asked_edit c.args.edit.now c.args.leaf in
    let none : written_ids r a ≡ None = sym c.written_ids.ensures ∙ c.in_default.is in
    none_passes r view a (no_ids r view a none)

pub returns-in_default-clause-seen : goal.returns-in_default-clause-seen
returns-in_default-clause-seen g c h view sees q =
    let r = log_rules c.args.rules in
    let a = asked_edit c.args.edit.now c.args.leaf in
    let none : written_ids r a ≡ None = sym c.written_ids.ensures ∙ c.in_default.is in
    none_kept r view a (no_ids r view a none) q ∙ sees q

pub returns-in_err-line-clause-refused : goal.returns-in_err-line-clause-refused
returns-in_err-line-clause-refused g c h view sees =
    let r = log_rules c.args.rules in
    let a = asked_edit c.args.edit.now c.args.leaf in
    let T = (g.F.Files.means c.args.files.now).tree in
    let path = c.args.path.now in
    let place = c.in_ok-place.place in
    let told = err_from_is_err_and c.from_residual-in_err-line.result c.from_residual-in_err-line.ensures.1 in
    let some : written_ids r a ≡ Some c.in-Some.ids = sym c.written_ids.ensures ∙ c.in-Some.is in
    let has : has_log r view a ≡ true = has_one r view a path c.requires.path (place.is_file || is_in (due_paths c.args.due.now) path) c.in_ok-has_log.field-0
    (ap (λ (b : Bool). b || is_in (due_paths c.args.due.now) path) (c.in_ok-place.ensures.file h) ∙ sym (sees path)) c.in_ok-has_log.ensures c.if-not-branch.false in
    let way : place.is_blocked ≡ has_file_in_path view path = c.in_ok-place.ensures.blocked h ∙ sym (blocked_seen view T (due_paths c.args.due.now) sees path) in
    rw (told.1, told.2) (due_fails r view a c.in-Some.ids (is_due r view a c.in-Some.ids some has) _ c.message_of-message.ensures path c.requires.path place.is_blocked way c.in_err-line.field-0.0 c.in_err-line.ensures.refused)

pub returns-clause-passed : goal.returns-clause-passed
returns-clause-passed g c h view sees =
    let r = log_rules c.args.rules in
    let a = asked_edit c.args.edit.now c.args.leaf in
    let T = (g.F.Files.means c.args.files.now).tree in
    let path = c.args.path.now in
    let place = c.in_ok-place.place in
    let some : written_ids r a ≡ Some c.in-Some.ids = sym c.written_ids.ensures ∙ c.in-Some.is in
    let has : has_log r view a ≡ true = has_one r view a path c.requires.path (place.is_file || is_in (due_paths c.args.due.now) path) c.in_ok-has_log.field-0
    (ap (λ (b : Bool). b || is_in (due_paths c.args.due.now) path) (c.in_ok-place.ensures.file h) ∙ sym (sees path)) c.in_ok-has_log.ensures c.if-not-branch.false in
    let way : place.is_blocked ≡ has_file_in_path view path = c.in_ok-place.ensures.blocked h ∙ sym (blocked_seen view T (due_paths c.args.due.now) sees path) in
    due_passes r view a c.in-Some.ids (is_due r view a c.in-Some.ids some has) _ c.message_of-message.ensures path c.requires.path c.in_ok-line.ensures.can (sym way ∙ c.in_ok-line.ensures.open)

pub returns-clause-seen : goal.returns-clause-seen
returns-clause-seen g c h view sees =
    let r = log_rules c.args.rules in
    let a = asked_edit c.args.edit.now c.args.leaf in
    let T = (g.F.Files.means c.args.files.now).tree in
    let path = c.args.path.now in
    let place = c.in_ok-place.place in
    let some : written_ids r a ≡ Some c.in-Some.ids = sym c.written_ids.ensures ∙ c.in-Some.is in
    let has : has_log r view a ≡ true = has_one r view a path c.requires.path (place.is_file || is_in (due_paths c.args.due.now) path) c.in_ok-has_log.field-0
    (ap (λ (b : Bool). b || is_in (due_paths c.args.due.now) path) (c.in_ok-place.ensures.file h) ∙ sym (sees path)) c.in_ok-has_log.ensures c.if-not-branch.false in
    seen_with r view a T (due_paths c.args.due.now) (due_paths c.add_due.new.due) c.in-Some.ids (is_due r view a c.in-Some.ids some has) path c.requires.path place.is_file (c.in_ok-place.ensures.file h) sees c.in_ok-add_due.ensures.added
