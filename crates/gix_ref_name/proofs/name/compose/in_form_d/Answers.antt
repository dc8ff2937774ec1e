use Rattle.std.proofs.Common.{◌≡◌, ap, sym, ◌∙◌, string_bytes}
use Rattle.gix_ref_name.specs.ComposedNames.{nfd_bytes}
use Rattle.gix_ref_name.proofs.Composing.{decomposed_ascii, decomposed_other, decomposed_bad, decomposed_form}
use Rattle.gix_ref_name.proofs.name.compose.in_form_d.Goals as goal

pub returns-then-is_ascii : goal.returns-then-is_ascii
returns-then-is_ascii c = decomposed_ascii c.args.path.now c.if-is_ascii.ensures.cases

pub returns-in_default : goal.returns-in_default
returns-in_default c = decomposed_other c.args.path.now c.in_default.ensures.cases.0

pub returns-in-Ok-try_from : goal.returns-in-Ok-try_from
returns-in-Ok-try_from c =
    let form : string_bytes c.in_ok-form.form ≡ nfd_bytes c.args.path.now = c.in_ok-form.ensures ∙ ap nfd_bytes c.in-Ok.ensures.cases.0 in
    let made = c.in-Ok-try_from.ensures in
    decomposed_form c.args.path.now (string_bytes c.in_ok-form.form) c.in-Ok.ensures.cases.1 form made.1 ∙ sym made.0

pub returns-in-Err : goal.returns-in-Err
returns-in-Err c =
    let form : string_bytes c.in_ok-form.form ≡ nfd_bytes c.args.path.now = c.in_ok-form.ensures ∙ ap nfd_bytes c.in-Ok.ensures.cases.0 in
    decomposed_bad c.args.path.now (string_bytes c.in_ok-form.form) c.in-Err.field-0 form c.in-Err.ensures
