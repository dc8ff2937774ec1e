use Rattle.std.proofs.Common.{◌≡◌, ap, sym, subst, ◌∙◌, string_bytes}
use Rattle.std.specs.Cmp.Lexicographic.{bytes_decides}
use Rattle.gix_ref_name.specs.ComposedNames.{nfc_bytes, composed}
use Rattle.gix_ref_name.proofs.Composing.{composed_ascii, composed_same, composed_other, composed_bad, composed_form}
use Rattle.gix_ref_name.proofs.name.compose.compose.Goals as goal

pub returns-then-is_ascii : goal.returns-then-is_ascii
returns-then-is_ascii c =
    subst (λ v. composed v ≡ v) c.to_partial_path-path.ensures.bytes (composed_ascii c.to_partial_path-path.result.now c.if-is_ascii.ensures.cases)

pub returns-in_default : goal.returns-in_default
returns-in_default c =
    subst (λ v. composed v ≡ v) c.to_partial_path-path.ensures.bytes (composed_other c.to_partial_path-path.result.now c.in_default.ensures.cases.0)

pub returns-then-eq : goal.returns-then-eq
returns-then-eq c =
    let p = c.to_partial_path-path.result.now in
    let form : string_bytes c.in_ok-form.form ≡ nfc_bytes p = c.in_ok-form.ensures ∙ ap nfc_bytes c.in-Ok.ensures.cases.0 in
    let same : c.as_bytes.result.now ≡ p = (bytes_decides c.as_bytes.result.now p).0 (sym c.eq.ensures ∙ c.if-eq.true) in
    subst (λ v. composed v ≡ v) c.to_partial_path-path.ensures.bytes (composed_same p (sym form ∙ sym c.as_bytes.ensures.value ∙ same))

pub returns-in-Ok-try_from : goal.returns-in-Ok-try_from
returns-in-Ok-try_from c =
    let p = c.to_partial_path-path.result.now in
    let form : string_bytes c.in_ok-form.form ≡ nfc_bytes p = c.in_ok-form.ensures ∙ ap nfc_bytes c.in-Ok.ensures.cases.0 in
    let made = c.in-Ok-try_from.ensures in (
      ap composed (sym c.to_partial_path-path.ensures.bytes)
          ∙ composed_form p (string_bytes c.in_ok-form.form) c.in-Ok.ensures.cases.1 form made.1
          ∙ sym made.0,
      λ same.
          let equal : c.as_bytes.result.now ≡ p = c.as_bytes.ensures.value ∙ sym made.0 ∙ same ∙ sym c.to_partial_path-path.ensures.bytes in
          let yes = c.eq.ensures ∙ (bytes_decides c.as_bytes.result.now p).1 equal in
          absurd (cc (yes, c.if-eq.false)),
    )

pub returns-in-Err : goal.returns-in-Err
returns-in-Err c =
    let p = c.to_partial_path-path.result.now in
    let form : string_bytes c.in_ok-form.form ≡ nfc_bytes p = c.in_ok-form.ensures ∙ ap nfc_bytes c.in-Ok.ensures.cases.0 in
    subst (λ v. composed v ≡ v) c.to_partial_path-path.ensures.bytes (composed_bad p (string_bytes c.in_ok-form.form) c.in-Err.field-0 form c.in-Err.ensures)
