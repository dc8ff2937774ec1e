use Rattle.std.proofs.Common.{◌≡◌, ◌∙◌, inl, inr, refl, Some, None, ap, sym}
use Rattle.gix_ref_name.specs.Names.{full_bytes, full_ref_bytes}
use Rattle.gix_ref_lookup.specs.Lookups.{OfKey}
use Rattle.gix_ref_lookup.proofs.NamedRecords.{without_key}
use Rattle.gix_ref_transaction.specs.PrepareSteps.{setting_of}
use Rattle.gix_ref_transaction.specs.internal.StuckRecords.{IsSearchFault, IsStuckKey}
use Rattle.gix_ref_transaction.specs.declared.prepare.error.Error.{Error}
use Rattle.gix_ref_transaction.proofs.PackedLemmas.{if_err, if_ok, no_id}
use Rattle.gix_ref_transaction.proofs.UnreadRecords.{find_wider}
use Rattle.gix_ref_transaction.proofs.prepare.records.id_of.Goals as goal

pub returns-in-None-clause-read : goal.returns-in-None-clause-read
returns-in-None-clause-read g c h kind = inl (rw c.in-None.is at c.in_ok-key.ensures, refl)

pub returns-then-key_is_name-clause-read : goal.returns-then-key_is_name-clause-read
returns-then-key_is_name-clause-read g c h kind =
    if_ok c.id_at.result (λ id read. inr (full_ref_bytes c.args.name, c.if-key_is_name.ensures, read)) (c.id_at.ensures.read h kind)

pub returns-in-Some-clause-read : goal.returns-in-Some-clause-read
returns-in-Some-clause-read g c h kind =
    let s = setting_of c.args.settings.now in
    let name = full_ref_bytes c.args.name in
    let key = full_ref_bytes c.as_ref.result in
    let own : s.key name ≡ Some (full_bytes c.in-Some.key) = rw c.in-Some.is at c.in_ok-key.ensures in
    let is : s.key name ≡ Some key = own ∙ ap Some (sym c.as_ref.ensures) in
    if_ok c.id_at-in-Some.result (λ id read. inr (key, is, read)) (c.id_at-in-Some.ensures.read h kind)

pub returns-in-None-clause-found : goal.returns-in-None-clause-found
returns-in-None-clause-found g c kind rs asked =
    let s = setting_of c.args.settings.now in
    let name = full_ref_bytes c.args.name in
    sym (no_id s (s.key name) rs (without_key c.args.settings.now kind None c.args.records.now rs name asked (rw c.in-None.is at c.in_ok-key.ensures)))

pub returns-then-key_is_name-clause-failed : goal.returns-then-key_is_name-clause-failed
returns-then-key_is_name-clause-failed g c =
    let s = setting_of c.args.settings.now in
    let name = full_ref_bytes c.args.name in
    let records = c.args.records.now in
    if_err c.id_at.result (λ (e : Error) (why : IsSearchFault records (λ kind. IsStuckKey kind records name) e). record {
      sound = why.sound;
      refused = why.refused;
      unread = λ h kind. let stuck = IsStuckKey kind records in find_wider (stuck name) (OfKey s name stuck) e (λ bad. (name, c.if-key_is_name.ensures, bad)) (why.unread h kind);
    }) c.id_at.ensures.failed

pub returns-in-Some-clause-failed : goal.returns-in-Some-clause-failed
returns-in-Some-clause-failed g c =
    let s = setting_of c.args.settings.now in
    let name = full_ref_bytes c.args.name in
    let key = full_ref_bytes c.as_ref.result in
    let records = c.args.records.now in
    let own : s.key name ≡ Some (full_bytes c.in-Some.key) = rw c.in-Some.is at c.in_ok-key.ensures in
    let is : s.key name ≡ Some key = own ∙ ap Some (sym c.as_ref.ensures) in
    if_err c.id_at-in-Some.result (λ (e : Error) (why : IsSearchFault records (λ kind. IsStuckKey kind records key) e). record {
      sound = why.sound;
      refused = why.refused;
      unread = λ h kind. let stuck = IsStuckKey kind records in find_wider (stuck key) (OfKey s name stuck) e (λ bad. (key, is, bad)) (why.unread h kind);
    }) c.id_at-in-Some.ensures.failed
