use Rattle.std.proofs.Common.{◌≡◌, ◌∙◌, ap, inl, inr, false, refl, subst, List, ℕ, None, Some}
use Rattle.gix_ref_name.specs.Names.{full_bytes, full_ref_bytes}
use Rattle.gix_ref_theory.specs.OnRealTrees.{view_of}
use Rattle.gix_ref_lookup.specs.Lookups.{meaning_in, IsLooseTarget}
use Rattle.gix_ref_listing.specs.Items.{IsUnread}
use Rattle.gix_ref_listing.proofs.GoneFiles.{packed_from, unread_of}
use Rattle.gix_ref_listing.proofs.gone.find_again.Goals as goal

pub returns-in-Ok-Some-clause-item : goal.returns-in-Ok-Some-clause-item
returns-in-Ok-Some-clause-item g c =
    let s = meaning_in c.args.settings in
    let view = view_of (g.F.Files.means c.args.files.now).tree in
    let at : c.in_ok-place.place.items ≡ s.place (full_bytes c.args.name) = c.in_ok-place.ensures ∙ ap s.place c.as_ref.ensures in
    inl (
      refl,
      (λ h. subst (λ (p : List ℕ). IsLooseTarget s (view p) (Some c.in-Ok-Some.target)) at (rw c.in-Ok-Some.field-0-is at (c.in-Ok-Some.ensures.found h))),
      refl,
      subst (λ (p : List ℕ). s.is_prohibited p ≡ false) at c.in-Ok-Some.ensures.allowed,
    )

pub returns-in-Ok-None-clause-item : goal.returns-in-Ok-None-clause-item
returns-in-Ok-None-clause-item g c =
    let F = g.F.Files in
    let s = meaning_in c.args.settings in
    let view = view_of (F.means c.args.files.now).tree in
    let at : c.in_ok-place.place.items ≡ s.place (full_bytes c.args.name) = c.in_ok-place.ensures ∙ ap s.place c.as_ref.ensures in
    inr (
      (λ h. subst (λ (p : List ℕ). view p ≡ None) at (rw c.in-Ok-None.field-0-is at (c.in-Ok-None.ensures.found h))),
      subst (λ (p : List ℕ). s.is_prohibited p ≡ false) at c.in-Ok-None.ensures.allowed,
      packed_from F.honest c.args.settings view (view_of (F.means c.read_at.new.files).tree) (λ h. ap view_of (c.in-Ok-None.ensures.reads.leaves h).tree) c.args.name c.find_packed.result c.find_packed.ensures.item,
    )

pub returns-in-Err-clause-item : goal.returns-in-Err-clause-item
returns-in-Err-clause-item g c =
    let F = g.F.Files in
    let settings = c.args.settings in
    let s = meaning_in settings in
    let view = view_of (F.means c.args.files.now).tree in
    let before = F.faults c.args.files.now in
    let now = F.faults c.read_at.new.files in
    let error = c.of_reading.result in
    let at : c.in_ok-place.place.items ≡ s.place (full_bytes c.args.name) = c.in_ok-place.ensures ∙ ap s.place c.as_ref.ensures in
    let why = unread_of F.honest settings.kind s view before now (full_ref_bytes c.as_ref-2.result) c.in_ok-place.place.items c.in-Err.error error c.of_reading.ensures c.in-Err.ensures.failed in
    inl
    (subst (λ (n : List ℕ). IsUnread F.honest settings.kind s view before now n (s.place (full_bytes c.args.name)) error) c.as_ref-2.ensures
    (subst (λ (p : List ℕ). IsUnread F.honest settings.kind s view before now (full_ref_bytes c.as_ref-2.result) p error) at why))
