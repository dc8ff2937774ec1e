use Rattle.std.proofs.Common.{inl, inr, refl, subst, List, ℕ}
use Rattle.gix_ref_theory.specs.OnRealTrees.{view_of}
use Rattle.gix_ref_lookup.specs.Lookups.{meaning_in, packed_refs_in, OfKey}
use Rattle.gix_ref_listing.specs.GoneFiles.{HasNoRecord, HitsNow}
use Rattle.gix_ref_listing.proofs.gone.find_packed.Goals as goal

pub returns-in-Ok-Some-clause-item : goal.returns-in-Ok-Some-clause-item
returns-in-Ok-Some-clause-item g c = (
  refl,
  λ h.
      let settings = c.args.settings in
      let hit = rw c.in-Ok-Some.field-0-is at (c.in-Ok-Some.ensures.found h) in
      let of_name = subst (λ (n : List ℕ). OfKey (meaning_in settings) n (λ key. HitsNow settings.kind (packed_refs_in settings (g.F.Files.means c.args.files.now)) key c.in-Ok-Some.found)) c.as_ref.ensures hit in
      (of_name.0, of_name.1, (c.in-Ok-Some.found, of_name.2, refl, refl)),
)

pub returns-in-Ok-None-clause-item : goal.returns-in-Ok-None-clause-item
returns-in-Ok-None-clause-item g c =
    let settings = c.args.settings in
    inr
    (λ h. subst (λ (n : List ℕ). HasNoRecord settings (view_of (g.F.Files.means c.args.files.now).tree) n) c.as_ref.ensures (rw c.in-Ok-None.field-0-is at (c.in-Ok-None.ensures.found h)), c.gone.ensures)

pub returns-in-Err-clause-item : goal.returns-in-Err-clause-item
returns-in-Err-clause-item g c = inl c.of_records.ensures
