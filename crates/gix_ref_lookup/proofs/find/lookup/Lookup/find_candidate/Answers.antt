use Rattle.std.proofs.Common.{◌≡◌, ◌∙◌, inr, None, sym, subst}
use Rattle.gix_ref_name.specs.Names.{full_ref_bytes}
use Rattle.gix_ref_theory.specs.OnRealTrees.{view_of}
use Rattle.gix_ref_lookup.specs.Lookups.{meaning_in}
use Rattle.gix_ref_lookup.specs.LookupCalls.{IsAllowed}
use Rattle.gix_ref_lookup.specs.declared.settings.Settings.{Settings}
use Rattle.gix_ref_lookup.proofs.Answering.{loose_candidate, packed_candidate}
use Rattle.gix_ref_lookup.proofs.Opening.{if_ok, both_ways, none_or_some, is_sound}
use Rattle.gix_ref_lookup.proofs.Steps.{after_step, found_after, seen_after, fails_after, looks_more}
use Rattle.gix_ref_lookup.proofs.find.lookup.Lookup.find_candidate.Goals as goal

pub returns-in-Ok-Some-clause-found : goal.returns-in-Ok-Some-clause-found
returns-in-Ok-Some-clause-found g c h rs are =
    let lookup = c.args.self.now in
    loose_candidate (meaning_in lookup.settings) (view_of (g.F.Files.means lookup.files.now).tree) rs (full_ref_bytes c.args.name) c.in-Ok-Some.reference c.in-Ok-Some.ensures.allowed
    (rw c.in-Ok-Some.field-0-is at (c.in-Ok-Some.ensures.found h))

pub returns-in-Ok-None-clause-found : goal.returns-in-Ok-None-clause-found
returns-in-Ok-None-clause-found g c =
    let old = c.args.self.now in
    let mid = c.find_loose.new.self in
    let e = c.in-Ok-None.ensures in
    let name = full_ref_bytes c.args.name in
    let allowed = subst (λ (s : Settings). IsAllowed s name) (sym e.leaves.settings) e.allowed in
    found_after g.F.Files.honest g.F.Files.means g.F.Files.faults old mid e.leaves name c.find_packed.result (λ h rs are.
    let absent = after_step g.F.Files.honest g.F.Files.means g.F.Files.faults old mid e.leaves h (λ s T. view_of T ((meaning_in s).place name) ≡ None) (rw c.in-Ok-None.field-0-is at (e.found h)) in
    both_ways c.find_packed.result (λ found by. packed_candidate (meaning_in mid.settings) (view_of (g.F.Files.means mid.files.now).tree) rs name found allowed absent by) is_sound (c.find_packed.ensures.found h rs are))

pub returns-in-Ok-None-clause-seen : goal.returns-in-Ok-None-clause-seen
returns-in-Ok-None-clause-seen g c =
    let old = c.args.self.now in
    let mid = c.find_loose.new.self in
    let e = c.in-Ok-None.ensures in
    let name = full_ref_bytes c.args.name in
    seen_after g.F.Files.honest g.F.Files.means g.F.Files.faults old mid e.leaves name c.find_packed.result (λ h honest.
    let absent = after_step g.F.Files.honest g.F.Files.means g.F.Files.faults old mid e.leaves h (λ s T. view_of T ((meaning_in s).place name) ≡ None) (rw c.in-Ok-None.field-0-is at (e.found h)) in
    if_ok c.find_packed.result (λ found. none_or_some found (λ none. record { loose = absent; packed = none }) (λ r hit. inr (absent, hit))) (c.find_packed.ensures.seen h honest))

pub returns-in-Ok-None-clause-failed : goal.returns-in-Ok-None-clause-failed
returns-in-Ok-None-clause-failed g c =
    let old = c.args.self.now in
    let mid = c.find_loose.new.self in
    let e = c.in-Ok-None.ensures in
    let name = full_ref_bytes c.args.name in
    both_ways c.find_packed.result (λ found still. still ∙ e.failed)
    (λ error why. fails_after g.F.Files.honest g.F.Files.means g.F.Files.faults old mid e.leaves c.find_packed.new.self name error e.failed (inr (
      λ h. after_step g.F.Files.honest g.F.Files.means g.F.Files.faults old mid e.leaves h (λ s T. view_of T ((meaning_in s).place name) ≡ None) (rw c.in-Ok-None.field-0-is at (e.found h)),
      why,
    )))
    c.find_packed.ensures.failed

pub returns-in-Ok-None-clause-leaves : goal.returns-in-Ok-None-clause-leaves
returns-in-Ok-None-clause-leaves g c = looks_more _ _ _ _ _ _ c.in-Ok-None.ensures.leaves c.find_packed.ensures.leaves
