use Rattle.std.proofs.Common.{◌≡◌, inl, ℕ, ◌+◌, List, [], ◌++◌, Some, None, Ok, Bor, get_or, drop, arith, sym, ◌∙◌, ap, subst}
use Rattle.std.specs.List.{AllByRecursion}
use Rattle.gix_ref_name.specs.Candidates.{candidates, lookup_prefixes}
use Rattle.gix_ref_name.specs.Names.{partial_ref_bytes, full_ref_bytes}
use Rattle.gix_ref_target.specs.PackedRecords.{Record}
use Rattle.gix_ref_theory.specs.Lookups.{first_hit}
use Rattle.gix_ref_theory.specs.Readings.{reading_among}
use Rattle.gix_ref_theory.specs.Readings.Reading.{Absent}
use Rattle.gix_ref_theory.specs.OnRealTrees.{view_of}
use Rattle.gix_ref_lookup.specs.declared.find.error.Error.TheVariants.{Memory}
use Rattle.gix_ref_lookup.specs.Lookups.{meaning_in, AreAsked, IsCandidate, IsMissing, IsPassed, IsHit, ReturnsHit, CandidateFails}
use Rattle.gix_ref_lookup.proofs.Looking.{packed_refs_at, next_name, hit_here, hit_later, among_here, fails_here, fails_later}
use Rattle.gix_ref_lookup.proofs.Steps.{found_after, seen_after, fails_after, looks_more}
use Rattle.gix_ref_lookup.proofs.find.lookup.Lookup.find_first.Goals as goal

pub returns-in_default-clause-failed : goal.returns-in_default-clause-failed
returns-in_default-clause-failed g c =
    let old = c.args.self.now in
    let tree = (g.F.Files.means old.files.now).tree in
    let before = g.F.Files.faults old.files.now in
    let now = g.F.Files.faults c.loop-front.self.files.now in
    let p = partial_ref_bytes c.args.name in
    let lent = c.lookup_prefixes-fronts.result.now in
    let i = c.loop-front.front-index in
    let d : Bor (List ℕ) = record { ref_ptr = (0, 0); now = [] } in
    let next = next_name lent (lookup_prefixes p) p i d c.lookup_prefixes-fronts.ensures (omega arith) in
    c.loop-front.invariant.fails now Memory (fails_here (IsPassed {R = g.row.F-Reader.Denot} {G = g.F.Reader.ReadAt} g.F.Files.honest old.settings tree old.records.now)
    (λ n. CandidateFails {R = g.row.F-Reader.Denot} {G = g.F.Reader.ReadAt} g.F.Files.honest old.settings tree old.records.now before now n Memory)
    (candidates p) i ((get_or lent i d).now ++ p) next (inl tt))

pub returns-in-Err-clause-failed : goal.returns-in-Err-clause-failed
returns-in-Err-clause-failed g c =
    let x = c.loop-front.invariant in
    let old = c.args.self.now in
    let tree = (g.F.Files.means old.files.now).tree in
    let before = g.F.Files.faults old.files.now in
    let now = g.F.Files.faults c.find_candidate.new.self.files.now in
    let p = partial_ref_bytes c.args.name in
    let lent = c.lookup_prefixes-fronts.result.now in
    let i = c.loop-front.front-index in
    let d : Bor (List ℕ) = record { ref_ptr = (0, 0); now = [] } in
    let next = next_name lent (lookup_prefixes p) p i d c.lookup_prefixes-fronts.ensures (omega arith) in
    let named = c.as_ref.ensures ∙ c.in-Ok.ensures.bytes in
    let error = c.in-Err.error in
    let Fails = λ (n : List ℕ). CandidateFails {R = g.row.F-Reader.Denot} {G = g.F.Reader.ReadAt} g.F.Files.honest old.settings tree old.records.now before now n error in
    x.fails now error (fails_here (IsPassed {R = g.row.F-Reader.Denot} {G = g.F.Reader.ReadAt} g.F.Files.honest old.settings tree old.records.now) Fails
    (candidates p) i ((get_or lent i d).now ++ p) next
    (subst Fails named (fails_after g.F.Files.honest g.F.Files.means g.F.Files.faults old c.loop-front.self x.leaves c.find_candidate.new.self (full_ref_bytes c.as_ref.result) error x.no_fault c.in-Err.ensures.failed)))

pub returns-in-Ok-Some-clause-found : goal.returns-in-Ok-Some-clause-found
returns-in-Ok-Some-clause-found g c h rs are =
    let x = c.loop-front.invariant in
    let old = c.args.self.now in
    let s = meaning_in old.settings in
    let view = view_of (g.F.Files.means old.files.now).tree in
    let p = partial_ref_bytes c.args.name in
    let lent = c.lookup_prefixes-fronts.result.now in
    let i = c.loop-front.front-index in
    let d : Bor (List ℕ) = record { ref_ptr = (0, 0); now = [] } in
    let n = (get_or lent i d).now ++ p in
    let next = next_name lent (lookup_prefixes p) p i d c.lookup_prefixes-fronts.ensures (omega arith) in
    let named = c.as_ref.ensures ∙ c.in-Ok.ensures.bytes in
    let r = c.in-Ok-Some.reference in
    let found = rw c.in-Ok-Some.field-0-is at (found_after g.F.Files.honest g.F.Files.means g.F.Files.faults old c.loop-front.self x.leaves (full_ref_bytes c.as_ref.result) (Ok c.in-Ok-Some.field-0) c.in-Ok-Some.ensures.found h rs are) in
    let there = subst (λ (m : List ℕ). IsCandidate s view rs m (Some r)) named found in
    subst (λ f. ReturnsHit f (Some r)) (sym (x.passed h rs are))
    (subst (λ (l : List (List ℕ)). ReturnsHit (first_hit s view rs l) (Some r)) next (hit_here s view rs n (drop (i + 1) (candidates p)) r there))

pub returns-in-Ok-Some-clause-seen : goal.returns-in-Ok-Some-clause-seen
returns-in-Ok-Some-clause-seen g c h honest =
    let x = c.loop-front.invariant in
    let old = c.args.self.now in
    let p = partial_ref_bytes c.args.name in
    let lent = c.lookup_prefixes-fronts.result.now in
    let i = c.loop-front.front-index in
    let d : Bor (List ℕ) = record { ref_ptr = (0, 0); now = [] } in
    let n = (get_or lent i d).now ++ p in
    let next = next_name lent (lookup_prefixes p) p i d c.lookup_prefixes-fronts.ensures (omega arith) in
    let named = c.as_ref.ensures ∙ c.in-Ok.ensures.bytes in
    let r = c.in-Ok-Some.reference in
    let Hits = λ (m : List ℕ). IsHit {R = g.row.F-Reader.Denot} {G = g.F.Reader.ReadAt} old.settings (view_of (g.F.Files.means old.files.now).tree) old.records.now m r in
    let hit = rw c.in-Ok-Some.field-0-is at (seen_after g.F.Files.honest g.F.Files.means g.F.Files.faults old c.loop-front.self x.leaves (full_ref_bytes c.as_ref.result) (Ok c.in-Ok-Some.field-0) c.in-Ok-Some.ensures.seen h honest) in
    among_here Hits (candidates p) i n next (subst Hits named hit)

pub loop-front-preserved : goal.loop-front-preserved
loop-front-preserved g c =
    let x = c.loop-front.invariant in
    let e = c.in-Ok-None.ensures in
    let old = c.args.self.now in
    let mid = c.loop-front.self in
    let s = meaning_in old.settings in
    let tree = (g.F.Files.means old.files.now).tree in
    let view = view_of tree in
    let before = g.F.Files.faults old.files.now in
    let p = partial_ref_bytes c.args.name in
    let lent = c.lookup_prefixes-fronts.result.now in
    let i = c.loop-front.front-index in
    let d : Bor (List ℕ) = record { ref_ptr = (0, 0); now = [] } in
    let n = (get_or lent i d).now ++ p in
    let names = candidates p in
    let next = next_name lent (lookup_prefixes p) p i d c.lookup_prefixes-fronts.ensures (omega arith) in
    let named = c.as_ref.ensures ∙ c.in-Ok.ensures.bytes in
    let Missing = λ (m : List ℕ). IsMissing {R = g.row.F-Reader.Denot} {G = g.F.Reader.ReadAt} old.settings view old.records.now m in
    let absent : g.F.Files.honest → (rs : List Record) → AreAsked old.settings.kind (packed_refs_at old.settings tree) old.records.now rs → reading_among s view rs n ≡ Absent =
    λ h rs are. subst (λ (m : List ℕ). IsCandidate s view rs m None) named
    (rw c.in-Ok-None.field-0-is at (found_after g.F.Files.honest g.F.Files.means g.F.Files.faults old mid x.leaves (full_ref_bytes c.as_ref.result) (Ok c.in-Ok-None.field-0) e.found h rs are)) in
    record {
      leaves = looks_more _ _ _ _ _ _ x.leaves e.leaves;
      missing = λ h honest later. x.missing h honest (subst (AllByRecursion Missing) next (
        subst Missing named (rw c.in-Ok-None.field-0-is at (seen_after g.F.Files.honest g.F.Files.means g.F.Files.faults old mid x.leaves (full_ref_bytes c.as_ref.result) (Ok c.in-Ok-None.field-0) e.seen h honest)),
        later,
      ));
      passed = λ h rs are. x.passed h rs are ∙ (ap (first_hit s view rs) (sym next) ∙ hit_later s view rs n (drop (i + 1) names) (absent h rs are));
      fails = λ now error later. x.fails now error (fails_later (IsPassed {R = g.row.F-Reader.Denot} {G = g.F.Reader.ReadAt} g.F.Files.honest old.settings tree old.records.now)
          (λ m. CandidateFails {R = g.row.F-Reader.Denot} {G = g.F.Reader.ReadAt} g.F.Files.honest old.settings tree old.records.now before now m error) names i n next absent later);
      no_fault = e.failed ∙ x.no_fault;
    }

pub returns-in-Ok-Some-clause-leaves : goal.returns-in-Ok-Some-clause-leaves
returns-in-Ok-Some-clause-leaves g c = looks_more _ _ _ _ _ _ c.loop-front.invariant.leaves c.in-Ok-Some.ensures.leaves

pub returns-in-Err-clause-leaves : goal.returns-in-Err-clause-leaves
returns-in-Err-clause-leaves g c = looks_more _ _ _ _ _ _ c.loop-front.invariant.leaves c.in-Err.ensures.leaves
