use Rattle.std.proofs.Common.{◌≡◌, List, drop}
use Rattle.std.specs.List.{AllByRecursion}
use Rattle.gix_ref_name.specs.Candidates.{candidates}
use Rattle.gix_ref_name.specs.Names.{partial_ref_bytes}
use Rattle.gix_ref_target.specs.PackedRecords.{Record}
use Rattle.gix_ref_files.specs.Files.{FaultCounts}
use Rattle.gix_ref_theory.specs.Lookups.{first_hit}
use Rattle.gix_ref_theory.specs.OnRealTrees.{view_of}
use Rattle.gix_ref_lookup.specs.Lookups.{meaning_in, packed_refs_in, AreAsked, AreHonest, IsMissing, FailsAmong}
use Rattle.gix_ref_lookup.specs.LookupCalls.{LooksOn}
use Rattle.gix_ref_lookup.specs.declared.find.error.Error.{Error}
use Rattle.gix_ref_lookup.proofs.find.lookup.Lookup.find_first.Given as goal

-- the candidates that were seen are passed, and the rest gives the result of all
abbrev pub invariant-loop-front : goal.invariant-loop-front
invariant-loop-front g l =
    let F = g.F.Files in
    let old = l.fn.self in
    let s = meaning_in old.settings in
    let tree = (F.means old.files.now).tree in
    let view = view_of tree in
    let names = candidates (partial_ref_bytes l.name) in
    let rest = drop l.front-index names in
    record {
      leaves : LooksOn F.honest F.means F.faults old l.self;
      missing : F.honest → AreHonest old.records.now → AllByRecursion (IsMissing old.settings view old.records.now) rest → AllByRecursion (IsMissing old.settings view old.records.now) names;
      passed : F.honest → (rs : List Record) → AreAsked old.settings.kind (packed_refs_in old.settings (F.means old.files.now)) old.records.now rs → first_hit s view rs names ≡ first_hit s view rs rest;
      fails : (now : FaultCounts) (error : Error) → FailsAmong F.honest old.settings tree old.records.now (F.faults old.files.now) now rest error →
          FailsAmong F.honest old.settings tree old.records.now (F.faults old.files.now) now names error;
      no_fault : F.faults l.self.files.now ≡ F.faults old.files.now;
    }
