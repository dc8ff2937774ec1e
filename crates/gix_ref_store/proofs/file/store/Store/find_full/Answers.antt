use Rattle.std.proofs.Common.{◌≡◌, IfOk, MatchResult, refl}
use Rattle.gix_ref_name.specs.Names.{full_ref_bytes}
use Rattle.gix_ref_files.specs.ReadOnly.{OnlyReads}
use Rattle.gix_ref_theory.specs.OnRealTrees.{view_of}
use Rattle.gix_ref_lookup.specs.Lookups.{AreHonest, CandidateFails, IsCandidate, IsSeen, IsSound, OfAsked, meaning_in}
use Rattle.gix_ref_lookup.proofs.Opening.{if_ok, none_or_some}
use Rattle.gix_ref_lookup.proofs.Steps.{as_made}
use Rattle.gix_ref_lookup.specs.declared.find.records.Records.TheVariants.{Unopened}
use Rattle.gix_ref_store.specs.Lookup.{settings_of, view_in}
use Rattle.gix_ref_store.specs.Store.{files_of}
use Rattle.gix_ref_store.proofs.MissingNames.{missing_by}
use Rattle.gix_ref_store.proofs.file.store.Store.find_full.Goals as goal

pub returns-clause-found : goal.returns-clause-found
returns-clause-found g c =
    let F = g.F.Files in
    as_made c.new.result (files_of c.args.self.now) _ Unopened c.new.ensures.files c.new.ensures.settings c.new.ensures.records
    (λ f s r. OfAsked s (F.means f) F.honest r (λ rs. MatchResult c.find_candidate.result (IsCandidate (meaning_in s) (view_of (F.means f).tree) rs (full_ref_bytes c.args.name)) IsSound))
    c.find_candidate.ensures.found

pub returns-clause-seen : goal.returns-clause-seen
returns-clause-seen g c h =
    let F = g.F.Files in
    let store = c.args.self.now in
    if_ok c.find_candidate.result
    (λ found. none_or_some found
    (missing_by {R = g.row.F-Reader.Denot} {G = g.F.Reader.ReadAt} _ (settings_of store) (view_in F.means store) Unopened refl refl (full_ref_bytes c.args.name)) (λ r hit. hit))
    (as_made c.new.result (files_of store) _ Unopened c.new.ensures.files c.new.ensures.settings c.new.ensures.records
    (λ f s r. F.honest → AreHonest {R = g.row.F-Reader.Denot} {G = g.F.Reader.ReadAt} r → IfOk c.find_candidate.result (IsSeen {R = g.row.F-Reader.Denot} {G = g.F.Reader.ReadAt} s (view_of (F.means f).tree) r (full_ref_bytes c.args.name)))
    c.find_candidate.ensures.seen h tt)

pub returns-clause-failed : goal.returns-clause-failed
returns-clause-failed g c =
    let F = g.F.Files in
    let now = F.faults c.find_candidate.new.self.files.now in
    as_made c.new.result (files_of c.args.self.now) _ Unopened c.new.ensures.files c.new.ensures.settings c.new.ensures.records
    (λ f s r. MatchResult c.find_candidate.result (λ found. now ≡ F.faults f) (CandidateFails {R = g.row.F-Reader.Denot} {G = g.F.Reader.ReadAt} F.honest s (F.means f).tree r (F.faults f) now (full_ref_bytes c.args.name)))
    c.find_candidate.ensures.failed

pub returns-clause-unchanged : goal.returns-clause-unchanged
returns-clause-unchanged g c =
    let F = g.F.Files in
    let reads = as_made c.new.result (files_of c.args.self.now) _ Unopened c.new.ensures.files c.new.ensures.settings c.new.ensures.records
    (λ f s r. OnlyReads F.honest F.means F.faults f c.find_candidate.new.self.files.now) c.find_candidate.ensures.leaves.reads in
    record {
      leaves = reads.leaves;
      passes = reads.passes;
      same = record { dirs = refl; namespace = refl; of_kind = refl; reflogs = refl; composes = refl; prohibits = refl; threshold = refl };
    }
