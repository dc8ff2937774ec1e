use Rattle.std.proofs.Common.{◌≡◌, false, true, inl, inr, ⊎_elim, sym, subst}
use Rattle.std.specs.List.{All}
use Rattle.std.proofs.lemmas.List.Elements.{All-cons, All-head, All-tail}
use Rattle.gix_ref_files.specs.Tree.{Tree}
use Rattle.gix_ref_theory.specs.OnRealTrees.{view_of}
use Rattle.gix_ref_listing.specs.PlainSettings.{plain}
use Rattle.gix_ref_listing.specs.PristineStores.{IsReadableFile, IsUnreadableFile}
use Rattle.gix_ref_listing.specs.Walks.{FoundEntry, IsAnyMet, IsFile}
use Rattle.gix_ref_listing.proofs.FolderWalks.{any_from}
use Rattle.gix_ref_listing.proofs.PristineLemmas.{says, none_left, found_file}
use Rattle.gix_ref_listing.proofs.StoreWalks.{all_none}
use Rattle.gix_ref_files.proofs.ReadOnly.{reads_more}
use Rattle.gix_ref_listing.proofs.pristine.any_readable.Goals as goal
use Rattle.gix_ref_lookup.specs.Lookups.{Among}

pub loop-one-preserved : goal.loop-one-preserved
loop-one-preserved g c =
    let F = g.F.Files in
    let s = plain c.args.settings in
    let view = view_of (F.means c.args.files.now).tree in
    let before = c.loop-one.invariant in
    let one = c.in-Some.one in
    let first : FoundEntry = (c.in-Some.field-0-0, one) in
    let rest = c.pop_first.new.self.entries in
    let removal = c.in-Some.ensures.removal in
    let said = rw c.in-Some-2.is at c.in_ok-is.ensures.says in
    let R = λ (e : FoundEntry). IsReadableFile s view e.1 in
    let U = λ (e : FoundEntry). IsUnreadableFile s view e.1 in
    record {
      some = λ is h. ⊎_elim (λ any. before.some any h)
          (λ reads. before.has h (subst (Among R) (sym removal) (inl (subst (λ (T : Tree). IsReadableFile s (view_of T) one) (before.looks.leaves h).tree (reads h)))))
          (rw is at said);
      none = λ is h all.
          let no = rw is at said in
          before.none no.0 h (subst (All U) (sym removal) (All-cons U first rest (subst (λ (T : Tree). IsUnreadableFile s (view_of T) one) (before.looks.leaves h).tree (no.1 h)) all));
      has = λ h has. before.has h (subst (Among R) (sym removal) (inr has));
      files = λ all. All-tail IsFile first rest (subst (All IsFile) removal (before.files all));
      looks = reads_more _ _ _ _ _ _ before.looks c.is_readable.ensures.looks;
    }

pub returns-in-None-clause-says : goal.returns-in-None-clause-says
returns-in-None-clause-says g c all =
    let F = g.F.Files in
    let before = c.loop-one.invariant in
    let first : FoundEntry = (c.in-Some.field-0-0, c.in-Some.one) in
    let here = All-head IsFile first c.pop_first.new.self.entries (subst (All IsFile) c.in-Some.ensures.removal (before.files all)) in
    let said = rw c.in-None.is at c.in_ok-is.ensures.says in
    any_from (F.faults c.args.files.now) (F.faults c.loop-one.files) (F.faults c.is_readable.new.files) before.looks.no_fewer (said (found_file first here))

pub returns-clause-says : goal.returns-clause-says
returns-clause-says g c =
    let view = view_of (g.F.Files.means c.args.files.now).tree in
    let left = c.loop-one.found.entries in
    let none = none_left _ (λ below. let bad : false ≡ true = c.in_default.ensures.variant.1 below in absurd (cc)) in
    let F = g.F.Files in
    says _ _ (All IsFile c.args.found.entries → IsAnyMet (F.faults c.args.files.now) (F.faults c.loop-one.files)) c.loop-one.any (λ is h. c.loop-one.invariant.some is h)
    (λ is h. c.loop-one.invariant.none is h (all_none (λ (e : FoundEntry). IsUnreadableFile (plain c.args.settings) view e.1) left none))
