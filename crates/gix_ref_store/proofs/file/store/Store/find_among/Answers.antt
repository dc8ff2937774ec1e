use Rattle.std.proofs.Common.{Bool, ◌⊎◌, ◌≡◌, IfOk, MatchResult, refl, subst}
use Rattle.gix_ref_name.specs.Names.{partial_ref_bytes}
use Rattle.gix_ref_lookup.specs.Lookups.{Finds, IsAnswerOf, FailsAmong, lookup_of, asked_names, name_asked}
use Rattle.gix_ref_lookup.specs.declared.find.error.Error.TheVariants.{Memory}
use Rattle.gix_ref_store.specs.Lookup.{settings_of, view_in}
use Rattle.gix_ref_store.specs.Store.{files_of, meaning_of}
use Rattle.gix_ref_lookup.proofs.Opening.{if_ok, none_or_some, on_ok}
use Rattle.gix_ref_store.proofs.MissingNames.{same_missing}
use Rattle.gix_ref_store.proofs.file.store.Store.find_among.Goals as goal

pub returns-clause-found : goal.returns-clause-found
returns-clause-found g c h records are =
    let store = c.args.self.now in
    subst (λ (composes : Bool). Finds (lookup_of composes (meaning_of store) (view_in g.F.Files.means store) records (partial_ref_bytes c.args.partial)) c.find_reference.result) c.composes-composes.ensures (c.find_reference.ensures.found h records are)

pub returns-clause-seen : goal.returns-clause-seen
returns-clause-seen g c h honest =
    let store = c.args.self.now in
    subst (λ (composes : Bool). IfOk c.find_reference.result (IsAnswerOf {R = g.row.F-Reader.Denot} {G = g.F.Reader.ReadAt} composes (settings_of store) (view_in g.F.Files.means store) c.args.asked.now (partial_ref_bytes c.args.partial))) c.composes-composes.ensures
    (if_ok c.find_reference.result (λ found. none_or_some found (same_missing {R = g.row.F-Reader.Denot} {G = g.F.Reader.ReadAt} _ (settings_of store) (view_in g.F.Files.means store) c.args.asked.now (name_asked c.composes-composes.result (partial_ref_bytes c.args.partial)) refl refl) (λ r hit. hit))
    (c.find_reference.ensures.seen h honest))

pub returns-clause-failed : goal.returns-clause-failed
returns-clause-failed g c =
    let F = g.F.Files in
    let store = c.args.self.now in
    let before = F.faults (files_of store) in
    let now = F.faults c.find_reference.new.files in
    subst (λ (composes : Bool). MatchResult c.find_reference.result (λ found. now ≡ before) (λ error. (error ≡ Memory) ⊎ FailsAmong {R = g.row.F-Reader.Denot} {G = g.F.Reader.ReadAt} F.honest (settings_of store) (F.means (files_of store)).tree c.args.asked.now before now
    (asked_names (name_asked composes (partial_ref_bytes c.args.partial))) error)) c.composes-composes.ensures c.find_reference.ensures.failed

pub returns-clause-asked : goal.returns-clause-asked
returns-clause-asked g c h = on_ok c.find_reference.result (c.find_reference.ensures.asked h)
