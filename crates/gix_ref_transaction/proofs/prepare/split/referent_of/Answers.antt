use Rattle.std.proofs.Common.{◌∙◌, ℕ, List, ap}
use Rattle.gix_ref_theory.specs.OnRealTrees.{view_of}
use Rattle.gix_ref_lookup.specs.StoreLayout.{folders_of}
use Rattle.gix_ref_transaction.specs.Causes.{decoded}
use Rattle.gix_ref_transaction.specs.PrepareSteps.{setting_of}
use Rattle.gix_ref_transaction.specs.Splits.{symbolic_name_in}
use Rattle.gix_ref_transaction.proofs.SplitLemmas.{leads_is}
use Rattle.gix_ref_transaction.proofs.prepare.split.referent_of.Goals as goal

pub returns-clause-led : goal.returns-clause-led
returns-clause-led g c h =
    let settings = c.args.settings.now in
    let s = setting_of settings in
    let view = view_of (g.F.Files.means c.args.files.now).tree in
    c.referent_in.ensures
    ∙ leads_is (folders_of settings.dirs.now settings.namespace.now) settings.kind settings.prohibit_windows_device_names c.in_ok-loose.loose (view c.deref.result.now) (c.in_ok-loose.ensures.decoded h)
    ∙ ap (λ (p : List ℕ). symbolic_name_in s (decoded s (view p))) (c.deref.ensures.value ∙ c.in_ok-place.ensures)
