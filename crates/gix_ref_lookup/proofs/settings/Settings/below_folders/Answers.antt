use Rattle.std.proofs.Common.{[], Bool, List, ℕ, if◌then◌else◌, sym, ◌∙◌, ap}
use Rattle.gix_ref_hash.specs.Bytes.{without_front}
use Rattle.gix_ref_target.specs.Layout.{below}
use Rattle.gix_ref_name.proofs.FrontLemmas.{begins_true, begins_false, without-append}
use Rattle.gix_ref_lookup.specs.StoreLayout.{folders_of}
use Rattle.gix_ref_lookup.proofs.Answering.{below_true, below_false}
use Rattle.gix_ref_lookup.proofs.settings.Settings.below_folders.Goals as goal

pub returns-in-Some : goal.returns-in-Some
returns-in-Some c =
    let f = folders_of c.args.self.dirs.now c.args.self.namespace.now in
    let path = c.args.path.now in
    let rest = c.in-Some.rest.now in
    let is = below_true f.common path rest (c.in-Some.ensures ∙ ap (λ (folder : List ℕ). below folder rest) c.common.ensures) in
    sym (ap (λ (b : Bool). if b then without_front (below f.common []) path else without_front (below f.git []) path) (begins_true (below f.common []) path rest is)
    ∙ without-append (below f.common []) path rest is)

pub returns-in-None : goal.returns-in-None
returns-in-None c =
    let f = folders_of c.args.self.dirs.now c.args.self.namespace.now in
    let path = c.args.path.now in
    let apart = below_false f.common path (λ lies. c.in-None.ensures (lies.0, lies.1 ∙ ap (λ (folder : List ℕ). below folder lies.0) (sym c.common.ensures))) in
    c.below.ensures ∙ (ap (λ (folder : List ℕ). without_front (below folder []) path) c.deref.ensures.value
    ∙ sym (ap (λ (b : Bool). if b then without_front (below f.common []) path else without_front (below f.git []) path) (begins_false (below f.common []) path apart)))
