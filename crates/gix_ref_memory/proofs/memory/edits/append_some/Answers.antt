use Rattle.std.proofs.Common.{◌≡◌, List, ℕ, take, ◌∙◌, ap, rules}
use Rattle.std.proofs.lemmas.List.{take_min}
use Rattle.gix_ref_files.specs.Tree.{appended, no_tree}
use Rattle.gix_ref_memory.specs.Changes.{after_changes}
use Rattle.gix_ref_memory.proofs.Grows.{append_part, disk}
use Rattle.gix_ref_memory.proofs.Leaving.{appends_done}
use Rattle.gix_ref_memory.proofs.memory.edits.append_some.Goals as goal

pub returns-clause-passes : goal.returns-clause-passes
returns-clause-passes c = append_part _ _ (disk c.args.changes.now.items) c.args.path.now c.args.bytes.now _ c.append_now.ensures.passes.passes

pub returns-clause-done : goal.returns-clause-done
returns-clause-done c =
    let T = after_changes c.args.changes.now.items no_tree in
    let S = after_changes c.append_now.new.changes.items no_tree in
    let bytes = c.args.bytes.now in
    let part : take c.min.result bytes ≡ take c.args.most bytes = search (rules, take_min) in
    appends_done T S c.args.path.now (take c.min.result bytes) c.in_ok-append_now.field-0 c.in_ok-append_now.ensures.answer ∙ ap (λ (l : List ℕ). appended T c.args.path.now l) part
