use Rattle.std.proofs.Common.{rules, ◌≡◌, ◌∙◌, ap, sym, List, ℕ}
use Rattle.std.specs.Prelude.{is_none}
use Rattle.gix_ref_name.specs.Names.{full_bytes, full_ref_bytes}
use Rattle.gix_ref_edits.specs.RefEdits.{name_of}
use Rattle.gix_ref_session.proofs.ClashLemmas.{find_map, unread_as}
use Rattle.gix_ref_queries.specs.Resolving.{targets_in}
use Rattle.gix_ref_session.specs.Leading.{next_of}
use Rattle.gix_ref_session.proofs.LeadLemmas.{none_mapped, through_by}
use Rattle.gix_ref_session.proofs.lead.is_through_head.Goals as goal

pub returns-in-Ok-clause-through : goal.returns-in-Ok-clause-through
returns-in-Ok-clause-through g c h records are =
    let find = targets_in g.F.Files.means c.args.store.now records in
    let none : c.is_none.result ≡ is_none c.in-Ok.next = search rules in
    rw c.in-Some.is (through_by (find (name_of c.args.edit.now)) (full_bytes c.in-Some.branch) c.args.edit.now c.is_none.result (c.eq_bytes.ensures.0 c.if-not-eq_bytes.false ∙ c.to_path.ensures.bytes) (sym c.updates.ensures ∙ c.if-not-updates.false) c.if-edit.false
    (none ∙ (none_mapped c.in-Ok.next ∙ (ap is_none (c.in-Ok.ensures.reads h records are) ∙ ap (λ (name : List ℕ). is_none (next_of (find name))) c.as_ref.ensures))))

pub returns-in-Err-clause-fails : goal.returns-in-Err-clause-fails
returns-in-Err-clause-fails g c =
    let F = g.F.Files in
    find_map (λ error u. unread_as g.F.Reader.ReadAt F.honest F.means F.faults c.args.store.now (name_of c.args.edit.now) (full_ref_bytes c.as_ref.result) error c.as_ref.ensures u) c.in-Err.fatal c.in-Err.ensures.fails
