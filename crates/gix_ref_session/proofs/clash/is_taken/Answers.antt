use Rattle.std.proofs.Common.{inr, subst, sym, map, List, ℕ}
use Rattle.std.specs.List.{Contains}
use Rattle.gix_ref_edits.specs.RefEdits.{name_of}
use Rattle.gix_ref_name.specs.Names.{full_ref_bytes}
use Rattle.gix_ref_queries.specs.Resolving.{targets_in}
use Rattle.gix_ref_session.specs.Clashes.{IsTaken}
use Rattle.gix_ref_session.proofs.ClashLemmas.{holds, not_when, taken_by}
use Rattle.gix_ref_session.proofs.SeenClashes.{taken_seen}
use Rattle.gix_ref_session.proofs.clash.is_taken.Goals as goal

pub returns-then-is_edited-clause-taken : goal.returns-then-is_edited-clause-taken
returns-then-is_edited-clause-taken g c h records are edits names =
    let find = targets_in g.F.Files.means c.args.store.now records in
    holds (IsTaken find edits (full_ref_bytes c.args.name))
    (inr (subst (λ (name : List ℕ). Contains (map name_of edits) name) c.to_path.ensures.bytes ((c.is_edited.ensures edits names).0 c.if-is_edited.true)))

pub returns-clause-taken : goal.returns-clause-taken
returns-clause-taken g c h records are edits names =
    let find = targets_in g.F.Files.means c.args.store.now records in
    taken_by find edits (full_ref_bytes c.args.name) c.exists.result
    (λ has. not_when c.is_edited.result (Contains (map name_of edits) c.to_path.result.now) (c.is_edited.ensures edits names) c.if-is_edited.false (subst (λ (name : List ℕ). Contains (map name_of edits) name) (sym c.to_path.ensures.bytes) has))
    (c.exists.ensures.finds h records are)

pub returns-then-is_edited-clause-seen : goal.returns-then-is_edited-clause-seen
returns-then-is_edited-clause-seen g c h edits names =
    inr (subst (λ (name : List ℕ). Contains (map name_of edits) name) c.to_path.ensures.bytes ((c.is_edited.ensures edits names).0 c.if-is_edited.true))

pub returns-clause-seen : goal.returns-clause-seen
returns-clause-seen g c h edits names =
    taken_seen g.F.Files.means c.args.store.now edits (full_ref_bytes c.args.name) c.exists.result
    (λ has. not_when c.is_edited.result (Contains (map name_of edits) c.to_path.result.now) (c.is_edited.ensures edits names) c.if-is_edited.false (subst (λ (name : List ℕ). Contains (map name_of edits) name) (sym c.to_path.ensures.bytes) has)) (c.exists.ensures.seen h)
