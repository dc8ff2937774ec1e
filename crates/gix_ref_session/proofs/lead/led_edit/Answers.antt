use Rattle.std.proofs.Common.{rules, inl, inr, ◌≡◌, ◌∙◌, sym, true, false, Some, None}
use Rattle.std.specs.Option.{option_map}
use Rattle.gix_ref_edits.specs.RefEdits.{name_of}
use Rattle.gix_ref_name.specs.Names.{full_bytes}
use Rattle.gix_ref_queries.specs.Resolving.{resolved, targets_in}
use Rattle.gix_ref_queries.specs.Resolving.NameEnd.{TooDeep}
use Rattle.gix_ref_queries.proofs.Names.{end_before, same_records, unfollowed_before}
use Rattle.gix_ref_session.specs.Leading.{is_through_head}
use Rattle.gix_ref_session.specs.Clashes.{IsFindFailure, IsOwnUnread}
use Rattle.gix_ref_session.proofs.ClashLemmas.{find_map, told}
use Rattle.gix_ref_session.proofs.LeadLemmas.{ends_in, follows, to_end, to_itself}
use Rattle.gix_ref_session.proofs.lead.led_edit.Goals.{then-is_followed+in_ok-name+in-Some, then-is_followed+in_ok-name+in_default, else-is_followed}
use Rattle.gix_ref_session.proofs.lead.led_edit.Goals as goal

pub returns-clause-leads : goal.returns-clause-leads
returns-clause-leads g c h records are =
    let F = g.F.Files in
    let first = c.args.store.now in
    let mid = c.is_through_head.new.store in
    let find = targets_in F.means first records in
    let branch = option_map full_bytes c.args.branch.now in
    let edit = c.args.edit.now in
    let looked = c.is_through_head.ensures.unchanged in
    let then_are = same_records F.honest F.means first mid records looked h are in
    let not = sym (c.in_ok-is_through_head.ensures.through h records are) ∙ c.if-branch.false in
    elim c.if-is_followed.branch [
      | then-is_followed+in_ok-name+in-Some w ↦ to_end (find (name_of edit)) (resolved find 5 (name_of edit)) branch edit c.if-is_followed.led not (sym c.is_followed.ensures ∙ w.if-is_followed.true) (Some w.in-Some.name)
          (ends_in F.honest F.means first mid looked records (name_of edit) (Some (full_bytes w.in-Some.name)) h (rw w.in-Some.is at (w.in_ok-name.ensures.ends h records then_are))) (search rules) (search rules)
      | then-is_followed+in_ok-name+in_default w ↦ to_end (find (name_of edit)) (resolved find 5 (name_of edit)) branch edit c.if-is_followed.led not (sym c.is_followed.ensures ∙ w.if-is_followed.true) None
          (ends_in F.honest F.means first mid looked records (name_of edit) None h (rw w.in_default.is at (w.in_ok-name.ensures.ends h records then_are))) (search rules) (search rules)
      | else-is_followed w ↦ to_itself (find (name_of edit)) (resolved find 5 (name_of edit)) branch edit c.if-is_followed.led not (sym c.is_followed.ensures ∙ w.if-is_followed.false) (search rules) (search rules)
    ]

pub returns-clause-seen : goal.returns-clause-seen
returns-clause-seen g c h =
    let F = g.F.Files in
    let first = c.args.store.now in
    let mid = c.is_through_head.new.store in
    let branch = option_map full_bytes c.args.branch.now in
    let edit = c.args.edit.now in
    let led = c.if-is_followed.led in
    let looked = c.is_through_head.ensures.unchanged in
    let t = c.in_ok-is_through_head.ensures.seen h in
    let not : is_through_head t.0 branch edit ≡ false = sym t.2 ∙ c.if-branch.false in
    elim c.if-is_followed.branch [
      | then-is_followed+in_ok-name+in-Some w ↦ let e = rw w.in-Some.is at (w.in_ok-name.ensures.seen h) in
          record {
            own = t.0;
            own_seen = t.1;
            end = e.0;
            end_seen = λ other followed. end_before F.honest F.means first mid looked h 5 (name_of edit) e.0 e.1;
            leads = to_end t.0 e.0 branch edit led not (sym c.is_followed.ensures ∙ w.if-is_followed.true) (Some w.in-Some.name) e.2 (search rules) (search rules);
          }
      | then-is_followed+in_ok-name+in_default w ↦ let e = rw w.in_default.is at (w.in_ok-name.ensures.seen h) in
          record {
            own = t.0;
            own_seen = t.1;
            end = e.0;
            end_seen = λ other followed. end_before F.honest F.means first mid looked h 5 (name_of edit) e.0 e.1;
            leads = to_end t.0 e.0 branch edit led not (sym c.is_followed.ensures ∙ w.if-is_followed.true) None e.2 (search rules) (search rules);
          }
      | else-is_followed w ↦ record {
        own = t.0;
        own_seen = t.1;
        end = TooDeep;
        end_seen = λ other followed. let bad : true ≡ false = sym followed ∙ (sym c.is_followed.ensures ∙ w.if-is_followed.false) in absurd (cc);
        leads = to_itself t.0 TooDeep branch edit led not (sym c.is_followed.ensures ∙ w.if-is_followed.false) (search rules) (search rules);
      }
    ]

pub returns-in_err-name-clause-fails : goal.returns-in_err-name-clause-fails
returns-in_err-name-clause-fails g c =
    let F = g.F.Files in
    let G = g.F.Reader.ReadAt in
    let first = c.args.store.now in
    let edit = c.args.edit.now in
    let fatal = c.in_err-name.field-0.0 in
    told c.from_residual-in_err-name.result fatal (IsFindFailure (IsOwnUnread F.honest F.means F.faults G first edit)) c.from_residual-in_err-name.ensures.1
    (find_map (λ error u. inr (follows edit (sym c.is_followed.ensures ∙ c.if-is_followed.true), unfollowed_before G F.honest F.means F.faults first c.is_through_head.new.store (name_of edit) error c.is_through_head.ensures.unchanged u)) fatal c.in_err-name.ensures.fails)

pub returns-in_err-is_through_head-clause-fails : goal.returns-in_err-is_through_head-clause-fails
returns-in_err-is_through_head-clause-fails g c =
    let F = g.F.Files in
    let G = g.F.Reader.ReadAt in
    let fatal = c.in_err-is_through_head.field-0.0 in
    told c.from_residual-in_err-is_through_head.result fatal (IsFindFailure (IsOwnUnread F.honest F.means F.faults G c.args.store.now c.args.edit.now)) c.from_residual-in_err-is_through_head.ensures.1
    (find_map (λ error u. inl u) fatal c.in_err-is_through_head.ensures.fails)
