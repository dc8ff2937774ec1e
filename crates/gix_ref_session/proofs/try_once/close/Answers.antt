use Rattle.std.proofs.Common.{inl, inr, refl}
use Rattle.gix_ref_session.proofs.Closing.{closed}
use Rattle.gix_ref_session.proofs.try_once.close.Goals as goal

pub returns-in-Ok-clause-ends : goal.returns-in-Ok-clause-ends
returns-in-Ok-clause-ends g c old edits from =
    let F = g.F.Files in
    closed g.F.Reader.ReadAt F.honest F.means F.faults c.args.session.now old _ edits (g.R.Read.remaining c.args.input.now) (g.R.Read.remaining c.hear_closing.new.input) (g.W.Write.contents c.args.out.now) (g.W.Write.contents c.hear_closing.new.out) (g.W.Write.contents c.close_by.new.out)
    c.in-Ok.heard c.close_by.result c.in-Ok.ensures (c.close_by.ensures.ends old edits from)

pub returns-in-Err-clause-ends : goal.returns-in-Err-clause-ends
returns-in-Err-clause-ends g c old edits from = inr (inl (refl, c.give_up.ensures.ends old edits from, inl c.in-Err.ensures))

pub returns-in-Err-clause-safe : goal.returns-in-Err-clause-safe
returns-in-Err-clause-safe g c = c.give_up.ensures.safe c.args.session.now.committer
