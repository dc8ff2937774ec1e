use Rattle.std.proofs.Common.{sym, subst, Option}
use Rattle.gix_ref_files.specs.Tree.{Path}
use Rattle.gix_ref_commit.specs.Decided.{DecidesPacked, OnlyFillsPacked}
use Rattle.gix_ref_commit.proofs.decide.decide_packed.Goals as goal

pub returns-in_err-rewrite-in-Some-clause-fills : goal.returns-in_err-rewrite-in-Some-clause-fills
returns-in_err-rewrite-in-Some-clause-fills g c =
    let F = g.F.Files in
    subst (λ (p : Option Path). OnlyFillsPacked F.honest F.means F.faults p c.args.files.now c.rewrite_packed.new.files) (sym c.in-Some.is) c.rewrite_packed.ensures.fills

pub returns-in_ok-rewrite-in-Some-clause-fills : goal.returns-in_ok-rewrite-in-Some-clause-fills
returns-in_ok-rewrite-in-Some-clause-fills g c =
    let F = g.F.Files in
    subst (λ (p : Option Path). OnlyFillsPacked F.honest F.means F.faults p c.args.files.now c.rewrite_packed.new.files) (sym c.in-Some.is) c.rewrite_packed.ensures.fills

pub returns-in_ok-rewrite-in-Some-clause-decided : goal.returns-in_ok-rewrite-in-Some-clause-decided
returns-in_ok-rewrite-in-Some-clause-decided g c =
    let F = g.F.Files in
    subst (λ (p : Option Path). DecidesPacked F.honest c.args.settings.now p c.args.edits.now (F.means c.args.files.now) (F.means c.rewrite_packed.new.files) c.in_ok-rewrite-in-Some.rewrite) (sym c.in-Some.is) c.in_ok-rewrite-in-Some.ensures.decided
