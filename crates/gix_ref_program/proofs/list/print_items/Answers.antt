use Rattle.std.proofs.Common.{sym, subst, List, ℕ, ap}
use Rattle.std.specs.Prelude.{if◌then◌else◌}
use Rattle.std.specs.Io.KnownBytes.{Appends}
use Rattle.gix_ref_program.proofs.ListLoop.{more_printed, all_printed}
use Rattle.gix_ref_program.proofs.list.print_items.Goals as goal

pub loop-text-preserved-then-is_fault : goal.loop-text-preserved-then-is_fault
loop-text-preserved-then-is_fault g c =
    let F = g.F.Files in
    let out = g.W.Write.contents in
    more_printed F.honest F.means F.faults c.args.items.now c.loop-text.items c.print_next.new.items (out c.args.out.now) (out c.loop-text.out) (out c.print_next.new.out) c.loop-text.text.items c.print_next.new.text.items c.loop-text.status 1
    c.in_ok-is_fault.field-0 c.in-Some.is_fault c.loop-text.invariant c.in_ok-is_fault.ensures.prints c.in-Some.is (sym (ap (λ b. if b then 1 else c.loop-text.status) c.if-is_fault.true))

pub loop-text-preserved : goal.loop-text-preserved
loop-text-preserved g c =
    let F = g.F.Files in
    let out = g.W.Write.contents in
    more_printed F.honest F.means F.faults c.args.items.now c.loop-text.items c.print_next.new.items (out c.args.out.now) (out c.loop-text.out) (out c.print_next.new.out) c.loop-text.text.items c.print_next.new.text.items c.loop-text.status c.loop-text.status
    c.in_ok-is_fault.field-0 c.in-Some.is_fault c.loop-text.invariant c.in_ok-is_fault.ensures.prints c.in-Some.is (sym (ap (λ b. if b then 1 else c.loop-text.status) c.if-is_fault.false))

pub returns-clause-prints : goal.returns-clause-prints
returns-clause-prints g c =
    let F = g.F.Files in
    let out = g.W.Write.contents in
    all_printed F.honest F.means F.faults c.args.items.now c.loop-text.items c.print_next.new.items (out c.args.out.now) (out c.loop-text.out) (out c.print_next.new.out) (out c.write_all.new.self) c.loop-text.text.items c.print_next.new.text.items
    c.loop-text.status c.in_ok-is_fault.field-0 c.loop-text.invariant c.in_ok-is_fault.ensures.prints c.in_default.is
    (subst (λ (bytes : List ℕ). Appends (out c.print_next.new.out) (out c.write_all.new.self) bytes) c.deref.ensures.value c.in_ok-write_all.ensures.bytes)
