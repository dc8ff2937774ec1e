use Rattle.std.proofs.Common.{sym, subst, List, ℕ, ap}
use Rattle.std.specs.Prelude.{if◌then◌else◌}
use Rattle.std.specs.Io.KnownBytes.{Appends}
use Rattle.gix_ref_program.proofs.LogLoop.{more_printed, all_printed}
use Rattle.gix_ref_program.proofs.log.print_items.Goals as goal

pub loop-text-preserved-then-is_fault : goal.loop-text-preserved-then-is_fault
loop-text-preserved-then-is_fault g c =
    let R = g.R.ReadAt in
    let out = g.W.Write.contents in
    more_printed R.honest R.bytes R.faults c.args.lines.now c.loop-text.lines c.push_next.new.lines (out c.args.out.now) (out c.loop-text.out) (out c.write_block.new.out)
    c.loop-text.text.items c.push_next.new.text.items c.write_block.new.text.items c.loop-text.status 1 c.in_ok-is_fault.field-0 c.in-Some.is_fault
    c.loop-text.invariant c.in_ok-is_fault.ensures.pushes c.in-Some.is c.in_ok-write_block.ensures (sym (ap (λ b. if b then 1 else c.loop-text.status) c.if-is_fault.true))

pub loop-text-preserved : goal.loop-text-preserved
loop-text-preserved g c =
    let R = g.R.ReadAt in
    let out = g.W.Write.contents in
    more_printed R.honest R.bytes R.faults c.args.lines.now c.loop-text.lines c.push_next.new.lines (out c.args.out.now) (out c.loop-text.out) (out c.write_block.new.out)
    c.loop-text.text.items c.push_next.new.text.items c.write_block.new.text.items c.loop-text.status c.loop-text.status c.in_ok-is_fault.field-0 c.in-Some.is_fault
    c.loop-text.invariant c.in_ok-is_fault.ensures.pushes c.in-Some.is c.in_ok-write_block.ensures (sym (ap (λ b. if b then 1 else c.loop-text.status) c.if-is_fault.false))

pub returns : goal.returns
returns g c =
    let R = g.R.ReadAt in
    let out = g.W.Write.contents in
    all_printed R.honest R.bytes R.faults c.args.lines.now c.loop-text.lines c.push_next.new.lines (out c.args.out.now) (out c.loop-text.out) (out c.write_all.new.self)
    c.loop-text.text.items c.push_next.new.text.items c.loop-text.status c.in_ok-is_fault.field-0
    c.loop-text.invariant c.in_ok-is_fault.ensures.pushes c.in_default.is
    (subst (λ (bytes : List ℕ). Appends (out c.loop-text.out) (out c.write_all.new.self) bytes) c.deref.ensures.value c.in_ok-write_all.ensures.bytes)
