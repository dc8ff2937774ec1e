use Rattle.std.proofs.Common.{rules, ◌≡◌, inl, inr, refl, subst, Bool}
use Rattle.std.specs.Prelude.{is_some}
use Rattle.gix_ref_packed.specs.OpenFiles.{HasReadFault}
use Rattle.gix_ref_session.specs.Clashes.{IsLookFailure}
use Rattle.gix_ref_session.specs.Leading.{AreLed, LeadsIn}
use Rattle.gix_ref_session.proofs.Trying.{led_leaves, led_loses, looked_leaves, looked_loses}
use Rattle.gix_ref_session.proofs.try_once.try_once.Goals as goal

pub returns-in-Ok-clause-ends : goal.returns-in-Ok-clause-ends
returns-in-Ok-clause-ends g c =
    let F = g.F.Files in
    let writes : c.is_some.result ≡ is_some c.args.session.now.committer = search rules in
    let are = subst (λ (b : Bool). AreLed (LeadsIn F.honest F.means c.args.store.now b) c.args.edits.now c.in-Ok.led.items) writes c.in-Ok.ensures.led in
    inr (record { at = c.led_edits.new.store; led = c.in-Ok.led.items; looked = c.led_edits.ensures.unchanged; clear = c.in-Ok.ensures.clear; are_led = are; ends = c.make.ensures.ends })

pub returns-in-Ok-clause-leaves : goal.returns-in-Ok-clause-leaves
returns-in-Ok-clause-leaves g c =
    let F = g.F.Files in
    let writes : c.is_some.result ≡ is_some c.args.session.now.committer = search rules in
    let are = subst (λ (b : Bool). AreLed (LeadsIn F.honest F.means c.args.store.now b) c.args.edits.now c.in-Ok.led.items) writes c.in-Ok.ensures.led in
    led_leaves F.honest F.means F.faults c.args.session.now.committer (HasReadFault g.F.Reader.ReadAt.faults) c.args.edits.now c.args.store.now c.led_edits.new.store c.make.new.store c.in-Ok.led.items c.led_edits.ensures.unchanged c.in-Ok.ensures.clear are c.make.ensures.leaves

pub returns-in-Err-clause-ends : goal.returns-in-Err-clause-ends
returns-in-Err-clause-ends g c =
    let F = g.F.Files in
    let writes : c.is_some.result ≡ is_some c.args.session.now.committer = search rules in
    let why = subst (λ (b : Bool). IsLookFailure F.honest F.means F.faults g.F.Reader.ReadAt c.args.store.now b c.args.edits.now c.in-Err.fatal) writes c.in-Err.ensures.fails in
    inl (record { fatal = c.in-Err.fatal; is = refl; why = why; looked = c.led_edits.ensures.unchanged; input = refl; output = refl })

pub returns-in-Err-clause-leaves : goal.returns-in-Err-clause-leaves
returns-in-Err-clause-leaves g c =
    let F = g.F.Files in
    looked_leaves F.honest F.means F.faults c.args.session.now.committer (HasReadFault g.F.Reader.ReadAt.faults) c.args.edits.now c.args.store.now c.led_edits.new.store c.led_edits.ensures.unchanged

pub returns-in-Ok-clause-lost : goal.returns-in-Ok-clause-lost
returns-in-Ok-clause-lost g c =
    let F = g.F.Files in
    let writes : c.is_some.result ≡ is_some c.args.session.now.committer = search rules in
    let are = subst (λ (b : Bool). AreLed (LeadsIn F.honest F.means c.args.store.now b) c.args.edits.now c.in-Ok.led.items) writes c.in-Ok.ensures.led in
    led_loses F.honest F.means F.faults c.args.session.now.committer (HasReadFault g.F.Reader.ReadAt.faults) c.args.edits.now c.args.store.now c.led_edits.new.store c.make.new.store c.in-Ok.led.items c.led_edits.ensures.unchanged c.in-Ok.ensures.clear are c.make.ensures.lost

pub returns-in-Err-clause-lost : goal.returns-in-Err-clause-lost
returns-in-Err-clause-lost g c h good at_rest =
    let F = g.F.Files in
    looked_loses F.honest F.means F.faults c.args.session.now.committer (HasReadFault g.F.Reader.ReadAt.faults) c.args.edits.now c.args.store.now c.led_edits.new.store c.led_edits.ensures.unchanged h
