use Rattle.std.proofs.Common.{◌≡◌, ◌∙◌, None, true, List, refl, subst}
use Rattle.std.specs.Iterator.Runs.{EachRunFrom}
use Rattle.gix_ref_target.specs.PackedRecords.{Record}
use Rattle.gix_ref_packed.specs.Items.{ItemStep, AreRecords}
use Rattle.gix_ref_packed.specs.Buffers.{buffer_text, buffer_kind, buffer_line}
use Rattle.gix_ref_packed.proofs.ItemRuns.{each_run, each_records, all_asked}
use Rattle.gix_ref_packed.proofs.OneItem.{yet_all}
use Rattle.gix_ref_packed.proofs.packed.buffer.Buffer.iter.Goals as goal

pub returns-clause-items : goal.returns-clause-items
returns-clause-items c =
    each_run c.from.result (record { kind = buffer_kind c.args.self.now; prefix = None; number = buffer_line c.args.self.now; text = buffer_text c.args.self.now })
    (c.from.ensures ∙ λ i. record { kind = c.kind.ensures i; prefix = None; number = c.first_line.ensures.line i; text = c.as_bytes.ensures i })

pub returns-clause-records : goal.returns-clause-records
returns-clause-records c = λ rs h.
    subst (λ (xs : List Record). EachRunFrom ItemStep c.from.result (λ p. AreRecords (p.whole ≡ true) xs p.items)) (all_asked rs)
    (each_records c.from.result (record { kind = buffer_kind c.args.self.now; prefix = None; number = buffer_line c.args.self.now; text = buffer_text c.args.self.now }) rs
    (c.from.ensures ∙ λ i. record { kind = c.kind.ensures i; prefix = None; number = c.first_line.ensures.line i; text = c.as_bytes.ensures i }) h)

pub returns-clause-yet : goal.returns-clause-yet
returns-clause-yet c = λ rs h.
    yet_all c.from.result (record { kind = buffer_kind c.args.self.now; prefix = None; number = buffer_line c.args.self.now; text = buffer_text c.args.self.now }) rs
    (c.from.ensures ∙ λ i. record { kind = c.kind.ensures i; prefix = None; number = c.first_line.ensures.line i; text = c.as_bytes.ensures i }) refl h
