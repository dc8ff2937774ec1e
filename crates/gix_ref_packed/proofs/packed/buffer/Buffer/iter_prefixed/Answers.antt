use Rattle.std.proofs.Common.{◌≡◌, inr, ◌∙◌, ◌+◌, List, ℕ, Some, ap, subst, drop, take}
use Rattle.gix_ref_hash.specs.declared.hash.Kind.{Kind}
use Rattle.gix_ref_packed_text.specs.Prefixes.{IsItemStart}
use Rattle.std.proofs.lemmas.List.{take_rest}
use Rattle.gix_ref_packed.specs.Items.{line_feeds}
use Rattle.gix_ref_packed.specs.Buffers.{buffer_text, buffer_kind, buffer_line}
use Rattle.gix_ref_packed.proofs.ItemRuns.{each_run}
use Rattle.gix_ref_packed.proofs.OwedRecords.{owes_prefixed, same_first}
use Rattle.gix_ref_packed.proofs.PrefixRuns.{prefix_records, prefix_yet}
use Rattle.gix_ref_packed.proofs.packed.buffer.Buffer.iter_prefixed.Goals as goal

same_start : (k kind : Kind) (text t : List ℕ) (start : ℕ) → kind ≡ k → t ≡ text → IsItemStart kind t start → IsItemStart k text start
same_start k kind text t start of_kind of_text starts = subst (λ (x : Kind). IsItemStart x text start) of_kind (subst (λ (x : List ℕ). IsItemStart kind x start) of_text starts)

pub returns-clause-items : goal.returns-clause-items
returns-clause-items c =
    let text = buffer_text c.args.self.now in
    let start = c.first_of_prefix-start.result in (
      start,
      same_start (buffer_kind c.args.self.now) c.kind.result (buffer_text c.args.self.now) c.as_bytes-text.result.now start c.kind.ensures c.as_bytes-text.ensures c.first_of_prefix-start.ensures.starts,
      each_run _ (record { kind = buffer_kind c.args.self.now; prefix = Some c.args.prefix.items; number = buffer_line c.args.self.now + line_feeds (take start text); text = drop start text })
          (λ i. record { kind = c.kind-2.ensures i; prefix = Some c.args.prefix.items; number = c.first_line.ensures.line i + line_feeds (take start (c.as_bytes-text.ensures i)); text = (take_rest c.as_bytes-text.result.now start ∙ ap (drop start) c.as_bytes-text.ensures) i }),
    )

pub returns-clause-records : goal.returns-clause-records
returns-clause-records c = λ rs h up.
    let text = buffer_text c.args.self.now in
    let start = c.first_of_prefix-start.result in
    prefix_records _ (buffer_kind c.args.self.now) c.kind.result text c.as_bytes-text.result.now c.args.prefix.items c.as_slice.result.now _ start rs c.kind.ensures c.as_bytes-text.ensures c.as_slice.ensures.value
    (λ i. record { kind = c.kind-2.ensures i; prefix = Some c.args.prefix.items; number = c.first_line.ensures.line i + line_feeds (take start (c.as_bytes-text.ensures i)); text = (take_rest c.as_bytes-text.result.now start ∙ ap (drop start) c.as_bytes-text.ensures) i })
    c.first_of_prefix-start.ensures.splits h up

pub returns-clause-yet : goal.returns-clause-yet
returns-clause-yet c = λ rs h up.
    let text = buffer_text c.args.self.now in
    let start = c.first_of_prefix-start.result in
    prefix_yet _ (buffer_kind c.args.self.now) c.kind.result text c.as_bytes-text.result.now c.args.prefix.items c.as_slice.result.now _ start rs c.kind.ensures c.as_bytes-text.ensures c.as_slice.ensures.value
    (λ i. record { kind = c.kind-2.ensures i; prefix = Some c.args.prefix.items; number = c.first_line.ensures.line i + line_feeds (take start (c.as_bytes-text.ensures i)); text = (take_rest c.as_bytes-text.result.now start ∙ ap (drop start) c.as_bytes-text.ensures) i })
    c.first_of_prefix-start.ensures.splits h up

pub returns-clause-owes : goal.returns-clause-owes
returns-clause-owes c = λ ascend.
    let text = buffer_text c.args.self.now in
    let kind = buffer_kind c.args.self.now in
    let start = c.first_of_prefix-start.result in
    owes_prefixed _ kind text c.args.prefix.items _ start
    (λ i. record { kind = c.kind-2.ensures i; prefix = Some c.args.prefix.items; number = c.first_line.ensures.line i + line_feeds (take start (c.as_bytes-text.ensures i)); text = (take_rest c.as_bytes-text.result.now start ∙ ap (drop start) c.as_bytes-text.ensures) i })
    (same_start (buffer_kind c.args.self.now) c.kind.result (buffer_text c.args.self.now) c.as_bytes-text.result.now start c.kind.ensures c.as_bytes-text.ensures c.first_of_prefix-start.ensures.starts).list_start
    ascend
    (same_first kind c.kind.result text c.as_bytes-text.result.now c.args.prefix.items c.as_slice.result.now start c.kind.ensures c.as_bytes-text.ensures c.as_slice.ensures.value c.first_of_prefix-start.ensures.lines ascend)

pub returns-clause-rest : goal.returns-clause-rest
returns-clause-rest c =
    let text = buffer_text c.args.self.now in
    let start = c.first_of_prefix-start.result in
    inr (
      start,
      same_start (buffer_kind c.args.self.now) c.kind.result (buffer_text c.args.self.now) c.as_bytes-text.result.now start c.kind.ensures c.as_bytes-text.ensures c.first_of_prefix-start.ensures.starts,
      λ i. record { kind = c.kind-2.ensures i; prefix = Some c.args.prefix.items; number = c.first_line.ensures.line i + line_feeds (take start (c.as_bytes-text.ensures i)); text = (take_rest c.as_bytes-text.result.now start ∙ ap (drop start) c.as_bytes-text.ensures) i },
    )
