use Rattle.std.proofs.Common.{◌≡◌, ◌-◌, List, ℕ, length, take, drop, ◌∙◌, ap, subst, sym}
use Rattle.gix_ref_packed.specs.Buffers.{buffer_text}
use Rattle.gix_ref_packed.specs.FilePrefixes.{HoldsAsked}
use Rattle.gix_ref_packed.proofs.AskedParts.{encloses_whole, part_holds}
use Rattle.gix_ref_packed_text.specs.RecordGrammar.{Records}
use Rattle.gix_ref_packed.proofs.PrefixBuffers.{holds_all, holds_first, holds_part}
use Rattle.gix_ref_packed.proofs.PrefixParts.{drop_zero}
use Rattle.gix_ref_packed.proofs.packed.sorted_file.SortedFile.read_prefixed.Goals.{then-start-eq0-via-then-start-eq0, then-start-eq0-via-else-start-eq0+then-is_records}
use Rattle.gix_ref_packed.proofs.packed.sorted_file.SortedFile.read_prefixed.Goals as goal

pub returns-clause-holds : goal.returns-clause-holds
returns-clause-holds g c = λ honest.
    let text = drop c.args.self.now.base (g.R.ReadAt.bytes c.args.self.now.reader) in
    let base : c.read_part.new.self.base ≡ c.args.self.now.base = c.read_part.ensures.same.1 ∙ c.places_of.ensures.same.1 in
    let bytes : g.R.ReadAt.bytes c.read_part.new.self.reader ≡ g.R.ReadAt.bytes c.args.self.now.reader = c.read_part.ensures.same.0 ∙ c.places_of.ensures.same.0 in
    let same : drop c.read_part.new.self.base (g.R.ReadAt.bytes c.read_part.new.self.reader) ≡ text = λ i. drop (base i) (bytes i) in
    let end = c.records_len-len.result in
    holds_all c.args.kind text c.args.prefix.now c.args.first_line c.from_start-2.result c.from_start-2.ensures.kind end
    (c.records_len-len.ensures.len honest ∙ ap length same)
    (c.from_start-2.ensures.text ∙ drop_zero c.in_ok-whole.whole.items ∙ c.in_ok-whole.ensures.part honest ∙ ap (λ (t : List ℕ). take (end - 0) (drop 0 t)) same)
    c.from_start-2.ensures.line

pub returns-then-start-eq0-clause-holds : goal.returns-then-start-eq0-clause-holds
returns-then-start-eq0-clause-holds g c = λ honest.
    let text = drop c.args.self.now.base (g.R.ReadAt.bytes c.args.self.now.reader) in
    let b = c.from_start.result in
    let start = c.in_ok-start.start in
    let end = c.in_ok-start.end in
    let same : drop c.places_of.new.self.base (g.R.ReadAt.bytes c.places_of.new.self.reader) ≡ text = λ i. drop (c.places_of.ensures.same.1 i) (c.places_of.ensures.same.0 i) in
    let of_part : buffer_text b ≡ c.in_ok-part.part.items = c.from_start.ensures.text ∙ drop_zero c.in_ok-part.part.items in
    let is : buffer_text b ≡ take (end - start) (drop start text) = of_part ∙ c.in_ok-part.ensures.part honest ∙ ap (λ (t : List ℕ). take (end - start) (drop start t)) same in
    let encloses = c.in_ok-start.ensures.encloses honest in
    elim c.then-start-eq0.branch [
      | then-start-eq0-via-then-start-eq0 w ↦ holds_first c.args.kind text c.args.prefix.now c.args.first_line b c.from_start.ensures.kind start end encloses is w.if-start-eq0.true c.from_start.ensures.line
      | then-start-eq0-via-else-start-eq0+then-is_records w ↦
          let well = rw w.if-is_records.true at w.is_records.ensures in
          holds_part c.args.kind text c.args.prefix.now c.args.first_line b c.from_start.ensures.kind start end encloses is well.0
          (subst (λ (t : List ℕ). Records c.args.kind t well.0) (w.as_slice.ensures.value ∙ sym of_part) well.1)
    ]

pub returns-then-start-eq0-clause-asked : goal.returns-then-start-eq0-clause-asked
returns-then-start-eq0-clause-asked g c = λ honest ascend.
    let text = drop c.args.self.now.base (g.R.ReadAt.bytes c.args.self.now.reader) in
    let start = c.in_ok-start.start in
    let end = c.in_ok-start.end in
    let same : drop c.places_of.new.self.base (g.R.ReadAt.bytes c.places_of.new.self.reader) ≡ text = λ i. drop (c.places_of.ensures.same.1 i) (c.places_of.ensures.same.0 i) in
    let is : buffer_text c.from_start.result ≡ take (end - start) (drop start text) =
    c.from_start.ensures.text ∙ drop_zero c.in_ok-part.part.items ∙ c.in_ok-part.ensures.part honest ∙ ap (λ (t : List ℕ). take (end - start) (drop start t)) same in
    subst (HoldsAsked c.args.kind text c.args.prefix.now) (sym is) (part_holds c.args.kind text c.args.prefix.now start end (c.in_ok-start.ensures.asked honest ascend) ascend)

pub returns-clause-asked : goal.returns-clause-asked
returns-clause-asked g c = λ honest ascend.
    let text = drop c.args.self.now.base (g.R.ReadAt.bytes c.args.self.now.reader) in
    let base : c.read_part.new.self.base ≡ c.args.self.now.base = c.read_part.ensures.same.1 ∙ c.places_of.ensures.same.1 in
    let bytes : g.R.ReadAt.bytes c.read_part.new.self.reader ≡ g.R.ReadAt.bytes c.args.self.now.reader = c.read_part.ensures.same.0 ∙ c.places_of.ensures.same.0 in
    let same : drop c.read_part.new.self.base (g.R.ReadAt.bytes c.read_part.new.self.reader) ≡ text = λ i. drop (base i) (bytes i) in
    let end = c.records_len-len.result in
    let all : end ≡ length text = c.records_len-len.ensures.len honest ∙ ap length same in
    let is : buffer_text c.from_start-2.result ≡ take (end - 0) (drop 0 text) =
    c.from_start-2.ensures.text ∙ drop_zero c.in_ok-whole.whole.items ∙ c.in_ok-whole.ensures.part honest ∙ ap (λ (t : List ℕ). take (end - 0) (drop 0 t)) same in
    subst (HoldsAsked c.args.kind text c.args.prefix.now) (sym is) (part_holds c.args.kind text c.args.prefix.now 0 end (encloses_whole c.args.kind text c.args.prefix.now end all) ascend)
