use Rattle.std.proofs.Common.{◌≡◌, ◌≤◌, ◌∙◌, List, ℕ, true, false, length, drop, sym, ap, subst}
use Rattle.gix_ref_hash.specs.Bytes.{StopsAt}
use Rattle.gix_ref_packed_text.specs.RecordGrammar.{is_caret}
use Rattle.gix_ref_packed_text.specs.Prefixes.{IsListStart, NamesAscend, SplitsLines}
use Rattle.gix_ref_packed_text.specs.declared.packed.bound.Bound.{Bound}
use Rattle.gix_ref_packed.specs.FilePrefixes.{Encloses, EnclosesAsked}
use Rattle.gix_ref_packed.proofs.AskedParts.{encloses_from, encloses_up_to, encloses_whole}
use Rattle.gix_ref_packed.proofs.PrefixRuns.{EachSplits}
use Rattle.gix_ref_packed.proofs.PrefixParts.{encloses_all, encloses_rest, encloses_between}
use Rattle.gix_ref_packed.proofs.packed.sorted_file.SortedFile.places_of.Goals as goal
use Rattle.gix_ref_packed.proofs.packed.sorted_file.SortedFile.places_of.Goals.{in-Some+in-Ok-lower_bound, in-None, then-first, else-first}

pub returns-clause-encloses : goal.returns-clause-encloses
returns-clause-encloses g c = λ honest.
    let kind = c.args.kind in
    let text = drop c.args.self.now.base (g.R.ReadAt.bytes c.args.self.now.reader) in
    let prefix = c.args.prefix.now in
    let start = c.in-Ok.first.place in
    let formed : (c.in-Ok.first.is_malformed ≡ false) × (c.match-branch-2.end.is_malformed ≡ false) =
    elim c.if-first.branch [
      | then-first w ↦ let both : true ≡ false = sym w.if-first.true ∙ sym w.is_malformed-is ∙ c.if-is_malformed.false in absurd (cc)
      | else-first w ↦ (w.if-first.false, sym w.is_malformed-is ∙ c.if-is_malformed.false)
    ] in
    elim c.match-branch-2.branch [
      | in-Some+in-Ok-lower_bound w ↦
          let past = w.in-Some.past.items in
          let end = w.in-Ok-lower_bound.end.place in
          let kept = c.lower_bound.ensures.kept.0 in
          let named : w.as_slice.result.now ≡ past = w.as_slice.ensures.value in
          subst (λ (b : Bound). Encloses kind text prefix start b.place) (sym w.end-is)
          (encloses_between kind text prefix past start end (c.in-Ok.ensures.starts honest).starts
          (subst (λ (t : List ℕ). IsListStart t end) kept (w.in-Ok-lower_bound.ensures.starts honest).starts)
          (subst (λ (t : List ℕ). StopsAt is_caret (drop end t)) kept ((w.in-Ok-lower_bound.ensures.starts honest).no_caret
          (sym (ap (λ (b : Bound). b.is_malformed) w.end-is) ∙ formed.1)))
          (subst (λ (b : Bound). start ≤ b.place) w.end-is c.if-end_place-start.false)
          (rw w.in-Some.is at c.in_ok-past.ensures.past)
          (λ rs h up. (c.in-Ok.ensures.splits honest rs h up).1)
          (subst (λ (n : List ℕ). EachSplits kind text n end) named (subst (λ (t : List ℕ). EachSplits kind t w.as_slice.result.now end) kept (λ rs h up. (w.in-Ok-lower_bound.ensures.splits honest rs h up).1))))
      | in-None w ↦
          encloses_rest kind text prefix start c.match-branch-2.end.place (c.in-Ok.ensures.starts honest).starts (ap (λ (b : Bound). b.place) w.end-is ∙ c.records_len-len.ensures.len honest ∙ ap length c.lower_bound.ensures.kept.0) (λ rs h up. (c.in-Ok.ensures.splits honest rs h up).1)
    ]

pub returns-clause-asked : goal.returns-clause-asked
returns-clause-asked g c = λ honest ascend.
    let kind = c.args.kind in
    let text = drop c.args.self.now.base (g.R.ReadAt.bytes c.args.self.now.reader) in
    let prefix = c.args.prefix.now in
    let start = c.in-Ok.first.place in
    let formed : (c.in-Ok.first.is_malformed ≡ false) × (c.match-branch-2.end.is_malformed ≡ false) =
    elim c.if-first.branch [
      | then-first w ↦ let both : true ≡ false = sym w.if-first.true ∙ sym w.is_malformed-is ∙ c.if-is_malformed.false in absurd (cc)
      | else-first w ↦ (w.if-first.false, sym w.is_malformed-is ∙ c.if-is_malformed.false)
    ] in
    let first = c.in-Ok.ensures.lines honest ascend formed.0 in
    elim c.match-branch-2.branch [
      | in-Some+in-Ok-lower_bound w ↦
          let past = w.in-Some.past.items in
          let end = w.in-Ok-lower_bound.end.place in
          let kept = c.lower_bound.ensures.kept.0 in
          let named : w.as_slice.result.now ≡ past = w.as_slice.ensures.value in
          let last_formed : w.in-Ok-lower_bound.end.is_malformed ≡ false = sym (ap (λ (b : Bound). b.is_malformed) w.end-is) ∙ formed.1 in
          subst (λ (b : Bound). EnclosesAsked kind text prefix start b.place) (sym w.end-is)
          (encloses_up_to kind text prefix past start end (c.in-Ok.ensures.starts honest).starts
          (subst (λ (b : Bound). start ≤ b.place) w.end-is c.if-end_place-start.false)
          (rw w.in-Some.is at c.in_ok-past.ensures.past)
          first
          (subst (λ (n : List ℕ). NamesAscend kind text → SplitsLines kind text n end) named
          (subst (λ (t : List ℕ). NamesAscend kind t → SplitsLines kind t w.as_slice.result.now end) kept (λ up. w.in-Ok-lower_bound.ensures.lines honest up last_formed)) ascend))
      | in-None w ↦
          encloses_from kind text prefix start c.match-branch-2.end.place (c.in-Ok.ensures.starts honest).starts (ap (λ (b : Bound). b.place) w.end-is ∙ c.records_len-len.ensures.len honest ∙ ap length c.lower_bound.ensures.kept.0) first
    ]

pub returns-then-is_malformed-clause-encloses : goal.returns-then-is_malformed-clause-encloses
returns-then-is_malformed-clause-encloses g c = λ honest.
    let text = drop c.args.self.now.base (g.R.ReadAt.bytes c.args.self.now.reader) in
    encloses_all c.args.kind text c.args.prefix.now c.records_len-len.result (c.records_len-len.ensures.len honest ∙ ap length c.lower_bound.ensures.kept.0)

pub returns-then-is_malformed-clause-asked : goal.returns-then-is_malformed-clause-asked
returns-then-is_malformed-clause-asked g c = λ honest ascend.
    let text = drop c.args.self.now.base (g.R.ReadAt.bytes c.args.self.now.reader) in
    encloses_whole c.args.kind text c.args.prefix.now c.records_len-len.result (c.records_len-len.ensures.len honest ∙ ap length c.lower_bound.ensures.kept.0)
