use Rattle.gix_ref_packed_text.specs.Positions.{NameAt}
use Rattle.std.proofs.Common.{arith, sym, ◌≡◌, ◌∙◌, List, ℕ, length, take}
use Rattle.std.proofs.lemmas.List.{take_rest}
use Rattle.std.specs.declared.cmp.Ordering.TheVariants.{Less, Greater}
use Rattle.gix_ref_packed_text.proofs.QuickOrders.{quick, whole_name, whole_compares}
use Rattle.gix_ref_packed_text.proofs.packed.decode.record_line.fast_compare.Goals as goal

pub returns-in-Less-clause-compares : goal.returns-in-Less-clause-compares
returns-in-Less-clause-compares c = λ text name is at.
    let n = c.len_in_hex-len.result in
    let least = rw take_rest at c.min-len.ensures in
    quick c.args.kind text c.args.part.now c.args.wanted.now n c.min-len.result Less c.requires c.len_in_hex-len.ensures c.in-Some-eq32.ensures.lookup.3.0 is (omega arith) (omega arith) (λ e. absurd (cc)) (sym (rw take_rest at c.in-Less.ensures)) name at

pub returns-in-Greater-clause-compares : goal.returns-in-Greater-clause-compares
returns-in-Greater-clause-compares c = λ text name is at.
    let n = c.len_in_hex-len.result in
    let least = rw take_rest at c.min-len.ensures in
    quick c.args.kind text c.args.part.now c.args.wanted.now n c.min-len.result Greater c.requires c.len_in_hex-len.ensures c.in-Some-eq32.ensures.lookup.3.0 is (omega arith) (omega arith) (λ e. absurd (cc)) (sym (rw take_rest at c.in-Greater.ensures)) name at

-- the wanted name is there
there : (c : goal.Then-not-begins_with_caret) (text : List ℕ) → c.args.part.now ≡ take (length c.args.part.now) text → NameAt c.args.kind text c.args.wanted.now
there c text is =
    let n = c.len_in_hex-len.result in
    let lookup = c.in-Some-eq32.ensures.lookup.3 in
    let least = rw take_rest at c.min-len.ensures in
    let end = rw take_rest at c.if-ends_in_line_feed.ensures in
    let inside = end.1 in
    whole_name c.args.kind text c.args.part.now c.args.wanted.now n c.min-len.result c.requires c.len_in_hex-len.ensures lookup.0 (sym (lookup.1 0) ∙ c.in-Some-eq32.field-0-test) is
    end.1 end.2 (omega arith) (sym (rw take_rest at c.in-Equal.ensures)) c.if-not-begins_with_caret.ensures

pub returns-then-not-begins_with_caret-clause-compares : goal.returns-then-not-begins_with_caret-clause-compares
returns-then-not-begins_with_caret-clause-compares c = λ text name is at. whole_compares c.args.kind text c.args.wanted.now (there c text is) name at

pub returns-then-not-begins_with_caret-clause-named : goal.returns-then-not-begins_with_caret-clause-named
returns-then-not-begins_with_caret-clause-named c = λ same text is. (c.args.wanted.now, there c text is, (rw take_rest at c.if-ends_in_line_feed.ensures).0)
