use Rattle.std.proofs.Common.{◌≡◌, ◌+◌, ◌-◌, ◌<◌, get_or, map, length, arith, ap, sym, ◌∙◌, subst}
use Rattle.std.proofs.lemmas.List.{get_or_read}
use Rattle.std.specs.Cmp.Lexicographic.{bytes_decides}
use Rattle.gix_ref_name.specs.Names.{full_ref_bytes}
use Rattle.gix_ref_edits.specs.DoubledNames.{IsLeastDoubled}
use Rattle.gix_ref_edits.proofs.Doubled.{least_doubled, all_differ}
use Rattle.gix_ref_edits.proofs.transaction.ext.doubled.least_doubled.Goals as goal

pub returns-then-eq : goal.returns-then-eq
returns-then-eq c =
    let names = c.args.names.now in
    let at = c.loop-at.at in
    let left = c.index-names-at.result in
    let right = c.index-names-at-in-loop-at.result in
    let d = c.index-names-at-then-eq.result in
    let k = at - 1 in
    let back : k + 1 ≡ at = omega (arith, c.loop-at.auto.at) in
    let within : at < length names = omega (arith, c.loop-at-test.true) in
    let before : k < length names = omega (arith, back, within) in
    let same : full_ref_bytes left ≡ full_ref_bytes right = (bytes_decides (full_ref_bytes left) (full_ref_bytes right)).0 (sym c.eq.ensures ∙ c.if-eq.true) in
    let first : left ≡ get_or names k d = get_or_read names k left before c.index-names-at.is d in
    let second : right ≡ get_or names (k + 1) d = get_or_read names at right within c.index-names-at-in-loop-at.is d ∙ ap (λ n. get_or names n d) (sym back) in
    let found : get_or names (k + 1) d ≡ d = ap (λ n. get_or names n d) back ∙ sym c.index-names-at-then-eq.is in
    subst (λ n. IsLeastDoubled (map full_ref_bytes names) (full_ref_bytes n)) found
    (least_doubled full_ref_bytes names c.requires k d (omega (arith, back, within)) (λ j e lt. c.loop-at.invariant j e (omega (arith, back, lt)))
    (ap full_ref_bytes (sym first) ∙ same ∙ ap full_ref_bytes second))

pub returns : goal.returns
returns c =
    all_differ full_ref_bytes c.args.names.now c.requires (λ k e lt. c.loop-at.invariant k e (omega (arith, lt, c.loop-at-test.false)))
