use Rattle.std.proofs.Common.{arith, ◌+◌, ◌<◌, length, sym, ◌∙◌, ap, ◌||◌, ne_eqb}
use Rattle.std.proofs.lemmas.List.{take_rest}
use Rattle.gix_ref_name.specs.NameGrammar.{is_invalid, is_dotted, is_locked}
use Rattle.gix_ref_name.proofs.Scans.{pair_step, pair_none, component_step, component_end, open_more, open_none, find_step, no_slash_here}
use Rattle.gix_ref_name.proofs.name.grammar.scan.Goals as goal
use Rattle.gix_ref_name.proofs.name.grammar.scan.Goals.{then-byte-eq47, else-byte-eq47}

pub loop-i-preserved-then-is_plain_byte : goal.loop-i-preserved-then-is_plain_byte
loop-i-preserved-then-is_plain_byte c =
    let n = c.args.name.now in
    let within : c.loop-i.i < length n = omega arith in
    let was = c.loop-i.invariant in
    record {
      valid = find_step is_invalid n c.loop-i.i _ within c.if-is_plain_byte.ensures.valid was.valid;
      slashes = pair_none 47 47 c.loop-i.previous n c.loop-i.i c.loop-i.seen.repeated_slash _ within c.if-is_plain_byte.ensures.slash was.slashes;
      dots = pair_none 46 46 c.loop-i.previous n c.loop-i.i c.loop-i.seen.repeated_dot _ within c.if-is_plain_byte.ensures.dot was.dots;
      portions = pair_none 64 123 c.loop-i.previous n c.loop-i.i c.loop-i.seen.reflog_portion _ within c.if-is_plain_byte.ensures.brace was.portions;
      started = omega arith;
      open_part = open_more n c.loop-i.start c.loop-i.i was.started within was.open_part (no_slash_here _ c.if-is_plain_byte.ensures.slash);
      dotted = was.dotted;
      locked = was.locked;
    }

pub loop-i-preserved : goal.loop-i-preserved
loop-i-preserved c =
    let n = c.args.name.now in
    let within : c.loop-i.i < length n = omega arith in
    let was = c.loop-i.invariant in
    let valid = find_step is_invalid n c.loop-i.i _ within (sym c.is_invalid_byte.ensures ∙ c.if-is_invalid_byte.false) was.valid in
    elim c.if-byte-eq47.branch [
      | then-byte-eq47 w ↦
          rw (w.seen-is, w.previous-is, w.start-is, c.is_pair.ensures, c.is_pair-in-loop-i.ensures, c.is_pair-in-loop-i-2.ensures, w.starts_with.ensures.value, w.ends_with.ensures.value) (record {
            valid = valid;
            slashes = pair_step 47 47 c.loop-i.previous n c.loop-i.i c.loop-i.seen.repeated_slash _ within was.slashes;
            dots = pair_step 46 46 c.loop-i.previous n c.loop-i.i c.loop-i.seen.repeated_dot _ within was.dots;
            portions = pair_step 64 123 c.loop-i.previous n c.loop-i.i c.loop-i.seen.reflog_portion _ within was.portions;
            started = omega arith;
            open_part = open_none n (c.loop-i.i + 1);
            dotted = component_step is_dotted n c.loop-i.start c.loop-i.i _ _ was.started within was.open_part w.if-byte-eq47.true was.dotted;
            locked = component_step is_locked n c.loop-i.start c.loop-i.i _ _ was.started within was.open_part w.if-byte-eq47.true was.locked;
          })
      | else-byte-eq47 w ↦
          rw (w.seen-is, w.previous-is, w.start-is, c.is_pair.ensures, c.is_pair-in-loop-i.ensures, c.is_pair-in-loop-i-2.ensures) (record {
            valid = valid;
            slashes = pair_step 47 47 c.loop-i.previous n c.loop-i.i c.loop-i.seen.repeated_slash _ within was.slashes;
            dots = pair_step 46 46 c.loop-i.previous n c.loop-i.i c.loop-i.seen.repeated_dot _ within was.dots;
            portions = pair_step 64 123 c.loop-i.previous n c.loop-i.i c.loop-i.seen.reflog_portion _ within was.portions;
            started = omega arith;
            open_part = open_more n c.loop-i.start c.loop-i.i was.started within was.open_part (ne_eqb _ _ w.if-byte-eq47.false);
            dotted = was.dotted;
            locked = was.locked;
          })
    ]

pub returns-clause-starts_with_dot : goal.returns-clause-starts_with_dot
returns-clause-starts_with_dot c =
    let n = c.args.name.now in
    let was = c.loop-i.invariant in
    ap (λ v. c.loop-i.seen.starts_with_dot || v) (c.starts_with-2.ensures.value ∙ ap is_dotted (take_rest n c.loop-i.start))
    ∙ component_end is_dotted n c.loop-i.start c.loop-i.i _ _ c.loop-i-test.false was.open_part was.dotted

pub returns-clause-lock_file_suffix : goal.returns-clause-lock_file_suffix
returns-clause-lock_file_suffix c =
    let n = c.args.name.now in
    let was = c.loop-i.invariant in
    ap (λ v. c.loop-i.seen.lock_file_suffix || v) (c.ends_with-2.ensures.value ∙ ap is_locked (take_rest n c.loop-i.start))
    ∙ component_end is_locked n c.loop-i.start c.loop-i.i _ _ c.loop-i-test.false was.open_part was.locked
