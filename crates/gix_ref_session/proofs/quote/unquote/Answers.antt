use Rattle.gix_ref_session.proofs.QuoteLemmas.{byte_more, escape_more, escape_rest, no_length, no_more, read_byte, read_escape, read_quote}
use Rattle.gix_ref_session.proofs.quote.unquote.Goals as goal

pub returns-then-byte-eq34 : goal.returns-then-byte-eq34
returns-then-byte-eq34 c p is =
    let more = c.loop-byte.invariant.rest_too p is in
    read_quote c.in-Some.byte.now c.in-Some.after.now c.loop-byte.rest.now more.0 c.in-Some.ensures.cases.0 c.if-byte-eq34.true more.1

pub returns-in_default-escape : goal.returns-in_default-escape
returns-in_default-escape c p is =
    let more = c.loop-byte.invariant.rest_too p is in
    let got = read_escape c.in-Some.byte.now c.in-Some.after.now c.loop-byte.rest.now more.0 c.in-Some.ensures.cases.0 c.if-byte-eq92.true more.1 in
    c.in_default-escape.ensures got.0 got.1 got.3

pub loop-byte-preserved-then-byte-eq92 : goal.loop-byte-preserved-then-byte-eq92
loop-byte-preserved-then-byte-eq92 c = record {
  so_far = λ plain more.
      escape_more c.args.quoted.now c.loop-byte.rest.now c.loop-byte.plain.items c.loop-byte.invariant.so_far c.in-Some.byte.now c.in-Some-escape.byte c.in-Some.after.now c.in-Some-escape.after.now c.push.new.self.items plain
      c.in-Some.ensures.cases.0 c.if-byte-eq92.true c.in-Some-escape.ensures c.in_ok-push.ensures.items more;
  rest_too = λ plain is.
      let more = c.loop-byte.invariant.rest_too plain is in
      let got = read_escape c.in-Some.byte.now c.in-Some.after.now c.loop-byte.rest.now more.0 c.in-Some.ensures.cases.0 c.if-byte-eq92.true more.1 in
      (got.2, escape_rest c.in-Some.after.now c.in-Some-escape.byte got.0 c.in-Some-escape.after.now got.1 got.2 c.in-Some-escape.ensures got.3 got.5);
}

pub loop-byte-preserved : goal.loop-byte-preserved
loop-byte-preserved c = record {
  so_far = λ plain more.
      byte_more c.args.quoted.now c.loop-byte.rest.now c.loop-byte.plain.items c.loop-byte.invariant.so_far c.in-Some.byte.now c.in-Some.after.now c.push-else-byte-eq92.new.self.items plain
      c.in-Some.ensures.cases.0 c.if-byte-eq34.false c.if-byte-eq92.false c.in_ok-push-2.ensures.items more;
  rest_too = λ plain is.
      let more = c.loop-byte.invariant.rest_too plain is in
      let got = read_byte c.in-Some.byte.now c.in-Some.after.now c.loop-byte.rest.now more.0 c.in-Some.ensures.cases.0 c.if-byte-eq92.false more.1 in
      (got.0, got.2);
}

pub returns : goal.returns
returns c = no_more c.args.quoted.now c.loop-byte.rest.now c.loop-byte.plain.items c.loop-byte.invariant.so_far (no_length c.loop-byte.rest.now c.in_default.ensures.cases)
